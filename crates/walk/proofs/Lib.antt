-- From the choices to the theorem: a walk's ends (Leaf) are the targets (Sound, Complete), what it finds is the best of its ends (Best, Adds),
-- and so its answer is right (Right). Steps, Skips, Begun, Bounds and Longer are what code needs of the walk.
pub mod Choice
pub mod Spread
pub mod Leaf
pub mod Laid
pub mod Sane
pub mod Begun
pub mod Sound
pub mod Complete
pub mod Room
pub mod Steps
pub mod Best
pub mod Adds
pub mod Right
pub mod Skips
pub mod Bounds
pub mod Longer
mod Example
