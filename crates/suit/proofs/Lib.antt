mod Begin
mod Bit
mod Stepped
mod Turn
