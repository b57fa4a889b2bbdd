-- The ten goals of a suit at once (01 "Packed words"): goals 0 to 4 are no pair and 0 to 4 melds, goals 5 to 9 one pair and 0 to 4 melds.
-- Assumes nothing.
use Rattle.std.specs.Prelude.{◌≡◌, List, ℕ, ◌/◌, ◌%◌, ◌<◌, length, get_or, replicate, Result, Ok, Err}
use Rattle.tile.specs.Board.{Board}
use Rattle.tile.specs.Refusal.{First, Faultless, FirstFaultOr, SuitFault, most_tiles}
use Rattle.tile.specs.Suit.{blank, Right}
use Rattle.tile.specs.declared.found.Found.{Found}
use Rattle.tile.specs.declared.refusal.Reason.{Reason}

-- r has the right answer for each of the ten goals
pub record AllRight (b : Board) (h : List ℕ) (r : List Found) : Type 0 where
  pub ten : length r ≡ 10
  pub each : (g : ℕ) → g < 10 → Right b most_tiles (g / 5) (g % 5) h (get_or r g blank)

-- what is promised of the ten goals of a suit: a refusal by the first fault, or all right answers where there is none;
-- no goal is asked for, so the faults are those of the goal 0 0, which is never at fault itself
abbrev pub GoalsFor : Board → List ℕ → Result (List Found) Reason → Type 0
GoalsFor b h r = FirstFaultOr (SuitFault b 0 0 h) (AllRight b h) r

-- the same where the ten goals stand beside the refusal: then they are ten times zero
abbrev pub GoalsPromised : Board → List ℕ → Result (Unit {0}) Reason → List Found → Type 0
GoalsPromised b h (Err q) r = First (SuitFault b 0 0 h) q × (r ≡ replicate 10 blank)
GoalsPromised b h (Ok done) r = Faultless (SuitFault b 0 0 h) × AllRight b h r
