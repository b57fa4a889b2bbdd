-- The records of the ten goals (01 "Packed words" has their order), one after the other.
-- Assumes nothing.
use Rattle.std.specs.Prelude.{◌≡◌, List, ℕ, ◌/◌, ◌%◌, ◌<◌, length, get_or, Result, Ok, Err}
use Rattle.tile.specs.Suit.{blank}
use Rattle.tile.specs.declared.found.Found.{Found}
use Rattle.tile.specs.declared.refusal.Reason.{Reason}
use Rattle.tile.specs.declared.one_suit.SuitGoals.{SuitGoals}
use Rattle.suit_replay.specs.Record.{record_of}

-- what is answered for a goal of which r was found: where the suit is refused, that refusal
abbrev pub goal_of : Result (Unit {0}) Reason → Found → Result Found Reason
goal_of (Ok done) r = Ok r
goal_of (Err q) r = Err q

abbrev pub goal_record : SuitGoals → ℕ → List ℕ
goal_record s g = record_of (goal_of s.checked (get_or s.goals g blank))

-- x is the ten records, eight bytes each
pub record Ten (s : SuitGoals) (x : List ℕ) : Type 0 where
  pub long : length x ≡ 80
  pub each : (i : ℕ) → i < 80 → get_or x i 0 ≡ get_or (goal_record s (i / 8)) (i % 8) 0
