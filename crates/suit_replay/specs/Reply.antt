-- What is written for the question q: the record of an answer that is promised (01 "One suit"), or the records of all ten goals.
-- Assumes nothing.
use Rattle.std.specs.Prelude.{◌≡◌, ◌≢◌, List, ℕ, get_or, Result}
use Rattle.tile.specs.Suit.{board_of, Promised}
use Rattle.tile.specs.Goals.{GoalsPromised}
use Rattle.tile.specs.declared.found.Found.{Found}
use Rattle.tile.specs.declared.refusal.Reason.{Reason}
use Rattle.tile.specs.declared.one_suit.SuitGoals.{SuitGoals}
use Rattle.suit_replay.specs.Question.{suit_of, counts_of}
use Rattle.suit_replay.specs.Record.{record_of}
use Rattle.suit_replay.specs.Ten.{Ten}

abbrev pub OneFor : List ℕ → List ℕ → Type 0
OneFor q x = (a : Result Found Reason) × Promised (board_of (suit_of (get_or q 0 0))) (get_or q 1 0) (get_or q 2 0) (counts_of q) a × (x ≡ record_of a)

abbrev pub TenFor : List ℕ → List ℕ → Type 0
TenFor q x = (s : SuitGoals) × GoalsPromised (board_of (suit_of (get_or q 0 0))) (counts_of q) s.checked s.goals × Ten s x

-- byte 1 of a question says which
abbrev pub IsReply : List ℕ → List ℕ → Type 0
IsReply q x = (get_or q 1 0 ≡ 255 → TenFor q x) × (get_or q 1 0 ≢ 255 → OneFor q x)
