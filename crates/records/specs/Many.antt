-- Hand records one after the other, as in a file (01 "Records").
-- Assumes nothing.
use Rattle.std.specs.Prelude.{◌≡◌, List, [], ◌++◌, ℕ, zero, suc, ◌+◌, ◌-◌, ◌*◌, ◌/◌, length, take, drop}
use Rattle.records.specs.Record.{hand_bytes, Answers}

-- how many pieces h has: its whole records, and a last piece of 1 to 35 bytes if there is one
abbrev pub pieces : List ℕ → ℕ
pieces h = (length h + (hand_bytes - 1)) / hand_bytes

-- piece i: 36 bytes, or what is left
abbrev pub piece : ℕ → List ℕ → List ℕ
piece i h = take hand_bytes (drop (i * hand_bytes) h)

-- w is the answer records of the first n pieces of h, one after the other
unfoldable pub AnswersTo : ℕ → List ℕ → List ℕ → Type 0
AnswersTo zero h w = w ≡ []
AnswersTo (suc n) h w = (v : List ℕ) × (y : List ℕ) × AnswersTo n h v × Answers (piece n h) y × (w ≡ v ++ y)

-- w is what is to be written for all of h
abbrev pub AllAnswers : List ℕ → List ℕ → Type 0
AllAnswers h w = AnswersTo (pieces h) h w

-- r bytes are written for h at the start of x, and y stands there then: the answers, and after them x as it was
pub record Filled (h x : List ℕ) (r : ℕ) (y : List ℕ) : Type 0 where
  pub answers : List ℕ
  pub all : AllAnswers h answers
  pub count : r ≡ length answers
  pub whole : y ≡ answers ++ drop r x
