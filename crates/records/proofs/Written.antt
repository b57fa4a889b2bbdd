-- The ways to write an answer record, each as the code goes.
-- Assumes nothing.
use mathlib.Core.Path.{◌≡◌, refl, sym, ap, ◌∙◌}
use mathlib.Core.List.{List}
use Prim.Native.Nat.{ℕ}
use lib.ListN.{length, get_or, take}
use Rattle.tile.specs.Hand.{hand_values, HandPromised}
use Rattle.tile.specs.declared.refusal.Reason.{Reason}
use Rattle.std.specs.Prelude.{Result, Err}
use Rattle.tile.specs.declared.one_hand.HandFound.{HandFound}
use Rattle.records.specs.Record.{record_of, code_record, Put, Recorded}
use Rattle.records.specs.Record.Answers.{whole, broken}
use Rattle.records.specs.Record.Put.{placed, kept}
use Rattle.records.specs.Record.Recorded.{written}

-- a refusal's record has its code and nothing else
pub refused_record : {a : Result HandFound Reason} {q : Reason} {c : ℕ} → a ≡ Err q → c ≡ (hand_values a).code → code_record c ≡ record_of a
refused_record {q = q} e code = ap code_record (code ∙ ap (λ (x : Result HandFound Reason). (hand_values x).code) e) ∙ sym (ap record_of e)

-- a record that was put into its room stands there
pub put_there : {x b y : List ℕ} → length x ≡ 16 → Put x b y → y ≡ b
put_there room (placed l e) = e
put_there room (kept n e) = absurd (n room)

-- the code is the first byte of what was written
first_byte : {c : ℕ} (y z : List ℕ) → c ≡ get_or z 0 0 → y ≡ z → c ≡ get_or y 0 0
first_byte y z code e = code ∙ sym (ap (λ (l : List ℕ). get_or l 0 0) e)

module _ {h x y : List ℕ} (room : length x ≡ 16) where
  pub recorded_broken : (length h ≡ 36 → ⊥) → y ≡ code_record 7 → Recorded h x 7 y
  recorded_broken short e = written room (broken short e) (first_byte y (code_record 7) refl e)

  pub recorded_whole : {c : ℕ} (a : Result HandFound Reason) → length h ≡ 36 → HandPromised (get_or h 35 0) (get_or h 34 0) (take 34 h) a → c ≡ (hand_values a).code → y ≡ record_of a
      → Recorded h x c y
  recorded_whole a long promised code e = written room (whole long a promised e) (first_byte y (record_of a) code e)
