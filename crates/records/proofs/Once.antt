-- There is one answer record for each hand record, and one code and one content of the room for each input: two that meet the contract coincide.
-- Assumes nothing.
use mathlib.Core.Path.{◌≡◌, sym, ap, ◌∙◌}
use mathlib.Core.List.{List}
use Prim.Native.Nat.{ℕ}
use lib.ListN.{get_or, take}
use Rattle.tile.proofs.Hand.{hand_once}
use Rattle.records.specs.Record.{record_of, Answers, Put, Recorded}
use Rattle.records.specs.Record.Answers.{whole, broken}
use Rattle.records.specs.Record.Put.{placed, kept}
use Rattle.records.specs.Record.Recorded.{written, left}

pub answers_once : (h y z : List ℕ) → Answers h y → Answers h z → y ≡ z
answers_once h y z (whole l a p e) (whole m b q f) = e ∙ ap record_of (hand_once (get_or h 35 0) (get_or h 34 0) (take 34 h) a b p q) ∙ sym f
answers_once h y z (whole l a p e) (broken n f) = absurd (n l)
answers_once h y z (broken n e) (whole l a p f) = absurd (n l)
answers_once h y z (broken n e) (broken m f) = e ∙ sym f

pub put_once : (x b y z : List ℕ) → Put x b y → Put x b z → y ≡ z
put_once x b y z (placed l e) (placed m f) = e ∙ sym f
put_once x b y z (placed l e) (kept n f) = absurd (n l)
put_once x b y z (kept n e) (placed l f) = absurd (n l)
put_once x b y z (kept n e) (kept m f) = e ∙ sym f

pub recorded_once : (h x : List ℕ) (c d : ℕ) (y z : List ℕ) → Recorded h x c y → Recorded h x d z → (c ≡ d) × (y ≡ z)
recorded_once h x c d y z (written l a e) (written m b f) =
    let same = answers_once h y z a b in
    (e ∙ ap (λ (r : List ℕ). get_or r 0 0) same ∙ sym f, same)
recorded_once h x c d y z (written l a e) (left n f w) = absurd (n l)
recorded_once h x c d y z (left n e v) (written l a f) = absurd (n l)
recorded_once h x c d y z (left n e v) (left m f w) = (e ∙ sym f, v ∙ sym w)
