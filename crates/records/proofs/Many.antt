-- The answers of many hand records: how long they are, that they are the only ones, and that what is read in parts of whole records may be answered part by part.
-- Assumes nothing.
use mathlib.Core.Path.{◌≡◌, sym, ap, subst, ◌∙◌}
use mathlib.Core.List.{List, ◌++◌, append_assoc, append-nil}
use Prim.Native.Nat.{ℕ, zero, suc, ◌+◌, ◌*◌, ◌≤◌, ◌<◌}
use native.Mathlib.Nat.{add-zero, add-suc}
use native.Mathlib.Omega.{arith}
use lib.ListN.{length, take, drop, length-append, length-drop}
use lib.Seq.{take-append-le, drop-append-le, drop-append-add}
use Rattle.records.specs.Record.{Answers}
use Rattle.records.specs.Record.Answers.{whole, broken}
use Rattle.records.specs.Many.{pieces, piece, AnswersTo, AllAnswers, Filled}
use Rattle.records.proofs.Once.{answers_once}

-- ---- an answer is 16 bytes

pub answers_long : {h y : List ℕ} → Answers h y → length y ≡ 16
answers_long (whole l a p e) = ap length e
answers_long (broken n e) = ap length e

pub all_long : (n : ℕ) (h w : List ℕ) → AnswersTo n h w → length w ≡ n * 16
unfolding AnswersTo
all_long zero h w e = ap length e
all_long (suc n) h w (v, y, before, last, e) = ap length e ∙ length-append v y ∙ omega (arith, all_long n h v before, answers_long last)

-- ---- there is one result

pub answers_to_once : (n : ℕ) (h v w : List ℕ) → AnswersTo n h v → AnswersTo n h w → v ≡ w
unfolding AnswersTo
answers_to_once zero h v w e f = e ∙ sym f
answers_to_once (suc n) h v w (a, y, before, last, e) (b, z, before', last', f) =
    e ∙ ap (λ (l : List ℕ). l ++ y) (answers_to_once n h a b before before') ∙ ap (λ (l : List ℕ). b ++ l) (answers_once (piece n h) y z last last') ∙ sym f

pub filled_once : (h x : List ℕ) (r s : ℕ) (y z : List ℕ) → Filled h x r y → Filled h x s z → (r ≡ s) × (y ≡ z)
filled_once h x r s y z a b =
    let same = answers_to_once (pieces h) h a.answers b.answers a.all b.all in
    let count = a.count ∙ ap length same ∙ sym b.count in
    (count, a.whole ∙ ap (λ (l : List ℕ). l ++ drop r x) same ∙ ap (λ (n : ℕ). b.answers ++ drop n x) count ∙ sym b.whole)

-- ---- part by part: h, of whole records, and g behind it

module _ (h g : List ℕ) (n : ℕ) (records : length h ≡ n * 36) where
  -- the first pieces are h's
  first : (i : ℕ) → i < n → piece i (h ++ g) ≡ piece i h
  first i l =
      ap (take 36) (drop-append-le (i * 36) h g (omega arith))
      ∙ take-append-le 36 (drop (i * 36) h) g (simp length-drop (omega arith))

  -- and the others g's
  other : (i : ℕ) → piece (n + i) (h ++ g) ≡ piece i g
  other i =
      let at : (n + i) * 36 ≡ length h + i * 36 = omega arith in
      ap (λ (k : ℕ). take 36 (drop k (h ++ g))) at ∙ ap (take 36) (drop-append-add h g (i * 36))

  firsts : (k : ℕ) (v : List ℕ) → k ≤ n → AnswersTo k h v → AnswersTo k (h ++ g) v
  unfolding AnswersTo
  firsts zero v l e = e
  firsts (suc k) v l (a, y, before, last, e) = (a, y, firsts k a (omega arith) before, subst (λ (x : List ℕ). Answers x y) (sym (first k (omega arith))) last, e)

  others : (m : ℕ) (v w : List ℕ) → AnswersTo n h v → AnswersTo m g w → AnswersTo (n + m) (h ++ g) (v ++ w)
  unfolding AnswersTo
  others zero v w a e = rw (e, append-nil v, add-zero n) (firsts n v (omega arith) a)
  others (suc m) v w a (b, y, before, last, e) =
      rw (add-suc n m)
      (v ++ b, y, others m v b a before, subst (λ (x : List ℕ). Answers x y) (sym (other m)) last, ap (λ (l : List ℕ). v ++ l) e ∙ sym (append_assoc v b y))

  -- what is written for h and then for g is what is to be written for both
  pub parts_answered : (v w : List ℕ) → AllAnswers h v → AllAnswers g w → AllAnswers (h ++ g) (v ++ w)
  parts_answered v w a b =
      let here : pieces h ≡ n = omega arith in
      let both : n + pieces g ≡ pieces (h ++ g) = omega (arith, length-append h g) in
      subst (λ (k : ℕ). AnswersTo k (h ++ g) (v ++ w)) both (others (pieces g) v w (subst (λ (k : ℕ). AnswersTo k h v) here a) b)
