-- The better of two answers, and the best of some, is the right answer for the targets of all of them.
-- Assumes nothing.
use mathlib.Core.Path.{subst, sym, ◌≡◌}
use mathlib.Core.Logic.{◌↔◌, inl, inr, ⊎_elim}
use mathlib.Core.List.{List}
use Prim.Native.Nat.{ℕ, zero, suc, ◌≤◌, ◌<◌}
use native.Mathlib.Nat.{le_refl}
use native.Mathlib.Omega.{arith}
use Rattle.tile.specs.Answer.{Answer}
use Rattle.tile.proofs.Tests.{at_most_or_over}
use Rattle.tile.proofs.Unique.{answer_once}
use Rattle.tile.proofs.Answers.{Or, answer_keep, answer_as, answer_or}
use Rattle.merge.specs.declared.Merged.{Merged}
use Rattle.merge.specs.Merge.{better, best_to}
use Rattle.merge.proofs.Better.{better_by}

-- r is the right answer for the hand h over n kinds, where G t says that t is a target
abbrev pub RightFor : ℕ → (List ℕ → Type 0) → List ℕ → Merged → Type 0
RightFor n G h r = Answer n G h r.number r.necessary r.unnecessary

-- there is only one
pub right_once : {n : ℕ} {G : List ℕ → Type 0} {h : List ℕ} {r s : Merged} → RightFor n G h r → RightFor n G h s → r ≡ s
right_once {n} {G} {h} x y =
    let (e, f, g) = answer_once n G h x y in
    λ i. record { number = e i; necessary = f i; unnecessary = g i }

-- a target for one of the goals 0 to m
abbrev pub UpTo : (ℕ → List ℕ → Type 0) → ℕ → List ℕ → Type 0
UpTo G m t = (j : ℕ) × (j ≤ m) × G j t

module _ {n : ℕ} {h : List ℕ} where
  pub better_right : {G K : List ℕ → Type 0} {a c : Merged} → RightFor n G h a → RightFor n K h c → RightFor n (Or G K) h (better a c)
  better_right {G} {K} {a} {c} x y =
      better_by a c (RightFor n (Or G K) h)
      (λ less. answer_keep (λ t g. inl g) (λ t. ⊎_elim (λ g. inl g) (λ k. inr (omega (arith, y.number.none_fewer t k)))) x)
      (λ more. answer_keep (λ t k. inr k) (λ t. ⊎_elim (λ g. inr (omega (arith, x.number.none_fewer t g))) (λ k. inl k)) y)
      (λ tie. answer_or x (subst (λ (z : ℕ). Answer n K h z c.necessary c.unnecessary) (sym tie) y))

-- ---- one goal more

one_more : (G : ℕ → List ℕ → Type 0) (j : ℕ) (t : List ℕ) → Or (UpTo G j) (G (suc j)) t ↔ UpTo G (suc j) t
one_more G j t = (
  ⊎_elim (λ (i, l, g). (i, omega arith, g)) (λ g. (suc j, le_refl (suc j), g)),
  λ (i, l, g).
      ⊎_elim (λ under. inl (i, under, g)) (λ over. let e : i ≡ suc j = omega arith in inr (subst (λ (k : ℕ). G k t) e g)) (at_most_or_over i j),
)

module _ {n : ℕ} {h : List ℕ} (G : ℕ → List ℕ → Type 0) where
  -- a right answer counts
  pub counts : {j : ℕ} {r a : Merged} → RightFor n (G (suc j)) h a → RightFor n (UpTo G j) h r → RightFor n (UpTo G (suc j)) h (better r a)
  counts {j} x best = answer_as (one_more G j) (better_right best x)

  -- what stands for a goal without a target does no harm where it changes nothing
  pub drops : {j : ℕ} {r : Merged} (a : Merged) → ((t : List ℕ) → G (suc j) t → ⊥) → better r a ≡ r → RightFor n (UpTo G j) h r
      → RightFor n (UpTo G (suc j)) h (better r a)
  drops {j} a none same best = rw same (answer_as (one_more G j) (answer_as (λ t. (λ g. inl g, ⊎_elim (λ g. g) (λ g. absurd (none t g)))) best))

  -- so the best of the goals 0 to m is right for the targets of all of them
  pub best_right : (f : ℕ → Merged) (m : ℕ) → RightFor n (G 0) h (f 0)
      → ((j : ℕ) → j < m → (r : Merged) → RightFor n (UpTo G j) h r → RightFor n (UpTo G (suc j)) h (better r (f (suc j))))
      → RightFor n (UpTo G m) h (best_to f m)
  unfolding best_to
  best_right f zero start step =
      answer_as (λ t. (λ g. (0, le_refl 0, g), λ (i, l, g). let e : i ≡ 0 = omega arith in subst (λ (k : ℕ). G k t) e g)) start
  best_right f (suc m) start step = step m (omega arith) (best_to f m) (best_right f m start (λ j l. step j (omega arith)))
