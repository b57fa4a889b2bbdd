-- Tests: a choice by one, two at once, one for all numbers below a bound, and which of two numbers is the larger.
-- Assumes nothing.
use mathlib.Core.Path.{◌≡◌, refl, subst}
use mathlib.Core.Logic.{◌⊎◌, inl, inr, ⊎_elim}
use mathlib.Core.Bool.{Bool, true, false, cond, not, ◌&&◌, ◌||◌, beq}
use Prim.Native.Nat.{ℕ, zero, suc, ◌≤◌, ◌<◌}
use native.Mathlib.Omega.{arith}
use lib.Dec.{T, eqb, eqb_refl}

pub at_most_or_over : (a b : ℕ) → (a ≤ b) ⊎ (b < a)
at_most_or_over zero b = inl (omega arith)
at_most_or_over (suc a) zero = inr (omega arith)
at_most_or_over (suc a) (suc b) = ⊎_elim (λ p. inl (omega arith)) (λ q. inr (omega arith)) (at_most_or_over a b)

-- two numbers that do not differ are equal
pub not_unequal : (a b : ℕ) → ((a ≡ b → ⊥) → ⊥) → a ≡ b
not_unequal a b same =
    let less : a < b → ⊥ = λ l. same (λ e. omega arith) in
    let more : b < a → ⊥ = λ l. same (λ e. omega arith) in
    omega arith

pub passes_or_fails : (b : Bool) → T b ⊎ T (not b)
passes_or_fails true = inl tt
passes_or_fails false = inr tt

-- what holds of either value, where the test picks it, holds of the value picked
pub by_test : {A : Type 0} (P : A → Type 0) (b : Bool) {x y : A} → (T b → P x) → (T (not b) → P y) → P (cond b x y)
by_test P true f g = f tt
by_test P false f g = g tt

pub and_first : (a b : Bool) → T (a && b) → T a
and_first true b h = tt
and_first false b h = h

pub and_second : (a b : Bool) → T (a && b) → T b
and_second true b h = h
and_second false b h = absurd h

pub and_parts : (a b : Bool) → T (a && b) → T a × T b
and_parts a b h = (and_first a b h, and_second a b h)

pub and_both : (a b : Bool) → T a → T b → T (a && b)
and_both true b x y = y
and_both false b x y = x

-- two tests that do not both pass: where the first does, the second fails
pub and_fails : (a b : Bool) → T (not (a && b)) → T a → T (not b)
and_fails true b h x = h
and_fails false b h x = absurd x

-- `not a || b` says that b passes wherever a does
pub implied : (a b : Bool) → T (not a || b) → T a → T b
implied true b h x = h
implied false b h x = absurd x

pub equal : (a b : Bool) → T (beq a b) → a ≡ b
equal true true h = refl
equal true false h = absurd h
equal false true h = absurd h
equal false false h = refl

pub eq→eqb : (a b : ℕ) → a ≡ b → T (eqb a b)
eq→eqb a b e = subst (λ (x : ℕ). T (eqb a x)) e (eqb_refl a)

-- every number below n passes: computed once, used at each number
abbrev pub all_to : ℕ → (ℕ → Bool) → Bool
all_to zero test = true
all_to (suc n) test = test n && all_to n test

pub all_to_lem : (n : ℕ) (test : ℕ → Bool) → T (all_to n test) → (i : ℕ) → i < n → T (test i)
all_to_lem zero test h i l = absurd (omega arith)
all_to_lem (suc n) test h i l =
    ⊎_elim (λ over. let e : n ≡ i = omega arith in subst (λ (k : ℕ). T (test k)) e (and_first (test n) (all_to n test) h))
    (λ under. all_to_lem n test (and_second (test n) (all_to n test) h) i under) (at_most_or_over n i)
