-- How many tiles a set stands for: the count of its ones, and how many these are at most.
-- Assumes nothing.
use mathlib.Core.Path.{◌≡◌, refl, sym, ap, ap₂, ◌∙◌}
use mathlib.Core.Logic.{◌⊎◌, inl, inr, ⊎_elim}
use mathlib.Core.List.{List}
use Prim.Native.Nat.{ℕ, zero, suc, ◌+◌, ◌-◌, ◌*◌, ◌%◌, ◌^◌, ◌≤◌, ◌<◌}
use native.Mathlib.Nat.{mod-lt, mod-eq_of_lt, mod-one}
use native.Mathlib.Numerals.{add-one}
use native.Mathlib.Omega.{arith}
use lib.ListN.{get_or}
use lib.Pow.{pow_pos, mod-pow-add}
use lib.Count.{ones, ones_cat}
use Rattle.tile.specs.Count.{copies, one_if}
use Rattle.tile.specs.Tally.{kinds_to, live_to}

-- a kind is in the set or not
pub in_or_out : (s i : ℕ) → (one_if s i ≡ 0) ⊎ (one_if s i ≡ 1)
in_or_out s i = go (one_if s i) (omega arith)
  where
    go : (x : ℕ) → x < 2 → (x ≡ 0) ⊎ (x ≡ 1)
    go zero l = inl refl
    go (suc x) l = inr (omega arith)

-- ---- kinds

one_digit : (x : ℕ) → x < 2 → ones x ≡ x
unfolding ones
one_digit zero l = refl
one_digit (suc zero) l = refl
one_digit (suc (suc x)) l = absurd (omega arith)

ones_below : (n s : ℕ) → ones (s % 2 ^ n) ≡ kinds_to n s
unfolding kinds_to ones
ones_below zero s = ap ones (mod-one s)
ones_below (suc n) s =
    ap (λ (k : ℕ). ones (s % 2 ^ k)) e ∙ ap ones (mod-pow-add s 1 n) ∙ ones_cat n (one_if s n) (s % 2 ^ n) (mod-lt s (pow_pos n))
    ∙ ap₂ (λ (x y : ℕ). x + y) (one_digit (one_if s n) (omega arith)) (ones_below n s) ∙ omega arith
  where
    e : suc n ≡ 1 + n
    e = omega arith

-- the count of ones is the count of kinds
pub ones_kinds : (n s : ℕ) → s < 2 ^ n → ones s ≡ kinds_to n s
ones_kinds n s l = ap ones (sym (mod-eq_of_lt l)) ∙ ones_below n s

-- no more than there are
pub kinds_at_most : (n s : ℕ) → kinds_to n s ≤ n
unfolding kinds_to
kinds_at_most zero s = omega arith
kinds_at_most (suc n) s = omega (arith, kinds_at_most n s)

-- ---- live tiles

module _ (s : ℕ) (h : List ℕ) where
  -- one kind more, as a loop counts
  pub live_in : (n : ℕ) → one_if s n ≡ 1 → live_to (n + 1) s h ≡ live_to n s h + (copies - get_or h n 0)
  unfolding live_to
  live_in n e = rw (add-one, e) (omega arith)

  pub live_out : (n : ℕ) → one_if s n ≡ 0 → live_to (n + 1) s h ≡ live_to n s h
  unfolding live_to
  live_out n e = rw (add-one, e) (omega arith)

  -- at most four of each kind
  pub live_at_most : (n : ℕ) → live_to n s h ≤ copies * n
  unfolding live_to
  live_at_most zero = omega arith
  live_at_most (suc n) = ⊎_elim (λ e. rw e (omega (arith, live_at_most n))) (λ e. rw e (omega (arith, live_at_most n))) (in_or_out s n)
