-- Counts laid one list after another: adding tiles on either side of the seam, and how many there are of a kind.
-- Assumes nothing.
use mathlib.Core.Path.{◌≡◌, ap}
use mathlib.Core.Logic.{⊎_elim}
use mathlib.Core.List.{List, [], ◌∷◌, ◌++◌}
use Prim.Native.Nat.{ℕ, ◌+◌, ◌-◌, ◌<◌}
use native.Mathlib.Nat.{zero-add, suc-add}
use native.Mathlib.Omega.{arith}
use lib.ListN.{length, get_or, set, get_or-append, get_or-eq_default}
use lib.Seq.{set-append_left, get_or-append-add}
use Rattle.tile.specs.Count.{Few, more}
use Rattle.tile.proofs.Tests.{at_most_or_over}

set_append_right : (l r : List ℕ) (i a : ℕ) → set (l ++ r) (length l + i) a ≡ l ++ set r i a
set_append_right [] r i a = rw zero-add
set_append_right (x ∷ l) r i a = rw suc-add (ap (λ (s : List ℕ). x ∷ s) (set_append_right l r i a))

pub more_left : (l r : List ℕ) (i c : ℕ) → i < length l → more (l ++ r) i c ≡ more l i c ++ r
unfolding more
more_left l r i c h = rw (get_or-append l r 0 i h) (set-append_left l r i (get_or l i 0 + c) h)

pub more_right : (l r : List ℕ) (i j c : ℕ) → i ≡ length l + j → more (l ++ r) i c ≡ l ++ more r j c
unfolding more
more_right l r i j c e = rw (e, get_or-append-add l r j 0) (set_append_right l r j (get_or r j 0 + c))

-- few of each kind in both parts is few of each kind in all
module _ (l r : List ℕ) where
  pub few_left : Few (l ++ r) → Few l
  few_left few i =
      ⊎_elim (λ over. omega (arith, get_or-eq_default l 0 over)) (λ under. omega (arith, few i, get_or-append l r 0 i under))
      (at_most_or_over (length l) i)

  pub few_right : Few (l ++ r) → Few r
  few_right few i = omega (arith, few (length l + i), get_or-append-add l r i 0)

  pub few_join : Few l → Few r → Few (l ++ r)
  few_join fl fr i =
      ⊎_elim
      (λ over.
      let e : length l + (i - length l) ≡ i = omega arith in
      omega (arith, fr (i - length l), get_or-append-add l r (i - length l) 0, ap (λ (j : ℕ). get_or (l ++ r) j 0) e))
      (λ under. omega (arith, fl i, get_or-append l r 0 i under)) (at_most_or_over (length l) i)
