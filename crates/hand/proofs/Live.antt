-- The tiles that the hand does not hold, by a chain over the hand.
-- Assumes nothing.
use mathlib.Core.Path.{◌≡◌, refl, sym, ap, ◌∙◌}
use mathlib.Core.Logic.{⊎_elim}
use mathlib.Core.Bool.{cond}
use mathlib.Core.List.{List, [], ◌∷◌}
use Prim.Native.Nat.{ℕ, zero, suc, ◌+◌, ◌-◌, ◌*◌, ◌≤◌, ◌<◌}
use native.Mathlib.Numerals.{add-one}
use native.Mathlib.Nat.{zero-add}
use native.Mathlib.Omega.{arith}
use lib.ListN.{length, get_or, take}
use lib.Dec.{eqb}
use Rattle.std.specs.List.{filter, sum_by, enumerate_from}
use Rattle.std.proofs.lemmas.List.{take_all}
use Rattle.std.proofs.lemmas.List.Elements.{filter_more}
use Rattle.std.proofs.lemmas.List.Sums.{sum-map, sum_by-append}
use Rattle.std.proofs.lemmas.List.FromFn.{length-enumerate_from, get_or-enumerate_from}
use Rattle.tile.specs.Count.{copies, one_if}
use Rattle.tile.specs.Tally.{live_to}
use Rattle.hand.specs.Left.{in_set, left, left_of}
use Rattle.tile.proofs.Tests.{at_most_or_over}

last : (s n k : ℕ) → sum_by left (cond (eqb (one_if s n) 1) ((n, k) ∷ []) []) ≡ one_if s n * (copies - k)
last s n k =
    ⊎_elim (λ some. let one : one_if s n ≡ 1 = omega arith in rw one (omega arith)) (λ few. let none : one_if s n ≡ 0 = omega arith in rw none (omega arith))
    (at_most_or_over 1 (one_if s n))

step : (s : ℕ) (h : List ℕ) (n : ℕ) → n < length h
    → sum_by left (filter (in_set s) (take (n + 1) (enumerate_from 0 h)))
    ≡ sum_by left (filter (in_set s) (take n (enumerate_from 0 h))) + one_if s n * (copies - get_or h n 0)
step s h n l =
    rw (filter_more (in_set s) (enumerate_from 0 h) n (0, 0) (rw (length-enumerate_from 0 h) l), get_or-enumerate_from 0 h n (0, 0) l, zero-add n, sum_by-append left)
    (ap (λ (k : ℕ). sum_by left (filter (in_set s) (take n (enumerate_from 0 h))) + k) (last s n (get_or h n 0)))

so_far : (s : ℕ) (h : List ℕ) (n : ℕ) → n ≤ length h → sum_by left (filter (in_set s) (take n (enumerate_from 0 h))) ≡ live_to n s h
unfolding live_to
so_far s h zero l = refl
so_far s h (suc n) l =
    (rw add-one at (step s h n (omega arith))) ∙ ap (λ (k : ℕ). k + one_if s n * (copies - get_or h n 0)) (so_far s h n (omega arith))

pub live_chain : (s : ℕ) (h : List ℕ) → length h ≡ 34 → left_of s h ≡ live_to 34 s h
live_chain s h e =
    sum-map left (filter (in_set s) (enumerate_from 0 h))
    ∙ ap (λ (xs : List (ℕ × ℕ)). sum_by left (filter (in_set s) xs)) (sym (take_all 34 (enumerate_from 0 h) (omega (arith, length-enumerate_from 0 h))))
    ∙ so_far s h 34 (omega arith)
