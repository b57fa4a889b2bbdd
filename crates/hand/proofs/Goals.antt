-- The loops of the merge: the inner one goes through the ways to share out the melds, the outer one makes two goals for each number of them.
-- Assumes nothing.
use mathlib.Core.Path.{◌≡◌, ap, sym, ◌∙◌}
use mathlib.Core.List.{List}
use Prim.Native.Nat.{ℕ, ◌+◌, ◌-◌, ◌≤◌, ◌<◌}
use native.Mathlib.Omega.{arith}
use lib.ListN.{get_or}
use Rattle.hand.specs.declared.packed.Packed.{Packed}
use Rattle.hand.specs.Words.{sum, meets, meet_to, sum_at}
use Rattle.hand.specs.Entry.{nothing, bare_at, paired_at, Light, AllLight}
use Rattle.hand.proofs.Packing.{meet_first, meet_next}

-- ---- the inner loop

-- what it has found when j of m melds are given to the first part: without a pair, with it in the second part, and with it in the first
pub record Shared (a c : List Packed) (m j : ℕ) (x y z : Packed) : Type 0 where
  pub within : j ≤ m
  pub bare : x ≡ meet_to (sum_at (bare_at a) (bare_at c) m) j
  pub second : y ≡ meet_to (sum_at (bare_at a) (paired_at c) m) j
  pub first : z ≡ meet_to (sum_at (paired_at a) (bare_at c) m) j
  pub light : (g h : ℕ) → Light (get_or a g nothing) × Light (get_or c h nothing)

module _ (A C : ℕ → Packed) (m : ℕ) where
  none_given : sum (A 0) (C m) ≡ meet_to (sum_at A C m) 0
  none_given = ap (λ (r : ℕ). sum (A 0) (C r)) (omega arith) ∙ sym (meet_first _)

  one_more : (j : ℕ) {x y : Packed} → x ≡ meet_to (sum_at A C m) j → y ≡ meets x (sum (A (j + 1)) (C (m - (j + 1)))) → y ≡ meet_to (sum_at A C m) (j + 1)
  one_more j e f = f ∙ ap (λ (x : Packed). meets x (sum (A (j + 1)) (C (m - (j + 1))))) e ∙ sym (meet_next _ j)

module _ {a c : List Packed} {m : ℕ} where
  pub shared_none : {x y z : Packed} → AllLight a → AllLight c → x ≡ sum (bare_at a 0) (bare_at c m) → y ≡ sum (bare_at a 0) (paired_at c m)
      → z ≡ sum (paired_at a 0) (bare_at c m) → Shared a c m 0 x y z
  shared_none light-a light-c bare second first =
      record {
        within = omega arith;
        bare = bare ∙ none_given (bare_at a) (bare_at c) m;
        second = second ∙ none_given (bare_at a) (paired_at c) m;
        first = first ∙ none_given (paired_at a) (bare_at c) m;
        light = λ g h. (light-a.each g, light-c.each h);
      }

  pub shared_more : {j : ℕ} {x y z x' y' z' : Packed} → Shared a c m j x y z → j < m → x' ≡ meets x (sum (bare_at a (j + 1)) (bare_at c (m - (j + 1))))
      → y' ≡ meets y (sum (bare_at a (j + 1)) (paired_at c (m - (j + 1)))) → z' ≡ meets z (sum (paired_at a (j + 1)) (bare_at c (m - (j + 1))))
      → Shared a c m (j + 1) x' y' z'
  shared_more {j} so_far l bare second first =
      record {
        within = omega arith;
        bare = one_more (bare_at a) (bare_at c) m j so_far.bare bare;
        second = one_more (bare_at a) (paired_at c) m j so_far.second second;
        first = one_more (paired_at a) (bare_at c) m j so_far.first first;
        light = so_far.light;
      }
