-- Every cell is right for the counts that can be made of the ranks from there on, in its state and for its goal.
-- Assumes nothing.
use mathlib.Core.Path.{◌≡◌, refl}
use mathlib.Core.Logic.{inl, ⊎_elim, ⊎_map}
use mathlib.Core.List.{List, [], ◌∷◌}
use Prim.Native.Nat.{ℕ, zero, suc, ◌+◌, ◌-◌, ◌<◌}
use native.Mathlib.Nat.{le_refl}
use native.Mathlib.Omega.{arith}
use lib.ListN.{length}
use lib.Dec.{T, T_not, eqb-suc-zero}
use Rattle.tile.specs.Count.{lack_to}
use Rattle.tile.specs.Board.{Board}
use Rattle.tile.specs.declared.found.Found.{Found}
use Rattle.tile.proofs.Tests.{by_test}
use Rattle.tile.proofs.Answers.{Or}
use Rattle.tile.proofs.Sets.{exactly_none}
use Rattle.walk.specs.Choice.{sequences_of, pairs_of, melds_of}
use Rattle.walk.specs.Walk.{choices_at}
use Rattle.table.specs.Cell.{tiles_with, fits_with, chosen, cell}
use Rattle.table.proofs.Good.{Good, Onto, good_none, good_same, good_meet, good_up_to, good_onto}

module _ (b : Board) where
  -- u are the counts of the l ranks from i on that one choice after the other can make, where `near` and `far` sequences run into them
  -- and p pairs and m melds are laid there
  unfoldable pub Tail : ℕ → ℕ → ℕ → ℕ → ℕ → ℕ → List ℕ → Type 0
  Tail zero i near far p m u = (p ≡ 0) × (m ≡ 0) × (u ≡ [])
  Tail (suc l) i near far p m u =
      (c : ℕ) × (c < choices_at b i)
      × (T (fits_with near far p m c) × Onto (tiles_with near far c) (Tail l (i + 1) (sequences_of c) near (p - pairs_of c) (m - melds_of c)) u)

  -- past the last rank
  good_end : (i near far p m : ℕ) → Good 0 [] (Tail zero i near far p m) (cell b [] i near far p m)
  unfolding cell Tail lack_to
  good_end i near far zero zero =
      record {
        none_fewer = λ t s. le_refl 0;
        right = λ l.
            record {
              number = record { some = ([], (refl, refl, refl), refl); none_fewer = λ t s. le_refl 0 };
              necessary = exactly_none (λ i l. absurd (omega arith));
              unnecessary = exactly_none (λ i l. absurd (omega arith));
            };
      }
  good_end i near far zero (suc m) = rw eqb-suc-zero (good_none (λ t (x, y, z). omega arith))
  good_end i near far (suc p) m = rw eqb-suc-zero (good_none (λ t (x, y, z). omega arith))

  -- one choice
  good_chosen : {l : ℕ} {h : List ℕ} (next : ℕ → ℕ → ℕ → ℕ → Found) (L : ℕ → ℕ → ℕ → ℕ → List ℕ → Type 0)
      → ((near far p m : ℕ) → Good l h (L near far p m) (next near far p m))
      → (k near far p m c : ℕ) (S : List ℕ → Type 0) (r : Found) → Good (suc l) (k ∷ h) S r
      → Good (suc l) (k ∷ h)
      (Or S (λ u. T (fits_with near far p m c) × Onto (tiles_with near far c) (L (sequences_of c) near (p - pairs_of c) (m - melds_of c)) u))
      (chosen next k near far p m c r)
  unfolding chosen
  good_chosen {l} {h} next L deeper k near far p m c S r o =
      by_test (Good (suc l) (k ∷ h) _) (fits_with near far p m c)
      (λ fit.
      good_same (λ u. ⊎_map (λ s. s) (λ w. (fit, w))) (λ u. ⊎_map (λ s. s) (λ w. w.1))
      (good_meet o (good_onto k (tiles_with near far c) (deeper _ _ _ _))))
      (λ none. good_same (λ u s. inl s) (λ u. ⊎_elim (λ s. s) (λ w. absurd (T_not (fits_with near far p m c) none w.0))) o)

  pub good_cell : (h : List ℕ) (i near far p m : ℕ) → Good (length h) h (Tail (length h) i near far p m) (cell b h i near far p m)
  unfolding cell Tail
  good_cell [] i near far p m = good_end i near far p m
  good_cell (k ∷ h) i near far p m =
      good_up_to _ _ (good_chosen (cell b h (i + 1)) (Tail (length h) (i + 1)) (good_cell h (i + 1)) k near far p m) (choices_at b i)
