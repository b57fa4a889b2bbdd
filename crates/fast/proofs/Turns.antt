-- Loops that lay rows into an array, turn by turn.
-- Assumes nothing.
use mathlib.Core.Path.{◌≡◌, refl}
use mathlib.Core.List.{List}
use Prim.Native.Nat.{ℕ, ◌+◌}
use native.Mathlib.Numerals.{add-one}
use lib.ListN.{length, get_or, set, length-set}
use Rattle.walk.specs.Walk.{up_to}
use Rattle.fast.specs.Row.{wide, row_place}
use Rattle.fast.specs.Fill.{laid_row, pair_rows, far_rows, near_rows}
use Rattle.fast.proofs.Fold.{keeps_up_to}

pub laid_keeps : (at : ℕ) (row : List ℕ) (n : ℕ) (cells : List ℕ) → length (laid_row at row n cells) ≡ length cells
unfolding laid_row
laid_keeps at row = keeps_up_to _ (λ m cells. rw length-set)

module _ (rows : ℕ → ℕ → ℕ → List ℕ) (near : ℕ) where
  pub pairs_keep : (far n : ℕ) (cells : List ℕ) → length (pair_rows rows near far n cells) ≡ length cells
  unfolding pair_rows
  pairs_keep far = keeps_up_to _ (λ p. laid_keeps _ _ _)

  pub fars_keep : (n : ℕ) (cells : List ℕ) → length (far_rows rows near n cells) ≡ length cells
  unfolding far_rows
  fars_keep = keeps_up_to _ (λ far. pairs_keep far _)

-- ---- the folds, turn by turn

pub laid_none : (at : ℕ) (row cells : List ℕ) → laid_row at row 0 cells ≡ cells
unfolding laid_row up_to
laid_none at row cells = refl

pub laid_more : (at : ℕ) (row : List ℕ) (n : ℕ) (cells : List ℕ) → laid_row at row (n + 1) cells ≡ set (laid_row at row n cells) (at + n) (get_or row n 0)
unfolding laid_row up_to
laid_more at row n cells = rw add-one

module _ (rows : ℕ → ℕ → ℕ → List ℕ) where
  pub pairs_none : (near far : ℕ) (cells : List ℕ) → pair_rows rows near far 0 cells ≡ cells
  unfolding pair_rows up_to
  pairs_none near far cells = refl

  pub pairs_more : (near far n : ℕ) (cells : List ℕ)
      → pair_rows rows near far (n + 1) cells ≡ laid_row (row_place near far n) (rows near far n) wide (pair_rows rows near far n cells)
  unfolding pair_rows up_to
  pairs_more near far n cells = rw add-one

  pub fars_none : (near : ℕ) (cells : List ℕ) → far_rows rows near 0 cells ≡ cells
  unfolding far_rows up_to
  fars_none near cells = refl

  pub fars_more : (near n : ℕ) (cells : List ℕ) → far_rows rows near (n + 1) cells ≡ pair_rows rows near n 2 (far_rows rows near n cells)
  unfolding far_rows up_to
  fars_more near n cells = rw add-one

  pub nears_none : (fars : ℕ) (cells : List ℕ) → near_rows rows fars 0 cells ≡ cells
  unfolding near_rows up_to
  nears_none fars cells = refl

  pub nears_more : (fars n : ℕ) (cells : List ℕ) → near_rows rows fars (n + 1) cells ≡ far_rows rows n fars (near_rows rows fars n cells)
  unfolding near_rows up_to
  nears_more fars n cells = rw add-one
