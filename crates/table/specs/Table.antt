-- All cells of a rank as one list, made from that of the next rank, so that no cell is computed twice; for goals of up to `most` melds.
-- Assumes nothing.
use Rattle.std.specs.Prelude.{List, [], ◌∷◌, ℕ, zero, suc, ◌+◌, ◌*◌, ◌/◌, ◌%◌, get_or}
use Rattle.tile.specs.Board.{Board}
use Rattle.tile.specs.Suit.{unfound}
use Rattle.tile.specs.declared.found.Found.{Found}
use Rattle.walk.specs.Walk.{choices_at, up_to}
use Rattle.table.specs.Cell.{none, chosen, cell, result}

-- f i, f (i + 1), and so on: n of them
unfoldable pub listed : {A : Type 0} → (ℕ → A) → ℕ → ℕ → List A
listed f i zero = []
listed f i (suc n) = f i ∷ listed f (i + 1) n

module _ (most : ℕ) where
  -- the place of a goal among 2 (most + 1), and of a state and a goal among nine times as many
  abbrev pub goal_place : ℕ → ℕ → ℕ
  goal_place p m = p * suc most + m

  abbrev pub cell_place : ℕ → ℕ → ℕ → ℕ → ℕ
  cell_place near far p m = goal_place ((near * 3 + far) * 2 + p) m

  -- f at the state and goal of a place
  abbrev pub at_place : (ℕ → ℕ → ℕ → ℕ → Found) → ℕ → Found
  at_place f j = let q = j / suc most in f (q / 6) (q / 2 % 3) (q % 2) (j % suc most)

  abbrev pub look : List Found → ℕ → ℕ → ℕ → ℕ → Found
  look cells near far p m = get_or cells (cell_place near far p m) (unfound none)

  module _ (b : Board) where
    unfoldable pub table : List ℕ → ℕ → List Found
    table [] i = listed (at_place (cell b [] i)) 0 (18 * suc most)
    table (k ∷ h) i =
        let next = table h (i + 1) in
        listed (at_place (λ near far p m. up_to (chosen (look next) k near far p m) (choices_at b i) (unfound none))) 0 (18 * suc most)

    -- the goals of the suit: the first cells of the first rank, where no sequence runs into it
    unfoldable pub goals : List ℕ → ℕ → List Found
    goals h bound = let cells = table h 0 in listed (λ g. result bound (get_or cells g (unfound none))) 0 (2 * suc most)
