-- The table run inside the prover: the ten goals of some suits at once.
-- Assumes nothing.
use mathlib.Core.Path.{◌≡◌, refl}
use mathlib.Core.List.{[], ◌∷◌}
use Prim.Native.Nat.{ℕ}
use lib.ListN.{replicate}
use Rattle.tile.specs.Count.{bit}
use Rattle.tile.specs.Board.{ranks, ends}
use Rattle.tile.specs.declared.found.Found.{Found}
use Rattle.walk.specs.Walk.{up_to}
use Rattle.table.specs.Cell.{meet, onto, chosen, cell, result}
use Rattle.table.specs.Table.{listed, table, goals}

abbrev found : ℕ → ℕ → ℕ → Found
found number necessary unnecessary = record { number = number; necessary = necessary; unnecessary = unnecessary }

-- nine ranks, for up to one meld, nothing held: any rank may become part of the target
ranks_empty : goals 1 ranks (replicate 9 0) 14 ≡ found 0 0 0 ∷ found 3 511 0 ∷ found 2 511 0 ∷ found 5 511 0 ∷ []
unfolding goals table listed cell chosen meet onto result up_to bit
ranks_empty = refl

-- ranks 1, 2, 9 and 9 held: for one meld rank 3 is lacked, or a third tile of rank 9; with a pair too it is rank 3 alone
ranks_held : goals 1 ranks (1 ∷ 1 ∷ 0 ∷ 0 ∷ 0 ∷ 0 ∷ 0 ∷ 0 ∷ 2 ∷ []) 14 ≡ found 0 0 259 ∷ found 1 260 259 ∷ found 0 0 3 ∷ found 1 4 0 ∷ []
unfolding goals table listed cell chosen meet onto result up_to bit
ranks_held = refl

-- 1m/9m, nothing held: 01's entry 0, with 14 and empty sets where there is no target
ends_empty : goals 4 ends (replicate 9 0) 14
    ≡ found 0 0 0 ∷ found 3 257 0 ∷ found 6 257 0 ∷ found 14 0 0 ∷ found 14 0 0
    ∷ found 2 257 0 ∷ found 5 257 0 ∷ found 14 0 0 ∷ found 14 0 0 ∷ found 14 0 0 ∷ []
unfolding goals table listed cell chosen meet onto result up_to bit
ends_empty = refl
