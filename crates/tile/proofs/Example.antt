-- How the definitions read, on hands of 01's table: a finished hand; four of a kind and the same meld twice.
-- Assumes nothing.
use mathlib.Core.List.{List, [], ◌∷◌}
use Prim.Native.Nat.{ℕ}
use lib.ListN.{replicate}
use lib.Dec.{lit<}
use Rattle.tile.specs.Count.{more}
use Rattle.tile.specs.Board.{whole4}
use Rattle.tile.specs.Target.{Built, Target}
use Rattle.tile.specs.Target.Built.{nothing, pair, triplet, sequence}
use Rattle.tile.specs.Answer.{Answer}
use Rattle.tile.proofs.Counts.{few_by}
use Rattle.tile.proofs.Size.{target_answer}

-- ---- 123m 456p 789s 111z 22z, k = 4, game 4

abbrev pub finished : List ℕ
finished =
    1 ∷ 1 ∷ 1 ∷ 0 ∷ 0 ∷ 0 ∷ 0 ∷ 0 ∷ 0 ∷ 0 ∷ 0 ∷ 0 ∷ 1 ∷ 1 ∷ 1 ∷ 0 ∷ 0 ∷ 0 ∷ 0 ∷ 0 ∷ 0 ∷ 0 ∷ 0 ∷ 0 ∷ 1 ∷ 1 ∷ 1 ∷ 3 ∷ 2 ∷ 0 ∷ 0 ∷ 0 ∷ 0 ∷ 0 ∷ []

-- the sequences from 1m, 4p and 7s, the triplet of 1z and the pair of 2z
finished_built : Built whole4 1 4 finished
unfolding more
finished_built =
    sequence 0 (lit< tt) tt (sequence 12 (lit< tt) tt (sequence 24 (lit< tt) tt (triplet 27 (lit< tt) tt (pair 28 (lit< tt) tt nothing))))

pub finished_answer : Answer 34 (Target whole4 1 4) finished 0 0 0
finished_answer = target_answer (record { built = finished_built; few = few_by finished tt })

-- ---- 1111 22 33m is 123m twice and a pair of 1m

abbrev doubled : List ℕ
doubled = 4 ∷ 2 ∷ 2 ∷ replicate 31 0

doubled_built : Built whole4 1 2 doubled
unfolding more
doubled_built = sequence 0 (lit< tt) tt (sequence 0 (lit< tt) tt (pair 0 (lit< tt) tt nothing))

pub doubled_target : Target whole4 1 2 doubled
doubled_target = record { built = doubled_built; few = few_by doubled tt }
