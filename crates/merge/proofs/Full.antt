-- Nine ranks have a target with every rank, for four melds, with a pair and without: 123 123 456 789, and 99.
-- Assumes nothing.
use mathlib.Core.List.{List, [], ◌∷◌}
use Prim.Native.Nat.{ℕ, zero, suc, ◌≤◌}
use native.Mathlib.Omega.{arith}
use lib.ListN.{length, get_or}
use lib.Dec.{T, leb, ltb, ltb→lt, lit<}
use Rattle.tile.specs.Count.{copies, more}
use Rattle.tile.specs.Board.{ranks}
use Rattle.tile.specs.Target.{Built}
use Rattle.tile.specs.Target.Built.{nothing, pair, sequence}
use Rattle.tile.proofs.Tests.{all_to, all_to_lem}
use Rattle.tile.proofs.Counts.{few_by}
use Rattle.merge.proofs.Right.{Full}

full_by : (p : ℕ) (t : List ℕ) → Built ranks p 4 t → T (all_to (length t) (λ i. leb (get_or t i 0) copies)) → T (all_to 9 (λ i. ltb 0 (get_or t i 0)))
    → Full ranks p 4
full_by p t built few every = (
  t,
  record { built = built; few = few_by t few },
  λ i l. ltb→lt 0 (get_or t i 0) (all_to_lem 9 (λ i. ltb 0 (get_or t i 0)) every i l),
)

runs : Built ranks 0 4 (2 ∷ 2 ∷ 2 ∷ 1 ∷ 1 ∷ 1 ∷ 1 ∷ 1 ∷ 1 ∷ [])
unfolding more
runs = sequence 0 (lit< tt) tt (sequence 0 (lit< tt) tt (sequence 3 (lit< tt) tt (sequence 6 (lit< tt) tt nothing)))

pub full_ranks : (p : ℕ) → p ≤ 1 → Full ranks p 4
unfolding more
full_ranks zero l = full_by 0 (2 ∷ 2 ∷ 2 ∷ 1 ∷ 1 ∷ 1 ∷ 1 ∷ 1 ∷ 1 ∷ []) runs tt tt
full_ranks (suc zero) l = full_by 1 (2 ∷ 2 ∷ 2 ∷ 1 ∷ 1 ∷ 1 ∷ 1 ∷ 1 ∷ 3 ∷ []) (pair 8 (lit< tt) tt runs) tt tt
full_ranks (suc (suc p)) l = absurd (omega arith)
