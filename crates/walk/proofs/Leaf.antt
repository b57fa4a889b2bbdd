-- What fits, and how the choices grow a target.
-- Assumes nothing.
use mathlib.Core.Bool.{Bool, ◌&&◌}
use mathlib.Core.List.{List}
use Prim.Native.Nat.{ℕ, zero, suc, ◌+◌, ◌≤◌}
use native.Mathlib.Nat.{le_refl}
use native.Mathlib.Omega.{arith}
use lib.ListN.{get_or}
use lib.Dec.{T, leb, leb→le, le→leb}
use Rattle.tile.specs.Count.{copies}
use Rattle.tile.specs.Board.{Board}
use Rattle.tile.proofs.Tests.{and_first, and_second, and_both}
use Rattle.tile.proofs.Counts.{Within}
use Rattle.walk.specs.Choice.{sequences_of, pairs_of, melds_of, tiles_of}
use Rattle.walk.specs.Walk.{fits, laid}
use Rattle.walk.specs.Leaf.{Leaf}
use Rattle.walk.proofs.Spread.{spread, spread_within}

-- what `fits` tests
module _ (p m : ℕ) (t : List ℕ) (i c : ℕ) where
  abbrev melds_fit : Bool
  melds_fit = leb (melds_of c) m

  abbrev pairs_fit : Bool
  pairs_fit = leb (pairs_of c) p

  abbrev tiles_fit : Bool
  tiles_fit = leb (get_or t i 0 + tiles_of c) copies

  pub record Fits : Type 0 where
    pub melds : melds_of c ≤ m
    pub pairs : pairs_of c ≤ p
    pub tiles : get_or t i 0 + tiles_of c ≤ copies

  pub of_fits : T (fits p m t i c) → Fits
  of_fits f =
      let rest = and_second melds_fit (pairs_fit && tiles_fit) f in
      record {
        melds = leb→le _ _ (and_first melds_fit (pairs_fit && tiles_fit) f);
        pairs = leb→le _ _ (and_first pairs_fit tiles_fit rest);
        tiles = leb→le _ _ (and_second pairs_fit tiles_fit rest);
      }

  pub to_fits : Fits → T (fits p m t i c)
  to_fits f =
      and_both melds_fit (pairs_fit && tiles_fit) (le→leb _ _ f.melds)
      (and_both pairs_fit tiles_fit (le→leb _ _ f.pairs) (le→leb _ _ f.tiles))

pub laid_grows : (t : List ℕ) (i c : ℕ) → Within t (laid t i c)
unfolding laid spread
laid_grows t i c = spread_within t i (tiles_of c) (sequences_of c)

module _ (b : Board) where
  pub leaf_grows : (l i p m : ℕ) (t u : List ℕ) → Leaf b l i p m t u → Within t u
  unfolding Leaf
  leaf_grows zero i p m t u (x, y, e) j = rw e (le_refl (get_or t j 0))
  leaf_grows (suc l) i p m t u (c, o, (f, k)) j = omega (arith, laid_grows t i c j, leaf_grows l (i + 1) _ _ _ u k j)
