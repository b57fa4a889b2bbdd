-- What a target is (01 "What a target is"): the sum of melds and pairs that lie on a board, at most four of each kind.
-- It names every meld and runs no search; one definition serves a suit and a whole hand.
-- Assumes nothing.
use Rattle.std.specs.Prelude.{List, ℕ, suc, ◌+◌, ◌<◌, replicate, T}
use Rattle.tile.specs.Count.{Few, more}
use Rattle.tile.specs.Board.{Board}

-- the counts t are the sum of p pairs and m melds: two of a kind, three of a kind, or one each of three neighbours
pub data Built (b : Board) : ℕ → ℕ → List ℕ → Type 0 where
  nothing : Built b 0 0 (replicate b.kinds 0)
  pair : {p m : ℕ} {t : List ℕ} (i : ℕ) → i < b.kinds → T (b.held i) → Built b p m t → Built b (suc p) m (more t i 2)
  triplet : {p m : ℕ} {t : List ℕ} (i : ℕ) → i < b.kinds → T (b.held i) → Built b p m t → Built b p (suc m) (more t i 3)
  sequence : {p m : ℕ} {t : List ℕ} (i : ℕ) → i + 2 < b.kinds → T (b.starts i) → Built b p m t
      → Built b p (suc m) (more (more (more t i 1) (i + 1) 1) (i + 2) 1)

-- a target for the goal of p pairs and m melds; a whole hand's for k melds has p = 1 and m = k
pub record Target (b : Board) (p m : ℕ) (t : List ℕ) : Type 0 where
  pub built : Built b p m t
  pub few : Few t
