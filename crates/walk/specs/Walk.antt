-- How one suit is searched (01 "One suit"): rank by rank, at each rank the choices in order, with cuts.
-- A suit's target is grown from nothing; what is found is the best of the targets that the walk reaches.
-- Assumes nothing.
use Rattle.std.specs.Prelude.{Bool, cond, ◌&&◌, List, ℕ, zero, suc, ◌+◌, ◌-◌, get_or, replicate, ltb, leb, eqb}
use Rattle.std.specs.Int.Bits.{bit_or}
use Rattle.tile.specs.Count.{copies, more, lack_to, beyond_to}
use Rattle.tile.specs.Board.{Board}
use Rattle.tile.specs.Suit.{unfound}
use Rattle.tile.specs.declared.found.Found.{Found}
use Rattle.walk.specs.Choice.{sequences_of, pairs_of, melds_of, tiles_of}

-- how many of the choices are tried at a rank: all where a sequence may start, those without one where the rank may be held, else the empty one
abbrev pub tried_where : Bool → Bool → ℕ
tried_where starts held = cond starts 8 (cond held 3 1)

abbrev pub choices_at : Board → ℕ → ℕ
choices_at b i = tried_where (b.starts i) (b.held i)

-- choice c goes into p pairs and m melds that are still to be laid, and into four tiles of rank i
abbrev pub fits : ℕ → ℕ → List ℕ → ℕ → ℕ → Bool
fits p m t i c = leb (melds_of c) m && (leb (pairs_of c) p && leb (get_or t i 0 + tiles_of c) copies)

-- the target t with choice c laid at rank i
unfoldable pub laid : List ℕ → ℕ → ℕ → List ℕ
laid t i c = more (more (more t i (tiles_of c)) (i + 1) (sequences_of c)) (i + 2) (sequences_of c)

-- f for 0, then for 1, and so on, n times
unfoldable pub up_to : {A : Type 0} → (ℕ → A → A) → ℕ → A → A
up_to f zero r = r
up_to f (suc n) r = f n (up_to f n r)

module _ (n : ℕ) (h : List ℕ) where
  -- what the target t alone gives
  unfoldable pub alone : List ℕ → Found
  alone t = record { number = lack_to n t h; necessary = beyond_to n t h; unnecessary = beyond_to n h t }

  -- one more target: a smaller lack replaces what was found, an equal one joins it, a greater one leaves it
  unfoldable pub join : List ℕ → Found → Found
  join t r =
      cond (ltb (lack_to n t h) r.number) (alone t)
      (cond (eqb (lack_to n t h) r.number)
      (record { number = r.number; necessary = bit_or r.necessary (beyond_to n t h); unnecessary = bit_or r.unnecessary (beyond_to n h t) })
      r)

  -- choice c at rank i: passed over where it does not fit, cut where the target then lacks more than was found, else gone into
  unfoldable pub tried : (ℕ → ℕ → List ℕ → Found → Found) → ℕ → ℕ → ℕ → List ℕ → ℕ → Found → Found
  tried deeper i p m t c r =
      let found = deeper (p - pairs_of c) (m - melds_of c) (laid t i c) r in
      cond (fits p m t i c && leb (lack_to n (laid t i c) h) r.number) found r

module _ (b : Board) (h : List ℕ) where
  -- the walk from rank i on, with `left` ranks to go: p pairs and m melds are still to be laid, t is the target so far, r what was found so far
  unfoldable pub walk : ℕ → ℕ → ℕ → ℕ → List ℕ → Found → Found
  walk zero i p m t r = let found = join b.kinds h t r in cond (eqb p 0 && eqb m 0) found r
  walk (suc left) i p m t r = up_to (tried b.kinds h (walk left (i + 1)) i p m t) (choices_at b i) r

  -- the whole walk for p pairs and m melds
  unfoldable pub searched : ℕ → ℕ → ℕ → Found
  searched bound p m = walk b.kinds 0 p m (replicate b.kinds 0) (unfound bound)
