-- One suit's answers without a search (01 "One suit"): from the last rank to the first, the best that the ranks from there on give,
-- in each state and for each goal.
-- The state is how many sequences run into a rank: `near` begun one rank before it, `far` begun two ranks before it.
-- A set has the rank itself as bit 0 and the ranks after it from bit 1 on.
-- Assumes nothing.
use Rattle.std.specs.Prelude.{Bool, cond, ◌&&◌, List, [], ◌∷◌, ℕ, ◌+◌, ◌-◌, ◌*◌, ltb, eqb}
use Rattle.std.specs.Int.Bits.{bit_or}
use Rattle.tile.specs.Count.{bit}
use Rattle.tile.specs.Board.{Board}
use Rattle.tile.specs.Suit.{unfound}
use Rattle.tile.specs.declared.found.Found.{Found}
use Rattle.walk.specs.Choice.{sequences_of, pairs_of, melds_of, tiles_of}
use Rattle.walk.specs.Walk.{choices_at, fits, up_to}

-- a number from here on says that there is no target, whatever the sets are: no target of up to 15 kinds lacks so many tiles
abbrev pub none : ℕ
none = 64

-- two results with one number have the kinds of both
abbrev pub united : Found → Found → Found
united r s = record { number = r.number; necessary = bit_or r.necessary s.necessary; unnecessary = bit_or r.unnecessary s.unnecessary }

-- of two results the one with the smaller number, and where the numbers are equal both
unfoldable pub meet : Found → Found → Found
meet r s = cond (ltb s.number r.number) s (cond (ltb r.number s.number) r (united r s))

-- what the ranks after this one give, with this rank put in front, of which the hand has k tiles and the target x
unfoldable pub onto : ℕ → ℕ → Found → Found
onto k x r =
    record {
      number = r.number + (x - k);
      necessary = 2 * r.necessary + bit (ltb k x);
      unnecessary = 2 * r.unnecessary + bit (ltb x k);
    }

-- how many tiles of the rank the target has where choice c is laid
abbrev pub tiles_with : ℕ → ℕ → ℕ → ℕ
tiles_with near far c = far + near + tiles_of c

-- choice c goes into p pairs and m melds, and into four tiles of the rank
abbrev pub fits_with : ℕ → ℕ → ℕ → ℕ → ℕ → Bool
fits_with near far p m c = fits p m ((far + near) ∷ []) 0 c

-- choice c, where `next` is what the ranks after this one give: passed over where it does not fit
unfoldable pub chosen : (ℕ → ℕ → ℕ → ℕ → Found) → ℕ → ℕ → ℕ → ℕ → ℕ → ℕ → Found → Found
chosen next k near far p m c r =
    let met = meet r (onto k (tiles_with near far c) (next (sequences_of c) near (p - pairs_of c) (m - melds_of c))) in
    cond (fits_with near far p m c) met r

-- what is given to the outside: where there is no target, the bound and empty sets
unfoldable pub result : ℕ → Found → Found
result bound r = cond (ltb r.number none) r (unfound bound)

module _ (b : Board) where
  -- the ranks from i on, of which the hand has h: p pairs and m melds are still to be laid there
  unfoldable pub cell : List ℕ → ℕ → ℕ → ℕ → ℕ → ℕ → Found
  cell [] i near far p m = cond (eqb p 0 && eqb m 0) (unfound 0) (unfound none)
  cell (k ∷ h) i near far p m = up_to (chosen (cell h (i + 1)) k near far p m) (choices_at b i) (unfound none)

  -- the whole suit
  unfoldable pub quick : List ℕ → ℕ → ℕ → ℕ → Found
  quick h bound p m = result bound (cell h 0 0 0 p m)
