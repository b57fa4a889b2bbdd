-- The walk's equations, one for each way that code takes: what an invariant `out ≡ up_to (tried ..) choice found` is rewritten by.
-- Assumes nothing.
use mathlib.Core.Path.{◌≡◌, refl, ap, ◌∙◌}
use mathlib.Core.List.{List}
use Prim.Native.Nat.{ℕ, suc, ◌+◌, ◌-◌, ◌≤◌, ◌<◌}
use native.Mathlib.Numerals.{add-one}
use native.Mathlib.Omega.{arith}
use lib.ListN.{get_or}
use lib.Bits.{bit_or}
use borrow.Author.Tests.{lt-ltb, le-ltb, le-leb, lt-leb, eq-eqb, ne_eqb}
use Rattle.tile.specs.Count.{copies, lack_to, beyond_to}
use Rattle.tile.specs.Board.{Board}
use Rattle.tile.specs.declared.found.Found.{Found}
use Rattle.walk.specs.Choice.{pairs_of, melds_of, tiles_of}
use Rattle.walk.specs.Walk.{choices_at, laid, up_to, alone, join, tried, walk}

-- one choice more, as a loop counts
pub up_to_suc : (f : ℕ → Found → Found) (c : ℕ) (r : Found) → up_to f (c + 1) r ≡ f c (up_to f c r)
unfolding up_to
up_to_suc f c r = rw add-one

-- ---- one more target

module _ (n : ℕ) (h t : List ℕ) (r : Found) where
  abbrev lack : ℕ
  lack = lack_to n t h

  pub join_equal : lack ≡ r.number
      → join n h t r ≡ record { number = r.number; necessary = bit_or r.necessary (beyond_to n t h); unnecessary = bit_or r.unnecessary (beyond_to n h t) }
  unfolding join
  join_equal e = simp (le-ltb lack r.number (omega arith), eq-eqb lack r.number e)

  pub join_less : lack < r.number → join n h t r ≡ alone n h t
  unfolding join
  join_less l = simp lt-ltb

  pub join_more : r.number < lack → join n h t r ≡ r
  unfolding join
  join_more l = simp (le-ltb lack r.number (omega arith), ne_eqb lack r.number (omega arith))

-- ---- one choice: the tests in their order, each where those before it passed

module _ (n : ℕ) (h : List ℕ) (deeper : ℕ → ℕ → List ℕ → Found → Found) (i p m : ℕ) (t : List ℕ) (c : ℕ) (r : Found) where
  abbrev result : Found
  result = tried n h deeper i p m t c r

  pub over_melds : m < melds_of c → result ≡ r
  unfolding tried
  over_melds a = simp lt-leb

  module _ (a : melds_of c ≤ m) where
    pub over_pairs : p < pairs_of c → result ≡ r
    unfolding tried
    over_pairs d = simp (le-leb, lt-leb)

    module _ (d : pairs_of c ≤ p) where
      pub over_tiles : copies < get_or t i 0 + tiles_of c → result ≡ r
      unfolding tried
      over_tiles e = simp (le-leb, lt-leb)

      module _ (e : get_or t i 0 + tiles_of c ≤ copies) where
        pub entered : lack_to n (laid t i c) h ≤ r.number → result ≡ deeper (p - pairs_of c) (m - melds_of c) (laid t i c) r
        unfolding tried
        entered f = simp le-leb

        pub cut : r.number < lack_to n (laid t i c) h → result ≡ r
        unfolding tried
        cut f = simp (le-leb, lt-leb)

-- ---- one rank

module _ (b : Board) (h : List ℕ) (i p m : ℕ) (t : List ℕ) (r : Found) where
  -- the choices of rank i, with `left` ranks after it
  abbrev at_rank : ℕ → Found
  at_rank left = up_to (tried b.kinds h (walk b h left (i + 1)) i p m t) (choices_at b i) r

  pub walk_rank : (left : ℕ) → walk b h (suc left) i p m t r ≡ at_rank left
  unfolding walk
  walk_rank left = refl

  -- the same by the rank alone, as code has it: `kinds - i` ranks are left
  abbrev from : ℕ → Found
  from left = walk b h left i p m t r

  pub rank_left : i < b.kinds → from (b.kinds - i) ≡ at_rank (b.kinds - (i + 1))
  rank_left l = let e : b.kinds - i ≡ suc (b.kinds - (i + 1)) = omega arith in ap from e ∙ walk_rank (b.kinds - (i + 1))
