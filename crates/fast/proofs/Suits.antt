-- What the table needs to know of the three boards.
-- Assumes nothing.
use mathlib.Core.Path.{◌≡◌, refl, ap, ◌∙◌}
use mathlib.Core.Bool.{Bool}
use mathlib.Core.List.{List}
use Prim.Native.Nat.{ℕ, suc, ◌-◌, ◌*◌, ◌/◌, ◌^◌, ◌≤◌, ◌<◌}
use native.Mathlib.Nat.{pow-suc}
use native.Mathlib.Omega.{arith}
use lib.ListN.{length, get_or}
use lib.Pow.{pow_mono}
use Rattle.tile.specs.Board.{Board}
use Rattle.tile.specs.Suit.{IsSuit}
use Rattle.tile.specs.Suit.IsSuit.{of_ranks, of_honours, of_ends}
use Rattle.walk.specs.Walk.{choices_at}
use Rattle.walk.proofs.Sane.{Sane}
use Rattle.walk.proofs.Right.{sane_ranks, sane_honours, sane_ends}
use Rattle.fast.specs.Word.{adds_of}
use Rattle.fast.specs.Row.{best_row, tried_if}
use Rattle.fast.specs.Fill.{filled, end_row}
use Rattle.fast.specs.State.{nears_at, fars_at}
use Rattle.fast.proofs.Reach.{Reached, reached_end, reached_before}

-- the laws of the walk hold, there are at most nine kinds, past the last of them no sequence runs on, and no sequence starts where no tile is held
pub record Known (b : Board) : Type 0 where
  pub sane : Sane b
  pub nine : b.kinds ≤ 9
  pub near : nears_at b b.kinds ≤ 1
  pub far : fars_at b b.kinds ≤ 1
  pub tried : (i : ℕ) → tried_if (b.held i) (b.starts i) ≡ choices_at b i

pub known : {b : Board} {runs step : ℕ} → IsSuit b runs step → Known b
known of_ranks = record { sane = sane_ranks; nine = omega arith; near = omega arith; far = omega arith; tried = λ i. refl }
known of_honours = record { sane = sane_honours; nine = omega arith; near = omega arith; far = omega arith; tried = λ i. refl }
known of_ends = record { sane = sane_ends; nine = omega arith; near = omega arith; far = omega arith; tried = λ i. refl }

-- what the code computes at a rank, and past the last
module _ {b : Board} {runs step : ℕ} (s : IsSuit b runs step) (h : List ℕ) (whole : length h ≡ b.kinds) where
  pub at_end : {cells : List ℕ} → cells ≡ filled end_row 1 1 → Reached b h (length h) cells
  at_end e = rw e (reached_end b h (rw whole (known s).near) (rw whole (known s).far))

  pub rank_before : {i nears fars : ℕ} {held starts : Bool} {next adds cells : List ℕ} → i < length h → adds ≡ adds_of (get_or h i 0) (2 ^ i)
      → held ≡ b.held i → starts ≡ b.starts i → nears ≡ nears_at b i → fars ≡ fars_at b i
      → cells ≡ filled (best_row next adds (tried_if held starts)) nears fars → Reached b h (suc i) next → Reached b h i cells
  rank_before {i} {nears} {fars} {held} {starts} {next} inside adds tiles begin near far made o =
      rw (made, adds, tiles, begin, near, far, (known s).tried i) (reached_before b h i inside (omega (arith, (known s).nine)) next o)

-- the bit of a rank is half that of the next
pub half_bit : (place : ℕ) → 0 < place → 2 ^ place / 2 ≡ 2 ^ (place - 1)
half_bit place some =
    let twice : 2 ^ place ≡ 2 ^ (place - 1) * 2 = ap (λ (k : ℕ). 2 ^ k) (omega arith) ∙ pow-suc 2 (place - 1) in
    omega (arith, twice)

pub bit_few : (place : ℕ) → place ≤ 9 → 2 ^ place ≤ 512
bit_few place nine = pow_mono {j = 9} nine
