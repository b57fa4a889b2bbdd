-- The search from its start: with nothing laid it is ready for the first rank, and what it finds from there is right.
-- Assumes nothing.
use mathlib.Core.Path.{◌≡◌, refl}
use mathlib.Core.List.{List}
use Prim.Native.Nat.{ℕ, ◌+◌, ◌-◌, ◌*◌, ◌≤◌}
use native.Mathlib.Nat.{sub-zero}
use native.Mathlib.Omega.{arith}
use lib.ListN.{length, replicate}
use lib.Dec.{T}
use Rattle.tile.specs.Count.{Few, sum_to, lack_to}
use Rattle.tile.specs.Board.{Board, may_hold}
use Rattle.tile.specs.Suit.{unfound, Right, IsSuit}
use Rattle.tile.specs.Suit.IsSuit.{of_ranks, of_honours, of_ends}
use Rattle.walk.specs.Walk.{walk, searched}
use Rattle.tile.proofs.Suit.{kinds_few}
use Rattle.walk.proofs.Begun.{zeros_begun}
use Rattle.walk.proofs.Longer.{searched_longer}
use Rattle.walk.proofs.Right.{ranks_right, honours_right, ends_right}
use Rattle.suit.specs.Task.{task_of}
use Rattle.suit.specs.Ready.{Ready}
use Rattle.suit.specs.declared.aim.Aim.{Aim}

-- nothing laid, p pairs and m melds to lay
abbrev pub nothing_laid : ℕ → ℕ → Aim
nothing_laid p m = record { counts = replicate 9 0; here = 0; next = 0; pairs = p; melds = m; lack = 0; span = 3 * m + 2 * p }

-- the first rank of each suit may be held
first_held : {b : Board} {runs step : ℕ} → IsSuit b runs step → T (may_hold b 0)
first_held of_ranks = tt
first_held of_honours = tt
first_held of_ends = tt

module _ {b : Board} {runs step : ℕ} (s : IsSuit b runs step) (h : List ℕ) (p m : ℕ) where
  pub begin_ready : (held : ℕ) → held ≡ sum_to (length h) h → length h ≡ b.kinds → Few h → p ≤ 1 → m ≤ 5
      → Ready h (task_of b runs step held) 0 (nothing_laid p m)
  unfolding lack_to
  begin_ready held all long few one five =
      record {
        task = s;
        held_all = all;
        long = long;
        few = few;
        held = first_held s;
        begun = zeros_begun b 9 (kinds_few s);
        here = refl;
        next = refl;
        lack = refl;
        span = omega arith;
        small = omega arith;
      }

right_of : {b : Board} {runs step : ℕ} → IsSuit b runs step → (h : List ℕ) (p m bound : ℕ) → p ≤ 1 → m ≤ 5 → 3 * m + 2 * p ≤ bound
    → Right b bound p m h (searched b h bound p m)
right_of of_ranks h p m bound one five fits = ranks_right p m h bound one five fits
right_of of_honours h p m bound one five fits = honours_right p m h bound one five fits
right_of of_ends h p m bound one five fits = ends_right p m h bound one five fits

pub begin_right : {b : Board} {runs step : ℕ} → IsSuit b runs step → (h : List ℕ) (p m bound : ℕ) → p ≤ 1 → m ≤ 5 → 3 * m + 2 * p ≤ bound
    → Right b bound p m h (walk b h (b.kinds - 0) 0 p m (replicate 9 0) (unfound bound))
begin_right {b} s h p m bound one five fits =
    rw (sub-zero, searched_longer b h 9 bound p m (kinds_few s)) (right_of s h p m bound one five fits)
