-- The walk is right: for every goal and every hand it finds the answer that the definition of a suit's target gives.
-- Assumes nothing.
use mathlib.Core.Path.{◌≡◌}
use mathlib.Core.Logic.{◌↔◌, inr, ⊎_elim}
use mathlib.Core.List.{List}
use Prim.Native.Nat.{ℕ, ◌+◌, ◌*◌, ◌≤◌, ◌<◌}
use native.Mathlib.Omega.{arith}
use lib.ListN.{replicate}
use lib.Dec.{T, ltb→lt}
use Rattle.tile.specs.Count.{bit}
use Rattle.tile.specs.Board.{Board, ranks, honours, ends}
use Rattle.tile.specs.Target.{Target}
use Rattle.tile.specs.Answer.{Answer}
use Rattle.tile.specs.Suit.{unfound, Right}
use Rattle.tile.specs.Suit.Right.{answer, no_target}
use Rattle.tile.proofs.Tests.{at_most_or_over}
use Rattle.tile.proofs.Counts.{zeros_at}
use Rattle.tile.proofs.Size.{target_lack}
use Rattle.tile.proofs.Suit.{right_none, right_some}
use Rattle.walk.specs.Walk.{searched}
use Rattle.walk.proofs.Best.{Best, best_start, best_same, best_answer, best_none}
use Rattle.walk.proofs.Adds.{walk_adds}
use Rattle.walk.proofs.Sane.{Sane}
use Rattle.walk.proofs.Sound.{leaf_target}
use Rattle.walk.proofs.Complete.{target_leaf}
use Rattle.walk.proofs.Room.{held_in, leaf_some, leaf_room}

-- ---- over any board

module _ (b : Board) (sane : Sane b) (p m : ℕ) where
  -- a goal has a target where each of its pairs and melds finds a kind of its own
  some_target : p + m ≤ held_in b b.kinds 0 → (t : List ℕ) × Target b p m t
  some_target room =
      let (t, k) = leaf_some b b.kinds 0 p m (replicate b.kinds 0) room (λ j x. zeros_at b.kinds j) in
      (t, leaf_target b sane p m t k)

  module _ (one : p ≤ 1) where
    -- and only there, where no sequence starts
    none_there : ((i : ℕ) → T (b.starts i) → ⊥) → held_in b b.kinds 0 < p + m → (t : List ℕ) → Target b p m t → ⊥
    none_there flat full t tg =
        omega (arith, leaf_room b b.kinds 0 p m (replicate b.kinds 0) t (λ j x. flat j) (target_leaf b sane p m t one tg))

    module _ (h : List ℕ) (bound : ℕ) where
      searched_best : Best b.kinds h bound (Target b p m) (searched b h bound p m)
      unfolding searched
      searched_best =
          best_same (λ t. ⊎_elim (λ e. absurd e) (leaf_target b sane p m t)) (λ t tg. inr (target_leaf b sane p m t one tg))
          (walk_adds b h bound b.kinds 0 p m (replicate b.kinds 0) (λ t. ⊥) (unfound bound) (best_start (λ t e. e)))

      pub with_target : (t : List ℕ) → Target b p m t → 3 * m + 2 * p ≤ bound → Right b bound p m h (searched b h bound p m)
      with_target t tg fits = answer (best_answer t tg (omega (arith, target_lack h tg)) searched_best)

      pub without_target : ((t : List ℕ) → Target b p m t → ⊥) → Right b bound p m h (searched b h bound p m)
      without_target none = no_target none (best_none none searched_best)

-- ---- the three boards

pub sane_ranks : Sane ranks
sane_ranks = record { inside = λ i x. omega (arith, ltb→lt i 7 x); first = λ i x. tt; second = λ i x. tt; third = λ i x. tt }

sane_flat : (b : Board) → ((i : ℕ) → T (b.starts i) → ⊥) → Sane b
sane_flat b flat =
    record { inside = λ i x. absurd (flat i x); first = λ i x. absurd (flat i x); second = λ i x. absurd (flat i x); third = λ i x. absurd (flat i x) }

pub sane_honours : Sane honours
sane_honours = sane_flat honours (λ i x. x)

pub sane_ends : Sane ends
sane_ends = sane_flat ends (λ i x. x)

module _ (p m : ℕ) where
  -- nine ranks and seven honours have a target for every goal of up to one pair and five melds
  pub ranks_some : p ≤ 1 → m ≤ 5 → (t : List ℕ) × Target ranks p m t
  unfolding held_in bit
  ranks_some one five = some_target ranks sane_ranks p m (omega arith)

  pub honours_some : p ≤ 1 → m ≤ 5 → (t : List ℕ) × Target honours p m t
  unfolding held_in bit
  honours_some one five = some_target honours sane_honours p m (omega arith)

  -- 1m/9m have one exactly for goals of at most two pairs and melds: not for (0,3), (0,4), (1,2), (1,3), (1,4)
  pub ends_some : p ≤ 1 → ((t : List ℕ) × Target ends p m t) ↔ (p + m ≤ 2)
  unfolding held_in bit
  ends_some one = (
    λ (t, tg). ⊎_elim (λ room. room) (λ full. absurd (none_there ends sane_ends p m one (λ i x. x) full t tg)) (at_most_or_over (p + m) 2),
    λ room. some_target ends sane_ends p m room,
  )

  module _ (h : List ℕ) (bound : ℕ) (one : p ≤ 1) (five : m ≤ 5) (fits : 3 * m + 2 * p ≤ bound) where
    pub ranks_right : Right ranks bound p m h (searched ranks h bound p m)
    ranks_right = let (t, tg) = ranks_some one five in with_target ranks sane_ranks p m one h bound t tg fits

    pub honours_right : Right honours bound p m h (searched honours h bound p m)
    honours_right = let (t, tg) = honours_some one five in with_target honours sane_honours p m one h bound t tg fits

    pub ends_right : Right ends bound p m h (searched ends h bound p m)
    ends_right =
        ⊎_elim (λ room. let (t, tg) = (ends_some one).1 room in with_target ends sane_ends p m one h bound t tg fits)
        (λ full. without_target ends sane_ends p m one h bound (λ t tg. omega (arith, (ends_some one).0 (t, tg))))
        (at_most_or_over (p + m) 2)

    -- so for (0,3), (0,4), (1,2), (1,3) and (1,4) 1m/9m give the bound and empty sets, and else the answer
    pub ends_unfound : 2 < p + m → searched ends h bound p m ≡ unfound bound
    ends_unfound full = right_none (λ t tg. omega (arith, (ends_some one).0 (t, tg))) ends_right

    pub ends_found : p + m ≤ 2 → let r = searched ends h bound p m in Answer 9 (Target ends p m) h r.number r.necessary r.unnecessary
    ends_found room = let (t, tg) = (ends_some one).1 room in right_some tg ends_right
