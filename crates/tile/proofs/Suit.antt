-- The right answer for one suit: it is one, it is small, and what it is for no pair and no meld.
-- Assumes nothing.
use mathlib.Core.Path.{◌≡◌, refl, sym, ap, ◌∙◌}
use mathlib.Core.List.{List}
use Prim.Native.Nat.{ℕ, ◌+◌, ◌*◌, ◌^◌, ◌≤◌, ◌<◌}
use native.Mathlib.Omega.{arith}
use lib.ListN.{get_or, replicate}
use lib.Pow.{pow_pos}
use lib.Dec.{ltb}
use borrow.Author.Tests.{le-ltb}
use Rattle.tile.specs.Board.{Board}
use Rattle.tile.specs.Target.{Built, Target}
use Rattle.tile.specs.Target.Built.{nothing}
use Rattle.tile.specs.Answer.{Exactly, Answer}
use Rattle.tile.specs.Suit.{unfound, Right, IsSuit}
use Rattle.tile.specs.Suit.IsSuit.{of_ranks, of_honours, of_ends}
use Rattle.tile.specs.Suit.Right.{answer, no_target}
use Rattle.tile.specs.declared.found.Found.{Found}
use Rattle.tile.proofs.Counts.{zeros_at}
use Rattle.tile.proofs.Sets.{exactly_once, exactly_as, exactly_none}
use Rattle.tile.proofs.Unique.{answer_once}
use Rattle.tile.proofs.Size.{number_at_most}

module _ {b : Board} {bound p m : ℕ} {h : List ℕ} {r : Found} where
  -- two that are right coincide
  pub right_once : {s : Found} → Right b bound p m h r → Right b bound p m h s → r ≡ s
  right_once (answer x) (answer y) =
      let (e, f, g) = answer_once b.kinds (Target b p m) h x y in
      λ i. record { number = e i; necessary = f i; unnecessary = g i }
  right_once (answer x) (no_target none e) = let (t, tg, l) = x.number.some in absurd (none t tg)
  right_once (no_target none e) (answer y) = let (t, tg, l) = y.number.some in absurd (none t tg)
  right_once (no_target none e) (no_target none' e') = e ∙ sym e'

  -- where there is no target it is the bound and empty sets, and where there is one it is the answer
  pub right_none : ((t : List ℕ) → Target b p m t → ⊥) → Right b bound p m h r → r ≡ unfound bound
  right_none none (answer a) = let (t, tg, l) = a.number.some in absurd (none t tg)
  right_none none (no_target none' e) = e

  pub right_some : {t : List ℕ} → Target b p m t → Right b bound p m h r → Answer b.kinds (Target b p m) h r.number r.necessary r.unnecessary
  right_some tg (answer a) = a
  right_some {t} tg (no_target none e) = absurd (none t tg)

  -- the number is no more than the bound
  pub right_number : 3 * m + 2 * p ≤ bound → Right b bound p m h r → r.number ≤ bound
  right_number room (answer a) = omega (arith, number_at_most a.number)
  right_number room (no_target none e) = omega (arith, ap (λ (x : Found). x.number) e)

  -- the sets have no kinds beyond the board's
  pub right_small : Right b bound p m h r → (r.necessary < 2 ^ b.kinds) × (r.unnecessary < 2 ^ b.kinds)
  right_small (answer a) = (a.necessary.small, a.unnecessary.small)
  right_small (no_target none e) = rw e (pow_pos b.kinds, pow_pos b.kinds)

-- ---- no pair and no meld: the one target is nothing

module _ {b : Board} where
  nothing_only : {t : List ℕ} → Built b 0 0 t → t ≡ replicate b.kinds 0
  nothing_only nothing = refl

  nothing_at : {t : List ℕ} → Target b 0 0 t → (i : ℕ) → get_or t i 0 ≡ 0
  nothing_at tg i = ap (λ (u : List ℕ). get_or u i 0) (nothing_only tg.built) ∙ zeros_at b.kinds i

  nothing_target : Target b 0 0 (replicate b.kinds 0)
  nothing_target = record { built = nothing; few = λ i. omega (arith, zeros_at b.kinds i) }

  -- so the number is 0, nothing is necessary, and all held tiles are unnecessary
  pub right_nothing : {bound : ℕ} {h : List ℕ} {r : Found} → Right b bound 0 0 h r
      → (r.number ≡ 0) × (r.necessary ≡ 0) × Exactly b.kinds r.unnecessary (λ i. 0 < get_or h i 0)
  right_nothing (no_target none e) = absurd (none (replicate b.kinds 0) nothing_target)
  right_nothing (answer a) =
      let (t, tg, e) = a.number.some in (
        omega (arith, number_at_most a.number),
        exactly_once (λ i q. q) (λ i q. q) a.necessary (exactly_none (λ i l (u, k, x, more). omega (arith, nothing_at k i))),
        exactly_as (λ i (u, k, x, fewer). omega arith) (λ i held. (t, tg, e, omega (arith, nothing_at tg i))) a.unnecessary,
      )

-- ---- the three boards of suits

-- a suit has some kinds, and at most nine
pub kinds_some : {b : Board} {runs step : ℕ} → IsSuit b runs step → 0 < b.kinds
kinds_some of_ranks = omega arith
kinds_some of_honours = omega arith
kinds_some of_ends = omega arith

pub kinds_few : {b : Board} {runs step : ℕ} → IsSuit b runs step → b.kinds ≤ 9
kinds_few of_ranks = omega arith
kinds_few of_honours = omega arith
kinds_few of_ends = omega arith

-- a sequence may start below a rank
pub starts_below : {b : Board} {runs step : ℕ} → IsSuit b runs step → (i : ℕ) → ltb i runs ≡ b.starts i
starts_below of_ranks i = refl
starts_below of_honours i = le-ltb i 0 (omega arith)
starts_below of_ends i = le-ltb i 0 (omega arith)
