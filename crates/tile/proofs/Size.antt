-- How large targets and numbers are, and when the number is 0.
-- Assumes nothing.
use mathlib.Core.Path.{◌≡◌}
use mathlib.Core.Logic.{◌↔◌}
use mathlib.Core.List.{List}
use Prim.Native.Nat.{ℕ, ◌+◌, ◌*◌, ◌≤◌, ◌<◌}
use native.Mathlib.Nat.{le_refl}
use native.Mathlib.Omega.{arith}
use lib.ListN.{get_or}
use Rattle.tile.specs.Count.{sum_to, lack_to}
use Rattle.tile.specs.Board.{Board}
use Rattle.tile.specs.Target.{Target}
use Rattle.tile.specs.Answer.{Least, Answer}
use Rattle.tile.proofs.Counts.{sum_same, lack_sum, lack_none, none_lacked, lacks_all}
use Rattle.tile.proofs.Sets.{exactly_none}
use Rattle.tile.proofs.Built.{built_sum}

-- a target for k melds and a pair has 3k + 2 tiles
pub target_size : {b : Board} {p m : ℕ} {t : List ℕ} → Target b p m t → sum_to b.kinds t ≡ 3 * m + 2 * p
target_size tg = built_sum tg.built

-- it lacks at most that many, and so the number is at most that
pub target_lack : {b : Board} {p m : ℕ} {t : List ℕ} (h : List ℕ) → Target b p m t → lack_to b.kinds t h ≤ 3 * m + 2 * p
target_lack {b} {t = t} h tg = omega (arith, target_size tg, lack_sum b.kinds t h)

pub number_at_most : {b : Board} {p m x : ℕ} {h : List ℕ} → Least b.kinds (Target b p m) h x → x ≤ 3 * m + 2 * p
number_at_most {h = h} least =
    let (t, tg, e) = least.some in
    omega (arith, target_lack h tg)

-- and it is as large as that only where the hand holds no kind of any target
pub number_most : {b : Board} {p m x : ℕ} {h t : List ℕ} → Least b.kinds (Target b p m) h x → 3 * m + 2 * p ≤ x → Target b p m t
    → (i : ℕ) → i < b.kinds → 0 < get_or t i 0 → get_or h i 0 ≡ 0
number_most {b} {h = h} {t = t} least all tg = lacks_all b.kinds t h (omega (arith, least.none_fewer t tg, target_size tg))

module _ {n : ℕ} {G : List ℕ → Type 0} {h : List ℕ} where
  -- the number is 0 exactly when the hand holds a target
  pub number_zero : Least n G h 0 ↔ ((t : List ℕ) × G t × ((i : ℕ) → i < n → get_or t i 0 ≤ get_or h i 0))
  number_zero = (
    λ least. let (t, g, e) = least.some in (t, g, none_lacked n t h e),
    λ (t, g, w). record { some = (t, g, lack_none n t h w); none_fewer = λ u k. omega arith },
  )

  -- and so it is for a hand that is itself a target
  pub target_zero : G h → Least n G h 0
  target_zero g = number_zero.1 (h, g, λ i l. le_refl (get_or h i 0))

-- a hand that is itself a target: number 0, nothing necessary, nothing unnecessary
pub target_answer : {b : Board} {p m : ℕ} {h : List ℕ} → Target b p m h → Answer b.kinds (Target b p m) h 0 0 0
target_answer {b} {p} {m} {h} tg =
    record {
      number = target_zero tg;
      necessary = exactly_none (λ i l (t, g, e, more). omega (arith, same t g e i l));
      unnecessary = exactly_none (λ i l (t, g, e, fewer). omega (arith, same t g e i l));
    }
  where
    same : (t : List ℕ) → Target b p m t → lack_to b.kinds t h ≡ 0 → (i : ℕ) → i < b.kinds → get_or t i 0 ≡ get_or h i 0
    same t g e = sum_same t h b.kinds (none_lacked b.kinds t h e) (omega (arith, target_size tg, target_size g))
