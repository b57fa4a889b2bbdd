-- Which of two answers is the better, case by case.
-- Assumes nothing.
use mathlib.Core.Path.{◌≡◌}
use Prim.Native.Nat.{◌<◌}
use native.Mathlib.Omega.{arith}
use lib.Bits.{bit_or}
use lib.Dec.{ltb, ltb→lt, nltb→le}
use borrow.Author.Tests.{lt-ltb, le-ltb}
use Rattle.tile.proofs.Tests.{by_test}
use Rattle.merge.specs.declared.Merged.{Merged}
use Rattle.merge.specs.Merge.{better}

-- two answers with one number
abbrev pub both : Merged → Merged → Merged
both a c = record { number = a.number; necessary = bit_or a.necessary c.necessary; unnecessary = bit_or a.unnecessary c.unnecessary }

module _ (a c : Merged) where
  pub better_less : a.number < c.number → better a c ≡ a
  unfolding better
  better_less l = rw (lt-ltb a.number c.number l)

  pub better_tie : a.number ≡ c.number → better a c ≡ both a c
  unfolding better
  better_tie e = rw (le-ltb a.number c.number (omega arith), le-ltb c.number a.number (omega arith))

  -- what holds in each of the three cases holds of the better
  pub better_by : (P : Merged → Type 0) → (a.number < c.number → P a) → (c.number < a.number → P c) → (a.number ≡ c.number → P (both a c))
      → P (better a c)
  unfolding better
  better_by P less more tie =
      by_test P (ltb a.number c.number) (λ t. less (ltb→lt a.number c.number t))
      (λ f.
      by_test P (ltb c.number a.number) (λ t. more (ltb→lt c.number a.number t))
      (λ g. tie (omega (arith, nltb→le a.number c.number f, nltb→le c.number a.number g))))
