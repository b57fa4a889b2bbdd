-- What counts without a fault are: so many and so few as a search may ask for.
-- Assumes nothing.
use mathlib.Core.Path.{◌≡◌}
use mathlib.Core.Logic.{inl, inr, ⊎_elim}
use mathlib.Core.Bool.{not}
use mathlib.Core.List.{List}
use Prim.Native.Nat.{ℕ, ◌≤◌, ◌<◌}
use native.Mathlib.Omega.{arith}
use lib.ListN.{length, get_or}
use lib.Dec.{T}
use Rattle.tile.specs.Count.{copies, Few, sum_to}
use Rattle.tile.specs.Board.{Board}
use Rattle.tile.specs.Refusal.{Faultless, Fault, SuitFault, most_melds, most_tiles}
use Rattle.tile.specs.declared.refusal.Reason.{Reason}
use Rattle.tile.specs.declared.refusal.Reason.TheVariants.{Game, Goal, Length, Over, Sum, Barred}
use Rattle.tile.proofs.Tests.{not_unequal}
use Rattle.tile.proofs.Promise.{never}

pub record Accepted (b : Board) (p m : ℕ) (h : List ℕ) : Type 0 where
  pub long : length h ≡ b.kinds
  pub few : Few h
  pub pairs : p ≤ 1
  pub melds : m ≤ most_melds
  pub sum : sum_to (length h) h ≤ most_tiles
  pub held : (i : ℕ) → T (not (b.held i)) → get_or h i 0 ≡ 0

-- the conditions but that of the game are the same for a suit and for a hand
pub fault_as : (b : Board) (p m : ℕ) (h : List ℕ) {A B : Type 0} → (A → B) → (q : Reason) → Fault A b p m h q → Fault B b p m h q
fault_as b p m h f Game x = f x
fault_as b p m h f Goal x = x
fault_as b p m h f Length x = x
fault_as b p m h f (Over i) x = x
fault_as b p m h f Sum x = x
fault_as b p m h f (Barred i) x = x

module _ {b : Board} {p m : ℕ} {h : List ℕ} where
  pub accepted : Faultless (SuitFault b p m h) → Accepted b p m h
  accepted none =
      let pairs : 1 < p → ⊥ = λ l. none Goal (inr l) in
      let melds : most_melds < m → ⊥ = λ l. none Goal (inl l) in
      let over : (i : ℕ) → copies < get_or h i 0 → ⊥ = never (λ j. copies < get_or h j 0) (λ i. none (Over i)) in
      let sum : most_tiles < sum_to (length h) h → ⊥ = none Sum in
      let barred = never (λ j. T (not (b.held j)) × (0 < get_or h j 0)) (λ i. none (Barred i)) in
      record {
        long = not_unequal (length h) b.kinds (none Length);
        few = λ i. omega (arith, over i);
        pairs = omega arith;
        melds = omega arith;
        sum = omega arith;
        held = λ i x. let none-held : 0 < get_or h i 0 → ⊥ = λ g. barred i (x, g) in omega arith;
      }

  -- and back
  pub faultless : {unknown : Type 0} → (unknown → ⊥) → Accepted b p m h → Faultless (Fault unknown b p m h)
  faultless known a Game x = known x
  faultless known a Goal x = ⊎_elim (λ l. omega (arith, a.melds)) (λ l. omega (arith, a.pairs)) x
  faultless known a Length x = x a.long
  faultless known a (Over i) x = omega (arith, x.holds, a.few i)
  faultless known a Sum x = omega (arith, a.sum)
  faultless known a (Barred i) x = let (out, held) = x.holds in omega (arith, a.held i out)
