-- What is promised leaves one result: two that meet the promise for the same suit coincide, refusals too.
-- Assumes nothing.
use mathlib.Core.Path.{◌≡◌, refl, sym, ap, ap₂, subst, ◌∙◌}
use mathlib.Core.Logic.{⊎_elim}
use mathlib.Core.List.{List, [], ◌∷◌}
use mathlib.Core.WellFounded.{induction}
use Prim.Native.Nat.{ℕ, ◌-◌, ◌<◌}
use native.Mathlib.Decide.{ℕ_discrete}
use native.Mathlib.Omega.{arith}
use lib.ListN.{length, get_or}
use lib.Seq.{ext_get_or}
use lib.WfN.{lt-wf_rel}
use Rattle.std.specs.Prelude.{Result, Ok, Err}
use Rattle.tile.specs.Board.{Board}
use Rattle.tile.specs.Refusal.{code_of, index_of, Lowest, First, FirstFaultOr, Fault}
use Rattle.tile.specs.Suit.{blank, Promised}
use Rattle.tile.specs.Goals.{GoalsFor, GoalsPromised, AllRight}
use Rattle.tile.specs.declared.found.Found.{Found}
use Rattle.tile.specs.declared.refusal.Reason.{Reason}
use Rattle.tile.specs.declared.refusal.Reason.TheVariants.{Game, Goal, Length, Over, Sum, Barred}
use Rattle.tile.proofs.Tests.{at_most_or_over, not_unequal}
use Rattle.tile.proofs.Counts.{held_inside}
use Rattle.tile.proofs.Suit.{right_once}

-- only one number is the lowest
pub lowest_once : {P : ℕ → Type 0} {i j : ℕ} → Lowest P i → Lowest P j → i ≡ j
lowest_once {P} {i} {j} a b =
    ⊎_elim (λ le. ⊎_elim (λ ge. omega arith) (λ less. absurd (b.none_below i less a.holds)) (at_most_or_over j i))
    (λ more. absurd (a.none_below j more b.holds)) (at_most_or_over i j)

-- and what has no lowest has none at all
pub never : (P : ℕ → Type 0) → ((i : ℕ) → Lowest P i → ⊥) → (i : ℕ) → P i → ⊥
never P none i = induction lt-wf_rel.wf {C = λ (k : ℕ). P k → ⊥} i (λ k below x. none k (record { holds = x; none_below = below }))

-- no reason has the number 0, which stands for an answer
pub code_some : (q : Reason) → 0 < code_of q
code_some Game = omega arith
code_some Goal = omega arith
code_some Length = omega arith
code_some (Over i) = omega arith
code_some Sum = omega arith
code_some (Barred i) = omega arith

-- a reason is known by its number and its index
reason_of : ℕ → ℕ → Reason
reason_of code i = get_or (Game ∷ Goal ∷ Length ∷ Over i ∷ Sum ∷ Barred i ∷ []) (code - 1) Game

known : (q : Reason) → reason_of (code_of q) (index_of q) ≡ q
unfolding reason_of
known Game = refl
known Goal = refl
known Length = refl
known (Over i) = refl
known Sum = refl
known (Barred i) = refl

-- faults of which 4 and 6 give the lowest index of something
module _ (Fault : Reason → Type 0) (A B : ℕ → Type 0) (lowest_over : (i : ℕ) → Fault (Over i) → Lowest A i)
    (lowest_barred : (i : ℕ) → Fault (Barred i) → Lowest B i) where
  -- what a fault says of its index
  record Index (code i : ℕ) : Type 0 where
    over : code ≡ 4 → Lowest A i
    barred : code ≡ 6 → Lowest B i
    other : (code ≡ 4 → ⊥) → (code ≡ 6 → ⊥) → i ≡ 0

  index : (q : Reason) → Fault q → Index (code_of q) (index_of q)
  index Game x = record { over = λ e. absurd (omega arith); barred = λ e. absurd (omega arith); other = λ f g. refl }
  index Goal x = record { over = λ e. absurd (omega arith); barred = λ e. absurd (omega arith); other = λ f g. refl }
  index Length x = record { over = λ e. absurd (omega arith); barred = λ e. absurd (omega arith); other = λ f g. refl }
  index (Over i) x = record { over = λ e. lowest_over i x; barred = λ e. absurd (omega arith); other = λ f g. absurd (f refl) }
  index Sum x = record { over = λ e. absurd (omega arith); barred = λ e. absurd (omega arith); other = λ f g. refl }
  index (Barred i) x = record { over = λ e. absurd (omega arith); barred = λ e. lowest_barred i x; other = λ f g. absurd (g refl) }

  index_once : (code i j : ℕ) → Index code i → Index code j → i ≡ j
  index_once code i j x y =
      elim (ℕ_discrete code 4) [
        | yes e ↦ lowest_once (x.over e) (y.over e)
        | no f ↦ elim (ℕ_discrete code 6) [
          | yes e ↦ lowest_once (x.barred e) (y.barred e)
          | no g ↦ x.other f g ∙ sym (y.other f g)
        ]
      ]

  -- there is one first fault
  pub first_once : (q r : Reason) → First Fault q → First Fault r → q ≡ r
  first_once q r x y =
      let code : code_of q ≡ code_of r =
      ⊎_elim (λ le. ⊎_elim (λ ge. omega arith) (λ less. absurd (y.none_before q less x.holds)) (at_most_or_over (code_of r) (code_of q)))
      (λ more. absurd (x.none_before r more y.holds)) (at_most_or_over (code_of q) (code_of r)) in
      let same : index_of q ≡ index_of r =
      index_once (code_of r) (index_of q) (index_of r) (subst (λ (c : ℕ). Index c (index_of q)) code (index q x.holds)) (index r y.holds) in
      sym (known q) ∙ ap₂ reason_of code same ∙ known r

-- of a suit, and of a hand
pub fault_once : (unknown : Type 0) (b : Board) (p m : ℕ) (h : List ℕ) (q r : Reason) → First (Fault unknown b p m h) q → First (Fault unknown b p m h) r → q ≡ r
fault_once unknown b p m h = first_once (Fault unknown b p m h) _ _ (λ i x. x) (λ i x. x)

-- so whatever is promised of a value leaves one result, if it leaves one value
pub value_once : {A : Type 0} (unknown : Type 0) (b : Board) (p m : ℕ) (h : List ℕ) {P : A → Type 0} → ((r s : A) → P r → P s → r ≡ s)
    → (r s : Result A Reason) → FirstFaultOr (Fault unknown b p m h) P r → FirstFaultOr (Fault unknown b p m h) P s → r ≡ s
value_once unknown b p m h one (Err q) (Err r) x y = ap Err (fault_once unknown b p m h q r x y)
value_once unknown b p m h one (Err q) (Ok s) x (fine, y) = absurd (fine q x.holds)
value_once unknown b p m h one (Ok r) (Err q) (fine, x) y = absurd (fine q y.holds)
value_once unknown b p m h one (Ok r) (Ok s) (f, x) (g, y) = ap Ok (one r s x y)

-- for one goal
pub promised_once : (b : Board) (p m : ℕ) (h : List ℕ) (r s : Result Found Reason) → Promised b p m h r → Promised b p m h s → r ≡ s
promised_once b p m h = value_once ⊥ b p m h (λ r s. right_once)

-- the index that comes back is one of the lent counts, of which there are as many as the board has kinds
module _ (unknown : Type 0) (b : Board) (p m : ℕ) (h : List ℕ) (some : 0 < b.kinds) where
  held_there : (i : ℕ) → 0 < get_or h i 0 → ((length h ≡ b.kinds → ⊥) → ⊥) → i < b.kinds
  held_there i l long = omega (arith, held_inside h i l, not_unequal (length h) b.kinds long)

  pub index_inside : (q : Reason) → First (Fault unknown b p m h) q → index_of q < b.kinds
  index_inside Game f = some
  index_inside Goal f = some
  index_inside Length f = some
  index_inside (Over i) f = held_there i (omega (arith, f.holds.holds)) (f.none_before Length (omega arith))
  index_inside Sum f = some
  index_inside (Barred i) f = held_there i f.holds.holds.1 (f.none_before Length (omega arith))

-- for the ten goals
module _ (b : Board) (h : List ℕ) where
  all_once : (r s : List Found) → AllRight b h r → AllRight b h s → r ≡ s
  all_once r s x y = ext_get_or blank r s (x.ten ∙ sym y.ten) (λ g l. right_once (x.each g (omega (arith, x.ten))) (y.each g (omega (arith, x.ten))))

  pub goals_for_once : (r s : Result (List Found) Reason) → GoalsFor b h r → GoalsFor b h s → r ≡ s
  goals_for_once = value_once ⊥ b 0 0 h all_once

  pub goals_once : (c d : Result (Unit {0}) Reason) (r s : List Found) → GoalsPromised b h c r → GoalsPromised b h d s → (c ≡ d) × (r ≡ s)
  goals_once (Err q) (Err t) r s (x, e) (y, f) = (ap Err (fault_once ⊥ b 0 0 h q t x y), e ∙ sym f)
  goals_once (Err q) (Ok done) r s (x, e) (fine, y) = absurd (fine q x.holds)
  goals_once (Ok done) (Err q) r s (fine, x) (y, e) = absurd (fine q y.holds)
  goals_once (Ok done) (Ok again) r s (f, x) (g, y) = (refl, all_once r s x y)
