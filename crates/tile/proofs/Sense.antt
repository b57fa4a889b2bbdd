-- What the two sets can hold, for any set of targets, and what the answer is for one target alone.
-- Assumes nothing.
use mathlib.Core.Path.{◌≡◌, refl, ap, subst, ◌∙◌}
use mathlib.Core.Logic.{◌↔◌, ⊎_elim}
use mathlib.Core.List.{List}
use Prim.Native.Nat.{ℕ, ◌<◌}
use native.Mathlib.Nat.{eq-zero-or-pos}
use native.Mathlib.Omega.{arith}
use lib.ListN.{get_or}
use Rattle.tile.specs.Count.{lack_to, Has, beyond_to}
use Rattle.tile.specs.Board.{Board}
use Rattle.tile.specs.Target.{Target}
use Rattle.tile.specs.Answer.{Answer, Necessary, Unnecessary}
use Rattle.tile.proofs.Counts.{none_lacked, lack_some}
use Rattle.tile.proofs.Sets.{has_none, exactly_none, exactly_once, exactly_as, exactly_beyond}

module _ (n : ℕ) (G : List ℕ → Type 0) (h : List ℕ) where
  -- an unnecessary tile is one that the hand holds
  pub unnecessary_held : (x i : ℕ) → Unnecessary n G h x i → 0 < get_or h i 0
  unnecessary_held x i (t, g, e, fewer) = omega arith

  -- no tile is necessary exactly when the number is 0
  pub none_necessary : {x a b : ℕ} → Answer n G h x a b → (a ≡ 0) ↔ (x ≡ 0)
  none_necessary {x} {a} {b} answer = (to, fro)
    where
      to : a ≡ 0 → x ≡ 0
      to e =
          let (t, g, lack) = answer.number.some in
          ⊎_elim (λ z. z)
          (λ (some : 0 < x).
          let (i, l, more) = lack_some n t h (omega arith) in
          absurd (has_none i (subst (λ (s : ℕ). Has s i) e (answer.necessary.complete i l (t, g, lack, more))))) (eq-zero-or-pos x)

      fro : x ≡ 0 → a ≡ 0
      fro e =
          exactly_once (λ i q. q) (λ i q. q) answer.necessary
          (exactly_none (λ i l (t, g, lack, more). omega (arith, none_lacked n t h (lack ∙ e) i l)))

-- a necessary tile is one of which the hand holds fewer than four
pub necessary_few : (b : Board) (p m : ℕ) (h : List ℕ) (x i : ℕ) → Necessary b.kinds (Target b p m) h x i → get_or h i 0 < 4
necessary_few b p m h x i (t, tg, e, more) = omega (arith, tg.few i)

-- for one target alone the right answer is its own lack, with the kinds of which it holds more and those of which it holds fewer
pub one_target : (n : ℕ) (t h : List ℕ) → Answer n (λ u. u ≡ t) h (lack_to n t h) (beyond_to n t h) (beyond_to n h t)
one_target n t h =
    record {
      number = record { some = (t, refl, refl); none_fewer = λ u e. omega (arith, ap (λ (v : List ℕ). lack_to n v h) e) };
      necessary =
          exactly_as (λ i p. (t, refl, refl, p)) (λ i (u, e, lack, p). subst (λ (v : List ℕ). get_or h i 0 < get_or v i 0) e p) (exactly_beyond n t h);
      unnecessary =
          exactly_as (λ i p. (t, refl, refl, p)) (λ i (u, e, lack, p). subst (λ (v : List ℕ). get_or v i 0 < get_or h i 0) e p) (exactly_beyond n h t);
    }
