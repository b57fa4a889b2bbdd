-- The numbers by which the search knows a suit tell the truth about its board: what is tried at a rank that may be held, and which rank is the next.
-- Assumes nothing.
use mathlib.Core.Path.{◌≡◌, refl, sym}
use mathlib.Core.Logic.{◌⊎◌, inl, inr, ⊎_elim}
use mathlib.Core.Bool.{true, ◌||◌}
use Prim.Native.Nat.{ℕ, ◌+◌, ◌-◌, ◌≤◌, ◌<◌}
use native.Mathlib.Decide.{ℕ_discrete}
use native.Mathlib.Omega.{arith}
use lib.Dec.{T, ltb, ltb→lt, lt→ltb, eqb}
use borrow.Author.Tests.{lt-ltb, le-ltb, ne_eqb}
use Rattle.tile.specs.Count.{bit}
use Rattle.tile.specs.Board.{Board, may_hold, ranks, honours, ends}
use Rattle.tile.specs.Suit.{IsSuit}
use Rattle.tile.specs.Suit.IsSuit.{of_ranks, of_honours, of_ends}
use Rattle.tile.proofs.Tests.{and_second, and_both, at_most_or_over}
use Rattle.walk.specs.Walk.{choices_at}
use Rattle.walk.proofs.Sane.{Sane}
use Rattle.walk.proofs.Room.{held_in, held_most}
use Rattle.walk.proofs.Right.{sane_ranks, sane_honours, sane_ends}
use Rattle.suit.specs.Task.{Task, task_of, choices_for}

-- what the numbers of k say of rank i, one that may be held
pub record Stepped (k : Task) (i : ℕ) : Type 0 where
  pub sane : Sane k.board
  pub nine : k.board.kinds ≤ 9
  pub forward : (1 ≤ k.step) × (k.step ≤ 8) × (k.runs ≤ k.board.kinds)
  pub far : (k.step ≡ 1) ⊎ (3 ≤ k.step)
  -- all choices below `runs`, and three from there on
  pub all : i < k.runs → choices_at k.board i ≡ 8
  pub three : k.runs ≤ i → choices_at k.board i ≡ 3
  -- between rank i and the next nothing may be held
  pub between : (j : ℕ) → i < j → j < i + k.step → (choices_at k.board j ≡ 1) × (T (may_hold k.board j) → ⊥)
  pub after : i + k.step < k.board.kinds → T (may_hold k.board (i + k.step))
  -- from `runs` on no sequence starts, and each pair and meld needs a rank
  pub flat : k.runs ≤ i + k.step → (j : ℕ) → i + 1 ≤ j → T (k.board.starts j) → ⊥
  pub room : held_in k.board (k.board.kinds - (i + 1)) (i + 1) ≤ k.board.kinds - (i + k.step)

-- of 1m/9m the first and the last rank may be held
ends_at : (i : ℕ) → T (may_hold ends i) → (i ≡ 0) ⊎ (i ≡ 8)
ends_at i x =
    elim (ℕ_discrete i 0) [
      | yes e ↦ inl e
      | no f ↦ elim (ℕ_discrete i 8) [
        | yes e ↦ inr e
        | no g ↦ absurd (simp (ne_eqb i 0 f, ne_eqb i 8 g) at (and_second (ltb i 9) (eqb i 0 || eqb i 8) x))
      ]
    ]

-- the others may not, nor is there any past them
barred : (j : ℕ) → (j ≡ 0 → ⊥) → (j ≡ 8 → ⊥) → (choices_at ends j ≡ 1) × (T (may_hold ends j) → ⊥)
barred j f g = (simp (ne_eqb j 0 f, ne_eqb j 8 g), λ x. ⊎_elim f g (ends_at j x))

stepped_ends : (held : ℕ) {i : ℕ} → (i ≡ 0) ⊎ (i ≡ 8) → Stepped (task_of ends 0 8 held) i
unfolding held_in bit
stepped_ends held {i} at =
    record {
      sane = sane_ends;
      nine = omega arith;
      forward = omega arith;
      far = inr (omega arith);
      all = λ l. absurd (omega arith);
      three = λ l. ⊎_elim (λ e. rw e) (λ e. rw e) at;
      between = λ j l o. barred j (λ e. omega arith) (λ e. ⊎_elim (λ z. omega arith) (λ z. omega arith) at);
      after = λ l. ⊎_elim (λ e. rw e tt) (λ e. absurd (omega arith)) at;
      flat = λ l j o y. y;
      room = ⊎_elim (λ e. rw e (omega arith)) (λ e. rw e (omega arith)) at;
    }

stepped_of : {b : Board} {runs step : ℕ} → IsSuit b runs step → (held i : ℕ) → T (may_hold b i) → Stepped (task_of b runs step held) i
unfolding held_in bit
stepped_of of_ranks held i x =
    record {
      sane = sane_ranks;
      nine = omega arith;
      forward = omega arith;
      far = inl refl;
      all = λ l. rw (lt-ltb i 7 l);
      three = λ l. rw (le-ltb i 7 l);
      between = λ j l o. absurd (omega arith);
      after = λ l. and_both (ltb (i + 1) 9) true (lt→ltb (i + 1) 9 l) tt;
      flat = λ l j o y. omega (arith, ltb→lt j 7 y);
      room = held_most ranks (9 - (i + 1)) (i + 1);
    }
stepped_of of_honours held i x =
    record {
      sane = sane_honours;
      nine = omega arith;
      forward = omega arith;
      far = inl refl;
      all = λ l. absurd (omega arith);
      three = λ l. refl;
      between = λ j l o. absurd (omega arith);
      after = λ l. and_both (ltb (i + 1) 7) true (lt→ltb (i + 1) 7 l) tt;
      flat = λ l j o y. y;
      room = held_most honours (7 - (i + 1)) (i + 1);
    }
stepped_of of_ends held i x = stepped_ends held (ends_at i x)

pub stepped : (k : Task) (i : ℕ) → IsSuit k.board k.runs k.step → T (may_hold k.board i) → Stepped k i
stepped k i s x = stepped_of s k.held i x

-- what is tried at a rank

pub tried_there : (k : Task) (i : ℕ) → Stepped k i → choices_for k.runs i ≡ choices_at k.board i
tried_there k i s =
    ⊎_elim (λ over. rw (le-ltb i k.runs over) (sym (s.three over))) (λ under. rw (lt-ltb i k.runs under) (sym (s.all under))) (at_most_or_over k.runs i)
