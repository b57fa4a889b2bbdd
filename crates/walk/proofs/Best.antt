-- What is found is right for the targets seen so far: one target more keeps it so, and so do targets that lack more.
-- Assumes nothing.
use mathlib.Core.Path.{◌≡◌, refl, ap, subst}
use mathlib.Core.Logic.{◌⊎◌, inl, inr, ⊎_elim, ⊎_map}
use mathlib.Core.List.{List}
use Prim.Native.Nat.{ℕ, ◌≤◌, ◌<◌}
use native.Mathlib.Omega.{arith}
use lib.ListN.{get_or}
use Rattle.tile.specs.Count.{lack_to}
use Rattle.tile.specs.Answer.{Exactly, Answer, Necessary, Unnecessary}
use Rattle.tile.specs.Suit.{unfound}
use Rattle.tile.specs.declared.found.Found.{Found}
use Rattle.tile.proofs.Tests.{at_most_or_over}
use Rattle.tile.proofs.Answers.{Or, Shown, More, Fewer, shown_keep, shown_or}
use Rattle.tile.proofs.Sense.{one_target}
use Rattle.tile.proofs.Sets.{exactly_as, exactly_none, exactly_beyond}
use Rattle.walk.specs.Walk.{alone, join}
use Rattle.walk.proofs.Steps.{join_less, join_equal, join_more}

-- what one target shows is what is shown where it alone is a target
shown_one : {n : ℕ} (h : List ℕ) (R : ℕ → ℕ → Type 0) {x s : ℕ} (t : List ℕ) → lack_to n t h ≡ x → Exactly n s (λ i. R (get_or h i 0) (get_or t i 0))
    → Exactly n s (Shown R n (λ u. u ≡ t) h x)
shown_one h R t e = exactly_as (λ i d. (t, refl, e, d)) (λ i (u, k, q, d). subst (λ (v : List ℕ). R (get_or h i 0) (get_or v i 0)) k d)

-- r is right for the targets of which S holds; or it is still what the search starts with, and none of them lacks less than the bound
pub record Best (n : ℕ) (h : List ℕ) (bound : ℕ) (S : List ℕ → Type 0) (r : Found) : Type 0 where
  pub some : (r ≡ unfound bound) ⊎ ((t : List ℕ) × S t × (lack_to n t h ≡ r.number))
  pub none_fewer : (t : List ℕ) → S t → r.number ≤ lack_to n t h
  pub necessary : Exactly n r.necessary (Necessary n S h r.number)
  pub unnecessary : Exactly n r.unnecessary (Unnecessary n S h r.number)

module _ {n : ℕ} {h : List ℕ} {bound : ℕ} where
  pub best_start : {S : List ℕ → Type 0} → ((t : List ℕ) → S t → ⊥) → Best n h bound S (unfound bound)
  best_start none =
      record {
        some = inl refl;
        none_fewer = λ t k. absurd (none t k);
        necessary = exactly_none (λ i l (t, k, e, d). none t k);
        unnecessary = exactly_none (λ i l (t, k, e, d). none t k);
      }

  -- what was found stays where targets that lack more come
  best_keep : {S L : List ℕ → Type 0} {r : Found} → ((t : List ℕ) → S t → L t) → ((t : List ℕ) → L t → S t ⊎ (r.number < lack_to n t h))
      → Best n h bound S r → Best n h bound L r
  best_keep to fro o =
      record {
        some = ⊎_map (λ e. e) (λ (t, k, e). (t, to t k, e)) o.some;
        none_fewer = λ t k. ⊎_elim (o.none_fewer t) (λ more. omega arith) (fro t k);
        necessary = shown_keep n h More to fro o.necessary;
        unnecessary = shown_keep n h Fewer to fro o.unnecessary;
      }

  pub best_same : {S L : List ℕ → Type 0} {r : Found} → ((t : List ℕ) → S t → L t) → ((t : List ℕ) → L t → S t)
      → Best n h bound S r → Best n h bound L r
  best_same to fro = best_keep to (λ t k. inl (fro t k))

  pub best_skip : {S L : List ℕ → Type 0} {r : Found} → ((t : List ℕ) → L t → r.number < lack_to n t h)
      → Best n h bound S r → Best n h bound (Or S L) r
  best_skip more = best_keep (λ t k. inl k) (λ t. ⊎_map (λ k. k) (more t))

  -- a target alone
  best_one : (t : List ℕ) → Best n h bound (λ u. u ≡ t) (alone n h t)
  unfolding alone
  best_one t =
      let a = one_target n t h in
      record { some = inr a.number.some; none_fewer = a.number.none_fewer; necessary = a.necessary; unnecessary = a.unnecessary }

  -- one target more: a smaller lack replaces what was found, an equal one joins it, a greater one leaves it
  pub best_join : (t : List ℕ) {S : List ℕ → Type 0} {r : Found} → Best n h bound S r → Best n h bound (Or S (λ u. u ≡ t)) (join n h t r)
  unfolding alone
  best_join t {S} {r} o =
      ⊎_elim (λ not_more. ⊎_elim (λ not-less. equal (omega arith)) less (at_most_or_over r.number (lack_to n t h))) more
      (at_most_or_over (lack_to n t h) r.number)
    where
      less : lack_to n t h < r.number → Best n h bound (Or S (λ u. u ≡ t)) (join n h t r)
      less l =
          rw (join_less n h t r l)
          (best_keep (λ u k. inr k) (λ u. ⊎_elim (λ k. inr (omega (arith, o.none_fewer u k))) (λ k. inl k)) (best_one t))

      equal : lack_to n t h ≡ r.number → Best n h bound (Or S (λ u. u ≡ t)) (join n h t r)
      equal e =
          rw (join_equal n h t r e)
          (record {
            some = inr (t, inr refl, e);
            none_fewer = λ u. ⊎_elim (o.none_fewer u) (λ k. rw k (omega arith));
            necessary = shown_or n h More o.necessary (shown_one h More t e (exactly_beyond n t h));
            unnecessary = shown_or n h Fewer o.unnecessary (shown_one h Fewer t e (exactly_beyond n h t));
          })

      more : r.number < lack_to n t h → Best n h bound (Or S (λ u. u ≡ t)) (join n h t r)
      more l = rw (join_more n h t r l) (best_skip (λ u k. rw k l) o)

  -- with a target within the bound, what is found is the answer
  pub best_answer : {S : List ℕ → Type 0} {r : Found} (t : List ℕ) → S t → lack_to n t h ≤ bound → Best n h bound S r
      → Answer n S h r.number r.necessary r.unnecessary
  best_answer t k l o =
      record {
        number = record {
          some = ⊎_elim (λ e. (t, k, omega (arith, o.none_fewer t k, ap (λ (s : Found). s.number) e))) (λ q. q) o.some;
          none_fewer = o.none_fewer;
        };
        necessary = o.necessary;
        unnecessary = o.unnecessary;
      }

  -- with none, it is the bound and empty sets
  pub best_none : {S : List ℕ → Type 0} {r : Found} → ((t : List ℕ) → S t → ⊥) → Best n h bound S r → r ≡ unfound bound
  best_none none o = ⊎_elim (λ e. e) (λ (t, k, e). absurd (none t k)) o.some
