-- What a result says of the counts that it stands for; joining two results, and putting a rank in front, keep it so.
-- Assumes nothing.
use mathlib.Core.Path.{◌≡◌, refl, ap, subst, subst₃, ◌∙◌}
use mathlib.Core.Logic.{◌↔◌, ◌⊎◌, inl, inr, ⊎_elim}
use mathlib.Core.Bool.{Bool}
use mathlib.Core.List.{List, [], ◌∷◌, ◌++◌}
use Prim.Native.Nat.{ℕ, zero, suc, ◌+◌, ◌-◌, ◌*◌, ◌^◌, ◌≤◌, ◌<◌}
use native.Mathlib.Nat.{eq-or-lt_of_le, le_of_suc-le-suc}
use native.Mathlib.Omega.{arith}
use lib.ListN.{length}
use lib.Dec.{ltb, ltb→lt, nltb→le}
use lib.Bits.{bit_or, or_shifted_r}
use Rattle.tile.specs.Count.{lack_to, bit, set_to, beyond_to}
use Rattle.tile.specs.Answer.{Answer}
use Rattle.tile.specs.Suit.{unfound}
use Rattle.tile.specs.declared.found.Found.{Found}
use Rattle.tile.proofs.Tests.{by_test}
use Rattle.tile.proofs.Sets.{bit_le}
use Rattle.tile.proofs.Sense.{one_target}
use Rattle.tile.proofs.Parts.{appended, lack_parts}
use Rattle.tile.proofs.Answers.{Or, Joined, answer_keep, answer_as, answer_or, answer_beside}
use Rattle.walk.specs.Walk.{up_to}
use Rattle.table.specs.Cell.{none, united, meet, onto}

-- none of the counts of which S holds lacks fewer than r says; and where r says that there is a target, r is the answer
pub record Good (n : ℕ) (h : List ℕ) (S : List ℕ → Type 0) (r : Found) : Type 0 where
  pub none_fewer : (t : List ℕ) → S t → r.number ≤ lack_to n t h
  pub right : r.number < none → Answer n S h r.number r.necessary r.unnecessary

module _ {n : ℕ} {h : List ℕ} where
  pub good_none : {S : List ℕ → Type 0} → ((t : List ℕ) → S t → ⊥) → Good n h S (unfound none)
  good_none empty = record { none_fewer = λ t s. absurd (empty t s); right = λ l. absurd (omega arith) }

  -- the result stays where counts that lack more come
  good_keep : {S L : List ℕ → Type 0} {r : Found} → ((t : List ℕ) → S t → L t) → ((t : List ℕ) → L t → S t ⊎ (r.number < lack_to n t h))
      → Good n h S r → Good n h L r
  good_keep to fro o =
      record { none_fewer = λ t l. ⊎_elim (o.none_fewer t) (λ more. omega arith) (fro t l); right = λ l. answer_keep to fro (o.right l) }

  pub good_same : {S L : List ℕ → Type 0} {r : Found} → ((t : List ℕ) → S t → L t) → ((t : List ℕ) → L t → S t) → Good n h S r → Good n h L r
  good_same to fro = good_keep to (λ t l. inl (fro t l))

  -- two results: the counts of both
  pub good_meet : {S L : List ℕ → Type 0} {r s : Found} → Good n h S r → Good n h L s → Good n h (Or S L) (meet r s)
  unfolding meet
  good_meet {S} {L} {r} {s} o k =
      by_test (Good n h (Or S L)) (ltb s.number r.number) (λ y. less (ltb→lt s.number r.number y))
      (λ z.
      by_test (Good n h (Or S L)) (ltb r.number s.number) (λ y. more (ltb→lt r.number s.number y))
      (λ x. equal (omega (arith, nltb→le s.number r.number z, nltb→le r.number s.number x))))
    where
      less : s.number < r.number → Good n h (Or S L) s
      less y = good_keep (λ t l. inr l) (λ t. ⊎_elim (λ g. inr (omega (arith, o.none_fewer t g))) (λ l. inl l)) k

      more : r.number < s.number → Good n h (Or S L) r
      more y = good_keep (λ t g. inl g) (λ t. ⊎_elim (λ g. inl g) (λ l. inr (omega (arith, k.none_fewer t l)))) o

      equal : s.number ≡ r.number → Good n h (Or S L) (united r s)
      equal e =
          record {
            none_fewer = λ t. ⊎_elim (o.none_fewer t) (λ l. omega (arith, k.none_fewer t l));
            right = λ l. answer_or (o.right l) (subst (λ (x : ℕ). Answer n L h x s.necessary s.unnecessary) e (k.right (omega arith)));
          }

  -- one choice after the other: the counts of all of them
  pub good_up_to : (f : ℕ → Found → Found) (L : ℕ → List ℕ → Type 0) → ((c : ℕ) (S : List ℕ → Type 0) (r : Found) → Good n h S r → Good n h (Or S (L c)) (f c r))
      → (k : ℕ) → Good n h (λ u. (c : ℕ) × (c < k) × L c u) (up_to f k (unfound none))
  unfolding up_to
  good_up_to f L step zero = good_none (λ u (c, l, q). omega arith)
  good_up_to f L step (suc k) =
      good_same (λ u. ⊎_elim (λ (c, l, q). (c, omega arith, q)) (λ q. (k, omega arith, q)))
      (λ u (c, l, q). ⊎_elim (λ e. inr (subst (λ (x : ℕ). L x u) e q)) (λ under. inl (c, under, q)) (eq-or-lt_of_le (le_of_suc-le-suc l)))
      (step k _ _ (good_up_to f L step k))

-- ---- a rank in front

-- the counts of S with x in front
abbrev pub Onto : ℕ → (List ℕ → Type 0) → List ℕ → Type 0
Onto x S u = (v : List ℕ) × (u ≡ x ∷ v) × S v

module _ (k x : ℕ) where
  -- one rank alone is a part of one kind, and the ranks after it are the other part
  this_rank : Answer 1 (λ u. u ≡ x ∷ []) (k ∷ []) (x - k) (bit (ltb k x)) (bit (ltb x k))
  unfolding lack_to beyond_to set_to
  this_rank = subst₃ (Answer 1 (λ u. u ≡ x ∷ []) (k ∷ [])) (omega arith) (omega arith) (omega arith) (one_target 1 (x ∷ []) (k ∷ []))

  joined : (S : List ℕ → Type 0) (u : List ℕ) → Joined (λ u. u ≡ x ∷ []) S u ↔ Onto x S u
  joined S u = (λ (l, r, e, g, s). (r, e ∙ ap (λ (v : List ℕ). v ++ r) g, s), λ (v, e, s). (x ∷ [], v, e, refl, s))

  set_onto : (q : Bool) (s : ℕ) → bit_or (bit q) (s * 2 ^ 1) ≡ 2 * s + bit q
  set_onto q s = or_shifted_r s 1 (bit q) (omega (arith, bit_le q)) ∙ omega arith

  pub good_onto : {n : ℕ} {h : List ℕ} {S : List ℕ → Type 0} {r : Found} → Good n h S r → Good (suc n) (k ∷ h) (Onto x S) (onto k x r)
  unfolding onto lack_to
  good_onto {n} {h} {S} {r} o =
      let hand = appended {n = 1} {k = n} {t = k ∷ h} {l = k ∷ []} {r = h} refl refl in
      let e : 1 + n ≡ suc n = omega arith in
      subst (λ (j : ℕ). Good j (k ∷ h) (Onto x S) (onto k x r)) e
      (record {
        none_fewer = λ t (v, e, s). omega (arith, o.none_fewer v s, lack_parts 1 n (appended {l = x ∷ []} e refl) hand);
        right =
            λ l.
            subst₃ (Answer (1 + n) (Onto x S) (k ∷ h)) (omega arith) (set_onto (ltb k x) r.necessary) (set_onto (ltb x k) r.unnecessary)
            (answer_as (joined S) (answer_beside hand (λ l g. ap length g) this_rank (o.right (omega arith))));
      })
