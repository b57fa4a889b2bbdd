-- The right answer when the targets change: others that lack more, two sorts of targets at once, and targets in two parts.
-- Assumes nothing.
use mathlib.Core.Path.{◌≡◌, refl, sym, subst₂}
use mathlib.Core.Logic.{◌↔◌, ◌⊎◌, inl, inr, ⊎_elim, ⊎_map}
use mathlib.Core.List.{List, ◌++◌}
use Prim.Native.Nat.{ℕ, ◌+◌, ◌*◌, ◌^◌, ◌<◌}
use native.Mathlib.Omega.{arith}
use lib.ListN.{length, get_or}
use lib.Bits.{bit_or}
use Rattle.tile.specs.Count.{lack_to}
use Rattle.tile.specs.Answer.{Exactly, Least, Answer}
use Rattle.tile.proofs.Sets.{exactly_as, exactly_or}
use Rattle.tile.proofs.Parts.{Parts, appended, lack_parts, exactly_parts}

-- targets of either sort
abbrev pub Or : (List ℕ → Type 0) → (List ℕ → Type 0) → List ℕ → Type 0
Or G K t = G t ⊎ K t

-- Both sets of an answer are of one form: the kinds i for which some target that lacks x holds of i more than the hand, or fewer.
-- The laws of a set are said once, for any relation R between what the hand holds of a kind and what a target holds of it.
abbrev pub Shown : (ℕ → ℕ → Type 0) → ℕ → (List ℕ → Type 0) → List ℕ → ℕ → ℕ → Type 0
Shown R n G h x i = (t : List ℕ) × G t × (lack_to n t h ≡ x) × R (get_or h i 0) (get_or t i 0)

abbrev pub More : ℕ → ℕ → Type 0
More held wanted = held < wanted

abbrev pub Fewer : ℕ → ℕ → Type 0
Fewer held wanted = wanted < held

module _ (n : ℕ) (h : List ℕ) (R : ℕ → ℕ → Type 0) where
  -- targets that lack more show nothing, and so they may come
  pub shown_keep : {G K : List ℕ → Type 0} {x s : ℕ} → ((t : List ℕ) → G t → K t) → ((t : List ℕ) → K t → G t ⊎ (x < lack_to n t h))
      → Exactly n s (Shown R n G h x) → Exactly n s (Shown R n K h x)
  shown_keep to fro =
      exactly_as (λ i (t, g, e, d). (t, to t g, e, d)) (λ i (t, k, e, d). ⊎_elim (λ g. (t, g, e, d)) (λ more. absurd (omega arith)) (fro t k))

  pub shown_or : {G K : List ℕ → Type 0} {x s r : ℕ} → Exactly n s (Shown R n G h x) → Exactly n r (Shown R n K h x)
      → Exactly n (bit_or s r) (Shown R n (Or G K) h x)
  shown_or a c =
      exactly_as (λ i. ⊎_elim (λ (t, g, e, d). (t, inl g, e, d)) (λ (t, k, e, d). (t, inr k, e, d)))
      (λ i (t, k, e, d). ⊎_map (λ g. (t, g, e, d)) (λ g. (t, g, e, d)) k) (exactly_or a c)

-- ---- other targets

module _ {n : ℕ} {h : List ℕ} {G K : List ℕ → Type 0} where
  -- the answer stays where targets that lack more come
  pub answer_keep : {x a b : ℕ} → ((t : List ℕ) → G t → K t) → ((t : List ℕ) → K t → G t ⊎ (x < lack_to n t h)) → Answer n G h x a b → Answer n K h x a b
  answer_keep to fro r =
      record {
        number =
            let (t, g, e) = r.number.some in
            record { some = (t, to t g, e); none_fewer = λ t k. ⊎_elim (r.number.none_fewer t) (λ more. omega arith) (fro t k) };
        necessary = shown_keep n h More to fro r.necessary;
        unnecessary = shown_keep n h Fewer to fro r.unnecessary;
      }

  -- the same targets, said in another way
  pub answer_as : {x a b : ℕ} → ((t : List ℕ) → G t ↔ K t) → Answer n G h x a b → Answer n K h x a b
  answer_as same = answer_keep (λ t. (same t).0) (λ t k. inl ((same t).1 k))

  -- two sorts of targets with one number: their sets united
  pub answer_or : {x a b c d : ℕ} → Answer n G h x a b → Answer n K h x c d → Answer n (Or G K) h x (bit_or a c) (bit_or b d)
  answer_or p q =
      record {
        number =
            let (t, g, e) = p.number.some in
            record { some = (t, inl g, e); none_fewer = λ t. ⊎_elim (p.number.none_fewer t) (q.number.none_fewer t) };
        necessary = shown_or n h More p.necessary q.necessary;
        unnecessary = shown_or n h Fewer p.unnecessary q.unnecessary;
      }

-- ---- targets in two parts

-- a target of one sort, and after it one of the other
abbrev pub Joined : (List ℕ → Type 0) → (List ℕ → Type 0) → List ℕ → Type 0
Joined G K t = (l r : List ℕ) × (t ≡ l ++ r) × G l × K r

module _ {n k : ℕ} {h h1 h2 : List ℕ} (hand : Parts n k h h1 h2) {G : List ℕ → Type 0} (long : (l : List ℕ) → G l → length l ≡ n) where
  pub lack_joined : {t l : List ℕ} (r : List ℕ) → t ≡ l ++ r → G l → lack_to (n + k) t h ≡ lack_to n l h1 + lack_to k r h2
  lack_joined {l = l} r e g = lack_parts n k (appended e (long l g)) hand

  module _ {K : List ℕ → Type 0} {x y : ℕ} (left : Least n G h1 x) (right : Least k K h2 y) where
    least_beside : Least (n + k) (Joined G K) h (x + y)
    least_beside =
        let (l, g, e) = left.some in
        let (r, q, f) = right.some in
        record {
          some = (l ++ r, (l, r, refl, g, q), omega (arith, lack_joined r refl g));
          none_fewer = λ t (l, r, e, g, q). omega (arith, lack_joined r e g, left.none_fewer l g, right.none_fewer r q);
        }

    -- a kind shown in one part is shown by that part's target and any of the other part that lacks the least;
    -- and where a joined target lacks the least, so do both its parts
    shown_beside : (R : ℕ → ℕ → Type 0) {s u : ℕ} → Exactly n s (Shown R n G h1 x) → Exactly k u (Shown R k K h2 y)
        → Exactly (n + k) (bit_or s (u * 2 ^ n)) (Shown R (n + k) (Joined G K) h (x + y))
    shown_beside R a c = exactly_parts a c first after
      where
        parts : {t l : List ℕ} (r : List ℕ) → t ≡ l ++ r → G l → Parts n k t l r
        parts {l = l} r e g = appended e (long l g)

        first : (i : ℕ) → i < n → Shown R n G h1 x i ↔ Shown R (n + k) (Joined G K) h (x + y) i
        first i m = (
          λ (l, g, e, d).
              let (r, q, f) = right.some in
              (l ++ r, (l, r, refl, g, q), omega (arith, lack_joined r refl g), subst₂ R (hand.first i m) ((parts r refl g).first i m) d),
          λ (t, (l, r, j, g, q), e, d). (
            l,
            g,
            omega (arith, lack_joined r j g, left.none_fewer l g, right.none_fewer r q),
            subst₂ R (sym (hand.first i m)) (sym ((parts r j g).first i m)) d,
          ),
        )

        after : (i : ℕ) → i < k → Shown R k K h2 y i ↔ Shown R (n + k) (Joined G K) h (x + y) (n + i)
        after i m = (
          λ (r, q, f, d).
              let (l, g, e) = left.some in
              (l ++ r, (l, r, refl, g, q), omega (arith, lack_joined r refl g), subst₂ R (hand.after i m) ((parts r refl g).after i m) d),
          λ (t, (l, r, j, g, q), e, d). (
            r,
            q,
            omega (arith, lack_joined r j g, left.none_fewer l g, right.none_fewer r q),
            subst₂ R (sym (hand.after i m)) (sym ((parts r j g).after i m)) d,
          ),
        )

  -- the numbers add up, and the sets of the second part come n kinds later
  pub answer_beside : {K : List ℕ → Type 0} {x y a b c d : ℕ} → Answer n G h1 x a b → Answer k K h2 y c d
      → Answer (n + k) (Joined G K) h (x + y) (bit_or a (c * 2 ^ n)) (bit_or b (d * 2 ^ n))
  answer_beside p q =
      record {
        number = least_beside p.number q.number;
        necessary = shown_beside p.number q.number More p.necessary q.necessary;
        unnecessary = shown_beside p.number q.number Fewer p.unnecessary q.unnecessary;
      }
