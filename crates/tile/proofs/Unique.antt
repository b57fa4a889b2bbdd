-- The right answer is one: two that are right for one hand coincide, for any set of targets.
-- Assumes nothing.
use mathlib.Core.Path.{◌≡◌, subst, subst⁻¹}
use mathlib.Core.List.{List}
use Prim.Native.Nat.{ℕ}
use native.Mathlib.Omega.{arith}
use Rattle.tile.specs.Answer.{Least, Answer, Necessary, Unnecessary}
use Rattle.tile.proofs.Sets.{exactly_once}

module _ (n : ℕ) (G : List ℕ → Type 0) (h : List ℕ) where
  pub least_once : {x y : ℕ} → Least n G h x → Least n G h y → x ≡ y
  least_once a b =
      let (t, g, e) = a.some in
      let (u, k, f) = b.some in
      omega (arith, a.none_fewer u k, b.none_fewer t g)

  pub answer_once : {x y a b c d : ℕ} → Answer n G h x a b → Answer n G h y c d → (x ≡ y) × (a ≡ c) × (b ≡ d)
  answer_once p q =
      let e = least_once p.number q.number in (
        e,
        exactly_once (λ i. subst (λ z. Necessary n G h z i) e) (λ i. subst⁻¹ (λ z. Necessary n G h z i) e) p.necessary q.necessary,
        exactly_once (λ i. subst (λ z. Unnecessary n G h z i) e) (λ i. subst⁻¹ (λ z. Unnecessary n G h z i) e) p.unnecessary q.unnecessary,
      )
