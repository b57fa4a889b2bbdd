-- Tiles laid at a rank and at the two ranks after it: what a rank's sequences, triplets and pairs make of a target, however many they are.
-- Assumes nothing.
use mathlib.Core.Path.{◌≡◌, ap, ◌∙◌}
use mathlib.Core.List.{List}
use Prim.Native.Nat.{ℕ, ◌+◌, ◌≤◌, ◌<◌}
use native.Mathlib.Nat.{le_refl}
use native.Mathlib.Omega.{arith}
use lib.ListN.{length, get_or}
use Rattle.tile.specs.Count.{more}
use Rattle.tile.proofs.Counts.{Within, length_more, more_there, more_off, more_within, more_none, more_more, more_swap}

-- x tiles at rank i, and s at each of the two ranks after it
unfoldable pub spread : List ℕ → ℕ → ℕ → ℕ → List ℕ
spread t i x s = more (more (more t i x) (i + 1) s) (i + 2) s

spread_more : (t : List ℕ) (i x s j a : ℕ) → more (spread t i x s) j a ≡ spread (more t j a) i x s
unfolding spread
spread_more t i x s j a = rw (more_swap (more (more t i x) (i + 1) s) (i + 2) s j a, more_swap (more t i x) (i + 1) s j a, more_swap t i x j a)

pub spread_swap : (t : List ℕ) (i x s j y r : ℕ) → spread (spread t i x s) j y r ≡ spread (spread t j y r) i x s
unfolding spread
spread_swap t i x s j y r =
    rw (spread_more t i x s j y, spread_more (more t j y) i x s (j + 1) r, spread_more (more (more t j y) (j + 1) r) i x s (j + 2) r)

-- tiles more at the rank itself, and at each of the two after it; a triplet at each of these is what three sequences have there
pub spread_here : (t : List ℕ) (i x s a : ℕ) → more (spread t i x s) i a ≡ spread t i (x + a) s
unfolding spread
spread_here t i x s a =
    rw (more_swap (more (more t i x) (i + 1) s) (i + 2) s i a, more_swap (more t i x) (i + 1) s i a, more_more t i x a)

pub spread_after : (t : List ℕ) (i x s a : ℕ) → more (more (spread t i x s) (i + 1) a) (i + 2) a ≡ spread t i x (s + a)
unfolding spread
spread_after t i x s a =
    rw (
      more_swap (more (more t i x) (i + 1) s) (i + 2) s (i + 1) a,
      more_more (more t i x) (i + 1) s a,
      more_more (more (more t i x) (i + 1) (s + a)) (i + 2) s a,
    )

pub spread_add : (t : List ℕ) (i x s y r : ℕ) → spread (spread t i x s) i y r ≡ spread t i (x + y) (s + r)
unfolding spread
spread_add t i x s y r = rw (spread_here t i x s y, spread_after t i (x + y) s r)

pub spread_flat : (t : List ℕ) (i x : ℕ) → spread t i x 0 ≡ more t i x
unfolding spread
spread_flat t i x = more_none (more (more t i x) (i + 1) 0) (i + 2) ∙ more_none (more t i x) (i + 1)

pub spread_none : (t : List ℕ) (i : ℕ) → spread t i 0 0 ≡ t
spread_none t i = spread_flat t i 0 ∙ more_none t i

pub spread_length : (t : List ℕ) (i x s : ℕ) → length (spread t i x s) ≡ length t
unfolding spread
spread_length t i x s = simp length_more

-- up to rank i only what is laid at rank i itself counts
pub spread_before : (t : List ℕ) (i x s j : ℕ) → j ≤ i → get_or (spread t i x s) j 0 ≡ get_or (more t i x) j 0
unfolding spread
spread_before t i x s j l = more_off (more (more t i x) (i + 1) s) (i + 2) s j (omega arith) ∙ more_off (more t i x) (i + 1) s j (omega arith)

-- what each count then is
module _ (t : List ℕ) (i x s : ℕ) where
  pub spread_at : (0 < x → i < length t) → get_or (spread t i x s) i 0 ≡ get_or t i 0 + x
  spread_at l = spread_before t i x s i (le_refl i) ∙ more_there t i x l

  pub spread_next : (0 < s → i + 1 < length t) → get_or (spread t i x s) (i + 1) 0 ≡ get_or t (i + 1) 0 + s
  unfolding spread
  spread_next l =
      let u = more t i x in
      more_off (more u (i + 1) s) (i + 2) s (i + 1) (omega arith) ∙ more_there u (i + 1) s (λ o. omega (arith, length_more t i x, l o))
      ∙ ap (λ (k : ℕ). k + s) (more_off t i x (i + 1) (omega arith))

  pub spread_third : (0 < s → i + 2 < length t) → get_or (spread t i x s) (i + 2) 0 ≡ get_or t (i + 2) 0 + s
  unfolding spread
  spread_third l =
      let u = more t i x in
      let v = more u (i + 1) s in
      more_there v (i + 2) s (λ o. omega (arith, length_more t i x, length_more u (i + 1) s, l o))
      ∙ ap (λ (k : ℕ). k + s) (more_off u (i + 1) s (i + 2) (omega arith) ∙ more_off t i x (i + 2) (omega arith))

  pub spread_beyond : (j : ℕ) → i + 2 < j → get_or (spread t i x s) j 0 ≡ get_or t j 0
  unfolding spread
  spread_beyond j l =
      let u = more t i x in
      more_off (more u (i + 1) s) (i + 2) s j (omega arith) ∙ more_off u (i + 1) s j (omega arith) ∙ more_off t i x j (omega arith)

  pub spread_earlier : (j : ℕ) → j < i → get_or (spread t i x s) j 0 ≡ get_or t j 0
  spread_earlier j l = spread_before t i x s j (omega arith) ∙ more_off t i x j (omega arith)

pub spread_within : (t : List ℕ) (i x s : ℕ) → Within t (spread t i x s)
unfolding spread
spread_within t i x s j =
    omega (arith, more_within t i x j, more_within (more t i x) (i + 1) s j, more_within (more (more t i x) (i + 1) s) (i + 2) s j)
