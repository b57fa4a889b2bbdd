-- Fields without a gap between them hold a run of bits: what they make, and what is left of a cell that went there and back.
-- Assumes nothing.
use mathlib.Core.Path.{◌≡◌, refl, ap, ◌∙◌}
use mathlib.Core.Bool.{Bool, true, cond, ◌&&◌}
use mathlib.Core.List.{List, [], ◌∷◌, map}
use Prim.Native.Nat.{ℕ, ◌+◌, ◌-◌, ◌*◌, ◌/◌, ◌^◌, ◌≤◌, ◌<◌}
use native.Mathlib.Nat.{add_comm, add_assoc, zero-add, add-zero, mul-one, div-one, mod-one, mod-eq_of_lt, zero-mul, le_refl}
use native.Mathlib.Omega.{arith}
use lib.Dec.{T, eqb, eqb→eq}
use lib.Pow.{pow_pos, ones_lt, shr-shr, mod-pow-add}
use Rattle.tile.proofs.Tests.{and_parts}
use Rattle.words.specs.Field.{Field, back, bits, made, filled}
use Rattle.words.proofs.Reading.{tidy, kept, by_choices, again, above, end_at, taken, small}

-- the fields of cell j follow each other without a gap, from bit b on
abbrev pub gapless : List Field → ℕ → ℕ → Bool
gapless [] j b = true
gapless (f ∷ fs) j b = cond (eqb f.to j) (eqb f.shift b && gapless fs j (b + f.width)) (gapless fs j b)

-- w bits and the m bits above them are a run
run : (n b w m : ℕ) → bits n b w * 2 ^ b + bits n (b + w) m * 2 ^ (b + w) ≡ bits n b (w + m) * 2 ^ b
run n b w m = rw (above (bits n b w) (bits n (b + w) m) b w, add_comm w m, mod-pow-add (n / 2 ^ b) m w, shr-shr n b w)

kept_run : (fs : List Field) (x : ℕ → ℕ) (j b : ℕ) → T (gapless fs j b) → kept fs x j ≡ bits (x j) b (filled fs j) * 2 ^ b
kept_run [] x j b t = rw (mod-one (x j / 2 ^ b), zero-mul (2 ^ b))
kept_run (f ∷ fs) x j b t =
    by_choices (λ n m. n ≡ bits (x j) b m * 2 ^ b) (eqb f.to j) _ _ t
    (λ here h. let (e, u) = and_parts (eqb f.shift b) _ h in
    rw (eqb→eq f.to j here, eqb→eq f.shift b e, kept_run fs x j (b + f.width) u) (run (x j) b f.width (filled fs j)))
    (λ off u. kept_run fs x j b u)

-- what fields make ends below the end of their run
ends : (fs : List Field) (x : ℕ → ℕ) (j b : ℕ) → T (gapless fs j b) → made fs x j + 2 ^ b ≤ 2 ^ (b + filled fs j)
ends [] x j b t = rw (zero-add (2 ^ b), add-zero b) (le_refl (2 ^ b))
ends (f ∷ fs) x j b t =
    by_choices (λ n m. n + 2 ^ b ≤ 2 ^ (b + m)) (eqb f.to j) _ _ t
    (λ here h. let (e, u) = and_parts (eqb f.shift b) _ h in
    rw (eqb→eq f.shift b e, ← add_assoc b f.width (filled fs j))
    (omega (arith, ends fs x j (b + f.width) u, end_at (2 ^ b - 1) (taken x f) b f.width (ones_lt b) (small x f), pow_pos b)))
    (λ off u. ends fs x j b u)

pub made_less : (fs : List Field) (x : ℕ → ℕ) (j : ℕ) → T (gapless fs j 0) → made fs x j < 2 ^ filled fs j
made_less fs x j t = omega (arith, rw (zero-add (filled fs j)) at (ends fs x j 0 t))

-- what fits comes back
pub given_back : (fs : List Field) → T (tidy fs) → (x : ℕ → ℕ) (i : ℕ) → T (gapless (map back fs) i 0) → x i < 2 ^ filled (map back fs) i
    → made (map back fs) (made fs x) i ≡ x i
given_back fs t x i g l = again fs t x i ∙ kept_run (map back fs) x i 0 g ∙ rw (mul-one, div-one (x i)) (mod-eq_of_lt l)

back_back : (fs : List Field) → map back (map back fs) ≡ fs
back_back [] = refl
back_back (f ∷ fs) = ap (λ (gs : List Field). f ∷ gs) (back_back fs)

-- a cell that goes there and back keeps its run, and nothing else
pub cleared_run : (fs : List Field) → T (tidy (map back fs)) → (w : ℕ → ℕ) (j b : ℕ) → T (gapless fs j b)
    → made fs (made (map back fs) w) j ≡ bits (w j) b (filled fs j) * 2 ^ b
cleared_run fs t w j b g = (rw (back_back fs) at (again (map back fs) t w j)) ∙ kept_run fs w j b g
