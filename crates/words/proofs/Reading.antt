-- What fields have made is read back: where the fields of each cell stand in rising order, each finds in it the bits that it has put there.
-- Assumes nothing.
use mathlib.Core.Path.{◌≡◌, refl, sym, ◌∙◌}
use mathlib.Core.Bool.{Bool, true, false, cond, not, ◌&&◌}
use mathlib.Core.List.{List, [], ◌∷◌, map}
use Prim.Native.Nat.{ℕ, ◌+◌, ◌-◌, ◌*◌, ◌^◌, ◌≤◌, ◌<◌}
use native.Mathlib.Nat.{add_comm, add_assoc, zero-add, add-mul, mul_assoc, zero-mul, mod-lt, sub-add_cancel, lt_of_lt_of_le}
use lib.Arith.{digits_lt}
use lib.Dec.{T, T_not, eqb, eqb_refl, leb, leb→le}
use lib.Pow.{pow_pos, pow_mono, pow-add, high, low}
use Rattle.tile.proofs.Tests.{and_parts}
use Rattle.words.specs.Field.{Field, back, bits, made}

-- the fields of cell j stand in rising order, none below bit b and none over another
abbrev rising : List Field → ℕ → ℕ → Bool
rising [] j b = true
rising (f ∷ fs) j b = cond (eqb f.to j) (leb b f.shift && rising fs j (f.shift + f.width)) (rising fs j b)

abbrev pub every : (Field → Bool) → List Field → Bool
every test [] = true
every test (f ∷ fs) = test f && every test fs

-- so for each cell that has a field
abbrev pub tidy : List Field → Bool
tidy fs = every (λ f. rising fs f.to 0) fs

-- a field laid onto its own place
abbrev own : Field → Field
own f = record { from = f.to; low = f.shift; to = f.to; shift = f.shift; width = f.width }

-- of cell j only the bits that fields hold
abbrev pub kept : List Field → (ℕ → ℕ) → ℕ → ℕ
kept fs x j = made (map own fs) x j

-- three choices by one test: the test that was chosen passes, and P is to be shown of the two numbers that were chosen
pub by_choices : (P : ℕ → ℕ → Type 0) (b h k : Bool) {x y u v : ℕ}
    → T (cond b h k) → (T b → T h → P x u) → (T (not b) → T k → P y v) → P (cond b x y) (cond b u v)
by_choices P true h k t f g = f tt t
by_choices P false h k t f g = g tt t

-- the same where one number was chosen
by_choice : (P : ℕ → Type 0) (b h k : Bool) {x y : ℕ} → T (cond b h k) → (T b → T h → P x) → (T (not b) → T k → P y) → P (cond b x y)
by_choice P b h k {x} {y} t f g = by_choices (λ n m. P n) b h k {x = x} {y = y} {u = 0} {v = 0} t f g

-- P holds of each field
abbrev Each : (Field → Type 0) → List Field → Type 0
Each P [] = Unit {0}
Each P (f ∷ fs) = P f × Each P fs

-- ---- bits above bits

-- v from bit s on, and q above its w bits, counted from bit s
pub above : (v q s w : ℕ) → v * 2 ^ s + q * 2 ^ (s + w) ≡ (q * 2 ^ w + v) * 2 ^ s
above v q s w = rw (add_comm s w, pow-add 2 w s, add-mul (q * 2 ^ w) v (2 ^ s), mul_assoc q (2 ^ w) (2 ^ s)) (add_comm (v * 2 ^ s) (q * (2 ^ w * 2 ^ s)))

-- v is found, whatever r stands below it and q above it
found : (r v q s w : ℕ) → r < 2 ^ s → v < 2 ^ w → bits (r + (v * 2 ^ s + q * 2 ^ (s + w))) s w ≡ v
found r v q s w h l = rw (above v q s w, add_comm r ((q * 2 ^ w + v) * 2 ^ s), high (q * 2 ^ w + v) s h) (low q w l)

-- r and v together end where the field ends
pub end_at : (r v s w : ℕ) → r < 2 ^ s → v < 2 ^ w → r + v * 2 ^ s < 2 ^ (s + w)
end_at r v s w h l = rw (add_comm r (v * 2 ^ s), add_comm s w, pow-add 2 w s) (digits_lt l h)

-- a number of bits from s on is one of bits from b on
lower : (n b s : ℕ) → b ≤ s → n * 2 ^ s ≡ n * 2 ^ (s - b) * 2 ^ b
lower n b s l = rw (mul_assoc n (2 ^ (s - b)) (2 ^ b), ← pow-add 2 (s - b) b, sub-add_cancel l)

-- ---- what fields have made

module _ (x : ℕ → ℕ) where
  -- what a field takes, and that number n holds it in its place
  abbrev pub taken : Field → ℕ
  taken f = bits (x f.from) f.low f.width

  abbrev Holds : ℕ → Field → Type 0
  Holds n f = bits n f.shift f.width ≡ taken f

  pub small : (f : Field) → taken f < 2 ^ f.width
  small f = mod-lt _ (pow_pos f.width)

  -- nothing stands below bit b
  multiple : (fs : List Field) (j b : ℕ) → T (rising fs j b) → (q : ℕ) × (made fs x j ≡ q * 2 ^ b)
  multiple [] j b t = (0, sym (zero-mul (2 ^ b)))
  multiple (f ∷ fs) j b t =
      by_choice (λ n. (q : ℕ) × (n ≡ q * 2 ^ b)) (eqb f.to j) _ _ t
      (λ here h. let (l, u) = and_parts (leb b f.shift) _ h in
      let (q, e) = multiple fs j (f.shift + f.width) u in
      let m = above (taken f) q f.shift f.width in
      ((q * 2 ^ f.width + taken f) * 2 ^ (f.shift - b), rw (e, m) (lower _ b f.shift (leb→le b f.shift l))))
      (λ off u. multiple fs j b u)

  -- each field of cell j finds what it has put there, whatever r stands below
  finds : (fs : List Field) (j b r n : ℕ) → T (rising fs j b) → r < 2 ^ b → n ≡ r + made fs x j → Each (λ f. T (eqb f.to j) → Holds n f) fs
  finds [] j b r n t l e = tt
  finds (f ∷ fs) j b r n t l e =
      by_choice (λ m. n ≡ r + m → Each (λ f. T (eqb f.to j) → Holds n f) (f ∷ fs)) (eqb f.to j) _ _ t
      (λ here h e. let (k, u) = and_parts (leb b f.shift) _ h in
      let (q, m) = multiple fs j (f.shift + f.width) u in
      let below : r < 2 ^ f.shift = lt_of_lt_of_le l (pow_mono (leb→le b f.shift k)) in
      let end = end_at r (taken f) f.shift f.width below (small f) in (
        (λ here. rw (e, m) (found r (taken f) q f.shift f.width below (small f))),
        finds fs j (f.shift + f.width) (r + taken f * 2 ^ f.shift) n u end (e ∙ sym (add_assoc r _ _)),
      ))
      (λ off u e. ((λ here. absurd (T_not (eqb f.to j) off here)), finds fs j b r n u l e))
      e

  -- the way back lays what each field finds where it was taken
  brings : (fs gs : List Field) (i : ℕ) → T (every (λ g. rising fs g.to 0) gs)
      → ((j : ℕ) → T (rising fs j 0) → Each (λ g. T (eqb g.to j) → Holds (made fs x j) g) gs)
      → made (map back gs) (made fs x) i ≡ kept (map back gs) x i
  brings fs [] i t h = refl
  brings fs (g ∷ gs) i t h =
      let (r, u) = and_parts (rising fs g.to 0) _ t in
      rw ((h g.to r).0 (eqb_refl g.to), brings fs gs i u (λ j v. (h j v).1))

-- there and back again, each cell has what it had, of the bits that fields hold
pub again : (fs : List Field) → T (tidy fs) → (x : ℕ → ℕ) (i : ℕ) → made (map back fs) (made fs x) i ≡ kept (map back fs) x i
again fs t x i = brings x fs fs i t (λ j u. finds x fs j 0 0 (made fs x j) u (pow_pos 0) (sym (zero-add (made fs x j))))
