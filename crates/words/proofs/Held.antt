-- Packing and unpacking by any layout, with words held in any type: packing leaves one result, what was packed is unpacked again,
-- and what was unpacked is never refused.
-- Assumes nothing.
use mathlib.Core.Path.{◌≡◌, sym, ap, ◌∙◌}
use mathlib.Core.List.{List, map}
use Prim.Native.Nat.{ℕ, ◌<◌}
use native.Mathlib.Omega.{arith}
use lib.Dec.{T}
use lib.ListN.{length}
use Rattle.tile.specs.declared.found.Found.{Found}
use Rattle.words.specs.Field.{back}
use Rattle.words.specs.Layout.{Value, Layout}
use Rattle.words.specs.Packing.{Fits, word_by, PackedBy, packs, refuses, goals_by}
use Rattle.words.proofs.Fitting.{for_values}
use Rattle.words.proofs.Round.{sound, below, goals_alike, goals_again, words_fit}

-- words of type W: how they are put in, how they are read, how many each value has, and that what was put in is read
pub record Holder (W : Type 0) : Type 0 where
  pub lay : (Value → ℕ → ℕ) → W
  pub at : W → Value → ℕ → ℕ
  pub many : Value → ℕ
  pub reads : (w : Value → ℕ → ℕ) (v : Value) (j : ℕ) → j < many v → at (lay w) v j ≡ w v j

module _ {W : Type 0} (l : Layout) (h : Holder W) where
  pub once : {g : List Found} {c d : ℕ} {x y : W} → PackedBy l h.lay g c x → PackedBy l h.lay g d y → (c ≡ d) × (x ≡ y)
  once (packs f c x) (packs f' d y) = (c ∙ sym d, x ∙ sym y)
  once (packs f c x) (refuses n d y) = absurd (n f)
  once (refuses n c x) (packs f d y) = absurd (n f)
  once (refuses n c x) (refuses n' d y) = (c ∙ sym d, x ∙ sym y)

  -- where the values fit, the words are the layout's
  pub packed : {g : List Found} {c : ℕ} {x : W} → Fits l g → PackedBy l h.lay g c x → (c ≡ 0) × (x ≡ h.lay (word_by l g))
  packed f (packs f' c x) = (c, x)
  packed f (refuses n c x) = absurd (n f)

  pub there_and_back : T (sound l) → T (for_values (λ v. below (h.many v) (map back (l.fields v)))) → {g : List Found} {x : W}
      → length g ≡ l.goals → PackedBy l h.lay g 0 x → goals_by l (h.at x) ≡ g
  there_and_back s b {g} ten (packs f z e) =
      ap (λ (y : W). goals_by l (h.at y)) e
      ∙ goals_alike l h.many b (h.at (h.lay (word_by l g))) (word_by l g) (h.reads (word_by l g))
      ∙ goals_again l s g ten f
  there_and_back s b ten (refuses n z e) = absurd (omega (arith, z))

  pub back_and_there : T (sound l) → (x : W) {y : W} {c : ℕ} → PackedBy l h.lay (goals_by l (h.at x)) c y
      → (c ≡ 0) × (y ≡ h.lay (word_by l (goals_by l (h.at x))))
  back_and_there s x p = packed (words_fit l s (h.at x)) p
