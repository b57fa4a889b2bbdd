-- The seven words (01 "Packed words"): each contract leaves one result, the two functions undo each other, and what fits is 01's list.
-- Assumes nothing.
use mathlib.Core.Path.{◌≡◌, sym, ◌∙◌, subst}
use mathlib.Core.List.{List, [], ◌∷◌}
use Prim.Native.Nat.{ℕ, ◌%◌, ◌^◌, ◌<◌}
use native.Mathlib.Nat.{mul-one, div-one}
use lib.Dec.{T}
use lib.ListN.{length}
use Rattle.tile.specs.declared.found.Found.{Found}
use Rattle.words.specs.declared.packed.Words.{Words}
use Rattle.words.specs.declared.packed.Packed.{Packed}
use Rattle.words.specs.Field.{filled}
use Rattle.words.specs.Layout.{Value, Number, Necessary, Unnecessary, ten_goals, seven_words}
use Rattle.words.specs.Limit.{most}
use Rattle.words.specs.Packing.{Fits, word_by, PackedBy}
use Rattle.words.specs.Promise.{seven, word_at, PackedFrom, goals_of, cleared}
use Rattle.words.proofs.Fitting.{Within, within_fits, fits_within}
use Rattle.words.proofs.Held.{Holder, once, there_and_back, back_and_there}
use Rattle.words.proofs.Round.{first_at, words_again}
use Rattle.words.proofs.Runs.{gapless}

-- how many words each value has
abbrev pub many : Value → ℕ
many Number = 1
many Necessary = 3
many Unnecessary = 3

pub seven_at : (w : Value → ℕ → ℕ) (v : Value) (j : ℕ) → j < many v → word_at (seven w) v j ≡ w v j
seven_at w Number j u = first_at 0 1 (w Number) j u
seven_at w Necessary j u = first_at 0 3 (w Necessary) j u
seven_at w Unnecessary j u = first_at 0 3 (w Unnecessary) j u

abbrev pub holder : Holder Words
holder = record { lay = seven; at = word_at; many = many; reads = seven_at }

-- ---- one result

pub packed_once : (g : List Found) (r s : Packed) → PackedFrom g r → PackedFrom g s → r ≡ s
packed_once g r s p q = let (c, w) = once seven_words holder p q in λ i. record { code = c i; words = w i }

pub unpacked_once : (w : Words) (r s : List Found) → r ≡ goals_of w → s ≡ goals_of w → r ≡ s
unpacked_once w r s d e = d ∙ sym e

-- ---- packed, then unpacked: it comes back

pub pack_unpack : (g : List Found) (r : Packed) → length g ≡ 10 → PackedFrom g r → r.code ≡ 0 → goals_of r.words ≡ g
pack_unpack g r ten p z = there_and_back seven_words holder tt tt ten (subst (λ (c : ℕ). PackedBy seven_words seven g c r.words) z p)

-- ---- unpacked, then packed: never refused, and the unused bits are cleared

rest : (w : Words) (v : Value) (j : ℕ) → T (gapless (ten_goals v) j 0) → word_by seven_words (goals_of w) v j ≡ word_at w v j % 2 ^ filled (ten_goals v) j
rest w v j t = words_again seven_words tt (word_at w) v j 0 t ∙ rw (mul-one, div-one (word_at w v j))

words_cleared : (w : Words) → seven (word_by seven_words (goals_of w)) ≡ cleared w
words_cleared w = λ i. record {
  number = rest w Number 0 tt i;
  necessary = rest w Necessary 0 tt i ∷ rest w Necessary 1 tt i ∷ rest w Necessary 2 tt i ∷ [];
  unnecessary = rest w Unnecessary 0 tt i ∷ rest w Unnecessary 1 tt i ∷ rest w Unnecessary 2 tt i ∷ [];
}

pub unpack_pack : (w : Words) (r : Packed) → PackedFrom (goals_of w) r → r ≡ record { code = 0; words = cleared w }
unpack_pack w r p = let (c, e) = back_and_there seven_words holder tt w p in λ i. record { code = c i; words = (e ∙ words_cleared w) i }

-- ---- what fits is what 01's refusal 9 lets pass

pub fits_listed : (g : List Found) → Fits seven_words g → (i : ℕ) → i < 10 → Within most g i
fits_listed = fits_within most seven_words tt

pub listed_fits : (g : List Found) → length g ≡ 10 → ((i : ℕ) → i < 10 → Within most g i) → Fits seven_words g
listed_fits = within_fits most seven_words tt
