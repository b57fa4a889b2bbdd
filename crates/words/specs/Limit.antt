-- The most that the values of a goal may be, as the code tests it.
-- Assumes nothing.
use Rattle.std.specs.Prelude.{Bool, ◌&&◌, List, [], ◌∷◌, ℕ, eqb, leb, get_or}
use Rattle.std.specs.List.{list_all, zip}
use Rattle.tile.specs.Suit.{blank}
use Rattle.tile.specs.declared.found.Found.{Found}
use Rattle.words.specs.Layout.{Value, Number, Necessary, Unnecessary}

-- the most that each goal's number may be: what its field holds
abbrev pub numbers : List ℕ
numbers = 0 ∷ 3 ∷ 7 ∷ 15 ∷ 15 ∷ 3 ∷ 7 ∷ 15 ∷ 15 ∷ 15 ∷ []

-- for goal i: its number must not be over its width, a set not over 0x1FF; goal 0's number and necessary set must be 0
abbrev pub most : Value → ℕ → ℕ
most Number i = get_or numbers i 0
most Necessary i = get_or (0 ∷ 0x1FF ∷ 0x1FF ∷ 0x1FF ∷ 0x1FF ∷ 0x1FF ∷ 0x1FF ∷ 0x1FF ∷ 0x1FF ∷ 0x1FF ∷ []) i 0
most Unnecessary i = 0x1FF

-- each value is at most so much
abbrev pub within : Found → ℕ → ℕ → ℕ → Bool
within f n a b = leb f.number n && (leb f.necessary a && leb f.unnecessary b)

-- no number is over its limit, no set over nine kinds
abbrev pub all_low : List Found → Bool
all_low g = list_all (λ t. within t.0 t.1 0x1FF 0x1FF) (zip g numbers)

-- and goal 0's necessary set is empty
abbrev pub all_within : List Found → Bool
all_within g = eqb (get_or g 0 blank).necessary 0 && all_low g
