-- What the private functions give. Where they are parts of what a layout makes, this is written as `made` leaves it, with `* 2 ^ 0` and `+ 0`.
-- Assumes nothing.
use Rattle.std.specs.Prelude.{List, ℕ, ◌+◌, ◌*◌, ◌^◌, get_or}
use Rattle.tile.specs.declared.found.Found.{Found}
use Rattle.words.specs.Field.{bits}
use Rattle.words.specs.Packing.{first_of}

-- a value that is one field of a word
abbrev pub alone : ℕ → ℕ → ℕ → ℕ
alone word low width = bits word low width * 2 ^ 0 + 0

-- a set of which four bits stand at the foot of one word and five at the head of another
abbrev pub split : ℕ → ℕ → ℕ
split foot head = bits foot 0 4 * 2 ^ 0 + (bits head 27 5 * 2 ^ 4 + 0)

-- ten goals from their numbers and sets
abbrev pub goal_from : List ℕ → List ℕ → List ℕ → ℕ → Found
goal_from n a b i = record { number = get_or n i 0; necessary = get_or a i 0; unnecessary = get_or b i 0 }

abbrev pub goals_from : List ℕ → List ℕ → List ℕ → List Found
goals_from n a b = first_of 10 (goal_from n a b)

-- three sets in a word, one above the other
abbrev pub three_sets : ℕ → ℕ → ℕ → ℕ
three_sets a b c = bits a 0 9 * 2 ^ 0 + (bits b 0 9 * 2 ^ 9 + (bits c 0 9 * 2 ^ 18 + 0))
