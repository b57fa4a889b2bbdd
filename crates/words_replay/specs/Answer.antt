-- The bytes of an answer, numbers lowest byte first, goals and words in the order that a question has them in.
-- Assumes nothing.
use Rattle.std.specs.Prelude.{◌≡◌, cond, List, [], ◌∷◌, ℕ, ◌-◌, ◌/◌, ◌%◌, ◌<◌, eqb, length, get_or}
use Rattle.tile.specs.Suit.{blank}
use Rattle.tile.specs.declared.found.Found.{Found}
use Rattle.words.specs.declared.packed.Words.{Words}
use Rattle.words.specs.declared.packed.Packed.{Packed}

-- x is n bytes, and byte i of it is f i
pub record Bytes (n : ℕ) (f : ℕ → ℕ) (x : List ℕ) : Type 0 where
  pub long : length x ≡ n
  pub each : (i : ℕ) → i < n → get_or x i 0 ≡ f i

-- a goal in five bytes: its number, its necessary set, its unnecessary set
abbrev pub five_bytes : Found → List ℕ
five_bytes r = r.number ∷ r.necessary % 256 ∷ r.necessary / 256 ∷ r.unnecessary % 256 ∷ r.unnecessary / 256 ∷ []

-- byte i of the goals g
abbrev pub goal_byte : List Found → ℕ → ℕ
goal_byte g i = get_or (five_bytes (get_or g (i / 5) blank)) (i % 5) 0

-- a word in four bytes
abbrev pub four_bytes : ℕ → List ℕ
four_bytes w = w % 256 ∷ w / 256 % 256 ∷ w / 65536 % 256 ∷ w / 16777216 ∷ []

abbrev pub word_list : Words → List ℕ
word_list w =
    let n = w.necessary in
    let u = w.unnecessary in
    w.number ∷ get_or n 0 0 ∷ get_or n 1 0 ∷ get_or n 2 0 ∷ get_or u 0 0 ∷ get_or u 1 0 ∷ get_or u 2 0 ∷ []

-- byte i of the words w
abbrev pub word_byte : Words → ℕ → ℕ
word_byte w i = get_or (four_bytes (get_or (word_list w) (i / 4) 0)) (i % 4) 0

-- byte i of what packing gives: the code, and behind it the words
abbrev pub packed_byte : Packed → ℕ → ℕ
packed_byte p i = cond (eqb i 0) p.code (word_byte p.words (i - 1))
