-- The rows marked P of the table of 01 "Hands to hold it against": ten hands, and the five values of each answer in full.
-- Assumes nothing.
use Rattle.std.specs.Prelude.{List, [], ◌∷◌, ◌++◌, ℕ, ◌+◌, ◌*◌, ◌^◌, get_or, replicate, Ok}
use Rattle.tile.specs.Hand.{no_hand}
use Rattle.tile.specs.declared.one_hand.HandFound.{HandFound}
use Rattle.records.specs.Record.{record_of}

pub record Row : Type 0 where
  pub game : ℕ
  pub melds : ℕ
  pub counts : List ℕ
  pub answer : HandFound

-- ---- how a row is written

abbrev row : ℕ → ℕ → List ℕ → HandFound → Row
row game melds counts answer = record { game = game; melds = melds; counts = counts; answer = answer }

-- 34 counts, from those of the suits m, p, s, z
abbrev hand : List ℕ → List ℕ → List ℕ → List ℕ → List ℕ
hand m p s z = m ++ (p ++ (s ++ z))

abbrev nine : ℕ → ℕ → ℕ → ℕ → ℕ → ℕ → ℕ → ℕ → ℕ → List ℕ
nine a b c d e f g h i = a ∷ b ∷ c ∷ d ∷ e ∷ f ∷ g ∷ h ∷ i ∷ []

abbrev seven : ℕ → ℕ → ℕ → ℕ → ℕ → ℕ → ℕ → List ℕ
seven a b c d e f g = a ∷ b ∷ c ∷ d ∷ e ∷ f ∷ g ∷ []

-- nothing of nine ranks, and nothing of seven honours
abbrev empty : List ℕ
empty = replicate 9 0

abbrev empty_z : List ℕ
empty_z = replicate 7 0

abbrev found : ℕ → ℕ → ℕ → ℕ → ℕ → HandFound
found number necessary unnecessary kinds live =
    record { number = number; necessary = necessary; unnecessary = unnecessary; kinds = kinds; live = live }

-- a set of tiles, from those of the suits m, p, s, z: bit 0 of each is its first tile, so that 0x101 is the first and the last of nine ranks
abbrev tiles : ℕ → ℕ → ℕ → ℕ → ℕ
tiles m p s z = m + p * 2 ^ 9 + s * 2 ^ 18 + z * 2 ^ 27

-- all of nine ranks, and all of seven honours
abbrev all : ℕ
all = 0x1FF

abbrev all_z : ℕ
all_z = 0x7F

-- ---- the rows: game, melds, counts; number, necessary set, unnecessary set, kinds, live

abbrev pub rows : List Row
rows =
    -- none
    row 4 0 (hand empty empty empty empty_z) (found 2 (tiles all all all all_z) 0 34 136)
    -- none, three players
    ∷ row 3 4 (hand empty empty empty empty_z) (found 14 (tiles 0x101 all all all_z) 0 27 108)
    -- 1z
    ∷ row 4 0 (hand empty empty empty (seven 1 0 0 0 0 0 0)) (found 1 (tiles 0 0 0 1) 0 1 3)
    -- 1m 9m
    ∷ row 4 0 (hand (nine 1 0 0 0 0 0 0 0 1) empty empty empty_z) (found 1 (tiles 0x101 0 0 0) (tiles 0x101 0 0 0) 2 6)
    -- 1m four times
    ∷ row 4 1 (hand (nine 4 0 0 0 0 0 0 0 0) empty empty empty_z) (found 2 (tiles 0x1FE all all all_z) (tiles 1 0 0 0) 33 132)
    -- 8m 9m 1p 1z 1z
    ∷ row 4 1 (hand (nine 0 0 0 0 0 0 0 1 1) (nine 1 0 0 0 0 0 0 0 0) empty (seven 2 0 0 0 0 0 0)) (found 1 (tiles 0x40 0 0 0) (tiles 0 1 0 0) 1 4)
    -- 1m and 9m four times each, three players
    ∷ row 3 4 (hand (nine 4 0 0 0 0 0 0 0 4) empty empty empty_z) (found 8 (tiles 0 all all all_z) (tiles 0x101 0 0 0) 25 100)
    -- the same, four players
    ∷ row 4 4 (hand (nine 4 0 0 0 0 0 0 0 4) empty empty empty_z) (found 6 (tiles 0xFE all all all_z) 0 32 128)
    -- 123m 456p 789s 111z 22z
    ∷ row 4 4 (hand (nine 1 1 1 0 0 0 0 0 0) (nine 0 0 0 1 1 1 0 0 0) (nine 0 0 0 0 0 0 1 1 1) (seven 3 2 0 0 0 0 0)) (found 0 0 0 0 0)
    -- 1m 2m 3m three times each
    ∷ row 4 3 (hand (nine 3 3 3 0 0 0 0 0 0) empty empty empty_z) (found 2 (tiles all all all all_z) 0 34 127)
    ∷ []

-- row i, counted from 0
abbrev pub row_at : ℕ → Row
row_at i = get_or rows i (row 0 0 [] no_hand)

-- ---- the rows as records (01 "Records")

abbrev pub hand_record : Row → List ℕ
hand_record r = r.counts ++ (r.melds ∷ r.game ∷ [])

abbrev pub answer_record : Row → List ℕ
answer_record r = record_of (Ok r.answer)

-- the four answers that 01 writes out byte by byte
abbrev pub written_out : List (List ℕ)
written_out =
    (0x00 ∷ 0x02 ∷ 0xFF ∷ 0xFF ∷ 0xFF ∷ 0xFF ∷ 0x03 ∷ 0x00 ∷ 0x00 ∷ 0x00 ∷ 0x00 ∷ 0x00 ∷ 0x22 ∷ 0x88 ∷ 0x00 ∷ 0x00 ∷ [])
    ∷ (0x00 ∷ 0x0E ∷ 0x01 ∷ 0xFF ∷ 0xFF ∷ 0xFF ∷ 0x03 ∷ 0x00 ∷ 0x00 ∷ 0x00 ∷ 0x00 ∷ 0x00 ∷ 0x1B ∷ 0x6C ∷ 0x00 ∷ 0x00 ∷ [])
    ∷ (0x00 ∷ 0x01 ∷ 0x00 ∷ 0x00 ∷ 0x00 ∷ 0x08 ∷ 0x00 ∷ 0x00 ∷ 0x00 ∷ 0x00 ∷ 0x00 ∷ 0x00 ∷ 0x01 ∷ 0x03 ∷ 0x00 ∷ 0x00 ∷ [])
    ∷ (0x00 ∷ 0x01 ∷ 0x01 ∷ 0x01 ∷ 0x00 ∷ 0x00 ∷ 0x00 ∷ 0x01 ∷ 0x01 ∷ 0x00 ∷ 0x00 ∷ 0x00 ∷ 0x02 ∷ 0x06 ∷ 0x00 ∷ 0x00 ∷ [])
    ∷ []
