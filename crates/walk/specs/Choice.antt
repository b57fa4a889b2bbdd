-- The eight choices at a rank (01 "One suit"; `D_TABLE` of the Rust source): so many sequences that start there, triplets and pairs.
-- In the order 000, 001, 010, 100, 101, 110, 200, 201; the first three are without a sequence.
-- Assumes nothing.
use Rattle.std.specs.Prelude.{List, [], ◌∷◌, ℕ, ◌+◌, ◌*◌, get_or}

abbrev pub sequence_table : List ℕ
sequence_table = 0 ∷ 0 ∷ 0 ∷ 1 ∷ 1 ∷ 1 ∷ 2 ∷ 2 ∷ []

abbrev pub triplet_table : List ℕ
triplet_table = 0 ∷ 0 ∷ 1 ∷ 0 ∷ 0 ∷ 1 ∷ 0 ∷ 0 ∷ []

abbrev pub pair_table : List ℕ
pair_table = 0 ∷ 1 ∷ 0 ∷ 0 ∷ 1 ∷ 0 ∷ 0 ∷ 1 ∷ []

-- the sequences, triplets and pairs of choice c
abbrev pub sequences_of : ℕ → ℕ
sequences_of c = get_or sequence_table c 0

abbrev pub triplets_of : ℕ → ℕ
triplets_of c = get_or triplet_table c 0

abbrev pub pairs_of : ℕ → ℕ
pairs_of c = get_or pair_table c 0

-- its melds
abbrev pub melds_of : ℕ → ℕ
melds_of c = sequences_of c + triplets_of c

-- its tiles at its own rank; a sequence has two more, at the two ranks after it
abbrev pub tiles_of : ℕ → ℕ
tiles_of c = sequences_of c + 3 * triplets_of c + 2 * pairs_of c
