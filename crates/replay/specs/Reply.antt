-- What a program that answers stored questions takes and writes. `Answers q x` says that x may be written for the question q.
-- Assumes nothing.
use Rattle.std.specs.Prelude.{◌≡◌, List, ℕ, length, Option}
use Rattle.std.specs.Io.KnownBytes.{Appends, Consumes}

-- a writer that had the bytes w has them and what answers q, where its bytes are known
abbrev pub Replied : (List ℕ → List ℕ → Type 0) → List ℕ → Option (List ℕ) → Option (List ℕ) → Type 0
Replied Answers q w w' = (x : List ℕ) × Answers q x × Appends w w' x

-- a whole question of `long` bytes was taken from a reader, and what answers it was written
abbrev pub Turned : ℕ → (List ℕ → List ℕ → Type 0) → Option (List ℕ) → Option (List ℕ) → Option (List ℕ) → Option (List ℕ) → Type 0
Turned long Answers r r' w w' = (q : List ℕ) × (length q ≡ long) × Consumes r r' q × Replied Answers q w w'
