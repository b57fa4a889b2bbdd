-- The boards that targets are built on (01 "Tiles and games", "One suit").
-- On a whole board index 0 to 8 is 1m to 9m, 9 to 17 is 1p to 9p, 18 to 26 is 1s to 9s, 27 to 33 is 1z to 7z; on a suit's board index 0 is rank 1.
-- Assumes nothing.
use Rattle.std.specs.Prelude.{Bool, true, false, ◌&&◌, ◌||◌, ℕ, ◌%◌, ltb, leb, eqb}

-- how many kinds there are, which of them may be held, and where a sequence may start
pub record Board : Type 0 where
  pub kinds : ℕ
  pub held : ℕ → Bool
  pub starts : ℕ → Bool

-- kind i is on the board and may be held
abbrev pub may_hold : Board → ℕ → Bool
may_hold b i = ltb i b.kinds && b.held i

-- nine ranks in order: a sequence starts at index 0 to 6
abbrev pub ranks : Board
ranks = record { kinds = 9; held = λ i. true; starts = λ i. ltb i 7 }

-- seven honours, without order
abbrev pub honours : Board
honours = record { kinds = 7; held = λ i. true; starts = λ i. false }

-- 1m/9m: of nine ranks only the first and the last
abbrev pub ends : Board
ends = record { kinds = 9; held = λ i. eqb i 0 || eqb i 8; starts = λ i. false }

-- all 34 tiles of game 4: a sequence starts at the first seven ranks of m, p and s
abbrev pub whole4 : Board
whole4 = record { kinds = 34; held = λ i. true; starts = λ i. ltb i 27 && ltb (i % 9) 7 }

-- all 34 tiles of game 3: nothing at index 1 to 7, and so no sequence in m
abbrev pub whole3 : Board
whole3 = record { kinds = 34; held = λ i. ltb i 1 || ltb 7 i; starts = λ i. leb 9 i && ltb i 27 && ltb (i % 9) 7 }
