-- A cell of the table in one word, as the code has it: the number times 2^18, the necessary set times 2^9, the unnecessary set.
-- Assumes nothing.
use Rattle.std.specs.Prelude.{cond, List, ℕ, suc, ◌+◌, ◌-◌, ◌*◌, ◌/◌, ◌%◌, ltb}
use Rattle.tile.specs.Count.{copies}
use Rattle.tile.specs.Suit.{unfound}
use Rattle.tile.specs.declared.found.Found.{Found}
use Rattle.table.specs.Meet.{meet_word}
use Rattle.table.specs.Cell.{none}
use Rattle.table.specs.Table.{listed}

-- A cell has its own rank as bit 0 of its sets; in the word bit 0 is the suit's first rank. So a cell of rank i is moved up: u is 2^i.
unfoldable pub word : ℕ → Found → ℕ
word u r = r.number * 262144 + r.necessary * u * 512 + r.unnecessary * u

-- "no target": the number 64 without sets
abbrev pub none_word : ℕ
none_word = none * 262144

-- what stands beside the rows: more than any cell's word
abbrev pub over : ℕ
over = 127 * 262144

-- two words: the number stands above both sets
abbrev pub meet18 : ℕ → ℕ → ℕ
meet18 = meet_word 18

-- what a rank adds to a word of the ranks after it, where the hand has k tiles of it and the target x, and its bit is u
unfoldable pub add_word : ℕ → ℕ → ℕ → ℕ
add_word k x u = cond (ltb k x) ((x - k) * 262144 + 512 * u) (cond (ltb x k) u 0)

-- for each number of tiles that a target may have
abbrev pub adds_of : ℕ → ℕ → List ℕ
adds_of k u = listed (λ x. add_word k x u) 0 (suc copies)

-- a word of the first rank, taken apart
unfoldable pub opened_word : ℕ → ℕ → Found
opened_word bound w =
    cond (ltb (w / 262144) none) (record { number = w / 262144; necessary = w / 512 % 512; unnecessary = w % 512 }) (unfound bound)
