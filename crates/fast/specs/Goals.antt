-- The goals, from the words of the first rank.
-- Assumes nothing.
use Rattle.std.specs.Prelude.{◌≡◌, List, ℕ, ◌+◌, ◌/◌, ◌%◌, ◌<◌, length, get_or}
use Rattle.tile.specs.Refusal.{most_tiles}
use Rattle.tile.specs.Suit.{blank}
use Rattle.tile.specs.declared.found.Found.{Found}
use Rattle.fast.specs.Word.{opened_word}
use Rattle.fast.specs.Row.{row_place}

-- each of the ten goals stands in its row of the state into which no sequence runs
pub record Opened (cells : List ℕ) (r : List Found) : Type 0 where
  pub ten : length r ≡ 10
  pub each : (g : ℕ) → g < 10 → get_or r g blank ≡ opened_word most_tiles (get_or cells (row_place 0 0 (g / 5) + g % 5) 0)
