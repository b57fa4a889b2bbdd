-- What a stored question asks, a list q of forty bytes: byte 0 says how many counts follow, byte 37 is k and byte 38 the game. Byte 39 says nothing.
-- Assumes nothing.
use Rattle.std.specs.Prelude.{List, ℕ, ◌+◌, min, get_or, take, drop}

-- the counts: they begin at byte 1, and there is room for 36
abbrev pub counts_of : List ℕ → List ℕ
counts_of q = take (min (get_or q 0 0) 36) (drop 1 q)

-- where they end
abbrev pub end_of : ℕ → ℕ
end_of long = 1 + min long 36

abbrev pub melds_of : List ℕ → ℕ
melds_of q = get_or q 37 0

abbrev pub game_of : List ℕ → ℕ
game_of q = get_or q 38 0
