-- What a stored question asks, a list q of sixteen bytes: byte 0 is the suit, 1 the pairs, 2 the melds, 3 says how many counts follow.
-- Assumes nothing.
use Rattle.std.specs.Prelude.{cond, List, ℕ, ◌+◌, ◌-◌, min, get_or, take, drop, eqb}
use Rattle.tile.specs.declared.one_suit.Suit.{Suit}
use Rattle.tile.specs.declared.one_suit.Suit.TheVariants.{Ranks, Honours, Ends}

-- 0 is nine ranks, 1 honours, any other 1m/9m
abbrev pub suit_of : ℕ → Suit
suit_of kind = cond (eqb kind 0) Ranks (cond (eqb kind 1) Honours Ends)

-- where the counts end: they begin at byte 4, and there is room for 12
abbrev pub end_of : ℕ → ℕ
end_of long = 4 + min long 12

abbrev pub counts_of : List ℕ → List ℕ
counts_of q = take (end_of (get_or q 3 0) - 4) (drop 4 q)
