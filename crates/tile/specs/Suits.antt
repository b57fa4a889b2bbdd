-- Which suits a game has, in which order, and where each lies among the 34 counts (01 "Tiles and games", "Merge").
-- Assumes nothing.
use Rattle.std.specs.Prelude.{◌≡◌, Bool, true, false, List, [], ◌∷◌, ℕ, ◌+◌, get_or}
use Rattle.tile.specs.Board.{Board, ranks, honours, ends, whole4, whole3}
use Rattle.tile.specs.declared.suits.Place.{Place}

-- the suits m, p, s, z of the four-player game (false) and of the three-player game (true)
abbrev pub suits_of : Bool → List Board
suits_of false = ranks ∷ ranks ∷ ranks ∷ honours ∷ []
suits_of true = ends ∷ ranks ∷ ranks ∷ honours ∷ []

-- all tiles of the game
abbrev pub whole_of : Bool → Board
whole_of false = whole4
whole_of true = whole3

-- the game's number
abbrev pub game_of : Bool → ℕ
game_of false = 4
game_of true = 3

-- the game for three players or not: all its tiles, the first of its suits, its number
pub record IsGame (b m : Board) (game : ℕ) (three_player : Bool) : Type 0 where
  pub all : b ≡ whole_of three_player
  pub first : m ≡ get_or (suits_of three_player) 0 ranks
  pub number : game ≡ game_of three_player

-- where suits lie that follow one another from index `at` on
abbrev pub places_from : ℕ → List Board → List Place
places_from at [] = []
places_from at (b ∷ bs) = record { offset = at; length = b.kinds } ∷ places_from (at + b.kinds) bs

-- where the suits lie among the 34 counts: m is 0, p is 1, s is 2, z is 3
abbrev pub place_of : ℕ → Place
place_of k = get_or (places_from 0 (suits_of false)) k (record { offset = 0; length = 0 })
