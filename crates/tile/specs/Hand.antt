-- What is promised for a hand (01 "What a target is", "Refusal numbers"): 34 counts h, k melds and a game, which is a byte.
-- Assumes nothing.
use Rattle.std.specs.Prelude.{◌≡◌, List, ℕ, eqb, Result, Ok, Err}
use Rattle.tile.specs.Board.{Board}
use Rattle.tile.specs.Target.{Target}
use Rattle.tile.specs.Answer.{Answer}
use Rattle.tile.specs.Refusal.{code_of, index_of, FirstFaultOr, Fault}
use Rattle.tile.specs.Suit.{Values}
use Rattle.tile.specs.Suits.{whole_of}
use Rattle.tile.specs.Tally.{kinds_to, live_to}
use Rattle.tile.specs.declared.refusal.Reason.{Reason}
use Rattle.tile.specs.declared.one_hand.HandFound.{HandFound}

-- all tiles of a game: those of the three-player game for 3, else those of the four-player game
abbrev pub board_of_game : ℕ → Board
board_of_game game = whole_of (eqb game 3)

-- there is no such game
abbrev pub Unknown : ℕ → Type 0
Unknown game = (game ≡ 3 → ⊥) × (game ≡ 4 → ⊥)

-- the condition of each reason: the game's, and the others as of a suit, on the board of all tiles, for one pair and k melds
abbrev pub HandFault : ℕ → ℕ → List ℕ → Reason → Type 0
HandFault game k h q = Fault (Unknown game) (board_of_game game) 1 k h q

-- the five values are right: number and sets by the targets for k melds and a pair, kinds and live by the necessary set
pub record HandRight (b : Board) (k : ℕ) (h : List ℕ) (r : HandFound) : Type 0 where
  pub answer : Answer b.kinds (Target b 1 k) h r.number r.necessary r.unnecessary
  pub kinds : r.kinds ≡ kinds_to b.kinds r.necessary
  pub live : r.live ≡ live_to b.kinds r.necessary h

-- what is promised: a refusal by the first fault, or the right answer where there is none
abbrev pub HandPromised : ℕ → ℕ → List ℕ → Result HandFound Reason → Type 0
HandPromised game k h r = FirstFaultOr (HandFault game k h) (HandRight (board_of_game game) k h) r

-- five zeros
abbrev pub no_hand : HandFound
no_hand = record { number = 0; necessary = 0; unnecessary = 0; kinds = 0; live = 0 }

-- 01's number and values for each case of an answer, as for a suit
abbrev pub hand_values : Result HandFound Reason → Values HandFound
hand_values (Ok r) = record { code = 0; index = 0; found = r }
hand_values (Err q) = record { code = code_of q; index = index_of q; found = no_hand }
