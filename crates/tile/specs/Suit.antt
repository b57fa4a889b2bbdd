-- What the right answer for one suit is (01 "One suit"): for a goal of p pairs and m melds on the suit's board.
-- Assumes nothing.
use Rattle.std.specs.Prelude.{◌≡◌, List, ℕ, Result, Ok, Err}
use Rattle.tile.specs.Board.{Board, ranks, honours, ends}
use Rattle.tile.specs.Target.{Target}
use Rattle.tile.specs.Answer.{Answer}
use Rattle.tile.specs.Refusal.{code_of, index_of, FirstFaultOr, SuitFault, most_tiles}
use Rattle.tile.specs.declared.found.Found.{Found}
use Rattle.tile.specs.declared.refusal.Reason.{Reason}
use Rattle.tile.specs.declared.one_suit.Suit.{Suit}
use Rattle.tile.specs.declared.one_suit.Suit.TheVariants.{Ranks, Honours, Ends}

-- what stands for the answer where no target is found: the starting bound, and empty sets
abbrev pub unfound : ℕ → Found
unfound bound = record { number = bound; necessary = 0; unnecessary = 0 }

-- r is right for p pairs and m melds and the hand h: it is the answer; or there is no target at all, and r is the bound and empty sets
pub data Right (b : Board) (bound p m : ℕ) (h : List ℕ) (r : Found) : Type 0 where
  answer : Answer b.kinds (Target b p m) h r.number r.necessary r.unnecessary → Right b bound p m h r
  no_target : ((t : List ℕ) → Target b p m t → ⊥) → r ≡ unfound bound → Right b bound p m h r

-- three zeros
abbrev pub blank : Found
blank = record { number = 0; necessary = 0; unnecessary = 0 }

-- 01's number and values for each case of an answer: 0 with what was found, or the number of a refusal with its index and zeros
pub record Values (Found : Type 0) : Type 0 where
  pub code : ℕ
  pub index : ℕ
  pub found : Found

abbrev pub values_of : Result Found Reason → Values Found
values_of (Ok r) = record { code = 0; index = 0; found = r }
values_of (Err q) = record { code = code_of q; index = index_of q; found = blank }

-- the boards that suits are built on; below which rank a sequence may start; and how far it is from one rank that may be held to the next
pub data IsSuit : Board → ℕ → ℕ → Type 0 where
  of_ranks : IsSuit ranks 7 1
  of_honours : IsSuit honours 0 1
  of_ends : IsSuit ends 0 8

-- which board a suit is built on
abbrev pub board_of : Suit → Board
board_of Ranks = ranks
board_of Honours = honours
board_of Ends = ends

-- what is promised for one goal: a refusal by the first fault, or the right answer where there is none
abbrev pub Promised : Board → ℕ → ℕ → List ℕ → Result Found Reason → Type 0
Promised b p m h r = FirstFaultOr (SuitFault b p m h) (Right b most_tiles p m h) r
