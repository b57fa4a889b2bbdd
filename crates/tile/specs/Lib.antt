-- What a reader must believe, in reading order. A legend for those who do not know antt:
-- `(t : A) × P t` says that there is a t for which P t holds, `A ⊎ B` that A holds or B does, `A → ⊥` that A does not hold;
-- `record` names the parts of a statement, of which all must hold, `data` the ways in which one can come to hold;
-- `abbrev` and `unfoldable` say when the prover looks through a name, and change no meaning; `module _ (x : A) where` gives
-- everything under it the parameter x. Of lists, `get_or t i 0` is entry i of t, 0 past its end; `set t i c` is t with c there;
-- `replicate n 0` is n zeros. `-` stops at 0. `map f t` is f of each entry. `ltb`, `leb`, `eqb` are the tests <, ≤ and =,
-- `T b` says that the test b passes, and `cond b x y` is x if it does and y if not.
pub mod Count
pub mod Board
pub mod Target
pub mod Answer
pub mod Refusal
pub mod Suit
pub mod Goals
pub mod Suits
pub mod Tally
pub mod Hand
