-- There is one word for each input: two that meet the contract of an entry coincide.
-- Assumes nothing.
use mathlib.Core.Path.{◌≡◌, sym, ap, ◌∙◌}
use mathlib.Core.List.{List}
use Prim.Native.Nat.{ℕ}
use Rattle.tile.specs.Board.{Board}
use Rattle.tile.proofs.Promise.{promised_once}
use Rattle.lastavon.specs.Word.{word_of, WordFor}

pub word_once : (b : Board) (p m : ℕ) (h : List ℕ) (v w : ℕ) → WordFor b p m h v → WordFor b p m h w → v ≡ w
word_once b p m h v w (a, x, e) (c, y, f) = e ∙ ap word_of (promised_once b p m h a c x y) ∙ sym f
