-- One suit's answer as a word (01 "One suit"): bits 0 to 7 the number, 8 to 23 the necessary set, 24 to 39 the unnecessary set,
-- 40 to 47 the index of a refusal, 48 to 55 its number, which is 0 for an answer.
-- Assumes nothing.
use Rattle.std.specs.Prelude.{◌≡◌, List, ℕ, ◌+◌, ◌*◌, ◌%◌, ◌^◌, Result}
use Rattle.tile.specs.Board.{Board}
use Rattle.tile.specs.Suit.{values_of, Promised}
use Rattle.tile.specs.declared.found.Found.{Found}
use Rattle.tile.specs.declared.refusal.Reason.{Reason}

abbrev pub word_of : Result Found Reason → ℕ
word_of a =
    let v = values_of a in
    let r = v.found in
    r.number + r.necessary * 2 ^ 8 + r.unnecessary * 2 ^ 24 + v.index % 2 ^ 8 * 2 ^ 40 + v.code * 2 ^ 48

-- w is the word of an answer that is promised for p pairs and m melds and the counts h
abbrev pub WordFor : Board → ℕ → ℕ → List ℕ → ℕ → Type 0
WordFor b p m h w = (a : Result Found Reason) × Promised b p m h a × (w ≡ word_of a)
