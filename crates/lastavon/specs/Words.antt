-- A hand's answer as three words: in the first bits 0 to 7 are the number, 8 to 15 the kinds, 16 to 23 the live tiles, 24 to 31 the index of a refusal;
-- the second is the necessary set, the third the unnecessary set.
-- Assumes nothing.
use Rattle.std.specs.Prelude.{◌≡◌, List, [], ◌∷◌, ℕ, ◌+◌, ◌*◌, ◌%◌, ◌^◌, Result}
use Rattle.tile.specs.Hand.{hand_values, HandPromised}
use Rattle.tile.specs.declared.refusal.Reason.{Reason}
use Rattle.tile.specs.declared.one_hand.HandFound.{HandFound}
use Rattle.lastavon.specs.Room.{Room}

abbrev pub words_of : Result HandFound Reason → List ℕ
words_of a =
    let v = hand_values a in
    let r = v.found in
    (r.number + r.kinds * 2 ^ 8 + r.live * 2 ^ 16 + v.index % 2 ^ 8 * 2 ^ 24) ∷ r.necessary ∷ r.unnecessary ∷ []

-- a is told in a room of three words: its number is returned and its words stand there
abbrev pub HandTold : Result HandFound Reason → List ℕ → ℕ → List ℕ → Type 0
HandTold a x c y = Room 3 (λ d z. (d ≡ (hand_values a).code) × (z ≡ words_of a)) x c y

-- c is returned, and the words y stand where x stood: the number and the words of an answer that is promised; or, where x is not three words, 8 and x as it was
abbrev pub Written : ℕ → ℕ → List ℕ → List ℕ → ℕ → List ℕ → Type 0
Written game k h x c y = (a : Result HandFound Reason) × HandPromised game k h a × HandTold a x c y
