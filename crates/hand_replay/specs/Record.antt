-- The sixteen bytes of an answer: 0, or the number of a refusal; the index of a refusal; the number, the kinds, the live tiles; zero;
-- the necessary and the unnecessary set, five bytes each, lowest byte first.
-- Assumes nothing.
use Rattle.std.specs.Prelude.{List, ◌∷◌, ◌++◌, ℕ, ◌%◌, Result}
use Rattle.tile.specs.Hand.{hand_values}
use Rattle.tile.specs.declared.one_hand.HandFound.{HandFound}
use Rattle.tile.specs.declared.refusal.Reason.{Reason}
use Rattle.records.specs.Record.{set_bytes}

abbrev pub record_of : Result HandFound Reason → List ℕ
record_of a =
    let v = hand_values a in
    let r = v.found in
    v.code ∷ v.index % 256 ∷ r.number ∷ r.kinds ∷ r.live ∷ 0 ∷ (set_bytes r.necessary ++ set_bytes r.unnecessary)
