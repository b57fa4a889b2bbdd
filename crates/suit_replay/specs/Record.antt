-- The eight bytes of an answer: 0, or the number of a refusal; the index of a refusal; the number; zero;
-- the necessary and the unnecessary set, each lowest byte first.
-- Assumes nothing.
use Rattle.std.specs.Prelude.{List, [], ◌∷◌, ℕ, ◌/◌, ◌%◌, Result}
use Rattle.tile.specs.Suit.{values_of}
use Rattle.tile.specs.declared.found.Found.{Found}
use Rattle.tile.specs.declared.refusal.Reason.{Reason}

abbrev pub record_of : Result Found Reason → List ℕ
record_of a =
    let v = values_of a in
    let r = v.found in
    v.code ∷ v.index % 256 ∷ r.number ∷ 0 ∷ r.necessary % 256 ∷ r.necessary / 256 ∷ r.unnecessary % 256 ∷ r.unnecessary / 256 ∷ []
