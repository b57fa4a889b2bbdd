-- What is told once leaves one number and one content of the room: two that meet the contract coincide.
-- Assumes nothing.
use mathlib.Core.Path.{◌≡◌, sym, ◌∙◌}
use mathlib.Core.List.{List}
use Prim.Native.Nat.{ℕ}
use Rattle.lastavon.specs.Room.{Room}
use Rattle.lastavon.specs.Room.Room.{told, left}

pub room_once : {n : ℕ} {Told Again : ℕ → List ℕ → Type 0} {x y z : List ℕ} {c d : ℕ} → (Told c y → Again d z → (c ≡ d) × (y ≡ z))
    → Room n Told x c y → Room n Again x d z → (c ≡ d) × (y ≡ z)
room_once once (told l a) (told m b) = once a b
room_once once (told l a) (left m e f) = absurd (m l)
room_once once (left l e f) (told m b) = absurd (l m)
room_once once (left l e f) (left m g w) = (e ∙ sym g, f ∙ sym w)
