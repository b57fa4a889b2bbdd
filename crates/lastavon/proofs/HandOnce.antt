-- There is one number and one content of the three words for each input: two that meet the contract coincide.
-- Assumes nothing.
use mathlib.Core.Path.{◌≡◌, sym, ap, ◌∙◌}
use mathlib.Core.List.{List}
use Prim.Native.Nat.{ℕ}
use Rattle.tile.specs.Hand.{hand_values}
use Rattle.std.specs.Prelude.{Result}
use Rattle.tile.specs.declared.refusal.Reason.{Reason}
use Rattle.tile.specs.declared.one_hand.HandFound.{HandFound}
use Rattle.tile.proofs.Hand.{hand_once}
use Rattle.lastavon.specs.Words.{words_of, Written}
use Rattle.lastavon.proofs.RoomOnce.{room_once}

pub written_once : (game k : ℕ) (h x : List ℕ) (c d : ℕ) (y z : List ℕ) → Written game k h x c y → Written game k h x d z → (c ≡ d) × (y ≡ z)
written_once game k h x c d y z (a, p, r) (b, q, s) =
    let same = hand_once game k h a b p q in
    room_once (λ (e, f) (g, w). (e ∙ ap (λ (v : Result HandFound Reason). (hand_values v).code) same ∙ sym g, f ∙ ap words_of same ∙ sym w)) r s
