-- The places of the suits are where their targets lie: 34 counts are a target of the whole game exactly when, cut at the places,
-- they are a target of each suit, and the pairs and melds of these add up (01 "Merge": the parts at 0, 9, 18 and 27).
-- Assumes nothing.
use mathlib.Core.Path.{◌≡◌, refl, sym, ap, subst, ◌∙◌}
use mathlib.Core.Logic.{◌↔◌}
use mathlib.Core.Bool.{Bool, true, false}
use mathlib.Core.List.{List, [], ◌∷◌, ◌++◌}
use Prim.Native.Nat.{ℕ, ◌+◌}
use native.Mathlib.Omega.{arith}
use lib.ListN.{length, take, drop, take-append-drop, drop_of_length-le}
use lib.Seq.{take_at, drop_at, drop-drop}
use Rattle.tile.specs.declared.suits.Place.{Place}
use Rattle.tile.specs.Board.{Board}
use Rattle.tile.specs.Target.{Target}
use Rattle.tile.specs.Suits.{suits_of, whole_of, places_from}
use Rattle.tile.proofs.Built.{built_length}
use Rattle.tile.proofs.Beside.{Shared, shared_as}
use Rattle.tile.proofs.Whole.{Row, whole_row}

abbrev pub part_at : Place → List ℕ → List ℕ
part_at place t = take place.length (drop place.offset t)

-- the part of t at each place is a target of its suit
abbrev pub Cut : List Board → List Place → List ℕ → ℕ → ℕ → Type 0
Cut [] [] t p m = (p ≡ 0) × (m ≡ 0)
Cut [] (place ∷ places) t p m = ⊥
Cut (b ∷ bs) [] t p m = ⊥
Cut (b ∷ bs) (place ∷ places) t p m = Shared (λ p m. Target b p m (part_at place t)) (Cut bs places t) p m

-- how many kinds the boards have in all
abbrev total : List Board → ℕ
total [] = 0
total (b ∷ bs) = b.kinds + total bs

module _ (t : List ℕ) where
  to_cut : (bs : List Board) (at p m : ℕ) → Row bs p m (drop at t) → Cut bs (places_from at bs) t p m
  to_cut [] at p m (ep, em, et) = (ep, em)
  to_cut (b ∷ bs) at p m row =
      let len = built_length row.goals.first.built in
      let left : take b.kinds (drop at t) ≡ row.left = ap (take b.kinds) row.counts ∙ take_at row.left row.right b.kinds len in
      let right : drop (at + b.kinds) t ≡ row.right =
      sym (drop-drop b.kinds at t) ∙ ap (drop b.kinds) row.counts ∙ drop_at row.left row.right b.kinds len in
      shared_as (λ p m x. subst (λ (u : List ℕ). Target b p m u) (sym left) x)
      (λ p m x. to_cut bs (at + b.kinds) p m (subst (λ (u : List ℕ). Row bs p m u) (sym right) x)) row.goals

  from_cut : (bs : List Board) (at p m : ℕ) → length t ≡ at + total bs → Cut bs (places_from at bs) t p m → Row bs p m (drop at t)
  from_cut [] at p m e (ep, em) = (ep, em, drop_of_length-le t {i = at} (omega arith))
  from_cut (b ∷ bs) at p m e cut =
      record {
        left = take b.kinds (drop at t);
        right = drop (at + b.kinds) t;
        counts = sym (take-append-drop b.kinds (drop at t)) ∙ ap (λ (u : List ℕ). take b.kinds (drop at t) ++ u) (drop-drop b.kinds at t);
        goals = shared_as (λ p m x. x) (λ p m x. from_cut bs (at + b.kinds) p m (omega arith) x) cut;
      }

row_cut : (bs : List Board) (b : Board) (p m : ℕ) (t : List ℕ) → b.kinds ≡ total bs → Target b p m t ↔ Row bs p m t
    → Target b p m t ↔ ((length t ≡ b.kinds) × Cut bs (places_from 0 bs) t p m)
row_cut bs b p m t e same = (
  λ tg. (built_length tg.built, to_cut t bs 0 p m (same.0 tg)),
  λ (len, cut). same.1 (from_cut t bs 0 p m (omega arith) cut),
)

pub whole_cut : (three_player : Bool) (p m : ℕ) (t : List ℕ)
    → Target (whole_of three_player) p m t ↔ ((length t ≡ 34) × Cut (suits_of three_player) (places_from 0 (suits_of three_player)) t p m)
whole_cut false p m t = row_cut (suits_of false) (whole_of false) p m t refl (whole_row false p m t)
whole_cut true p m t = row_cut (suits_of true) (whole_of true) p m t refl (whole_row true p m t)

-- the places are the same in both games
pub same_places : places_from 0 (suits_of true) ≡ places_from 0 (suits_of false)
same_places = refl
