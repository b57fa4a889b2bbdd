-- The boards of the two games are their suits side by side, and no meld crosses a seam:
-- a target of the whole game is a target of each suit, one after the other, with their pairs and melds added up.
-- Assumes nothing.
use mathlib.Core.Path.{◌≡◌, refl, sym, ap, subst₃, ◌∙◌}
use mathlib.Core.Logic.{◌↔◌}
use mathlib.Core.Bool.{Bool, true, false, not, ◌&&◌, ◌||◌, beq}
use mathlib.Core.List.{List, [], ◌∷◌}
use Prim.Native.Nat.{ℕ, ◌+◌, ◌-◌, ◌<◌}
use native.Mathlib.Omega.{arith}
use lib.ListN.{replicate}
use lib.Dec.{T, ltb, leb, eqb, ltb→lt, leb→le, eqb→eq}
use Rattle.tile.specs.Board.{Board}
use Rattle.tile.specs.Target.{Built, Target}
use Rattle.tile.specs.Target.Built.{nothing}
use Rattle.tile.specs.Suits.{suits_of, whole_of}
use Rattle.tile.proofs.Tests.{and_first, and_second, implied, equal, all_to, all_to_lem}
use Rattle.tile.proofs.Counts.{zeros_at}
use Rattle.tile.proofs.Built.{Piece, Lies, built_ind}
use Rattle.tile.proofs.Built.Piece.{two, three, run}
use Rattle.tile.proofs.Beside.{Beside, shared_as, Split, target_split, target_whole}

-- t is a target of each of the boards, one after the other
abbrev pub Row : List Board → ℕ → ℕ → List ℕ → Type 0
Row [] p m t = (p ≡ 0) × (m ≡ 0) × (t ≡ [])
Row (b ∷ bs) p m t = Split (Target b) (Row bs) p m t

-- what is left of a board behind its first n kinds
abbrev from : ℕ → Board → Board
from n b = record { kinds = b.kinds - n; held = λ i. b.held (n + i); starts = λ i. b.starts (n + i) }

-- ---- a board begins with another: a computed test

-- at kind i they are alike, and no sequence of a leaves a
abbrev alike : Board → Board → ℕ → Bool
alike a b i = beq (b.held i) (a.held i) && (beq (b.starts i) (a.starts i) && (not (a.starts i) || ltb (i + 2) a.kinds))

abbrev begins : Board → Board → Bool
begins a b = leb a.kinds b.kinds && all_to a.kinds (alike a b)

begins_beside : (a b : Board) → T (begins a b) → Beside a (from a.kinds b) b
begins_beside a b h =
    record {
      all = omega (arith, leb→le a.kinds b.kinds (and_first (leb a.kinds b.kinds) (all_to a.kinds (alike a b)) h));
      held_first = λ i l. equal (b.held i) (a.held i) (and_first (beq (b.held i) (a.held i)) (rest i) (at i l));
      held_after = λ i l. refl;
      starts_first =
          λ i l.
          equal (b.starts i) (a.starts i)
          (and_first (beq (b.starts i) (a.starts i)) (inside i) (and_second (beq (b.held i) (a.held i)) (rest i) (at i l)));
      starts_after = λ i l. refl;
      apart =
          λ i l s.
          ltb→lt (i + 2) a.kinds
          (implied (a.starts i) (ltb (i + 2) a.kinds)
          (and_second (beq (b.starts i) (a.starts i)) (inside i) (and_second (beq (b.held i) (a.held i)) (rest i) (at i l))) s);
    }
  where
    inside : ℕ → Bool
    inside i = not (a.starts i) || ltb (i + 2) a.kinds

    rest : ℕ → Bool
    rest i = beq (b.starts i) (a.starts i) && inside i

    at : (i : ℕ) → i < a.kinds → T (alike a b i)
    at = all_to_lem a.kinds (alike a b) (and_second (leb a.kinds b.kinds) (all_to a.kinds (alike a b)) h)

-- ---- boards in a row: the same test for each

abbrev in_row : List Board → Board → Bool
in_row [] b = eqb b.kinds 0
in_row (a ∷ bs) b = begins a b && in_row bs (from a.kinds b)

-- on a board without kinds nothing is built
none_lies : (b : Board) (q : Piece) → b.kinds ≡ 0 → Lies b q → ⊥
none_lies b (two i) e (l, h) = omega arith
none_lies b (three i) e (l, h) = omega arith
none_lies b (run i) e (l, h) = omega arith

bare : {b : Board} {p m : ℕ} {t : List ℕ} → b.kinds ≡ 0 → Built b p m t → Row [] p m t
bare {b} e =
    built_ind (λ p m t. Row [] p m t) (refl, refl, ap (λ (n : ℕ). replicate n 0) e) (λ p m t q f r x. absurd (none_lies b q e f))

on_bare : {b : Board} {p m : ℕ} {t : List ℕ} → b.kinds ≡ 0 → Row [] p m t → Target b p m t
on_bare {b} e (ep, em, et) =
    subst₃ (λ (p m : ℕ) (t : List ℕ). Target b p m t) (sym ep) (sym em) (ap (λ (n : ℕ). replicate n 0) e ∙ sym et)
    (record { built = nothing; few = λ i. omega (arith, zeros_at b.kinds i) })

-- the rest, said in another way
with_rest : {L R S : ℕ → ℕ → List ℕ → Type 0} {p m : ℕ} {t : List ℕ} → ((p m : ℕ) (t : List ℕ) → R p m t → S p m t) → Split L R p m t → Split L S p m t
with_rest to x =
    record { left = x.left; right = x.right; counts = x.counts; goals = shared_as (λ p m l. l) (λ p m r. to p m x.right r) x.goals }

pub in_row_lem : (bs : List Board) (b : Board) → T (in_row bs b) → (p m : ℕ) (t : List ℕ) → Target b p m t ↔ Row bs p m t
in_row_lem [] b h p m t = (λ tg. bare (eqb→eq b.kinds 0 h) tg.built, on_bare (eqb→eq b.kinds 0 h))
in_row_lem (a ∷ bs) b h p m t =
    let side = begins_beside a b (and_first (begins a b) (in_row bs (from a.kinds b)) h) in
    let rest = in_row_lem bs (from a.kinds b) (and_second (begins a b) (in_row bs (from a.kinds b)) h) in (
      λ tg. with_rest (λ p m t. (rest p m t).0) (target_split side tg),
      λ x. target_whole side (with_rest (λ p m t. (rest p m t).1) x),
    )

-- a board that is two boards in a row is the one beside the other
pub row_beside : (a c b : Board) → T (in_row (a ∷ c ∷ []) b) → Beside a c b
row_beside a c b h =
    record {
      all = omega (arith, x.all, y.all, eqb→eq (b.kinds - a.kinds - c.kinds) 0 (and_second (begins c d) (in_row [] (from c.kinds d)) rest));
      held_first = x.held_first;
      held_after = y.held_first;
      starts_first = x.starts_first;
      starts_after = y.starts_first;
      apart = x.apart;
    }
  where
    d : Board
    d = from a.kinds b

    rest : T (in_row (c ∷ []) d)
    rest = and_second (begins a b) (in_row (c ∷ []) d) h

    x : Beside a d b
    x = begins_beside a b (and_first (begins a b) (in_row (c ∷ []) d) h)

    y : Beside c (from c.kinds d) d
    y = begins_beside c d (and_first (begins c d) (in_row [] (from c.kinds d)) rest)

-- ---- the two games

pub whole_row : (three_player : Bool) (p m : ℕ) (t : List ℕ) → Target (whole_of three_player) p m t ↔ Row (suits_of three_player) p m t
whole_row false = in_row_lem (suits_of false) (whole_of false) tt
whole_row true = in_row_lem (suits_of true) (whole_of true) tt
