-- What is tried at a rank may be laid there, on a board whose sequences lie on it.
-- Assumes nothing.
use mathlib.Core.Logic.{⊎_elim}
use mathlib.Core.Bool.{Bool, true, false}
use Prim.Native.Nat.{ℕ, ◌+◌, ◌<◌}
use native.Mathlib.Omega.{arith}
use lib.Dec.{T, ltb, lt→ltb}
use Rattle.tile.specs.Count.{bit}
use Rattle.tile.specs.Board.{Board, may_hold}
use Rattle.tile.proofs.Tests.{at_most_or_over, and_both}
use Rattle.walk.specs.Choice.{sequences_of, triplets_of, pairs_of, tiles_of}
use Rattle.walk.specs.Walk.{tried_where, choices_at}
use Rattle.walk.proofs.Choice.{choice_flat}

-- where sequences start, their three kinds are on the board and may be held
pub record Sane (b : Board) : Type 0 where
  pub inside : (i : ℕ) → T (b.starts i) → i + 2 < b.kinds
  pub first : (i : ℕ) → T (b.starts i) → T (b.held i)
  pub second : (i : ℕ) → T (b.starts i) → T (b.held (i + 1))
  pub third : (i : ℕ) → T (b.starts i) → T (b.held (i + 2))

pub starts_there : (starts held : Bool) (c : ℕ) → c < tried_where starts held → 0 < sequences_of c → T starts
starts_there true held c l z = tt
starts_there false held c l z = omega (arith, choice_flat held c l)

pub holds_there : (starts held : Bool) (c : ℕ) → (T starts → T held) → c < tried_where starts held → 0 < triplets_of c + pairs_of c → T held
unfolding bit
holds_there true held c f l z = f tt
holds_there false true c f l z = tt
holds_there false false c f l z = omega (arith, choice_flat false c l)

-- choice c may be laid at rank i: where it has tiles the rank may be held, and where it has sequences the two ranks after it
pub record Lays (b : Board) (i c : ℕ) : Type 0 where
  pub holds : 0 < tiles_of c → T (may_hold b i)
  pub runs : 0 < sequences_of c → T (may_hold b (i + 1)) × T (may_hold b (i + 2))
  pub eight : c < 8

eight_tried : (starts held : Bool) (c : ℕ) → c < tried_where starts held → c < 8
eight_tried true held c l = omega arith
eight_tried false true c l = omega arith
eight_tried false false c l = omega arith

module _ (b : Board) (sane : Sane b) (i c : ℕ) (inside : i < b.kinds) (tried : c < choices_at b i) where
  may : (j : ℕ) → j < b.kinds → T (b.held j) → T (may_hold b j)
  may j l h = and_both (ltb j b.kinds) (b.held j) (lt→ltb j b.kinds l) h

  -- the tiles of a choice are those of its sequences, or of its triplets and pairs
  held_there : 0 < tiles_of c → T (b.held i)
  held_there o =
      ⊎_elim (λ flat. holds_there (b.starts i) (b.held i) c (sane.first i) tried (omega arith))
      (λ runs. sane.first i (starts_there (b.starts i) (b.held i) c tried runs)) (at_most_or_over (sequences_of c) 0)

  pub may_lay : Lays b i c
  may_lay =
      record {
        holds = λ o. may i inside (held_there o);
        runs = λ o.
            let starts = starts_there (b.starts i) (b.held i) c tried o in
            let third = sane.inside i starts in
            (may (i + 1) (omega arith) (sane.second i starts), may (i + 2) third (sane.third i starts));
        eight = eight_tried (b.starts i) (b.held i) c tried;
      }
