-- From rank to rank: an array that holds the cells of one rank gives that of the rank before, and at last the ten goals.
-- Assumes nothing.
use mathlib.Core.Path.{◌≡◌, sym, ap, subst, ◌∙◌}
use mathlib.Core.Bool.{Bool, true, false, cond}
use mathlib.Core.List.{List, []}
use Prim.Native.Nat.{ℕ, zero, suc, ◌/◌, ◌%◌, ◌^◌, ◌≤◌, ◌<◌}
use native.Mathlib.Omega.{arith}
use lib.ListN.{length, get_or, replicate, get_or-replicate, drop, length-drop}
use lib.Seq.{drop-cons, drop-length}
use lib.Dec.{eqb, eqb-suc-zero}
use Rattle.tile.proofs.Tests.{by_test}
use Rattle.tile.specs.Board.{Board}
use Rattle.tile.specs.Refusal.{most_melds, most_tiles}
use Rattle.tile.specs.Suit.{unfound, blank, Right}
use Rattle.tile.specs.Goals.{AllRight}
use Rattle.tile.specs.declared.found.Found.{Found}
use Rattle.walk.specs.Choice.{sequences_of}
use Rattle.walk.specs.Walk.{tried_where, choices_at, up_to}
use Rattle.walk.proofs.Sane.{Sane}
use Rattle.walk.proofs.Choice.{choice_flat}
use Rattle.table.specs.Cell.{none, chosen, cell, result, quick}
use Rattle.table.proofs.Quick.{quick_right}
use Rattle.table.proofs.Table.{two_at_most}
use Rattle.fast.specs.Word.{word, none_word, adds_of, opened_word}
use Rattle.fast.specs.Row.{Low, wide, best_row}
use Rattle.fast.specs.Fill.{filled, end_row}
use Rattle.fast.specs.State.{nears_at, fars_at}
use Rattle.fast.specs.Goals.{Opened}
use Rattle.fast.proofs.Small.{cell_small}
use Rattle.fast.proofs.Word.{bits_fit, opened_word_lem}
use Rattle.fast.proofs.Places.{cons_low, replicate_low, row_at, beside_at, filled_low}
use Rattle.fast.proofs.Lane.{Holds, best_lane, best_low}

-- ---- states

pub nears_few : (b : Board) (i : ℕ) → nears_at b i ≤ 3
nears_few b zero = omega arith
nears_few b (suc i) = few (b.starts i)
  where
    few : (starts : Bool) → cond starts 3 1 ≤ 3
    few true = omega arith
    few false = omega arith

pub fars_few : (b : Board) (i : ℕ) → fars_at b i ≤ 3
fars_few b zero = omega arith
fars_few b (suc i) = nears_few b i

-- a choice leads to a state that there can be
onward : (starts held : Bool) (c : ℕ) → c < tried_where starts held → sequences_of c < cond starts 3 1
onward true held c l = omega (arith, two_at_most c)
onward false held c l = omega (arith, choice_flat held c l)

tries_few : (starts held : Bool) → tried_where starts held ≤ 8
tries_few true held = omega arith
tries_few false true = omega arith
tries_few false false = omega arith

-- ---- every word is low

end_low : (near far p : ℕ) → Low (end_row near far p)
end_low near far p =
    by_test Low (eqb p 0) (λ t. cons_low 0 (replicate most_melds none_word) (omega arith) (replicate_low most_melds none_word (omega arith)))
    (λ t. replicate_low wide none_word (omega arith))

pub low_end : Low (filled end_row 1 1)
low_end = filled_low end_row 1 1 (omega arith) (omega arith) end_low

pub low_before : (next adds : List ℕ) (n nears fars : ℕ) → nears ≤ 3 → fars ≤ 3 → Low (filled (best_row next adds n) nears fars)
low_before next adds n nears fars few too = filled_low (best_row next adds n) nears fars few too (best_low next adds n)

-- ---- ranks

-- the array holds the cells of rank i
pub record Reached (b : Board) (h : List ℕ) (i : ℕ) (cells : List ℕ) : Type 0 where
  pub holds : Holds i (length (drop i h)) (nears_at b i) (fars_at b i) (cell b (drop i h) i) cells

module _ (b : Board) (h : List ℕ) where
  end_word : (i near far p m : ℕ) → p < 2 → m < wide → get_or (end_row near far p) m 0 ≡ word (2 ^ i) (cell b [] i near far p m)
  unfolding word cell
  end_word i near far zero zero l k = omega arith
  end_word i near far zero (suc m) l k = rw eqb-suc-zero (get_or-replicate most_melds m none_word 0 (omega arith) ∙ omega arith)
  end_word i near far (suc p) m l k = rw eqb-suc-zero (get_or-replicate wide m none_word 0 k ∙ omega arith)

  -- past the last rank
  pub reached_end : nears_at b (length h) ≤ 1 → fars_at b (length h) ≤ 1 → Reached b h (length h) (filled end_row 1 1)
  reached_end one too =
      record {
        holds = record {
          beside = beside_at end_row 1 1 (omega arith) (omega arith);
          small = cell_small b (drop (length h) h) (length h);
          words = λ near far p m a e q l.
              row_at end_row 1 1 (omega arith) (omega arith) near far p m (omega arith) (omega arith) q l ∙ end_word (length h) near far p m q l
              ∙ ap (λ (x : List ℕ). word (2 ^ length h) (cell b x (length h) near far p m)) (sym (drop-length h));
        };
      }

  -- one rank
  module _ (i : ℕ) (inside : i < length h) (few : length h ≤ 9) (next : List ℕ) (o : Reached b h (suc i) next) where
    abbrev rows : ℕ → ℕ → ℕ → List ℕ
    rows = best_row next (adds_of (get_or h i 0) (2 ^ i)) (choices_at b i)

    best_word : (near far p m : ℕ) → near < nears_at b i → p < 2 → m < wide → get_or (rows near far p) m 0 ≡ word (2 ^ i) (cell b (drop i h) i near far p m)
    unfolding cell
    best_word near far p m a q l =
        best_lane i (length (drop (suc i) h)) (omega (arith, length-drop (suc i) h)) (cell b (drop (suc i) h) (suc i)) next o.holds
        (get_or h i 0) near far p m a (omega (arith, nears_few b i)) q l (choices_at b i) (tries_few (b.starts i) (b.held i)) (onward (b.starts i) (b.held i))
        ∙ ap (λ (j : ℕ). word (2 ^ i) (up_to (chosen (cell b (drop (suc i) h) j) (get_or h i 0) near far p m) (choices_at b i) (unfound none))) (omega arith)
        ∙ ap (λ (x : List ℕ). word (2 ^ i) (cell b x i near far p m)) (sym (drop-cons h i 0 inside))

    pub reached_before : Reached b h i (filled rows (nears_at b i) (fars_at b i))
    reached_before =
        record {
          holds = record {
            beside = beside_at rows (nears_at b i) (fars_at b i) (nears_few b i) (fars_few b i);
            small = cell_small b (drop i h) i;
            words = λ near far p m a e q l.
                row_at rows (nears_at b i) (fars_at b i) (nears_few b i) (fars_few b i) near far p m a e q l ∙ best_word near far p m a q l;
          };
        }

  -- ---- the goals

  module _ (sane : Sane b) (whole : length h ≡ b.kinds) (few : length h ≤ 9) (cells : List ℕ) (r : List Found) (o : Reached b h 0 cells)
      (opened : Opened cells r) where
    goal_right : (g : ℕ) → g < 10 → Right b most_tiles (g / 5) (g % 5) h (get_or r g blank)
    unfolding quick
    goal_right g l =
        let p = g / 5 in
        let m = g % 5 in
        let e : get_or r g blank ≡ result most_tiles (cell b h 0 0 0 p m) =
        opened.each g l ∙ ap (opened_word most_tiles) (o.holds.words 0 0 p m (omega arith) (omega arith) (omega arith) (omega arith))
        ∙ opened_word_lem most_tiles (cell b h 0 0 0 p m) (bits_fit 0 (omega arith) (cell_small b h 0 0 0 p m).bits) in
        subst (Right b most_tiles p m h) (sym e) (quick_right b sane h whole p m (omega arith) (omega arith) most_tiles)

    pub reached_goals : AllRight b h r
    reached_goals = record { ten = opened.ten; each = goal_right }
