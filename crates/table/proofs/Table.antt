-- The table has the cells, and so its goals are right, on each of the three boards.
-- Assumes nothing.
use mathlib.Core.Path.{◌≡◌, refl, ap, subst, sym, ◌∙◌}
use mathlib.Core.Logic.{⊎_elim}
use mathlib.Core.List.{List, [], ◌∷◌}
use Prim.Native.Nat.{ℕ, zero, suc, ◌+◌, ◌-◌, ◌*◌, ◌/◌, ◌%◌, ◌≤◌, ◌<◌}
use native.Mathlib.Nat.{add-zero, zero-add, div-eq_of_lt-le, mul-add-mod_self_right, mod-eq_of_lt, mul-le-mul_right}
use native.Mathlib.Omega.{arith}
use lib.ListN.{length, get_or, get_or-eq_default}
use Rattle.tile.specs.Board.{Board, ranks, honours, ends}
use Rattle.tile.specs.Refusal.{most_melds, most_tiles}
use Rattle.tile.specs.Suit.{unfound, blank, Right}
use Rattle.tile.specs.Goals.{AllRight}
use Rattle.tile.specs.declared.found.Found.{Found}
use Rattle.tile.proofs.Tests.{at_most_or_over}
use Rattle.walk.specs.Choice.{sequence_table, sequences_of, pairs_of, melds_of}
use Rattle.walk.specs.Walk.{choices_at, up_to}
use Rattle.walk.proofs.Sane.{Sane}
use Rattle.walk.proofs.Choice.{choice_small}
use Rattle.walk.proofs.Right.{sane_ranks, sane_honours, sane_ends}
use Rattle.table.specs.Cell.{none, chosen, cell, result, quick}
use Rattle.table.specs.Table.{listed, goal_place, cell_place, at_place, look, table, goals}
use Rattle.table.proofs.Quick.{quick_right}

-- ---- lists

module _ {A : Type 0} (f : ℕ → A) where
  pub listed_at : (i n j : ℕ) (d : A) → j < n → get_or (listed f i n) j d ≡ f (i + j)
  unfolding listed
  listed_at i zero j d l = absurd (omega arith)
  listed_at i (suc n) zero d l = ap f (sym (add-zero i))
  listed_at i (suc n) (suc j) d l = listed_at (i + 1) n j d (omega arith) ∙ ap f (omega arith)

  pub listed_length : (i n : ℕ) → length (listed f i n) ≡ n
  unfolding listed
  listed_length i zero = refl
  listed_length i (suc n) = ap suc (listed_length (i + 1) n)

-- ---- choices

-- a choice looks at one cell of the next rank
chosen_same : (f g : ℕ → ℕ → ℕ → ℕ → Found) (k near far p m c : ℕ) (r : Found)
    → f (sequences_of c) near (p - pairs_of c) (m - melds_of c) ≡ g (sequences_of c) near (p - pairs_of c) (m - melds_of c)
    → chosen f k near far p m c r ≡ chosen g k near far p m c r
unfolding chosen
chosen_same f g k near far p m c r e = rw e

up_to_same : {f g : ℕ → Found → Found} → ((c : ℕ) (r : Found) → f c r ≡ g c r) → (n : ℕ) (r : Found) → up_to f n r ≡ up_to g n r
up_to_same same n r = ap (λ (f : ℕ → Found → Found). up_to f n r) (λ j c r. same c r j)

-- no choice begins more than two sequences
pub two_at_most : (c : ℕ) → sequences_of c ≤ 2
two_at_most c =
    ⊎_elim (λ over. omega (arith, get_or-eq_default sequence_table 0 over)) (λ under. (choice_small c under).0) (at_most_or_over 8 c)

-- ---- places

-- a state and a goal that have a place
pub record Placed (most near far p m : ℕ) : Type 0 where
  pub nears : near ≤ 2
  pub fars : far ≤ 2
  pub pairs : p ≤ 1
  pub melds : m ≤ most

module _ (most : ℕ) where
  place_over : (q m : ℕ) → m ≤ most → goal_place most q m / suc most ≡ q
  place_over q m l = div-eq_of_lt-le (suc most) (omega arith) (omega arith)

  place_rest : (q m : ℕ) → m ≤ most → goal_place most q m % suc most ≡ m
  place_rest q m l = mul-add-mod_self_right q (suc most) m ∙ mod-eq_of_lt (omega arith)

  place_below : (q m k : ℕ) → m ≤ most → q < k → goal_place most q m < k * suc most
  place_below q m k l o = omega (arith, mul-le-mul_right {m = suc q} {n = k} (suc most) o)

  -- what is listed for the states and goals stands at their places
  at_place_lem : (f : ℕ → ℕ → ℕ → ℕ → Found) (near far p m : ℕ) → Placed most near far p m
      → look most (listed (at_place most f) 0 (18 * suc most)) near far p m ≡ f near far p m
  at_place_lem f near far p m o =
      let q = (near * 3 + far) * 2 + p in
      let x1 : q / 6 ≡ near = omega (arith, o.fars, o.pairs) in
      let x2 : q / 2 % 3 ≡ far = omega (arith, o.fars, o.pairs) in
      let x3 : q % 2 ≡ p = omega (arith, o.pairs) in
      listed_at (at_place most f) 0 (18 * suc most) (cell_place most near far p m) (unfound none) (place_below q m 18 o.melds (omega arith))
      ∙ rw (zero-add, place_over q m o.melds, place_rest q m o.melds, x1, x2, x3)

  -- ---- the table

  module _ (b : Board) where
    pub table_cell : (h : List ℕ) (i near far p m : ℕ) → Placed most near far p m → look most (table most b h i) near far p m ≡ cell b h i near far p m
    unfolding table cell
    table_cell [] i near far p m o = at_place_lem (cell b [] i) near far p m o
    table_cell (k ∷ h) i near far p m o =
        at_place_lem (λ near far p m. up_to (chosen (look most (table most b h (i + 1))) k near far p m) (choices_at b i) (unfound none)) near far p m o
        ∙ up_to_same
        (λ c r.
        chosen_same (look most (table most b h (i + 1))) (cell b h (i + 1)) k near far p m c r
        (table_cell h (i + 1) (sequences_of c) near (p - pairs_of c) (m - melds_of c)
        (record { nears = two_at_most c; fars = o.nears; pairs = omega (arith, o.pairs); melds = omega (arith, o.melds) })))
        (choices_at b i) (unfound none)

    -- so the goals are what the first rank gives
    module _ (h : List ℕ) (bound : ℕ) where
      abbrev goal_of : ℕ → Found
      goal_of g = result bound (get_or (table most b h 0) g (unfound none))

      pub goals_length : length (goals most b h bound) ≡ 2 * suc most
      unfolding goals
      goals_length = listed_length goal_of 0 (2 * suc most)

      module _ (p m : ℕ) (d : Found) (one : p ≤ 1) (few : m ≤ most) where
        pub goals_at_lem : get_or (goals most b h bound) (goal_place most p m) d ≡ quick b h bound p m
        unfolding goals quick
        goals_at_lem =
            listed_at goal_of 0 (2 * suc most) (goal_place most p m) d (place_below p m 2 few (omega arith)) ∙ ap goal_of (omega arith)
            ∙ ap (result bound) (table_cell h 0 0 0 p m (record { nears = omega arith; fars = omega arith; pairs = one; melds = few }))

        pub goals_right : Sane b → b.kinds < 16 → length h ≡ b.kinds → Right b bound p m h (get_or (goals most b h bound) (goal_place most p m) d)
        goals_right sane small whole = rw goals_at_lem (quick_right b sane h whole p m one small bound)

-- ---- the ten goals

pub table_right : (b : Board) → Sane b → b.kinds < 16 → (h : List ℕ) → length h ≡ b.kinds → AllRight b h (goals most_melds b h most_tiles)
table_right b sane small h whole = record { ten = goals_length most_melds b h most_tiles; each = each }
  where
    each : (g : ℕ) → g < 10 → Right b most_tiles (g / 5) (g % 5) h (get_or (goals most_melds b h most_tiles) g blank)
    each g l =
        let e : g / 5 * 5 + g % 5 ≡ g = omega arith in
        subst (λ (j : ℕ). Right b most_tiles (g / 5) (g % 5) h (get_or (goals most_melds b h most_tiles) j blank)) e
        (goals_right most_melds b h most_tiles (g / 5) (g % 5) blank (omega arith) (omega arith) sane small whole)

module _ (h : List ℕ) where
  pub ranks_table : length h ≡ 9 → AllRight ranks h (goals most_melds ranks h most_tiles)
  ranks_table = table_right ranks sane_ranks (omega arith) h

  pub honours_table : length h ≡ 7 → AllRight honours h (goals most_melds honours h most_tiles)
  honours_table = table_right honours sane_honours (omega arith) h

  pub ends_table : length h ≡ 9 → AllRight ends h (goals most_melds ends h most_tiles)
  ends_table = table_right ends sane_ends (omega arith) h
