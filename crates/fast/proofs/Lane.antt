-- The words of a row are the cells of its state: choice by choice.
-- Assumes nothing.
use mathlib.Core.Path.{◌≡◌, ap, ap₂, ◌∙◌}
use mathlib.Core.Logic.{⊎_elim}
use mathlib.Core.Bool.{Bool, true, false, cond, not, ◌&&◌}
use mathlib.Core.List.{List}
use Prim.Native.Nat.{ℕ, zero, suc, ◌+◌, ◌-◌, ◌*◌, ◌/◌, ◌^◌, ◌≤◌, ◌<◌}
use native.Mathlib.Nat.{zero-add}
use native.Mathlib.Omega.{arith}
use lib.ListN.{length, get_or, replicate, get_or-replicate, get_or-eq_default}
use lib.Dec.{T, ltb, leb, eqb, leb→le, nleb→lt, ltb→lt, eqb→eq}
use lib.Bits.{or_lt}
use Rattle.tile.specs.Count.{copies}
use Rattle.tile.specs.Suit.{unfound}
use Rattle.tile.specs.declared.found.Found.{Found}
use Rattle.tile.proofs.Tests.{by_test, and_first, and_second, at_most_or_over}
use Rattle.walk.specs.Choice.{sequences_of, pairs_of, melds_of}
use Rattle.walk.specs.Walk.{up_to}
use Rattle.walk.proofs.Choice.{choice_small}
use Rattle.table.specs.Cell.{none, meet, onto, tiles_with, chosen}
use Rattle.table.specs.Meet.{meet_word}
use Rattle.table.proofs.Meet.{meet_lower}
use Rattle.table.proofs.Table.{listed_at, listed_length}
use Rattle.fast.specs.Word.{word, none_word, over, meet18, add_word, adds_of}
use Rattle.fast.specs.Row.{Low, LowAdds, wide, stride, row_place, joined_row, choice_row, chosen_row, best_row}
use Rattle.fast.proofs.Fold.{all_keep}
use Rattle.fast.proofs.Places.{replicate_low}
use Rattle.fast.proofs.Small.{Small, small_choices, onto_bits}
use Rattle.fast.proofs.Word.{Fit, bits_fit, word_number, meet_word_lem, onto_word}

-- the array of a rank i: beside its rows stands `over`, and in the rows of the first states the cells of F, whose sets have n bits
pub record Holds (i n nears fars : ℕ) (F : ℕ → ℕ → ℕ → ℕ → Found) (cells : List ℕ) : Type 0 where
  pub beside : (q x : ℕ) → q < 18 → x < 2 → get_or cells (stride * q + x) 0 ≡ over
  pub small : (near far p m : ℕ) → Small n (F near far p m)
  pub words : (near far p m : ℕ) → near < nears → far < fars → p < 2 → m < wide → get_or cells (row_place near far p + m) 0 ≡ word (2 ^ i) (F near far p m)

joined_at : (row next : List ℕ) (from add m : ℕ) → m < wide → get_or (joined_row row next from add) m 0 ≡ meet18 (get_or row m 0) (get_or next (from + m) 0 + add)
unfolding joined_row
joined_at row next from add m l =
    listed_at (λ m. meet18 (get_or row m 0) (get_or next (from + m) 0 + add)) 0 wide m 0 l
    ∙ ap (λ (k : ℕ). meet18 (get_or row k 0) (get_or next (from + k) 0 + add)) (zero-add m)

joined_length : (row next : List ℕ) (from add : ℕ) → length (joined_row row next from add) ≡ wide
unfolding joined_row
joined_length row next from add = listed_length (λ m. meet18 (get_or row m 0) (get_or next (from + m) 0 + add)) 0 wide

adds_at : (k u x : ℕ) → x ≤ copies → get_or (adds_of k u) x 0 ≡ add_word k x u
adds_at k u x l = listed_at (λ x. add_word k x u) 0 (suc copies) x 0 (omega arith) ∙ ap (λ (y : ℕ). add_word k y u) (zero-add x)

add_low : (k u x : ℕ) → u ≤ 256 → x ≤ copies → add_word k x u < 2097152
unfolding add_word
add_low k u x few four = by_test Few (ltb k x) (λ t. omega arith) (λ t. by_test Few (ltb x k) (λ z. omega arith) (λ z. omega arith))
  where
    Few : ℕ → Type 0
    Few w = w < 2097152

pub adds_low : (k u : ℕ) → u ≤ 256 → LowAdds (adds_of k u)
adds_low k u few =
    record {
      most = λ x.
          ⊎_elim (λ over. omega (arith, past x over)) (λ under. rw (adds_at k u x (omega arith)) (add_low k u x few (omega arith)))
          (at_most_or_over (suc copies) x);
    }
  where
    past : (x : ℕ) → suc copies ≤ x → get_or (adds_of k u) x 0 ≡ 0
    past x over = get_or-eq_default (adds_of k u) 0 (rw (listed_length (λ x. add_word k x u) 0 (suc copies)) over)

-- a test for the whole row, and one for the lane
lane_test : (test melds : Bool) (u m : ℕ) (R row : List ℕ) (x r : Found) → (T test → T melds → get_or R m 0 ≡ word u x)
    → (T test → T (not melds) → get_or R m 0 ≡ word u r) → get_or row m 0 ≡ word u r → get_or (cond test R row) m 0 ≡ word u (cond (melds && test) x r)
lane_test true true u m R row x r met passed kept = met tt tt
lane_test true false u m R row x r met passed kept = passed tt tt
lane_test false true u m R row x r met passed kept = kept
lane_test false false u m R row x r met passed kept = kept

module _ (i n : ℕ) (few : n + suc i ≤ 9) {nears fars : ℕ} (F : ℕ → ℕ → ℕ → ℕ → Found) (next : List ℕ) (o : Holds (suc i) n nears fars F next)
    (k near far p m : ℕ) (one : near < fars) (two : near ≤ 2) (pair : p < 2) (meld : m < wide) where
  module _ (c : ℕ) (eight : c < 8) (begun : sequences_of c < nears) (row : List ℕ) (r : Found) (s : Small (suc n) r) (here : get_or row m 0 ≡ word (2 ^ i) r) where
    abbrev from : ℕ
    from = row_place (sequences_of c) near (p - pairs_of c) - melds_of c

    abbrev add : ℕ
    add = get_or (adds_of k (2 ^ i)) (tiles_with near far c) 0

    fit : Fit (2 ^ i) r
    fit = bits_fit i (omega arith) s.bits

    -- the melds are there: the cell of the next rank
    met : tiles_with near far c ≤ copies → pairs_of c ≤ p → melds_of c ≤ m
        → let x = F (sequences_of c) near (p - pairs_of c) (m - melds_of c) in
        meet18 (get_or row m 0) (get_or next (from + m) 0 + add) ≡ word (2 ^ i) (meet r (onto k (tiles_with near far c) x))
    met four fits there =
        let x = F (sequences_of c) near (p - pairs_of c) (m - melds_of c) in
        let tiles = tiles_with near far c in
        let place : from + m ≡ row_place (sequences_of c) near (p - pairs_of c) + (m - melds_of c) = omega (arith, choice_small c eight) in
        ap₂ meet18 here
        (ap₂ ◌+◌ (ap (λ (j : ℕ). get_or next j 0) place ∙ o.words _ _ _ _ begun one (omega arith) (omega arith)) (adds_at k (2 ^ i) tiles four)
        ∙ onto_word i k tiles x)
        ∙ meet_word_lem i r (onto k tiles x) fit (bits_fit i (omega arith) (onto_bits F o.small k near far p m tiles _ _ _))

    -- they are not: what stands before the row
    passed : tiles_with near far c ≤ copies → m < melds_of c → meet18 (get_or row m 0) (get_or next (from + m) 0 + add) ≡ word (2 ^ i) r
    passed four short =
        let q = 6 * sequences_of c + 2 * near + (p - pairs_of c) in
        let place : from + m ≡ stride * q + (2 + m - melds_of c) = omega (arith, choice_small c eight) in
        let w : get_or next (from + m) 0 ≡ over =
        ap (λ (j : ℕ). get_or next j 0) place ∙ o.beside q (2 + m - melds_of c) (omega (arith, choice_small c eight)) (omega arith) in
        ap₂ meet18 here (ap (λ (v : ℕ). v + add) w) ∙ meet_lower 18 (word (2 ^ i) r) (over + add) (omega (arith, word_number fit, s.number))

    lane : get_or (chosen_row next (adds_of k (2 ^ i)) near far p c row) m 0 ≡ word (2 ^ i) (chosen F k near far p m c r)
    unfolding choice_row chosen
    lane =
        let fits = leb (pairs_of c) p in
        let four = leb (tiles_with near far c) copies in
        let within : T (fits && four) → tiles_with near far c ≤ copies = λ t. leb→le (tiles_with near far c) copies (and_second fits four t) in
        let R = joined_row row next from add in
        lane_test (fits && four) (leb (melds_of c) m) (2 ^ i) m R row _ r
        (λ t there. joined_at row next from add m meld ∙ met (within t) (leb→le (pairs_of c) p (and_first fits four t)) (leb→le (melds_of c) m there))
        (λ t short. joined_at row next from add m meld ∙ passed (within t) (nleb→lt (melds_of c) m short)) here

  -- the choices one after the other
  pub best_lane : (tries : ℕ) → tries ≤ 8 → ((c : ℕ) → c < tries → sequences_of c < nears)
      → get_or (best_row next (adds_of k (2 ^ i)) tries near far p) m 0 ≡ word (2 ^ i) (up_to (chosen F k near far p m) tries (unfound none))
  unfolding best_row up_to word
  best_lane zero l begun = get_or-replicate wide m none_word 0 meld ∙ omega arith
  best_lane (suc c) l begun =
      lane c l (begun c (omega arith)) _ _ (small_choices F o.small k near far p m c) (best_lane c (omega arith) (λ d z. begun d (omega arith)))

-- ---- every word of a row is small

meet_low : (x y : ℕ) → x < 67108864 → meet18 x y < 67108864
unfolding meet_word
meet_low x y l =
    by_test Few (eqb (x / 262144) (y / 262144)) (λ e. or_lt 26 x y l (omega (arith, eqb→eq (x / 262144) (y / 262144) e)))
    (λ t. by_test Few (ltb y x) (λ less. omega (arith, ltb→lt y x less)) (λ z. l))
  where
    Few : ℕ → Type 0
    Few v = v < 67108864

joined_low : (row next : List ℕ) (from add : ℕ) → Low row → Low (joined_row row next from add)
joined_low row next from add o =
    record {
      most = λ m.
          ⊎_elim (λ out. omega (arith, past m out)) (λ inside. rw (joined_at row next from add m inside) (meet_low (get_or row m 0) _ (o.most m)))
          (at_most_or_over wide m);
    }
  where
    past : (m : ℕ) → wide ≤ m → get_or (joined_row row next from add) m 0 ≡ 0
    past m out = get_or-eq_default (joined_row row next from add) 0 (rw (joined_length row next from add) out)

choice_low : (next adds : List ℕ) (near far p s q d : ℕ) (row : List ℕ) → Low row → Low (choice_row next adds near far p s q d row)
unfolding choice_row
choice_low next adds near far p s q d row o =
    let n = far + near + (s + 3 * q + 2 * d) in
    by_test Low (leb d p && leb n copies) (λ fit. joined_low row next (row_place s near (p - d) - (s + q)) (get_or adds n 0) o) (λ t. o)

pub best_low : (next adds : List ℕ) (n near far p : ℕ) → Low (best_row next adds n near far p)
unfolding best_row
best_low next adds n near far p =
    all_keep (chosen_row next adds near far p) Low (λ c. choice_low next adds near far p _ _ _) n (replicate wide none_word)
    (replicate_low wide none_word (omega arith))
