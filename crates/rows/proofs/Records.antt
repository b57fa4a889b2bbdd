-- The rows as records: each answer record is the one for its hand record, and those that 01 writes out are its bytes.
-- Assumes nothing.
use mathlib.Core.Path.{◌≡◌, refl, sym, ap, subst₃, ◌∙◌}
use mathlib.Core.List.{List, [], ◌∷◌, map}
use Prim.Native.Nat.{ℕ, ◌+◌, ◌<◌}
use native.Mathlib.Omega.{arith}
use lib.ListN.{length, take, get_or, length-append}
use lib.Seq.{take_at, get_or_at, get_or-append-add}
use Rattle.tile.specs.Hand.{HandPromised}
use Rattle.std.specs.Prelude.{Ok}
use Rattle.records.specs.Record.{Answers}
use Rattle.records.specs.Record.Answers.{whole}
use Rattle.rows.specs.Rows.{Row, rows, row_at, hand_record, answer_record, written_out}
use Rattle.rows.proofs.Rows.{rows_long, rows_promised}

-- a row of 34 counts whose answer is promised
row_answered : (r : Row) → length r.counts ≡ 34 → HandPromised r.game r.melds r.counts (Ok r.answer) → Answers (hand_record r) (answer_record r)
row_answered r long promised =
    let h = r.counts in
    let last = r.melds ∷ r.game ∷ [] in
    let all : length (hand_record r) ≡ 36 = length-append h last ∙ omega arith in
    let place : 35 ≡ length h + 1 = omega arith in
    let game : get_or (hand_record r) 35 0 ≡ r.game = ap (λ (i : ℕ). get_or (hand_record r) i 0) place ∙ get_or-append-add h last 1 0 in
    let melds : get_or (hand_record r) 34 0 ≡ r.melds = get_or_at h r.melds (r.game ∷ []) 0 34 long in
    whole all (Ok r.answer)
    (subst₃ (λ (g k : ℕ) (c : List ℕ). HandPromised g k c (Ok r.answer)) (sym game) (sym melds) (sym (take_at h last 34 long)) promised) refl

pub rows_answered : (i : ℕ) → i < length rows → Answers (hand_record (row_at i)) (answer_record (row_at i))
rows_answered i l = row_answered (row_at i) (rows_long i l) (rows_promised i l)

-- 01 has ten rows marked P, and writes out the first four
pub ten_rows : length rows ≡ 10
ten_rows = refl

pub first_written : take 4 (map answer_record rows) ≡ written_out
first_written = refl
