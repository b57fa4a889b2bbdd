-- A loop that answers piece after piece, each into its own 16 bytes of a room: what stands there after n of them.
-- Assumes nothing.
use mathlib.Core.Path.{◌≡◌, refl, sym, ap, ◌∙◌}
use mathlib.Core.List.{List, [], ◌++◌, append_assoc}
use Prim.Native.Nat.{ℕ, ◌+◌, ◌-◌, ◌*◌, ◌≤◌, min}
use native.Mathlib.Omega.{arith}
use native.Mathlib.Numerals.{add-one}
use native.Mathlib.Decide.{dec_le}
use lib.ListN.{length, take, drop, length-append, length-drop}
use lib.Seq.{take_at, drop_at, drop-drop, take_all}
use borrow.Rule.Slice.PartMut.{put_mid}
use Rattle.records.specs.Record.{Answers}
use Rattle.records.specs.Many.{pieces, piece, AnswersTo, Filled}
use Rattle.records.proofs.Many.{all_long}

-- the answers of the first n pieces of h, and after them x as it was
pub record After (n : ℕ) (h x y : List ℕ) : Type 0 where
  pub answers : List ℕ
  pub each : AnswersTo n h answers
  pub whole : y ≡ answers ++ drop (n * 16) x

pub after_none : (h x : List ℕ) → After 0 h x x
unfolding AnswersTo
after_none h x = record { answers = []; each = refl; whole = refl }

-- the room keeps its length
pub after_long : (n : ℕ) (h x y : List ℕ) → n * 16 ≤ length x → After n h x y → length y ≡ length x
after_long n h x y room a =
    ap length a.whole ∙ length-append a.answers (drop (n * 16) x) ∙ omega (arith, length-drop (n * 16) x, all_long n h a.answers a.each)

-- one answer more
pub after_more : (n : ℕ) (h x y z : List ℕ) → After n h x y → Answers (piece n h) z → After (n + 1) h x (put_mid (n * 16) (n * 16 + 16 - n * 16) y z)
unfolding AnswersTo
after_more n h x y z a last =
    let long = all_long n h a.answers a.each in
    let next : (n + 1) * 16 ≡ n * 16 + 16 = omega arith in
    let part : n * 16 + 16 - n * 16 ≡ 16 = omega arith in
    record {
      answers = a.answers ++ z;
      each = rw (add-one n) (a.answers, z, a.each, last, refl);
      whole = rw (a.whole, part, take_at a.answers (drop (n * 16) x) (n * 16) long, drop_at a.answers (drop (n * 16) x) (n * 16) long, drop-drop, next)
          (sym (append_assoc a.answers z (drop (n * 16 + 16) x)));
    }

-- all pieces are answered
pub after_all : (h x y : List ℕ) → After (pieces h) h x y → Filled h x (pieces h * 16) y
after_all h x y a = record { answers = a.answers; all = a.each; count = sym (all_long (pieces h) h a.answers a.each); whole = a.whole }

-- how many bytes that is
pub filled_count : {h x y : List ℕ} {r : ℕ} → Filled h x r y → r ≡ pieces h * 16
filled_count {h} a = a.count ∙ all_long (pieces h) h a.answers a.all

-- a piece as it is lent: from its first byte to the next piece or to the end
pub piece_lent : (i e : ℕ) (h : List ℕ) → e ≡ min (i * 36 + 36) (length h) → take (e - i * 36) (drop (i * 36) h) ≡ piece i h
piece_lent i e h end = go (dec_le 36 (length (drop (i * 36) h)))
  where
    go : Dec (36 ≤ length (drop (i * 36) h)) → take (e - i * 36) (drop (i * 36) h) ≡ piece i h
    go (yes l) =
        let n : e - i * 36 ≡ 36 = omega (arith, length-drop (i * 36) h) in
        ap (λ (k : ℕ). take k (drop (i * 36) h)) n
    go (no l) =
        take_all (e - i * 36) (drop (i * 36) h) (omega (arith, length-drop (i * 36) h)) ∙ sym (take_all 36 (drop (i * 36) h) (omega arith))
