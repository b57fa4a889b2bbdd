-- The two sets may meet (01 "Slips"): for 1m 9m with k = 0, game 4, a row of 01's table, the number is 1 and both sets are 1m and 9m.
-- A target is then a pair, of which there are 34, so that each fact is one computed test over them.
-- Assumes nothing.
use mathlib.Core.Path.{◌≡◌, refl, sym, ap, subst, ◌∙◌}
use mathlib.Core.Bool.{Bool, not, ◌&&◌, ◌||◌}
use mathlib.Core.List.{List, ◌∷◌}
use Prim.Native.Nat.{ℕ, ◌-◌, ◌/◌, ◌%◌, ◌^◌, ◌<◌}
use native.Mathlib.Omega.{arith}
use lib.ListN.{get_or, replicate}
use lib.Dec.{T, lit<, ltb, leb, eqb, ltb→lt, lt→ltb, leb→le, eqb→eq}
use Rattle.tile.specs.Count.{more, lack_to, Has}
use Rattle.tile.specs.Board.{whole4}
use Rattle.tile.specs.Target.{Target}
use Rattle.tile.specs.Target.Built.{nothing, pair}
use Rattle.tile.specs.Answer.{Answer, Exactly}
use Rattle.tile.proofs.Tests.{and_first, and_second, implied, eq→eqb, all_to, all_to_lem}
use Rattle.tile.proofs.Counts.{more_most, zeros_at}
use Rattle.tile.proofs.Built.{Piece, put, Lies, pairs_with, melds_with, built_ind}
use Rattle.tile.proofs.Built.Piece.{two, three, run}

abbrev pub hand : List ℕ
hand = 1 ∷ 0 ∷ 0 ∷ 0 ∷ 0 ∷ 0 ∷ 0 ∷ 0 ∷ 1 ∷ replicate 25 0

-- bits 0 and 8
abbrev pub both : ℕ
both = 0x101

-- ---- the targets for no meld are the pairs

pair_of : ℕ → List ℕ
pair_of j = more (replicate 34 0) j 2

-- so far nothing is laid, or one pair
Pairs : ℕ → ℕ → List ℕ → Type 0
Pairs p m t = m ≡ 0 → (p ≡ 0 → t ≡ replicate 34 0) × (p ≡ 1 → (j : ℕ) × (j < 34) × (t ≡ pair_of j))

one_more : (p m : ℕ) (t : List ℕ) (q : Piece) → Lies whole4 q → Pairs p m t → Pairs (pairs_with q p) (melds_with q m) (put t q)
unfolding Pairs pair_of
one_more p m t (two i) (l, h) x em =
    (λ ep. absurd (omega arith), λ ep. (i, l, ap (λ (u : List ℕ). more u i 2) ((x em).0 (omega arith))))
one_more p m t (three i) f x em = absurd (omega arith)
one_more p m t (run i) f x em = absurd (omega arith)

no_pair : Pairs 0 0 (replicate 34 0)
unfolding Pairs
no_pair em = (λ ep. refl, λ ep. absurd (omega arith))

is_pair : {t : List ℕ} → Target whole4 1 0 t → (j : ℕ) × (j < 34) × (t ≡ pair_of j)
unfolding Pairs
is_pair tg = (built_ind {b = whole4} Pairs no_pair (λ p m t q f r x. one_more p m t q f x) tg.built refl).1 refl

pair_target : (j : ℕ) → j < 34 → Target whole4 1 0 (pair_of j)
unfolding pair_of
pair_target j l = record { built = pair j l tt nothing; few = λ i. omega (arith, more_most (replicate 34 0) j 2 i, zeros_at 34 i) }

-- ---- a set by computed tests

lack : ℕ → ℕ
lack j = lack_to 34 (pair_of j) hand

abbrev has : ℕ → ℕ → Bool
has s i = eqb (s / 2 ^ i % 2) 1

-- The kinds whose counts in the hand and in some pair of lack 1 are related by R, which `test` decides. Pair `to i` shows it for kind i.
module _ (R : ℕ → ℕ → Type 0) (test : ℕ → ℕ → Bool) (right : (a b : ℕ) → T (test a b) → R a b) (found : (a b : ℕ) → R a b → T (test a b))
    (to : ℕ → ℕ) where
  abbrev related : ℕ → ℕ → Bool
  related i j = test (get_or hand i 0) (get_or (pair_of j) i 0)

  -- every pair of lack 1 shows only kinds of the set
  abbrev sound_at : ℕ → ℕ → Bool
  sound_at j i = not (related i j) || has both i

  abbrev sound_for : ℕ → Bool
  sound_for j = not (eqb (lack j) 1) || all_to 34 (sound_at j)

  -- and every kind of the set is shown
  abbrev shown : ℕ → Bool
  shown i = ltb (to i) 34 && (eqb (lack (to i)) 1 && related i (to i))

  abbrev complete_for : ℕ → Bool
  complete_for i = not (has both i) || shown i

  abbrev Related : ℕ → Type 0
  Related i = (t : List ℕ) × Target whole4 1 0 t × (lack_to 34 t hand ≡ 1) × R (get_or hand i 0) (get_or t i 0)

  exact : T (all_to 34 sound_for) → T (all_to 34 complete_for) → Exactly 34 both Related
  unfolding Has lack
  exact all every = record { small = lit< tt; sound = to_target; complete = to_bit }
    where
      to_target : (i : ℕ) → i < 34 → Has both i → Related i
      to_target i l e =
          let here = implied (has both i) (shown i) (all_to_lem 34 complete_for every i l) (eq→eqb (both / 2 ^ i % 2) 1 e) in
          let last = eqb (lack (to i)) 1 && related i (to i) in
          let rest = and_second (ltb (to i) 34) last here in (
            pair_of (to i),
            pair_target (to i) (ltb→lt (to i) 34 (and_first (ltb (to i) 34) last here)),
            eqb→eq (lack (to i)) 1 (and_first (eqb (lack (to i)) 1) (related i (to i)) rest),
            right (get_or hand i 0) (get_or (pair_of (to i)) i 0) (and_second (eqb (lack (to i)) 1) (related i (to i)) rest),
          )

      to_bit : (i : ℕ) → i < 34 → Related i → Has both i
      to_bit i l (t, tg, e, r) =
          let (j, k, is) = is_pair tg in
          let one : lack j ≡ 1 = ap (λ (u : List ℕ). lack_to 34 u hand) (sym is) ∙ e in
          let here = implied (eqb (lack j) 1) (all_to 34 (sound_at j)) (all_to_lem 34 sound_for all j k) (eq→eqb (lack j) 1 one) in
          let r' = subst (λ (u : List ℕ). R (get_or hand i 0) (get_or u i 0)) is r in
          eqb→eq (both / 2 ^ i % 2) 1
          (implied (related i j) (has both i) (all_to_lem 34 (sound_at j) here i l) (found (get_or hand i 0) (get_or (pair_of j) i 0) r'))

-- ---- the answer

lacks_one : T (all_to 34 (λ j. leb 1 (lack j)))
unfolding lack pair_of more lack_to
lacks_one = tt

-- more of a kind than the hand holds only its own pair; fewer of 1m holds the pair of 9m, and the other way round
pub both_answer : Answer 34 (Target whole4 1 0) hand 1 both both
unfolding lack pair_of more lack_to
both_answer =
    record {
      number =
          record {
            some = (pair_of 0, pair_target 0 (lit< tt), refl);
            none_fewer = λ t tg. let (j, l, e) = is_pair tg in rw e (leb→le 1 (lack j) (all_to_lem 34 (λ j. leb 1 (lack j)) lacks_one j l));
          };
      necessary = exact (λ a b. a < b) ltb ltb→lt lt→ltb (λ i. i) tt tt;
      unnecessary = exact (λ a b. b < a) (λ a b. ltb b a) (λ a b. ltb→lt b a) (λ a b. lt→ltb b a) (λ i. 8 - i) tt tt;
    }
