-- A target on its way, one choice later: what is laid then, how much of it is lacked, and how many tiles it has.
-- Assumes nothing.
use mathlib.Core.Path.{◌≡◌, refl, ap, ◌∙◌}
use mathlib.Core.Logic.{⊎_elim}
use mathlib.Core.List.{List}
use Prim.Native.Nat.{ℕ, zero, suc, ◌+◌, ◌-◌, ◌*◌, ◌≤◌, ◌<◌}
use native.Mathlib.Omega.{arith}
use lib.ListN.{length, get_or, replicate, length-replicate}
use lib.Dec.{T, ltb, ltb→lt}
use Rattle.tile.specs.Count.{copies, Few, more, sum_to, lack_to}
use Rattle.tile.specs.Board.{Board, may_hold}
use Rattle.tile.proofs.Tests.{at_most_or_over, and_first}
use Rattle.tile.proofs.Counts.{length_more, zeros_at, sum_there, lack_as, lack_end, lack_next}
use Rattle.walk.specs.Choice.{sequences_of, pairs_of, melds_of, tiles_of}
use Rattle.walk.specs.Walk.{laid}
use Rattle.walk.specs.Begun.{Begun}
use Rattle.walk.proofs.Choice.{choice_small}
use Rattle.walk.proofs.Sane.{Lays}
use Rattle.walk.proofs.Spread.{spread, spread_at, spread_next, spread_third, spread_beyond, spread_earlier, spread_length}

-- where j lies, seen from rank i
data Seen (i j : ℕ) : Type 0 where
  before : j < i → Seen i j
  here : j ≡ i → Seen i j
  next : j ≡ i + 1 → Seen i j
  third : j ≡ i + 2 → Seen i j
  beyond : i + 2 < j → Seen i j

seen : (i j : ℕ) → Seen i j
seen zero zero = here refl
seen zero (suc zero) = next refl
seen zero (suc (suc zero)) = third refl
seen zero (suc (suc (suc j))) = beyond (omega arith)
seen (suc i) zero = before (omega arith)
seen (suc i) (suc j) = go (seen i j)
  where
    go : Seen i j → Seen (suc i) (suc j)
    go (before l) = before (omega arith)
    go (here e) = here (omega arith)
    go (next e) = next (omega arith)
    go (third e) = third (omega arith)
    go (beyond l) = beyond (omega arith)

pub may_inside : (b : Board) (j : ℕ) → T (may_hold b j) → j < b.kinds
may_inside b j x = ltb→lt j b.kinds (and_first (ltb j b.kinds) (b.held j) x)

-- with nothing laid the way begins
pub zeros_begun : (b : Board) (w : ℕ) → b.kinds ≤ w → Begun b 0 (replicate w 0)
zeros_begun b w l = record { few = λ j. omega (arith, zeros_at w j); only = λ j barred. zeros_at w j; long = omega (arith, length-replicate w zero) }

-- what is on the way to a rank is on the way to any later rank
pub begun_later : {b : Board} {i : ℕ} {t : List ℕ} (j : ℕ) → i ≤ j → Begun b i t → Begun b j t
begun_later j l g = record { few = λ x. omega (arith, g.few x); only = g.only; long = g.long }

pub begun_few : {b : Board} {i : ℕ} {t : List ℕ} → Begun b i t → Few t
begun_few g j = omega (arith, g.few j)

-- ---- one choice laid

module _ {b : Board} {i : ℕ} {t : List ℕ} (g : Begun b i t) (c : ℕ) (o : Lays b i c) (fit : get_or t i 0 + tiles_of c ≤ copies) where
  abbrev u : List ℕ
  u = laid t i c

  fit_in : (k : ℕ) → T (may_hold b k) → k < length t
  fit_in k x = omega (arith, g.long, may_inside b k x)

  at : get_or u i 0 ≡ get_or t i 0 + tiles_of c
  unfolding laid spread
  at = spread_at t i (tiles_of c) (sequences_of c) (λ z. fit_in i (o.holds z))

  pub laid_next : get_or u (i + 1) 0 ≡ get_or t (i + 1) 0 + sequences_of c
  unfolding laid spread
  laid_next = spread_next t i (tiles_of c) (sequences_of c) (λ z. fit_in (i + 1) (o.runs z).0)

  pub laid_third : get_or u (i + 2) 0 ≡ sequences_of c
  unfolding laid spread
  laid_third = omega (arith, g.few (i + 2), spread_third t i (tiles_of c) (sequences_of c) (λ z. fit_in (i + 2) (o.runs z).1))

  u_few : (j : ℕ) → get_or u j 0 ≤ copies - 2 * (j - (i + 1))
  unfolding laid spread
  u_few j = go (seen i j)
    where
      go : Seen i j → get_or u j 0 ≤ copies - 2 * (j - (i + 1))
      go (before l) = omega (arith, spread_earlier t i (tiles_of c) (sequences_of c) j l, g.few j)
      go (here e) = rw e (omega (arith, at))
      go (next e) = rw e (omega (arith, laid_next, g.few (i + 1), choice_small c o.eight))
      go (third e) = rw e (omega (arith, laid_third, choice_small c o.eight))
      go (beyond l) = omega (arith, spread_beyond t i (tiles_of c) (sequences_of c) j l, g.few j)

  u_only : (j : ℕ) → (T (may_hold b j) → ⊥) → get_or u j 0 ≡ 0
  unfolding laid spread
  u_only j barred = go (seen i j)
    where
      lays_none : (x k : ℕ) → j ≡ k → (0 < x → T (may_hold b k)) → x ≡ 0
      lays_none x k e may = ⊎_elim (λ none. omega arith) (λ some. absurd (barred (rw e (may some)))) (at_most_or_over x 0)

      go : Seen i j → get_or u j 0 ≡ 0
      go (before l) = spread_earlier t i (tiles_of c) (sequences_of c) j l ∙ g.only j barred
      go (here e) = rw e (omega (arith, at, lays_none (tiles_of c) i e o.holds, g.only i (rw e at barred)))
      go (next e) = rw e (omega (arith, laid_next, lays_none (sequences_of c) (i + 1) e (λ z. (o.runs z).0), g.only (i + 1) (rw e at barred)))
      go (third e) = rw e (omega (arith, laid_third, lays_none (sequences_of c) (i + 2) e (λ z. (o.runs z).1)))
      go (beyond l) = spread_beyond t i (tiles_of c) (sequences_of c) j l ∙ g.only j barred

  -- the way goes on
  pub laid_begun : Begun b (i + 1) u
  unfolding laid spread
  laid_begun = record { few = u_few; only = u_only; long = omega (arith, spread_length t i (tiles_of c) (sequences_of c), g.long) }

  -- the lack at the ranks passed, and of the whole
  module _ (h : List ℕ) where
    pub lack_passed : lack_to (i + 1) u h ≡ lack_to i t h + (get_or t i 0 + tiles_of c - get_or h i 0)
    unfolding laid spread
    lack_passed = omega (arith, lack_next i u h, at, lack_as i u t h h (spread_earlier t i (tiles_of c) (sequences_of c)) (λ j l. refl))

    pub lack_whole : lack_to b.kinds u h
        ≡ lack_to i t h + (get_or t i 0 + tiles_of c - get_or h i 0) + (get_or t (i + 1) 0 + sequences_of c - get_or h (i + 1) 0) + (sequences_of c - get_or h (i + 2) 0)
    lack_whole =
        let end : lack_to (b.kinds + (i + 3)) u h ≡ lack_to b.kinds u h =
        lack_end b.kinds (i + 3) u h (λ j l z. u_only j (λ x. omega (arith, may_inside b j x))) in
        let near : lack_to (i + 3 + b.kinds) u h ≡ lack_to (i + 3) u h = lack_end (i + 3) b.kinds u h (λ j l z. omega (arith, u_few j)) in
        let same : lack_to (b.kinds + (i + 3)) u h ≡ lack_to (i + 3 + b.kinds) u h = ap (λ (k : ℕ). lack_to k u h) (omega arith) in
        let two : lack_to (i + 2) u h ≡ lack_to (i + 1 + 1) u h = ap (λ (k : ℕ). lack_to k u h) (omega arith) in
        let three : lack_to (i + 3) u h ≡ lack_to (i + 2 + 1) u h = ap (λ (k : ℕ). lack_to k u h) (omega arith) in
        omega (arith, lack_passed, lack_next (i + 1) u h, lack_next (i + 2) u h, laid_next, laid_third)

    -- what the hand has beyond the target at the ranks passed
    pub beyond_passed : lack_to (i + 1) h u ≡ lack_to i h t + (get_or h i 0 - (get_or t i 0 + tiles_of c))
    unfolding laid spread
    beyond_passed = omega (arith, lack_next i h u, at, lack_as i h h u t (λ j l. refl) (spread_earlier t i (tiles_of c) (sequences_of c)))

  -- its tiles
  pub laid_sum : sum_to b.kinds u ≡ sum_to b.kinds t + (3 * melds_of c + 2 * pairs_of c)
  unfolding laid
  laid_sum =
      let v = more t i (tiles_of c) in
      let w = more v (i + 1) (sequences_of c) in
      omega (
        arith,
        sum_there b.kinds t i (tiles_of c) (λ z. may_inside b i (o.holds z)) g.long,
        sum_there b.kinds v (i + 1) (sequences_of c) (λ z. may_inside b (i + 1) (o.runs z).0) (omega (arith, length_more t i (tiles_of c), g.long)),
        sum_there b.kinds w (i + 2) (sequences_of c) (λ z. may_inside b (i + 2) (o.runs z).1)
            (omega (arith, length_more t i (tiles_of c), length_more v (i + 1) (sequences_of c), g.long)),
      )
