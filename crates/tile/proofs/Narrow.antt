-- A board without some kinds: its targets are the targets of the full board that hold none of these.
-- So game 3 is game 4 without 2m to 8m, and 1m/9m are nine ranks without ranks 2 to 8, as 01 says it.
-- Assumes nothing.
use mathlib.Core.Path.{◌≡◌, refl, sym, ap, subst, ◌∙◌}
use mathlib.Core.Logic.{◌↔◌, ⊎_elim, ◌≢◌}
use mathlib.Core.Bool.{Bool, not, ◌&&◌, beq}
use mathlib.Core.List.{List}
use Prim.Native.Nat.{ℕ, ◌+◌, ◌≤◌, ◌<◌}
use native.Mathlib.Omega.{arith}
use lib.ListN.{length, get_or, replicate}
use lib.Dec.{T, leb, leb→le, le→leb, T_not}
use Rattle.tile.specs.Count.{more}
use Rattle.tile.specs.Board.{Board, ranks, ends, whole4, whole3}
use Rattle.tile.specs.Target.{Built, Target}
use Rattle.tile.specs.Target.Built.{nothing}
use Rattle.tile.proofs.Tests.{passes_or_fails, and_first, and_second, and_both, equal, all_to, all_to_lem}
use Rattle.tile.proofs.Counts.{length_more, more_at, more_off, more_within, zeros_at}
use Rattle.tile.proofs.Built.{Piece, put, Lies, lay, built_ind, built_as, built_length, put_within}
use Rattle.tile.proofs.Built.Piece.{two, three, run}

-- Throughout, `out` says which kinds are left out; the others are kept.

-- the kinds that a piece is made of are all kept
abbrev Kept : (ℕ → Bool) → Piece → Type 0
Kept out (two i) = T (not (out i))
Kept out (three i) = T (not (out i))
Kept out (run i) = T (not (out i)) × T (not (out (i + 1))) × T (not (out (i + 2)))

-- t holds none of the kinds that are left out
abbrev Without : (ℕ → Bool) → List ℕ → Type 0
Without out t = (i : ℕ) → T (out i) → get_or t i 0 ≡ 0

-- c is the board b without these kinds
pub record Narrower (out : ℕ → Bool) (c b : Board) : Type 0 where
  pub all : c.kinds ≡ b.kinds
  pub held : (i : ℕ) → i < b.kinds → c.held i ≡ (b.held i && not (out i))
  pub starts : (i : ℕ) → i < b.kinds → c.starts i ≡ (b.starts i && (not (out i) && (not (out (i + 1)) && not (out (i + 2)))))

module _ (out : ℕ → Bool) where
  apart : (i j : ℕ) → T (not (out i)) → T (out j) → j ≢ i
  apart i j k o e = T_not (out i) k (subst (λ (x : ℕ). T (out x)) e o)

  -- a piece of kept kinds leaves the others as they are
  put_off : (t : List ℕ) (q : Piece) → Kept out q → (j : ℕ) → T (out j) → get_or (put t q) j 0 ≡ get_or t j 0
  put_off t (two i) k j n = more_off t i 2 j (apart i j k n)
  put_off t (three i) k j n = more_off t i 3 j (apart i j k n)
  put_off t (run i) (k, l, m) j n =
      more_off (more (more t i 1) (i + 1) 1) (i + 2) 1 j (apart (i + 2) j m n) ∙ more_off (more t i 1) (i + 1) 1 j (apart (i + 1) j l n)
      ∙ more_off t i 1 j (apart i j k n)

  -- what is held is kept
  held_kept : (t : List ℕ) (i : ℕ) → Without out t → 0 < get_or t i 0 → T (not (out i))
  held_kept t i only l = ⊎_elim (λ o. absurd (omega (arith, only i o))) (λ k. k) (passes_or_fails (out i))

  put_kept : (b : Board) (t : List ℕ) (q : Piece) → Lies b q → length t ≡ b.kinds → Without out (put t q) → Kept out q
  put_kept b t (two i) (l, h) e only = held_kept (put t (two i)) i only (omega (arith, more_at t i 2 (omega arith)))
  put_kept b t (three i) (l, h) e only = held_kept (put t (three i)) i only (omega (arith, more_at t i 3 (omega arith)))
  put_kept b t (run i) (l, h) e only =
      let u = more t i 1 in
      let v = more u (i + 1) 1 in
      let lu = length_more t i 1 in
      let lv = length_more u (i + 1) 1 in
      let w = put t (run i) in (
        held_kept w i only (omega (arith, more_at t i 1 (omega arith), more_within u (i + 1) 1 i, more_within v (i + 2) 1 i)),
        held_kept w (i + 1) only (omega (arith, more_at u (i + 1) 1 (omega arith), more_within v (i + 2) 1 (i + 1))),
        held_kept w (i + 2) only (omega (arith, more_at v (i + 2) 1 (omega arith))),
      )

  module _ {c b : Board} (less : Narrower out c b) where
    -- a kind, and a start, of c is one of b that is kept
    held_wide : (i : ℕ) → i < c.kinds → T (c.held i) → (i < b.kinds) × T (b.held i) × T (not (out i))
    held_wide i l h =
        let m : i < b.kinds = omega (arith, less.all) in
        let both = subst T (less.held i m) h in
        (m, and_first (b.held i) (not (out i)) both, and_second (b.held i) (not (out i)) both)

    held_narrow : (i : ℕ) → i < b.kinds → T (b.held i) → T (not (out i)) → (i < c.kinds) × T (c.held i)
    held_narrow i l h k = (omega (arith, less.all), subst T (sym (less.held i l)) (and_both (b.held i) (not (out i)) h k))

    -- a piece lies on c exactly where it lies on b and is made of kept kinds
    wide : (q : Piece) → Lies c q → Lies b q × Kept out q
    wide (two i) (l, h) = let (m, g, k) = held_wide i l h in ((m, g), k)
    wide (three i) (l, h) = let (m, g, k) = held_wide i l h in ((m, g), k)
    wide (run i) (l, h) =
        let m : i + 2 < b.kinds = omega (arith, less.all) in
        let last = not (out (i + 1)) && not (out (i + 2)) in
        let all = subst T (less.starts i (omega arith)) h in
        let kept = and_second (b.starts i) (not (out i) && last) all in
        let two-kept = and_second (not (out i)) last kept in (
          (m, and_first (b.starts i) (not (out i) && last) all),
          (and_first (not (out i)) last kept, and_first (not (out (i + 1))) (not (out (i + 2))) two-kept, and_second (not (out (i + 1))) (not (out (i + 2))) two-kept),
        )

    narrow : (q : Piece) → Lies b q → Kept out q → Lies c q
    narrow (two i) (l, h) k = held_narrow i l h k
    narrow (three i) (l, h) k = held_narrow i l h k
    narrow (run i) (l, h) (k, k1, k2) =
        let last = not (out (i + 1)) && not (out (i + 2)) in (
          omega (arith, less.all),
          subst T (sym (less.starts i (omega arith)))
              (and_both (b.starts i) (not (out i) && last) h (and_both (not (out i)) last k (and_both (not (out (i + 1))) (not (out (i + 2))) k1 k2))),
        )

    zeros : replicate {A = ℕ} c.kinds 0 ≡ replicate b.kinds 0
    zeros = ap (λ (n : ℕ). replicate n 0) less.all

    built_wide : {p m : ℕ} {t : List ℕ} → Built c p m t → Built b p m t × Without out t
    built_wide =
        built_ind (λ p m t. Built b p m t × Without out t) (built_as nothing refl refl (sym zeros), λ i n. zeros_at c.kinds i)
        (λ p m t q f r (x, only).
        let (g, k) = wide q f in
        (lay q g x, λ i n. put_off t q k i n ∙ only i n))

    built_narrow : {p m : ℕ} {t : List ℕ} → Built b p m t → Without out t → Built c p m t
    built_narrow =
        built_ind (λ p m t. Without out t → Built c p m t) (λ only. built_as nothing refl refl zeros)
        (λ p m t q f r x only.
        lay q (narrow q f (put_kept b t q f (built_length r) only)) (x (λ i n. omega (arith, only i n, put_within t q i))))

    pub narrow_target : {p m : ℕ} {t : List ℕ} → Target c p m t ↔ (Target b p m t × Without out t)
    narrow_target = (
      λ tg. let (x, only) = built_wide tg.built in (record { built = x; few = tg.few }, only),
      λ (tg, only). record { built = built_narrow tg.built only; few = tg.few },
    )

-- that c is narrower, by a computed test
abbrev kept : (ℕ → Bool) → (ℕ → Bool) → ℕ → Bool
kept out held i = held i && not (out i)

abbrev runs : (ℕ → Bool) → Board → ℕ → Bool
runs out b i = b.starts i && (not (out i) && (not (out (i + 1)) && not (out (i + 2))))

by_test : (out : ℕ → Bool) (c b : Board) → c.kinds ≡ b.kinds → T (all_to b.kinds (λ i. beq (c.held i) (kept out b.held i)))
    → T (all_to b.kinds (λ i. beq (c.starts i) (runs out b i))) → Narrower out c b
by_test out c b e held starts =
    record {
      all = e;
      held = λ i l. equal (c.held i) (kept out b.held i) (all_to_lem b.kinds (λ i. beq (c.held i) (kept out b.held i)) held i l);
      starts = λ i l. equal (c.starts i) (runs out b i) (all_to_lem b.kinds (λ i. beq (c.starts i) (runs out b i)) starts i l);
    }

-- ---- without index 1 to 7

abbrev inner : ℕ → Bool
inner i = leb 1 i && leb i 7

-- none of index 1 to 7 is held
abbrev pub Outer : List ℕ → Type 0
Outer t = (i : ℕ) → 1 ≤ i → i ≤ 7 → get_or t i 0 ≡ 0

module _ {c b : Board} (less : Narrower inner c b) where
  outer_target : (p m : ℕ) (t : List ℕ) → Target c p m t ↔ (Target b p m t × Outer t)
  outer_target p m t = (
    λ tg.
        let (x, none) = (narrow_target inner less).0 tg in
        (x, λ i l g. none i (and_both (leb 1 i) (leb i 7) (le→leb 1 i l) (le→leb i 7 g))),
    λ (tg, none).
        (narrow_target inner less).1
        (tg, λ i o. none i (leb→le 1 i (and_first (leb 1 i) (leb i 7) o)) (leb→le i 7 (and_second (leb 1 i) (leb i 7) o))),
  )

-- game 3 is game 4 without 2m to 8m
pub three_player : (p m : ℕ) (t : List ℕ) → Target whole3 p m t ↔ (Target whole4 p m t × Outer t)
three_player = outer_target (by_test inner whole3 whole4 refl tt tt)

-- 1m/9m are nine ranks without the inner ones
pub ends_ranks : (p m : ℕ) (t : List ℕ) → Target ends p m t ↔ (Target ranks p m t × Outer t)
ends_ranks = outer_target (by_test inner ends ranks refl tt tt)
