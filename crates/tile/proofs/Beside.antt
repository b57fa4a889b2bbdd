-- Boards side by side: what is built on the whole is what is built on the parts, one after the other, and so are its targets.
-- Assumes nothing.
use mathlib.Core.Path.{◌≡◌, refl, sym, ap, subst, subst₃, ◌∙◌}
use mathlib.Core.Logic.{◌⊎◌, inl, inr, ⊎_elim}
use mathlib.Core.List.{List, ◌++◌}
use Prim.Native.Nat.{ℕ, ◌+◌, ◌-◌, ◌<◌}
use native.Mathlib.Omega.{arith}
use lib.ListN.{replicate, length-replicate, replicate-append-replicate}
use lib.Dec.{T}
use Rattle.tile.specs.Count.{Few}
use Rattle.tile.specs.Board.{Board}
use Rattle.tile.specs.Target.{Built, Target}
use Rattle.tile.specs.Target.Built.{nothing}
use Rattle.tile.proofs.Tests.{at_most_or_over}
use Rattle.tile.proofs.Append.{few_left, few_right, few_join}
use Rattle.tile.proofs.Built.{Piece, put, Lies, pairs_with, melds_with, later, lay, built_ind, built_as, built_length, put_left, put_right}
use Rattle.tile.proofs.Built.Piece.{two, three, run}

-- b is a followed by c; no sequence starts in a and ends in c
pub record Beside (a c b : Board) : Type 0 where
  pub all : b.kinds ≡ a.kinds + c.kinds
  pub held_first : (i : ℕ) → i < a.kinds → b.held i ≡ a.held i
  pub held_after : (i : ℕ) → i < c.kinds → b.held (a.kinds + i) ≡ c.held i
  pub starts_first : (i : ℕ) → i < a.kinds → b.starts i ≡ a.starts i
  pub starts_after : (i : ℕ) → i < c.kinds → b.starts (a.kinds + i) ≡ c.starts i
  pub apart : (i : ℕ) → i < a.kinds → T (a.starts i) → i + 2 < a.kinds

-- p pairs and m melds shared out: some of them for L, the rest for R
pub record Shared (L R : ℕ → ℕ → Type 0) (p m : ℕ) : Type 0 where
  pub p1 : ℕ
  pub p2 : ℕ
  pub m1 : ℕ
  pub m2 : ℕ
  pub pairs_all : p1 + p2 ≡ p
  pub melds_all : m1 + m2 ≡ m
  pub first : L p1 m1
  pub rest : R p2 m2

pub shared_as : {L R L' R' : ℕ → ℕ → Type 0} {p m : ℕ} → ((p m : ℕ) → L p m → L' p m) → ((p m : ℕ) → R p m → R' p m) → Shared L R p m → Shared L' R' p m
shared_as on-first on-rest x =
    record {
      p1 = x.p1;
      p2 = x.p2;
      m1 = x.m1;
      m2 = x.m2;
      pairs_all = x.pairs_all;
      melds_all = x.melds_all;
      first = on-first x.p1 x.m1 x.first;
      rest = on-rest x.p2 x.m2 x.rest;
    }

-- and the counts t with them: first those for L, then those for R
pub record Split (L R : ℕ → ℕ → List ℕ → Type 0) (p m : ℕ) (t : List ℕ) : Type 0 where
  pub left : List ℕ
  pub right : List ℕ
  pub counts : t ≡ left ++ right
  pub goals : Shared (λ p m. L p m left) (λ p m. R p m right) p m

-- a piece more on one side is a piece more
left_pairs : (q : Piece) (x y : ℕ) → pairs_with q x + y ≡ pairs_with q (x + y)
left_pairs (two i) x y = omega arith
left_pairs (three i) x y = refl
left_pairs (run i) x y = refl

left_melds : (q : Piece) (x y : ℕ) → melds_with q x + y ≡ melds_with q (x + y)
left_melds (two i) x y = refl
left_melds (three i) x y = omega arith
left_melds (run i) x y = omega arith

right_pairs : (k : ℕ) (q : Piece) (x y : ℕ) → x + pairs_with q y ≡ pairs_with (later k q) (x + y)
right_pairs k (two i) x y = omega arith
right_pairs k (three i) x y = refl
right_pairs k (run i) x y = refl

right_melds : (k : ℕ) (q : Piece) (x y : ℕ) → x + melds_with q y ≡ melds_with (later k q) (x + y)
right_melds k (two i) x y = refl
right_melds k (three i) x y = omega arith
right_melds k (run i) x y = omega arith

module _ {a c b : Board} (side : Beside a c b) where
  -- ---- a piece lies on b exactly where it lies on a, or on c and so many kinds later

  lies_left : (q : Piece) → Lies a q → Lies b q
  lies_left (two i) (l, h) = (omega (arith, side.all), subst T (sym (side.held_first i l)) h)
  lies_left (three i) (l, h) = (omega (arith, side.all), subst T (sym (side.held_first i l)) h)
  lies_left (run i) (l, h) = (omega (arith, side.all), subst T (sym (side.starts_first i (omega arith))) h)

  lies_right : (q : Piece) → Lies c q → Lies b (later a.kinds q)
  lies_right (two i) (l, h) = (omega (arith, side.all), subst T (sym (side.held_after i l)) h)
  lies_right (three i) (l, h) = (omega (arith, side.all), subst T (sym (side.held_after i l)) h)
  lies_right (run i) (l, h) = (omega (arith, side.all), subst T (sym (side.starts_after i (omega arith))) h)

  -- kind i of b is kind i of a, or a later one of c
  place : (i : ℕ) → i < b.kinds → (i < a.kinds) ⊎ ((j : ℕ) × (i ≡ a.kinds + j) × (j < c.kinds))
  place i l =
      ⊎_elim (λ over. inr (i - a.kinds, omega arith, omega (arith, side.all))) (λ under. inl under) (at_most_or_over a.kinds i)

  held_where : (i : ℕ) → i < b.kinds → T (b.held i)
      → ((i < a.kinds) × T (a.held i)) ⊎ ((j : ℕ) × (i ≡ a.kinds + j) × ((j < c.kinds) × T (c.held j)))
  held_where i l h =
      ⊎_elim (λ under. inl (under, subst T (side.held_first i under) h))
      (λ (j, e, less). inr (j, e, (less, subst T (ap b.held e ∙ side.held_after j less) h))) (place i l)

  Where : Piece → Type 0
  Where q = Lies a q ⊎ ((j : Piece) × (q ≡ later a.kinds j) × Lies c j)

  lies_where : (q : Piece) → Lies b q → Where q
  unfolding Where
  lies_where (two i) (l, h) = ⊎_elim (λ on-a. inl on-a) (λ (j, e, on-c). inr (two j, ap two e, on-c)) (held_where i l h)
  lies_where (three i) (l, h) = ⊎_elim (λ on-a. inl on-a) (λ (j, e, on-c). inr (three j, ap three e, on-c)) (held_where i l h)
  lies_where (run i) (l, h) =
      ⊎_elim (λ under. let s = subst T (side.starts_first i under) h in inl (side.apart i under s, s))
      (λ (j, e, less). inr (run j, ap run e, (omega (arith, side.all), subst T (ap b.starts e ∙ side.starts_after j less) h)))
      (place i (omega arith))

  -- ---- what is built on b, in two parts

  abbrev Parts : ℕ → ℕ → List ℕ → Type 0
  Parts = Split (Built a) (Built c)

  zeros : replicate {A = ℕ} b.kinds 0 ≡ replicate a.kinds 0 ++ replicate c.kinds 0
  zeros = ap (λ (n : ℕ). replicate n 0) side.all ∙ sym (replicate-append-replicate a.kinds c.kinds 0)

  none : Parts 0 0 (replicate b.kinds 0)
  none =
      record {
        left = replicate a.kinds 0;
        right = replicate c.kinds 0;
        counts = zeros;
        goals = record { p1 = 0; p2 = 0; m1 = 0; m2 = 0; pairs_all = refl; melds_all = refl; first = nothing; rest = nothing };
      }

  one_left : {p m : ℕ} {t : List ℕ} (q : Piece) → Lies a q → Parts p m t → Parts (pairs_with q p) (melds_with q m) (put t q)
  one_left q f x =
      let g = x.goals in
      record {
        left = put x.left q;
        right = x.right;
        counts = ap (λ (t : List ℕ). put t q) x.counts ∙ put_left a x.left x.right q f (built_length g.first);
        goals =
            record {
              p1 = pairs_with q g.p1;
              p2 = g.p2;
              m1 = melds_with q g.m1;
              m2 = g.m2;
              pairs_all = left_pairs q g.p1 g.p2 ∙ ap (pairs_with q) g.pairs_all;
              melds_all = left_melds q g.m1 g.m2 ∙ ap (melds_with q) g.melds_all;
              first = lay q f g.first;
              rest = g.rest;
            };
      }

  one_right : {p m : ℕ} {t : List ℕ} (q : Piece) → Lies c q → Parts p m t
      → Parts (pairs_with (later a.kinds q) p) (melds_with (later a.kinds q) m) (put t (later a.kinds q))
  one_right q f x =
      let q' = later a.kinds q in
      let g = x.goals in
      record {
        left = x.left;
        right = put x.right q;
        counts = ap (λ (t : List ℕ). put t q') x.counts ∙ put_right a.kinds x.left x.right q (built_length g.first);
        goals =
            record {
              p1 = g.p1;
              p2 = pairs_with q g.p2;
              m1 = g.m1;
              m2 = melds_with q g.m2;
              pairs_all = right_pairs a.kinds q g.p1 g.p2 ∙ ap (pairs_with q') g.pairs_all;
              melds_all = right_melds a.kinds q g.m1 g.m2 ∙ ap (melds_with q') g.melds_all;
              first = g.first;
              rest = lay q f g.rest;
            };
      }

  pub built_split : {p m : ℕ} {t : List ℕ} → Built b p m t → Split (Built a) (Built c) p m t
  unfolding Where
  built_split =
      built_ind Parts none
      (λ p m t q f r x.
      ⊎_elim (λ l. one_left q l x)
      (λ w. subst (λ (q : Piece). Parts (pairs_with q p) (melds_with q m) (put t q)) (sym w.1) (one_right w.0 w.2 x)) (lies_where q f))

  -- ---- and back

  after : {p m : ℕ} {r : List ℕ} → Built c p m r → Built b (0 + p) (0 + m) (replicate a.kinds 0 ++ r)
  after =
      built_ind (λ p m r. Built b (0 + p) (0 + m) (replicate a.kinds 0 ++ r)) (built_as nothing refl refl zeros)
      (λ p m t q f r x.
      built_as (lay (later a.kinds q) (lies_right q f) x) (sym (right_pairs a.kinds q 0 p)) (sym (right_melds a.kinds q 0 m))
      (put_right a.kinds (replicate a.kinds 0) t q (length-replicate a.kinds 0)))

  pub built_join : {p1 m1 p2 m2 : ℕ} {l r : List ℕ} → Built a p1 m1 l → Built c p2 m2 r → Built b (p1 + p2) (m1 + m2) (l ++ r)
  built_join {p2 = p2} {m2 = m2} {r = r} x y =
      built_ind (λ p m l. Built b (p + p2) (m + m2) (l ++ r)) (after y)
      (λ p m t q f s z.
      built_as (lay q (lies_left q f) z) (sym (left_pairs q p p2)) (sym (left_melds q m m2)) (put_left a t r q f (built_length s))) x

  -- ---- the same of targets

  pub target_split : {p m : ℕ} {t : List ℕ} → Target b p m t → Split (Target a) (Target c) p m t
  target_split tg =
      let x = built_split tg.built in
      let few : Few (x.left ++ x.right) = subst Few x.counts tg.few in
      record {
        left = x.left;
        right = x.right;
        counts = x.counts;
        goals = shared_as (λ p m r. record { built = r; few = few_left x.left x.right few })
            (λ p m r. record { built = r; few = few_right x.left x.right few }) x.goals;
      }

  pub target_join : {p1 m1 p2 m2 : ℕ} {l r : List ℕ} → Target a p1 m1 l → Target c p2 m2 r → Target b (p1 + p2) (m1 + m2) (l ++ r)
  target_join {l = l} {r = r} x y = record { built = built_join x.built y.built; few = few_join l r x.few y.few }

  pub target_whole : {p m : ℕ} {t : List ℕ} → Split (Target a) (Target c) p m t → Target b p m t
  target_whole x =
      subst₃ (λ (p m : ℕ) (t : List ℕ). Target b p m t) x.goals.pairs_all x.goals.melds_all (sym x.counts)
      (target_join x.goals.first x.goals.rest)
