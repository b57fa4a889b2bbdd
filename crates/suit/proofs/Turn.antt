-- One turn of the search's loop: what the code makes of a choice is what the walk makes of it.
-- Assumes nothing.
use mathlib.Core.Path.{◌≡◌, sym, ap, subst, ◌∙◌}
use mathlib.Core.Logic.{◌⊎◌, inl, inr, ⊎_elim}
use mathlib.Core.Bool.{Bool, true, false, true≢false}
use mathlib.Core.List.{List}
use Prim.Native.Nat.{ℕ, ◌+◌, ◌-◌, ◌*◌, ◌≤◌, ◌<◌}
use native.Mathlib.Omega.{arith}
use lib.ListN.{length, get_or, set}
use borrow.Author.Tests.{le-ltb, lt-ltb, le-leb, lt-leb}
use Rattle.tile.specs.Count.{copies, more, sum_to, lack_to}
use Rattle.tile.specs.Board.{Board}
use Rattle.tile.specs.declared.found.Found.{Found}
use Rattle.tile.proofs.Tests.{at_most_or_over}
use Rattle.tile.proofs.Counts.{lack_few, lack_further, lack_end, more_off}
use Rattle.walk.specs.Choice.{sequences_of, pairs_of, melds_of, tiles_of}
use Rattle.walk.specs.Walk.{choices_at, laid, join, tried, walk}
use Rattle.walk.proofs.Choice.{choice_small}
use Rattle.walk.proofs.Leaf.{Fits}
use Rattle.walk.proofs.Sane.{Lays, may_lay}
use Rattle.walk.specs.Begun.{Begun}
use Rattle.walk.proofs.Begun.{begun_few, begun_later, may_inside, laid_next, laid_third, laid_begun, laid_sum, lack_passed, lack_whole, beyond_passed}
use Rattle.walk.proofs.Bounds.{leaf_lack}
use Rattle.walk.proofs.Room.{leaf_room}
use Rattle.walk.proofs.Steps.{over_melds, over_pairs, over_tiles, cut, entered}
use Rattle.walk.proofs.Skips.{walk_skip, walk_past, walk_done}
use Rattle.suit.specs.Choice.{choice_of}
use Rattle.suit.specs.Aim.{view_of, Small, whole_lack, worthy, counts_by, advanced_by}
use Rattle.suit.specs.Task.{Task, room_for}
use Rattle.suit.specs.Ready.{Ready}
use Rattle.suit.specs.declared.aim.Aim.{Aim}
use Rattle.suit.specs.declared.aim.View.{View}
use Rattle.suit.proofs.Stepped.{Stepped, stepped}

-- what is laid is taken from what is to be laid
on_account : (span sum sum' m m' p p' l x : ℕ) → span ≤ sum + (3 * m + 2 * p) + l → sum' ≡ sum + (3 * m' + 2 * p') → m' ≤ m → p' ≤ p
    → span + x ≤ sum' + (3 * (m - m') + 2 * (p - p')) + (l + x)
on_account span sum sum' m m' p p' l x s e f g = omega arith

-- one choice at rank i, as the walk tries it
abbrev pub turn_at : List ℕ → Task → ℕ → Aim → ℕ → Found → Found
turn_at h k i a =
    let b = k.board in
    tried b.kinds h (walk b h (b.kinds - (i + 1)) (i + 1)) i a.pairs a.melds a.counts

module _ (h : List ℕ) (k : Task) (i : ℕ) (a : Aim) (ready : Ready h k i a) where
  abbrev b : Board
  b = k.board

  abbrev t : List ℕ
  t = a.counts

  abbrev v : View
  v = view_of h i

  -- the walk from the rank after this one
  abbrev deeper : ℕ → ℕ → List ℕ → Found → Found
  deeper = walk b h (b.kinds - (i + 1)) (i + 1)

  abbrev turn : ℕ → Found → Found
  turn = turn_at h k i a

  pub steps : Stepped k i
  steps = stepped k i ready.task ready.held

  hand_sum : k.held ≡ sum_to b.kinds h
  hand_sum = ready.held_all ∙ ap (λ (n : ℕ). sum_to n h) ready.long

  pub inside : i < b.kinds
  inside = may_inside b i ready.held

  module _ (c : ℕ) (tries : c < choices_at b i) where
    abbrev u : List ℕ
    u = laid t i c

    lays : Lays b i c
    lays = may_lay b steps.sane i c inside tries

    -- no sum passes a byte
    pub small : Small a (choice_of c) v
    small =
        omega (
          arith,
          ready.begun.few i,
          ready.begun.few (i + 1),
          ready.here,
          ready.next,
          ready.lack,
          lack_few i t h (begun_few ready.begun),
          ready.small,
          choice_small c lays.eight,
          ready.few i,
          inside,
          steps.nine,
        )

    -- the lack that the code counts, where the choice goes into four tiles
    whole_there : a.here + tiles_of c ≤ copies → whole_lack a (choice_of c) v ≡ lack_to b.kinds u h
    whole_there four = omega (arith, lack_whole ready.begun c lays (omega (arith, ready.here)) h, ready.here, ready.next, ready.lack)

    next_begun : Fits a.pairs a.melds t i c → Begun b (i + 1) u
    next_begun fit = laid_begun ready.begun c lays fit.tiles

    -- the tiles that the target will have, with those that the hand has beyond it at the ranks passed
    next_span : Fits a.pairs a.melds t i c
        → a.span + (v.first - (a.here + tiles_of c)) ≤ sum_to b.kinds u + (3 * (a.melds - melds_of c) + 2 * (a.pairs - pairs_of c)) + lack_to (i + 1) h u
    next_span fit =
        rw (ready.here, beyond_passed ready.begun c lays fit.tiles h)
        (on_account a.span _ _ a.melds (melds_of c) a.pairs (pairs_of c) _ _ ready.span (laid_sum ready.begun c lays fit.tiles) fit.melds fit.pairs)

    module _ (r : Found) where
      -- the choice fits, and what it lacks is no more than was found
      pub record Worth : Type 0 where
        pub fit : Fits a.pairs a.melds t i c
        pub near : lack_to b.kinds u h ≤ r.number

      abbrev worth : Bool
      worth = worthy a (choice_of c) v k.held r.number

      abbrev Weighed : Type 0
      Weighed = ((worth ≡ false) × (turn c r ≡ r)) ⊎ ((worth ≡ true) × Worth)

      -- by the five tests in their order: where one fails, the walk passes the choice over, too
      module _ (melds : melds_of c ≤ a.melds) where
        module _ (pairs : pairs_of c ≤ a.pairs) where
          module _ (tiles : a.here + tiles_of c ≤ copies) where
            fits_there : Fits a.pairs a.melds t i c
            fits_there = record { melds = melds; pairs = pairs; tiles = omega (arith, ready.here) }

            -- it is gone into; and if all targets there lack more than was found, nothing is found there
            module _ (near : whole_lack a (choice_of c) v ≤ r.number) where
              near_there : lack_to b.kinds u h ≤ r.number
              near_there = omega (arith, whole_there tiles)

              useless : k.held + r.number < a.span + (v.first - (a.here + tiles_of c)) → turn c r ≡ r
              useless over =
                  entered b.kinds h deeper i a.pairs a.melds t c r melds pairs fits_there.tiles near_there
                  ∙ walk_skip b h (b.kinds - (i + 1)) (i + 1) (a.pairs - pairs_of c) (a.melds - melds_of c) u r
                  (λ w leaf.
                  omega (arith, leaf_lack b steps.sane h _ (i + 1) _ _ u w (omega (arith, inside)) (next_begun fits_there) leaf, next_span fits_there, hand_sum))

              by_use : Weighed
              unfolding worthy
              by_use =
                  ⊎_elim
                  (λ (useful : a.span + (v.first - (a.here + tiles_of c)) ≤ k.held + r.number).
                  inr (simp le-leb, record { fit = fits_there; near = near_there }))
                  (λ (over : k.held + r.number < a.span + (v.first - (a.here + tiles_of c))). inl (simp (le-leb, lt-leb), useless over))
                  (at_most_or_over (a.span + (v.first - (a.here + tiles_of c))) (k.held + r.number))

            by_lack : Weighed
            unfolding worthy
            by_lack =
                ⊎_elim by_use
                (λ (over : r.number < whole_lack a (choice_of c) v).
                inl (simp (le-leb, lt-leb), cut b.kinds h deeper i a.pairs a.melds t c r melds pairs fits_there.tiles (omega (arith, whole_there tiles))))
                (at_most_or_over (whole_lack a (choice_of c) v) r.number)

          by_tiles : Weighed
          unfolding worthy
          by_tiles =
              ⊎_elim by_lack
              (λ (over : copies < a.here + tiles_of c).
              inl (simp (le-leb, lt-leb), over_tiles b.kinds h deeper i a.pairs a.melds t c r melds pairs (omega (arith, ready.here))))
              (at_most_or_over (a.here + tiles_of c) copies)

        by_pairs : Weighed
        unfolding worthy
        by_pairs =
            ⊎_elim by_tiles
            (λ (over : a.pairs < pairs_of c). inl (simp (le-leb, lt-leb), over_pairs b.kinds h deeper i a.pairs a.melds t c r melds over))
            (at_most_or_over (pairs_of c) a.pairs)

      weighed : Weighed
      unfolding worthy
      weighed =
          ⊎_elim by_pairs (λ (over : a.melds < melds_of c). inl (simp lt-leb, over_melds b.kinds h deeper i a.pairs a.melds t c r over))
          (at_most_or_over (melds_of c) a.melds)

      pub passed : worth ≡ false → turn c r ≡ r
      passed e = ⊎_elim (λ (e', over). over) (λ (e', w). absurd (true≢false (sym e' ∙ e))) weighed

      pub taken : worth ≡ true → Worth
      taken e = ⊎_elim (λ (e', over). absurd (true≢false (sym e ∙ e'))) (λ (e', w). w) weighed

      -- ---- gone into

      module _ (worth : Worth) where
        goes : turn c r ≡ deeper (a.pairs - pairs_of c) (a.melds - melds_of c) u r
        goes = let fit = worth.fit in entered b.kinds h deeper i a.pairs a.melds t c r fit.melds fit.pairs fit.tiles worth.near

        -- with nothing left the target is whole
        whole_done : (a.pairs - pairs_of c) + (a.melds - melds_of c) ≡ 0 → turn c r ≡ join b.kinds h u r
        whole_done e =
            let p : a.pairs - pairs_of c ≡ 0 = omega arith in
            let m : a.melds - melds_of c ≡ 0 = omega arith in
            goes ∙ rw (p, m) (walk_done b h (b.kinds - (i + 1)) (i + 1) u r (begun_few (next_begun worth.fit)))

        -- what is left to be laid
        abbrev left : ℕ
        left = (a.pairs - pairs_of c) + (a.melds - melds_of c)

        -- too little room for it
        crowded : 0 < left → k.runs ≤ i + k.step → b.kinds < i + k.step + left → turn c r ≡ r
        crowded some flat full =
            goes ∙ walk_skip b h _ (i + 1) _ _ u r
            (λ w leaf. omega (arith, leaf_room b _ (i + 1) _ _ u w (steps.flat flat) leaf, steps.room))

        pub no_room : 0 < left → room_for k.runs b.kinds (i + k.step) left ≡ false → turn c r ≡ r
        no_room some e =
            ⊎_elim
            (λ (flat : k.runs ≤ i + k.step).
            ⊎_elim (λ (room : i + k.step + left ≤ b.kinds). absurd (true≢false (sym (simp (le-ltb, le-leb)) ∙ e))) (λ (full : b.kinds < i + k.step + left). crowded some flat full)
            (at_most_or_over (i + k.step + left) b.kinds))
            (λ (runs : i + k.step < k.runs). absurd (true≢false (sym (simp lt-ltb) ∙ e)))
            (at_most_or_over k.runs (i + k.step))

        pub room : 0 < left → room_for k.runs b.kinds (i + k.step) left ≡ true → i + k.step < b.kinds
        room some e =
            ⊎_elim
            (λ (flat : k.runs ≤ i + k.step).
            ⊎_elim (λ (room : i + k.step + left ≤ b.kinds). omega (arith))
            (λ (full : b.kinds < i + k.step + left). absurd (true≢false (sym e ∙ simp (le-ltb, lt-leb))))
            (at_most_or_over (i + k.step + left) b.kinds))
            (λ (runs : i + k.step < k.runs). omega (arith, steps.forward))
            (at_most_or_over k.runs (i + k.step))

        -- or the next rank that may be held is searched
        searched_next : i + k.step < b.kinds
            → turn c r ≡ walk b h (b.kinds - (i + k.step)) (i + k.step) (a.pairs - pairs_of c) (a.melds - melds_of c) u r
        searched_next l =
            let left : b.kinds - (i + 1) ≡ (k.step - 1) + (b.kinds - (i + k.step)) = omega (arith, steps.forward) in
            let there : i + 1 + (k.step - 1) ≡ i + k.step = omega (arith, steps.forward) in
            goes
            ∙ ap (λ (x : ℕ). walk b h x (i + 1) (a.pairs - pairs_of c) (a.melds - melds_of c) u r) left
            ∙ walk_past b h (k.step - 1) (b.kinds - (i + k.step)) (i + 1) _ _ u r (begun_few (next_begun worth.fit))
            (λ j x y. (steps.between j (omega arith) (omega (arith, steps.forward))).0)
            ∙ ap (λ (x : ℕ). walk b h (b.kinds - (i + k.step)) x (a.pairs - pairs_of c) (a.melds - melds_of c) u r) there

        -- the counts are those of the walk
        counts_laid : counts_by a i (choice_of c) ≡ u
        unfolding laid more
        counts_laid =
            let x = tiles_of c in
            let s = sequences_of c in
            let t1 = more t i x in
            let t2 = more t1 (i + 1) s in
            let e1 : a.next ≡ get_or t1 (i + 1) 0 = ready.next ∙ sym (more_off t i x (i + 1) (omega arith)) in
            let e2 : s ≡ get_or t2 (i + 2) 0 + s =
            omega (arith, more_off t1 (i + 1) s (i + 2) (omega arith), more_off t i x (i + 2) (omega arith), ready.begun.few (i + 2)) in
            ap (λ (y : ℕ). set (set (set t i (y + x)) (i + 1) (a.next + s)) (i + 2) s) ready.here
            ∙ ap (λ (y : ℕ). set (set t1 (i + 1) (y + s)) (i + 2) s) e1 ∙ ap (set t2 (i + 2)) e2

        -- up to the next rank nothing is laid; so neither is there nor after it, where the next rank is far
        module _ (l : i + k.step < b.kinds) where
          g : Begun b (i + 1) u
          g = next_begun worth.fit

          none_between : (j : ℕ) → i + 1 ≤ j → j < i + 1 + (k.step - 1) → get_or u j 0 ≡ 0
          none_between j x y = g.only j (steps.between j (omega arith) (omega (arith, steps.forward))).1

          there : i + 1 + (k.step - 1) ≡ i + k.step
          there = omega (arith, steps.forward)

          next_here : a.next + sequences_of c ≡ get_or u (i + k.step) 0
          next_here =
              ⊎_elim (λ (e : k.step ≡ 1). rw e (omega (arith, laid_next ready.begun c lays worth.fit.tiles, ready.next)))
              (λ (far : 3 ≤ k.step).
              omega (arith, laid_next ready.begun c lays worth.fit.tiles, ready.next, none_between (i + 1) (omega arith) (omega arith), g.few (i + k.step)))
              steps.far

          next_next : sequences_of c ≡ get_or u (i + k.step + 1) 0
          next_next =
              ⊎_elim
              (λ (e : k.step ≡ 1).
              let same : get_or u (i + k.step + 1) 0 ≡ get_or u (i + 2) 0 = ap (λ (j : ℕ). get_or u j 0) (omega arith) in
              omega (arith, laid_third ready.begun c lays worth.fit.tiles))
              (λ (far : 3 ≤ k.step).
              omega (arith, laid_next ready.begun c lays worth.fit.tiles, none_between (i + 1) (omega arith) (omega arith), g.few (i + k.step + 1)))
              steps.far

          next_lack : a.lack + (a.here + tiles_of c - v.first) ≡ lack_to (i + k.step) u h
          next_lack = rw (← there) (omega (arith, lack_end (i + 1) (k.step - 1) u h none_between, lack_passed ready.begun c lays worth.fit.tiles h, ready.here, ready.lack))

          further : lack_to (i + 1) h u ≤ lack_to (i + k.step) h u
          further = rw (← there) (lack_further (i + 1) (k.step - 1) h u)

          -- the aim of the code, but for its counts
          abbrev aim_with : List ℕ → Aim
          aim_with w = let x = advanced_by a i (choice_of c) v in record { counts = w; here = x.here; next = x.next; pairs = x.pairs; melds = x.melds; lack = x.lack; span = x.span }

          pub next_ready : Ready h k (i + k.step) (advanced_by a i (choice_of c) v)
          next_ready =
              subst (λ (w : List ℕ). Ready h k (i + k.step) (aim_with w)) (sym counts_laid)
              (record {
                task = ready.task;
                held_all = ready.held_all;
                long = ready.long;
                few = ready.few;
                held = steps.after l;
                begun = begun_later (i + k.step) (omega (arith, steps.forward)) g;
                here = next_here;
                next = next_next;
                lack = next_lack;
                span = omega (arith, next_span worth.fit, further);
                small = omega (arith, ready.small, ready.few i, steps.forward);
              })

        -- ---- the same in the code's words

        abbrev next : Aim
        next = advanced_by a i (choice_of c) v

        pub joins : (b.kinds ≤ 9) × (length h ≡ b.kinds) × (whole_lack a (choice_of c) v ≡ lack_to b.kinds next.counts h)
        joins =
            rw counts_laid (steps.nine, ready.long, whole_there (omega (arith, ready.here, worth.fit.tiles)))

        pub ends : left ≡ 0 → turn c r ≡ join b.kinds h next.counts r
        ends e = rw counts_laid (whole_done e)

        pub searches : i + k.step < b.kinds → turn c r ≡ walk b h (b.kinds - (i + k.step)) (i + k.step) next.pairs next.melds next.counts r
        searches l = rw counts_laid (searched_next l)
