-- Entries: what merging words gives for answers, what is in an entry's words, and the goals of a suit.
-- Assumes nothing.
use mathlib.Core.Path.{◌≡◌, refl, sym, ap, ap₂, subst, ◌∙◌}
use mathlib.Core.Logic.{⊎_elim}
use mathlib.Core.List.{List}
use Prim.Native.Nat.{ℕ, ◌+◌, ◌-◌, ◌^◌, ◌≤◌, ◌<◌}
use native.Mathlib.Omega.{arith}
use lib.Pow.{pow_mono}
use lib.ListN.{length, get_or, get_or-eq_default}
use Rattle.tile.specs.Board.{Board}
use Rattle.tile.specs.Suit.{blank}
use Rattle.tile.specs.Goals.{AllRight}
use Rattle.tile.specs.declared.found.Found.{Found}
use Rattle.tile.proofs.Tests.{at_most_or_over}
use Rattle.tile.proofs.Suit.{right_number, right_small}
use Rattle.merge.specs.declared.Merged.{Merged}
use Rattle.hand.specs.declared.packed.Packed.{Packed}
use Rattle.merge.specs.Merge.{better, best_to, shared, merged, lifted, suit_at, hand_merged}
use Rattle.hand.specs.Words.{packed, sum, meets, meet_to, sum_at}
use Rattle.hand.specs.Entry.{nothing, paired_at, Entry, MergedTo, Light, AllLight, Low, AllLow}
use Rattle.hand.proofs.Below.{Below, AllBelow, below_wider, below_best, shared_below, merged_below, suit_below}
use Rattle.hand.proofs.Packing.{packed_better, packed_beside, packed_best, unpack, unpacked}

-- the entry e gives what f does, with numbers and sets that are no larger than this
pub record Part (i x : ℕ) (f : ℕ → ℕ → Merged) (e : List Packed) : Type 0 where
  pub entry : Entry f e
  pub below : AllBelow i x f

-- ---- two parts merged

-- a goal without a pair shares out melds alone; with one, the pair lies in the second part or in the first
module _ (A C : ℕ → ℕ → Merged) (m : ℕ) where
  no_pair : merged A C 0 m ≡ best_to (shared (A 0) (C 0) m) m
  unfolding merged best_to
  no_pair = refl

  one_pair : merged A C 1 m ≡ better (best_to (shared (A 0) (C 1) m) m) (best_to (shared (A 1) (C 0) m) m)
  unfolding merged best_to
  one_pair = refl

-- the words of what is merged so far, with sets below bit i, merged with those of the suit that lies there
module _ {i x : ℕ} {A : ℕ → ℕ → Merged} (below : AllBelow i x A) {e : List Found} (low : Low e) (fits : 9 + i ≤ 36) where
  small : (p q m j : ℕ) → Below 36 (x + 14) (shared (A p) (suit_at i e q) m j)
  small p q m j = below_wider fits (omega arith) (shared_below below low p q m j)

  -- with p pairs in the first part and q in the second
  shares : {f g : ℕ → Packed} (p q m : ℕ) → m < 5 → ((j : ℕ) → j < 5 → f j ≡ packed (A p j)) → ((j : ℕ) → j < 5 → g j ≡ packed (suit_at i e q j))
      → meet_to (sum_at f g m) m ≡ packed (best_to (shared (A p) (suit_at i e q) m) m)
  unfolding suit_at
  shares p q m l first second =
      packed_best (shared (A p) (suit_at i e q) m) _ m
      (λ j k. ap₂ sum (first j (omega arith)) (second (m - j) (omega arith)) ∙ sym (packed_beside _ (below.each p j))) (small p q m)

  pub part_merged : {a c r : List Packed} → Entry A a → Entry (suit_at i e) c → MergedTo 5 a c r → Part (9 + i) (x + 14) (merged A (suit_at i e)) r
  part_merged first second words =
      record {
        below = merged_below below low;
        entry =
            record {
              ten = words.ten;
              bare = λ m l. words.bare m l ∙ shares 0 0 m l first.bare second.bare ∙ ap packed (sym (no_pair A (suit_at i e) m));
              paired = λ m l.
                  words.paired m l
                  ∙ ap₂ meets (shares 0 1 m l first.bare second.paired) (shares 1 0 m l first.paired second.bare)
                  ∙ sym (packed_better (below_best _ m (small 0 1 m)) (below_best _ m (small 1 0 m)))
                  ∙ ap packed (sym (one_pair A (suit_at i e) m));
            };
      }

-- words of numbers of at most 100 have room for a sum
light : {x : ℕ} (r : Merged) → x ≤ 100 → Below 36 x r → Light (packed r)
unfolding packed
light r most p = record { necessary = omega (arith, p.number, p.necessary); unnecessary = omega (arith, p.number, p.unnecessary) }

pub part_light : {i x : ℕ} {f : ℕ → ℕ → Merged} {e : List Packed} → i ≤ 36 → x ≤ 100 → Part i x f e → AllLight e
part_light {i} {x} {f} {e} fits most part = record { each = each }
  where
    entry : Entry f e
    entry = part.entry

    goal : (p m : ℕ) → Light (packed (f p m))
    goal p m = light (f p m) most (below_wider fits (omega arith) (part.below.each p m))

    each : (g : ℕ) → Light (get_or e g nothing)
    each g =
        ⊎_elim (λ bare. subst Light (sym (entry.bare g (omega arith))) (goal 0 g))
        (λ over.
        ⊎_elim
        (λ paired.
        let same : 5 + (g - 5) ≡ g = omega arith in
        subst (λ (j : ℕ). Light (get_or e j nothing)) same (subst Light (sym (entry.paired (g - 5) (omega arith))) (goal 1 (g - 5))))
        (λ past. rw (get_or-eq_default e nothing {n = g} (omega (arith, entry.ten))) (record { necessary = omega arith; unnecessary = omega arith }))
        (at_most_or_over g 9))
        (at_most_or_over g 4)

-- ---- one suit

-- no number above 14, and no kind beyond those of the board, of which there are nine at most
pub suit_low : {b : Board} {h : List ℕ} {e : List Found} → b.kinds ≤ 9 → AllRight b h e → Low e
suit_low {b} {h} {e} narrow all = record { number = λ g. (low g).0; necessary = λ g. (low g).1; unnecessary = λ g. (low g).2 }
  where
    low : (g : ℕ) → ((get_or e g blank).number ≤ 14) × ((get_or e g blank).necessary < 2 ^ 9) × ((get_or e g blank).unnecessary < 2 ^ 9)
    low g =
        ⊎_elim
        (λ under.
        let right = all.each g (omega arith) in
        let (n, u) = right_small right in
        (right_number (omega arith) right, omega (arith, pow_mono {i = b.kinds} {j = 9} narrow), omega (arith, pow_mono {i = b.kinds} {j = 9} narrow)))
        (λ over. rw (get_or-eq_default e blank {n = g} (omega (arith, all.ten))) (omega arith, omega arith, omega arith)) (at_most_or_over g 9)

-- the ten goals in words, one after the other
pub suit_entry : (n : ℕ) (e : List Found) {r : List Packed} → length r ≡ 10 → ((g : ℕ) → g < 10 → get_or r g nothing ≡ packed (lifted n (get_or e g blank)))
    → Entry (suit_at n e) r
unfolding suit_at
suit_entry n e ten each =
    record {
      bare = λ m l. each m (omega arith) ∙ ap (λ (g : ℕ). packed (lifted n (get_or e g blank))) (omega arith);
      paired = λ m l. each (5 + m) (omega arith);
      ten = ten;
    }

pub suit_part : (i : ℕ) {e : List Found} {r : List Packed} → Low e → Entry (suit_at i e) r → Part (9 + i) 14 (suit_at i e) r
suit_part i low entry = record { entry = entry; below = suit_below i low }

-- ---- the suits of a hand, one after the other

module _ {m p s z : List Found} (low : AllLow m p s z) where
  pub hand_below : (k : ℕ) → Below 36 56 (hand_merged m p s z k)
  unfolding hand_merged
  hand_below k = (merged_below (merged_below (merged_below (suit_below 0 low.in_m) low.in_p) low.in_s) low.in_z).each 1 k

  module _ {a b ab : List Packed} (in_m : Entry (suit_at 0 m) a) (in_p : Entry (suit_at 9 p) b) (two : MergedTo 5 a b ab) where
    pub in_mp : Part 18 28 (merged (suit_at 0 m) (suit_at 9 p)) ab
    in_mp = part_merged (suit_below 0 low.in_m) low.in_p (omega arith) in_m in_p two

    module _ {c abc : List Packed} (in_s : Entry (suit_at 18 s) c) (three : MergedTo 5 ab c abc) where
      pub in_mps : Part 27 42 (merged (merged (suit_at 0 m) (suit_at 9 p)) (suit_at 18 s)) abc
      in_mps = part_merged in_mp.below low.in_s (omega arith) in_mp.entry in_s three

      pub in_hand : {d abcd : List Packed} {k : ℕ} → Entry (suit_at 27 z) d → MergedTo 5 abc d abcd → k ≤ 4
          → unpack (paired_at abcd k) ≡ hand_merged m p s z k
      unfolding hand_merged
      in_hand {k = k} in_z four l =
          unpacked (hand_below k) ((part_merged in_mps.below low.in_z (omega arith) in_mps.entry in_z four).entry.paired k (omega arith))
