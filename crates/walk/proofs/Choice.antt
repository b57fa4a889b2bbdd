-- No choice is missing: whoever uses at most four tiles of a rank, with at most two sequences and at most one pair, uses one of the eight.
-- Choice 3s + 2q + p has s sequences, q triplets and p pairs; without a sequence that is one of the first three.
-- Assumes nothing.
use mathlib.Core.Path.{◌≡◌}
use mathlib.Core.Bool.{Bool, true, false, cond, not, ◌||◌}
use Prim.Native.Nat.{ℕ, ◌+◌, ◌*◌, ◌≤◌, ◌<◌}
use native.Mathlib.Omega.{arith}
use lib.Dec.{T, ltb, leb, eqb, ltb→lt, lt→ltb, leb→le, le→leb, eqb→eq}
use Rattle.tile.specs.Count.{bit}
use Rattle.tile.proofs.Tests.{implied, all_to, all_to_lem}
use Rattle.walk.specs.Choice.{sequences_of, triplets_of, pairs_of, melds_of, tiles_of}

abbrev pub choice_for : ℕ → ℕ → ℕ → ℕ
choice_for s q p = 3 * s + 2 * q + p

-- choice c has s sequences, q triplets and p pairs, and so many melds and tiles
pub record Uses (c s q p : ℕ) : Type 0 where
  pub its_sequences : sequences_of c ≡ s
  pub its_triplets : triplets_of c ≡ q
  pub its_pairs : pairs_of c ≡ p
  pub its_melds : melds_of c ≡ s + q
  pub its_tiles : tiles_of c ≡ s + 3 * q + 2 * p

-- a test of sequences, triplets and pairs, and the same for all that use at most four tiles
abbrev if_few : (ℕ → ℕ → ℕ → Bool) → ℕ → ℕ → ℕ → Bool
if_few test s q p = not (leb (s + 3 * q + 2 * p) 4) || test s q p

abbrev for_all : (ℕ → ℕ → ℕ → Bool) → Bool
for_all test = all_to 3 (λ s. all_to 2 (λ q. all_to 2 (if_few test s q)))

module _ (s q p : ℕ) (two : s ≤ 2) (one : p ≤ 1) (four : s + 3 * q + 2 * p ≤ 4) where
  at_choice : (test : ℕ → ℕ → ℕ → Bool) → T (for_all test) → T (test s q p)
  at_choice test all =
      let at-s = all_to_lem 3 (λ s. all_to 2 (λ q. all_to 2 (if_few test s q))) all s (omega arith) in
      let at-q = all_to_lem 2 (λ q. all_to 2 (if_few test s q)) at-s q (omega arith) in
      implied (leb (s + 3 * q + 2 * p) 4) (test s q p) (all_to_lem 2 (if_few test s q) at-q p (omega arith)) (le→leb (s + 3 * q + 2 * p) 4 four)

  equal_at : (f g : ℕ → ℕ → ℕ → ℕ) → T (for_all (λ s q p. eqb (f s q p) (g s q p))) → f s q p ≡ g s q p
  equal_at f g all = eqb→eq (f s q p) (g s q p) (at_choice (λ s q p. eqb (f s q p) (g s q p)) all)

  pub no_choice_missing : Uses (choice_for s q p) s q p
  no_choice_missing =
      record {
        its_sequences = equal_at (λ s q p. sequences_of (choice_for s q p)) (λ s q p. s) tt;
        its_triplets = equal_at (λ s q p. triplets_of (choice_for s q p)) (λ s q p. q) tt;
        its_pairs = equal_at (λ s q p. pairs_of (choice_for s q p)) (λ s q p. p) tt;
        its_melds = equal_at (λ s q p. melds_of (choice_for s q p)) (λ s q p. s + q) tt;
        its_tiles = equal_at (λ s q p. tiles_of (choice_for s q p)) (λ s q p. s + 3 * q + 2 * p) tt;
      }

-- the entries are small
module _ (n c : ℕ) (l : c < n) where
  most_at : (f : ℕ → ℕ) (k : ℕ) → T (all_to n (λ c. leb (f c) k)) → f c ≤ k
  most_at f k all = leb→le (f c) k (all_to_lem n (λ c. leb (f c) k) all c l)

pub choice_small : (c : ℕ) → c < 8 → (sequences_of c ≤ 2) × (triplets_of c ≤ 1) × (pairs_of c ≤ 1)
choice_small c l = (most_at 8 c l sequences_of 2 tt, most_at 8 c l triplets_of 1 tt, most_at 8 c l pairs_of 1 tt)

-- where no sequence may start: one pair or one triplet if the rank may be held, else nothing
pub choice_flat : (held : Bool) (c : ℕ) → c < cond held 3 1 → (sequences_of c ≤ 0) × (pairs_of c + melds_of c ≤ bit held)
unfolding bit
choice_flat true c l = (most_at 3 c l sequences_of 0 tt, most_at 3 c l (λ c. pairs_of c + melds_of c) 1 tt)
choice_flat false c l = (most_at 1 c l sequences_of 0 tt, most_at 1 c l (λ c. pairs_of c + melds_of c) 0 tt)

-- every choice but the first lays something
pub choice_lays : (c : ℕ) → 0 < c → c < 8 → 0 < pairs_of c + melds_of c
choice_lays c o l = ltb→lt 0 (pairs_of c + melds_of c) (implied (ltb 0 c) (ltb 0 (pairs_of c + melds_of c))
    (all_to_lem 8 (λ c. not (ltb 0 c) || ltb 0 (pairs_of c + melds_of c)) tt c l) (lt→ltb 0 c o))
