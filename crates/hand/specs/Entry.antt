-- An entry: the ten goals as a list of answers in words, as the code has them. The goals stand in 01's order: 0 to 4 are no pair and 0 to 4 melds,
-- 5 to 9 one pair.
-- Assumes nothing.
use Rattle.std.specs.Prelude.{◌≡◌, List, ℕ, ◌+◌, ◌^◌, ◌≤◌, ◌<◌, length, get_or}
use Rattle.tile.specs.Suit.{blank}
use Rattle.tile.specs.declared.found.Found.{Found}
use Rattle.merge.specs.declared.Merged.{Merged}
use Rattle.hand.specs.declared.packed.Packed.{Packed}
use Rattle.hand.specs.Words.{packed, meets, meet_to, sum_at}

abbrev pub nothing : Packed
nothing = record { necessary = 0; unnecessary = 0 }

-- the goals without a pair, and those with one, by their melds
abbrev pub bare_at : List Packed → ℕ → Packed
bare_at e m = get_or e m nothing

abbrev pub paired_at : List Packed → ℕ → Packed
paired_at e m = get_or e (5 + m) nothing

-- the entry e gives, for each of the ten goals, what f does
pub record Entry (f : ℕ → ℕ → Merged) (e : List Packed) : Type 0 where
  pub bare : (m : ℕ) → m < 5 → bare_at e m ≡ packed (f 0 m)
  pub paired : (m : ℕ) → m < 5 → paired_at e m ≡ packed (f 1 m)
  pub ten : length e ≡ 10

-- For fewer than n melds r is merged from the entries a and c, word by word. A pair lies in the second part or in the first.
pub record MergedTo (n : ℕ) (a c r : List Packed) : Type 0 where
  pub bare : (m : ℕ) → m < n → bare_at r m ≡ meet_to (sum_at (bare_at a) (bare_at c) m) m
  pub paired : (m : ℕ) → m < n
      → paired_at r m ≡ meets (meet_to (sum_at (bare_at a) (paired_at c) m) m) (meet_to (sum_at (paired_at a) (bare_at c) m) m)
  pub ten : length r ≡ 10

-- a word with room for the sum with another such
pub record Light (x : Packed) : Type 0 where
  pub necessary : x.necessary < 2 ^ 62
  pub unnecessary : x.unnecessary < 2 ^ 62

pub record AllLight (e : List Packed) : Type 0 where
  pub each : (g : ℕ) → Light (get_or e g nothing)

-- the answers of a suit: no number above that of the most tiles of a hand, and sets of nine kinds
pub record Low (e : List Found) : Type 0 where
  pub number : (g : ℕ) → (get_or e g blank).number ≤ 14
  pub necessary : (g : ℕ) → (get_or e g blank).necessary < 2 ^ 9
  pub unnecessary : (g : ℕ) → (get_or e g blank).unnecessary < 2 ^ 9

pub record AllLow (m p s z : List Found) : Type 0 where
  pub in_m : Low m
  pub in_p : Low p
  pub in_s : Low s
  pub in_z : Low z
