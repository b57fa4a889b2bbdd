-- The merge (01 "Merge"): from the answers of two parts of the tiles those of both together, number and both sets at once.
-- What a part gives for p pairs and m melds is a function of p and m.
-- Assumes nothing.
use Rattle.std.specs.Prelude.{cond, List, ℕ, zero, suc, ◌+◌, ◌-◌, ◌*◌, ◌^◌, get_or, ltb}
use Rattle.std.specs.Int.Bits.{bit_or}
use Rattle.tile.specs.Suit.{blank}
use Rattle.tile.specs.declared.found.Found.{Found}
use Rattle.merge.specs.declared.Merged.{Merged}

-- one part's answer beside another's: the numbers add up, and each set has the tiles of both, those of an idle part too
unfoldable pub beside : Merged → Merged → Merged
beside a c =
    record { number = a.number + c.number; necessary = bit_or a.necessary c.necessary; unnecessary = bit_or a.unnecessary c.unnecessary }

-- of two answers the one with the smaller number; where the numbers are equal, the tiles of both (`update_min` of the Rust source)
unfoldable pub better : Merged → Merged → Merged
better a c =
    cond (ltb a.number c.number) a
    (cond (ltb c.number a.number) c
    (record { number = a.number; necessary = bit_or a.necessary c.necessary; unnecessary = bit_or a.unnecessary c.unnecessary }))

-- the best of f 0 to f n
unfoldable pub best_to : (ℕ → Merged) → ℕ → Merged
best_to f zero = f 0
best_to f (suc n) = better (best_to f n) (f (suc n))

-- one way to share out m melds, where A and C are what two parts give for each number of melds: j to the first part, the rest to the second
abbrev pub shared : (ℕ → Merged) → (ℕ → Merged) → ℕ → ℕ → Merged
shared A C m j = beside (A j) (C (m - j))

-- two parts for p pairs and m melds: the best of all ways to share out both, q of the pairs to the first part
unfoldable pub merged : (ℕ → ℕ → Merged) → (ℕ → ℕ → Merged) → ℕ → ℕ → Merged
merged A C p m = best_to (λ q. best_to (shared (A q) (C (p - q)) m) m) p

-- a suit's answer where the suit's first kind is tile n
unfoldable pub lifted : ℕ → Found → Merged
lifted n r = record { number = r.number; necessary = r.necessary * 2 ^ n; unnecessary = r.unnecessary * 2 ^ n }

-- its ten goals: goal 5p + m is p pairs and m melds
unfoldable pub suit_at : ℕ → List Found → ℕ → ℕ → Merged
suit_at n e p m = lifted n (get_or e (5 * p + m) blank)

-- the suits in the order m, p, s, z; what a hand with k melds asks for is one pair and k melds
unfoldable pub hand_merged : List Found → List Found → List Found → List Found → ℕ → Merged
hand_merged m p s z k = merged (merged (merged (suit_at 0 m) (suit_at 9 p)) (suit_at 18 s)) (suit_at 27 z) 1 k
