-- What the right answer is (01 "What a target is", "One suit"): for the hand h, over n kinds, where G t says that t is a target.
-- Another form of the game is another G; nothing here changes.
-- Assumes nothing.
use Rattle.std.specs.Prelude.{◌≡◌, List, ℕ, ◌≤◌, ◌<◌, ◌^◌, get_or}
use Rattle.tile.specs.Count.{lack_to, Has}

-- of the first n kinds the set s has exactly those of which P holds, and it has no other
pub record Exactly (n s : ℕ) (P : ℕ → Type 0) : Type 0 where
  pub small : s < 2 ^ n
  pub sound : (i : ℕ) → i < n → Has s i → P i
  pub complete : (i : ℕ) → i < n → P i → Has s i

module _ (n : ℕ) (G : List ℕ → Type 0) (h : List ℕ) where
  -- x is the least lack: some target lacks exactly x, and none lacks fewer
  pub record Least (x : ℕ) : Type 0 where
    pub some : (t : List ℕ) × G t × (lack_to n t h ≡ x)
    pub none_fewer : (t : List ℕ) → G t → x ≤ lack_to n t h

  -- some target that lacks x holds more of kind i than the hand
  abbrev pub Necessary : ℕ → ℕ → Type 0
  Necessary x i = (t : List ℕ) × G t × (lack_to n t h ≡ x) × (get_or h i 0 < get_or t i 0)

  -- some target that lacks x holds fewer of kind i than the hand
  abbrev pub Unnecessary : ℕ → ℕ → Type 0
  Unnecessary x i = (t : List ℕ) × G t × (lack_to n t h ≡ x) × (get_or t i 0 < get_or h i 0)

  -- the number x, the necessary set a and the unnecessary set b are right for the hand h
  pub record Answer (x a b : ℕ) : Type 0 where
    pub number : Least x
    pub necessary : Exactly n a (Necessary x)
    pub unnecessary : Exactly n b (Unnecessary x)
