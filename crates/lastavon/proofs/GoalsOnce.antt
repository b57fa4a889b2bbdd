-- There is one number and one content of the ten words for each input: two that meet the contract coincide.
-- Assumes nothing.
use mathlib.Core.Path.{◌≡◌, sym, ap, ◌∙◌}
use mathlib.Core.List.{List}
use Prim.Native.Nat.{ℕ, ◌/◌, ◌%◌, ◌^◌, ◌<◌}
use native.Mathlib.Omega.{arith}
use lib.ListN.{get_or}
use lib.Seq.{ext_get_or}
use Rattle.tile.specs.Board.{Board}
use Rattle.lastavon.specs.Word.{WordFor}
use Rattle.lastavon.specs.Goals.{GoalWords, GoalsWritten}
use Rattle.lastavon.proofs.SuitOnce.{word_once}
use Rattle.lastavon.proofs.RoomOnce.{room_once}

module _ (b : Board) (h : List ℕ) where
  -- word g is the one which the suit's entry for one goal gives
  pub goal_word : {c : ℕ} {w : List ℕ} → GoalWords b h c w → (g : ℕ) → g < 10 → (v : ℕ) → WordFor b (g / 5) (g % 5) h v → get_or w g 0 ≡ v
  goal_word {w = w} all g l v one = word_once b (g / 5) (g % 5) h (get_or w g 0) v (all.each g l) one

  goal_words_once : (c d : ℕ) (y z : List ℕ) → GoalWords b h c y → GoalWords b h d z → (c ≡ d) × (y ≡ z)
  goal_words_once c d y z all again =
      let same : y ≡ z = ext_get_or 0 y z (all.ten ∙ sym again.ten)
      (λ g l. let less : g < 10 = omega (arith, all.ten) in goal_word all g less (get_or z g 0) (again.each g less)) in
      (sym (all.code 0 (omega arith)) ∙ ap (λ (w : List ℕ). get_or w 0 0 / 2 ^ 48) same ∙ again.code 0 (omega arith), same)

  pub goals_written_once : (x : List ℕ) (c d : ℕ) (y z : List ℕ) → GoalsWritten b h x c y → GoalsWritten b h x d z → (c ≡ d) × (y ≡ z)
  goals_written_once x c d y z = room_once (goal_words_once c d y z)
