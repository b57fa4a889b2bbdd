-- Words do as cells do: what is met, put in front and given out.
-- Assumes nothing.
use mathlib.Core.Path.{◌≡◌, sym, ap, ap₂, ◌∙◌}
use mathlib.Core.Logic.{⊎_elim}
use Prim.Native.Nat.{ℕ, suc, ◌+◌, ◌-◌, ◌*◌, ◌/◌, ◌%◌, ◌^◌, ◌≤◌, ◌<◌}
use native.Mathlib.Nat.{le_trans, add-zero, mul-one, pow-suc}
use native.Mathlib.Omega.{arith}
use lib.Dec.{ltb}
use lib.Pow.{pow_pos, pow_mono, shl_lt}
use lib.Bits.{bit_or, or_self, or_block}
use borrow.Author.Tests.{lt-ltb, le-ltb}
use Rattle.tile.specs.Count.{bit}
use Rattle.tile.specs.declared.found.Found.{Found}
use Rattle.tile.proofs.Tests.{at_most_or_over}
use Rattle.table.proofs.Meet.{meet_level, meet_lower, meet_higher}
use Rattle.table.specs.Cell.{united, meet, onto, result}
use Rattle.fast.specs.Word.{word, meet18, add_word, opened_word}
use Rattle.fast.proofs.Small.{Bits}

-- the sets of r stay within nine bits where they are moved up by u
pub record Fit (u : ℕ) (r : Found) : Type 0 where
  pub necessary : r.necessary * u < 512
  pub unnecessary : r.unnecessary * u < 512

pub bits_fit : {n : ℕ} {r : Found} (i : ℕ) → n + i ≤ 9 → Bits n r → Fit (2 ^ i) r
bits_fit {n} i l s =
    record { necessary = le_trans (shl_lt n i s.necessary) (pow_mono l); unnecessary = le_trans (shl_lt n i s.unnecessary) (pow_mono l) }

-- ---- taken apart

module _ {u : ℕ} {r : Found} (s : Fit u r) where
  pub word_number : word u r / 262144 ≡ r.number
  unfolding word
  word_number = omega (arith, s.necessary, s.unnecessary)

  word_necessary : word u r / 512 % 512 ≡ r.necessary * u
  unfolding word
  word_necessary = omega (arith, s.necessary, s.unnecessary)

  word_unnecessary : word u r % 512 ≡ r.unnecessary * u
  unfolding word
  word_unnecessary = omega (arith, s.unnecessary)

-- ---- two words

module _ (i : ℕ) (r s : Found) (x : Fit (2 ^ i) r) (y : Fit (2 ^ i) s) where
  -- the number, and both sets
  abbrev low : Found → ℕ
  low r = r.necessary * 2 ^ i * 512 + r.unnecessary * 2 ^ i

  parts : (r : Found) → word (2 ^ i) r ≡ r.number * 262144 + low r
  unfolding word
  parts r = omega arith

  -- sets that are moved up are joined as they were
  up_or : (a b : ℕ) → bit_or (a * 2 ^ i) (b * 2 ^ i) ≡ bit_or a b * 2 ^ i
  up_or a b = ap₂ bit_or (sym (add-zero (a * 2 ^ i))) (sym (add-zero (b * 2 ^ i))) ∙ or_block i a b 0 0 (pow_pos i) (pow_pos i) ∙ add-zero (bit_or a b * 2 ^ i)

  united_word : s.number ≡ r.number → bit_or (word (2 ^ i) r) (word (2 ^ i) s) ≡ word (2 ^ i) (united r s)
  united_word e =
      ap₂ bit_or (parts r) (parts s ∙ ap (λ (k : ℕ). k * 262144 + low s) e)
      ∙ or_block 18 r.number r.number (low r) (low s) (omega (arith, x.necessary, x.unnecessary)) (omega (arith, y.necessary, y.unnecessary))
      ∙ ap₂ (λ (k l : ℕ). k * 262144 + l) (or_self r.number)
      (or_block 9 (r.necessary * 2 ^ i) (s.necessary * 2 ^ i) (r.unnecessary * 2 ^ i) (s.unnecessary * 2 ^ i) x.unnecessary y.unnecessary
      ∙ ap₂ (λ (k l : ℕ). k * 512 + l) (up_or r.necessary s.necessary) (up_or r.unnecessary s.unnecessary))
      ∙ sym (parts (united r s))

  pub meet_word_lem : meet18 (word (2 ^ i) r) (word (2 ^ i) s) ≡ word (2 ^ i) (meet r s)
  unfolding meet
  meet_word_lem =
      let v = word (2 ^ i) r in
      let w = word (2 ^ i) s in
      ⊎_elim
      (λ least. ⊎_elim (λ most. let e : s.number ≡ r.number = omega arith in
      rw (le-ltb s.number r.number least, le-ltb r.number s.number most)
      (meet_level 18 v w (word_number x ∙ sym e ∙ sym (word_number y)) ∙ united_word e))
      (λ more. rw (le-ltb s.number r.number least, lt-ltb r.number s.number more)
      (meet_lower 18 v w (omega (arith, word_number x, word_number y)))) (at_most_or_over s.number r.number))
      (λ less. rw (lt-ltb s.number r.number less) (meet_higher 18 v w (omega (arith, word_number x, word_number y)))) (at_most_or_over r.number s.number)

-- ---- a rank in front

add_parts : (k x u : ℕ) → add_word k x u ≡ (x - k) * 262144 + bit (ltb k x) * u * 512 + bit (ltb x k) * u
unfolding add_word bit
add_parts k x u =
    ⊎_elim
    (λ less. ⊎_elim (λ same. rw (le-ltb k x less, le-ltb x k same) (omega arith))
    (λ more. rw (le-ltb k x less, lt-ltb x k more) (omega arith)) (at_most_or_over k x))
    (λ more. rw (lt-ltb k x more, le-ltb x k (omega arith)) (omega arith)) (at_most_or_over x k)

pub onto_word : (i k x : ℕ) (r : Found) → word (2 ^ suc i) r + add_word k x (2 ^ i) ≡ word (2 ^ i) (onto k x r)
unfolding word onto
onto_word i k x r = rw (add_parts k x (2 ^ i), pow-suc 2 i) (omega arith)

-- ---- given out

pub opened_word_lem : (bound : ℕ) (r : Found) → Fit 1 r → opened_word bound (word 1 r) ≡ result bound r
unfolding opened_word result
opened_word_lem bound r s = rw (word_number s, word_necessary s ∙ mul-one r.necessary, word_unnecessary s ∙ mul-one r.unnecessary)
