-- Records (01 "Records"). A hand record h is 36 bytes: 34 counts, k, the game. An answer record is 16 bytes: the code, 0 for an answer; the number;
-- the necessary set, five bytes, lowest first; the unnecessary set, five bytes; the kinds; the live tiles; two zero bytes.
-- Assumes nothing.
use Rattle.std.specs.Prelude.{◌≡◌, List, [], ◌∷◌, ◌++◌, ℕ, ◌/◌, ◌%◌, ◌^◌, length, get_or, take, Result}
use Rattle.tile.specs.Hand.{hand_values, HandPromised}
use Rattle.tile.specs.declared.refusal.Reason.{Reason}
use Rattle.tile.specs.declared.one_hand.HandFound.{HandFound}

abbrev pub hand_bytes : ℕ
hand_bytes = 36

abbrev pub answer_bytes : ℕ
answer_bytes = 16

-- the five lowest bytes of a set, lowest first
abbrev pub set_bytes : ℕ → List ℕ
set_bytes s = s % 2 ^ 8 ∷ s / 2 ^ 8 % 2 ^ 8 ∷ s / 2 ^ 16 % 2 ^ 8 ∷ s / 2 ^ 24 % 2 ^ 8 ∷ s / 2 ^ 32 % 2 ^ 8 ∷ []

-- the record of an answer; of a refusal it is the code and fifteen zeros, since the values are zeros there (`hand_values`)
abbrev pub record_of : Result HandFound Reason → List ℕ
record_of a =
    let v = hand_values a in
    let r = v.found in
    v.code ∷ r.number ∷ (set_bytes r.necessary ++ set_bytes r.unnecessary ++ (r.kinds ∷ r.live ∷ 0 ∷ 0 ∷ []))

-- a code and fifteen zeros
abbrev pub code_record : ℕ → List ℕ
code_record c = c ∷ 0 ∷ 0 ∷ 0 ∷ 0 ∷ 0 ∷ 0 ∷ 0 ∷ 0 ∷ 0 ∷ 0 ∷ 0 ∷ 0 ∷ 0 ∷ 0 ∷ 0 ∷ []

-- y is the answer record of h: the record of what is promised for its hand; or, where h is not 36 bytes, code 7
pub data Answers (h y : List ℕ) : Type 0 where
  whole : length h ≡ hand_bytes → (a : Result HandFound Reason) → HandPromised (get_or h 35 0) (get_or h 34 0) (take 34 h) a → y ≡ record_of a → Answers h y
  broken : (length h ≡ hand_bytes → ⊥) → y ≡ code_record 7 → Answers h y

-- y stands where x stood after the record b was put there: b; or, where x is not 16 bytes, x as it was
pub data Put (x b y : List ℕ) : Type 0 where
  placed : length x ≡ answer_bytes → y ≡ b → Put x b y
  kept : (length x ≡ answer_bytes → ⊥) → y ≡ x → Put x b y

-- c is returned for the hand record h, and y stands where x stood: the answer record, whose first byte is c; or, where x is not 16 bytes, 8 and x as it was
pub data Recorded (h x : List ℕ) (c : ℕ) (y : List ℕ) : Type 0 where
  written : length x ≡ answer_bytes → Answers h y → c ≡ get_or y 0 0 → Recorded h x c y
  left : (length x ≡ answer_bytes → ⊥) → c ≡ 8 → y ≡ x → Recorded h x c y
