-- Without sequences no kind is held just once: honours and 1m/9m have no order (01 "Tiles and games", "One suit").
-- Assumes nothing.
use mathlib.Core.Path.{◌≡◌, refl, subst}
use mathlib.Core.Bool.{false}
use mathlib.Core.Logic.{◌≢◌}
use mathlib.Core.List.{List}
use Prim.Native.Nat.{ℕ, ◌<◌}
use native.Mathlib.Decide.{ℕ_discrete}
use native.Mathlib.Omega.{arith}
use lib.ListN.{length, get_or}
use lib.Dec.{T}
use Rattle.tile.specs.Count.{more}
use Rattle.tile.specs.Board.{Board, honours, ends}
use Rattle.tile.specs.Target.{Target}
use Rattle.tile.proofs.Counts.{more_at, more_off, zeros_at}
use Rattle.tile.proofs.Built.{Piece, put, Lies, built_ind, built_length}
use Rattle.tile.proofs.Built.Piece.{two, three, run}

-- two or more of a kind leave no kind that is held once
more_twice : (t : List ℕ) (i c j : ℕ) → i < length t → 1 < c → get_or t j 0 ≢ 1 → get_or (more t i c) j 0 ≢ 1
more_twice t i c j l g other = go (ℕ_discrete j i)
  where
    go : Dec (j ≡ i) → get_or (more t i c) j 0 ≢ 1
    go (yes e) = rw e (omega (arith, more_at t i c l))
    go (no e) = rw (more_off t i c j e) other

module _ (b : Board) (none : (i : ℕ) → b.starts i ≡ false) where
  put_twice : (t : List ℕ) (q : Piece) (j : ℕ) → Lies b q → length t ≡ b.kinds → get_or t j 0 ≢ 1 → get_or (put t q) j 0 ≢ 1
  put_twice t (two i) j (l, h) e other = more_twice t i 2 j (omega arith) (omega arith) other
  put_twice t (three i) j (l, h) e other = more_twice t i 3 j (omega arith) (omega arith) other
  put_twice t (run i) j (l, h) e other = absurd (subst T (none i) h)

  never_once : {p m : ℕ} {t : List ℕ} → Target b p m t → (j : ℕ) → get_or t j 0 ≢ 1
  never_once tg j =
      built_ind (λ p m t. get_or t j 0 ≢ 1) (omega (arith, zeros_at b.kinds j))
      (λ p m t q f r other. put_twice t q j f (built_length r) other) tg.built

pub honours_never_once : {p m : ℕ} {t : List ℕ} → Target honours p m t → (j : ℕ) → get_or t j 0 ≢ 1
honours_never_once = never_once honours (λ i. refl)

pub ends_never_once : {p m : ℕ} {t : List ℕ} → Target ends p m t → (j : ℕ) → get_or t j 0 ≢ 1
ends_never_once = never_once ends (λ i. refl)
