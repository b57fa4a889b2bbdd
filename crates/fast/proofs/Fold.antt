-- Steps taken one after the other on an array: what each of them keeps, and what stands at a place to which only one of them writes.
-- Assumes nothing.
use mathlib.Core.Path.{◌≡◌, refl, sym, subst, ◌∙◌}
use mathlib.Core.List.{List}
use Prim.Native.Nat.{ℕ, zero, suc, ◌<◌}
use native.Mathlib.Decide.{ℕ_discrete}
use native.Mathlib.Omega.{arith}
use lib.ListN.{length, get_or}
use Rattle.walk.specs.Walk.{up_to}

-- the step leaves what stands at place j
pub record Leaves (j : ℕ) (step : List ℕ → List ℕ) : Type 0 where
  pub same : (cells : List ℕ) → get_or (step cells) j 0 ≡ get_or cells j 0

-- in an array of n places it writes v there
pub record Writes (n j v : ℕ) (step : List ℕ → List ℕ) : Type 0 where
  pub there : (cells : List ℕ) → length cells ≡ n → get_or (step cells) j 0 ≡ v

-- each step keeps the length
abbrev pub Keeps : (ℕ → List ℕ → List ℕ) → Type 0
Keeps f = (n : ℕ) (cells : List ℕ) → length (f n cells) ≡ length cells

-- what each step keeps, all of them keep
pub all_keep : {A : Type 0} (f : ℕ → A → A) (P : A → Type 0) → ((c : ℕ) (x : A) → P x → P (f c x)) → (n : ℕ) (x : A) → P x → P (up_to f n x)
unfolding up_to
all_keep f P keep zero x p = p
all_keep f P keep (suc n) x p = keep n _ (all_keep f P keep n x p)

module _ (f : ℕ → List ℕ → List ℕ) where
  pub keeps_up_to : Keeps f → (n : ℕ) (cells : List ℕ) → length (up_to f n cells) ≡ length cells
  keeps_up_to keeps n cells = all_keep f (λ x. length x ≡ length cells) (λ c x e. keeps c x ∙ e) n cells refl

  pub all_leave : (j n : ℕ) → ((c : ℕ) → c < n → Leaves j (f c)) → Leaves j (up_to f n)
  unfolding up_to
  all_leave j zero leaves = record { same = λ cells. refl }
  all_leave j (suc n) leaves =
      record { same = λ cells. (leaves n (omega arith)).same _ ∙ (all_leave j n (λ c l. leaves c (omega arith))).same cells }

  -- one of the steps writes there, and the others leave it
  pub one_writes : {long : ℕ} (j v : ℕ) → Keeps f
      → (at n : ℕ) → at < n → Writes long j v (f at) → ((c : ℕ) → c < n → (c ≡ at → ⊥) → Leaves j (f c)) → Writes long j v (up_to f n)
  unfolding up_to
  one_writes j v keep at zero l writes leaves = absurd (omega arith)
  one_writes {long} j v keep at (suc n) l writes leaves =
      record {
        there = λ cells whole.
            last cells whole (λ other. (one_writes j v keep at n (omega arith) writes (λ c k. leaves c (omega arith))).there cells whole) (ℕ_discrete n at);
      }
    where
      last : (cells : List ℕ) → length cells ≡ long → ((n ≡ at → ⊥) → get_or (up_to f n cells) j 0 ≡ v) → Dec (n ≡ at) → get_or (f n (up_to f n cells)) j 0 ≡ v
      last cells whole earlier (yes e) =
          subst (λ (k : ℕ). get_or (f k (up_to f n cells)) j 0 ≡ v) (sym e) (writes.there (up_to f n cells) (keeps_up_to keep n cells ∙ whole))
      last cells whole earlier (no other) = (leaves n (omega arith) other).same (up_to f n cells) ∙ earlier other
