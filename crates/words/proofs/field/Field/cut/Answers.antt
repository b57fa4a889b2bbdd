-- The mask is one less than a power of two, so it leaves a remainder.
use Rattle.std.proofs.Common.{◌∙◌, ap, ℕ, ◌-◌, ◌^◌, arith, bit_and}
use Rattle.std.proofs.Math.Nat.{one-mul}
use Rattle.std.proofs.Math.Pow.{shl_exact}
use Rattle.std.proofs.lemmas.Nat.{and_mask}
use Rattle.words.proofs.field.Field.cut.Goals as goal

pub returns : goal.returns
returns c =
    let width = c.args.self.width in
    ap (λ (m : ℕ). bit_and c.args.bits (m - 1)) (shl_exact {a = 1} 1 width 32 (omega arith) (omega arith) ∙ one-mul (2 ^ width))
    ∙ and_mask c.args.bits width
