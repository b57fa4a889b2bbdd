-- What is shifted up is a product, since no bit is lost.
use Rattle.std.proofs.Common.{arith}
use Rattle.std.proofs.Math.Nat.{div-one, mod-lt}
use Rattle.std.proofs.Math.Pow.{pow_pos, shl_exact}
use Rattle.words.proofs.field.Field.put.Goals as goal

pub returns : goal.returns
returns c =
    let f = c.args.self in
    let value = c.args.value in
    rw (c.cut.ensures, c.into.ensures, div-one value) (shl_exact f.width f.shift 32 (mod-lt value (pow_pos f.width)) (omega arith))
