-- Each byte is that of the call.
use Rattle.std.proofs.Common.{rules}
use Rattle.words_replay.proofs.answer.packed_bytes.Goals as goal

pub returns : goal.returns
returns c = record { long = c.from_fn.ensures.items.long; each = λ i l. let h = c.from_fn.ensures.items.at i 0 l in search rules }
