-- What was read so far is answered.
use Rattle.annotate.proofs.Streaming.{SoFar}
use Rattle.annotate.proofs.stream.run.Given as goal

abbrev pub invariant-loop : goal.invariant-loop
invariant-loop g l =
    SoFar (g.R.Read.remaining l.initial.from) (g.R.Read.remaining l.from) (g.W.Write.contents l.initial.to) (g.W.Write.contents l.to)
