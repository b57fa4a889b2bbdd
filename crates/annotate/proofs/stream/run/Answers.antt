-- One turn more.
use Rattle.std.proofs.Common.{rules}
use Rattle.annotate.proofs.Streaming.{so_far_none, so_far_more, so_far_all, so_far_stopped, so_far_over}
use Rattle.annotate.proofs.stream.run.Goals as goal

pub loop-init : goal.loop-init
loop-init g c = so_far_none _ _

pub returns-then-not-more-clause-answered : goal.returns-then-not-more-clause-answered
returns-then-not-more-clause-answered g c =
    so_far_all _ _ _ _ _ _ c.loop.invariant (rw c.if-not-more.true at c.in_ok-more.ensures.answered)

pub returns-in_err-more-clause-stopped : goal.returns-in_err-more-clause-stopped
returns-in_err-more-clause-stopped g c =
    let all = so_far_stopped _ _ _ _ _ _ c.in_err-more.field-0.0 c.loop.invariant c.in_err-more.ensures.stopped in
    search rules

pub loop-preserved : goal.loop-preserved
loop-preserved g c = so_far_more _ _ _ _ _ _ c.loop.invariant (rw c.if-not-more.false at c.in_ok-more.ensures.answered)

pub returns-clause-stopped : goal.returns-clause-stopped
returns-clause-stopped g c = so_far_over _ _ _ _ c.other.result c.loop.invariant
