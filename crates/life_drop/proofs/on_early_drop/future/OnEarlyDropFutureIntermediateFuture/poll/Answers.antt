use Rattle.std.proofs.Common.{inr, subst, rules}
use Rattle.life_drop.proofs.on_early_drop.future.OnEarlyDropFutureIntermediateFuture.poll.Goals as goal

pub returns-in-Err-clause-polls : goal.returns-in-Err-clause-polls
returns-in-Err-clause-polls g c =
    let arm = c.in-Ready-Ok in
    inr (record {
      response = arm.field-0-0;
      between = _;
      abandoned = c.abandon.result;
      inner = rw (arm.is, arm.field-0-is) at c.in_ok-head.ensures.polls;
      asks = rw arm.head-is (search rules);
      abandoning = subst (λ m. g.B.Spend.abandons arm.field-0-0.body (g.L.Recorder.recorded c.poll.new.cx.rec.now) m c.abandon.result (g.L.Recorder.recorded c.abandon.new.cx.rec.now)) c.poll.ensures.context.moment c.abandon.ensures.abandons;
    })
