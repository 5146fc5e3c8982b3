use Rattle.std.proofs.Common.{◌≡◌, Err, inr, rules}
use Rattle.life_trace.proofs.trace.future.ResponseFutureFuture.poll.Goals as goal

pub returns-in_err-settle-in-Ready-clause-polls : goal.returns-in_err-settle-in-Ready-clause-polls
returns-in_err-settle-in-Ready-clause-polls g c =
    let answer : c.from_residual-in_err-settle-in-Ready.result ≡ Err c.in_err-settle-in-Ready.field-0.0 = search rules in
    rw answer (inr (record {
      item = c.in-Ready.item;
      between = g.L.Recorder.recorded c.poll.new.cx.rec.now;
      inner = rw c.in-Ready.is at c.in_ok-item.ensures.polls;
      refused = rw (← c.in-Some-Some.ensures.value, ← c.in-Some-Some.ensures'.value) c.in_err-settle-in-Ready.ensures.settles;
      over = search rules;
    }))
