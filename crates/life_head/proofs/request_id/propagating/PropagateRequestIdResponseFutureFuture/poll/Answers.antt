use Rattle.std.proofs.Common.{inr, rules}
use Rattle.life_head.proofs.request_id.propagating.PropagateRequestIdResponseFutureFuture.poll.Goals as goal

pub returns-in-Ok-clause-polls : goal.returns-in-Ok-clause-polls
returns-in-Ok-clause-polls g c = record {
  head = c.in-Ready-Ok.field-0-0.head;
  inner = search rules;
  marks = search rules;
  same = search rules;
}

pub returns-in-Err-clause-polls : goal.returns-in-Err-clause-polls
returns-in-Err-clause-polls g c = inr (record {
  response = c.in-Ready-Ok.field-0-0;
  between = g.L.Recorder.recorded c.poll.new.cx.rec.now;
  inner = search rules;
  abandoned = (c.abandon.result, search rules);
  same = search rules;
})
