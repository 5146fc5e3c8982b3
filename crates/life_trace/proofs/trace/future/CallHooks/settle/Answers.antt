use Rattle.std.proofs.Common.{refl}
use Rattle.life_trace.proofs.trace.future.CallHooks.settle.Goals as goal

pub returns-in-Ok-see_response-clause-settles : goal.returns-in-Ok-see_response-clause-settles
returns-in-Ok-see_response-clause-settles g c =
    rw (c.in-Ok.is, c.new-body.ensures, c.into_parts-head.ensures.0, c.into_parts-head.ensures.1) (
      refl,
      record {
        seen = rw (← c.since-latency.ensures) c.in-Ok-see_response.ensures.seen;
        span_is = refl;
        life = rw (← c.into_parts-head.ensures.1, ← c.is_end_stream.ensures) c.begin-life.ensures;
      },
    )

pub returns-in-Err-see_response-clause-settles : goal.returns-in-Err-see_response-clause-settles
returns-in-Err-see_response-clause-settles g c =
    rw (c.in-Ok.is, ← c.since-latency.ensures) (
      g.L.Recorder.recorded c.see_response.new.rec,
      c.in-Err-see_response.ensures.seen,
      (c.abandon.result, rw c.into_parts-head-in-Err-see_response.ensures.1 at c.abandon.ensures.abandons),
    )
