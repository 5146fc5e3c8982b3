use Rattle.std.proofs.Common.{◌≡◌, Err, inr, refl, rules}
use Rattle.life_trace.proofs.trace.service.TraceServiceRequest.call.Goals as goal

pub returns-in_err-inner-clause-calls : goal.returns-in_err-inner-clause-calls
returns-in_err-inner-clause-calls g c =
    let answer : c.from_residual.result ≡ Err c.in_err-inner.field-0.0 = search rules in
    rw answer (inr (record {
      begun = c.in-Ok.begun;
      between = g.L.Recorder.recorded c.begin.new.rec;
      begins = c.in-Ok.ensures.begins;
      inner = c.in_err-inner.ensures.calls;
    }))

pub returns-clause-calls : goal.returns-clause-calls
returns-clause-calls g c = record {
  begun = c.in-Ok.begun;
  between = g.L.Recorder.recorded c.begin.new.rec;
  begins = c.in-Ok.ensures.begins;
  inner = rw c.new.ensures c.in_ok-inner.ensures.calls;
  future = rw c.new.ensures refl;
}
