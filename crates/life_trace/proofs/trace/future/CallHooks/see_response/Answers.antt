use Rattle.std.proofs.Common.{◌≡◌, Err, inl, inr, refl, rules}
use Rattle.life_trace.proofs.trace.future.CallHooks.see_response.Goals as goal

pub returns-in_err-on_response-clause-seen : goal.returns-in_err-on_response-clause-seen
returns-in_err-on_response-clause-seen g c =
    let answer : c.from_residual-in_err-on_response.result ≡ Err c.in_err-on_response.field-0.0 = search rules in
    rw answer (record {
      seen = inr (c.in_ok-class.class, c.in_ok-class.ensures.classifies, inl (c.in_err-on_response.ensures.sees, refl));
      kept = tt;
    })

pub returns-in_err-tail-clause-seen : goal.returns-in_err-tail-clause-seen
returns-in_err-tail-clause-seen g c =
    let answer : c.from_residual-in_err-tail.result ≡ Err c.in_err-tail.field-0.0 = search rules in
    rw answer (record {
      seen = inr (
        c.in_ok-class.class,
        c.in_ok-class.ensures.classifies,
        inr (g.L.Recorder.recorded c.on_response.new.rec, c.in_ok-on_response.ensures.sees, c.in_err-tail.ensures.begins),
      );
      kept = tt;
    })

pub returns-clause-seen : goal.returns-clause-seen
returns-clause-seen g c = record {
  seen = inr (
    c.in_ok-class.class,
    c.in_ok-class.ensures.classifies,
    inr (g.L.Recorder.recorded c.on_response.new.rec, c.in_ok-on_response.ensures.sees, c.in_ok-tail.ensures.begins),
  );
  kept = refl;
}
