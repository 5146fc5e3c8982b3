use Rattle.std.proofs.Common.{inl, inr, refl}
use Rattle.life_drop.proofs.on_early_drop.service.OnEarlyDropServiceServiceRequest.call.Goals as goal

pub returns-in-Err-make_at_call-clause-calls : goal.returns-in-Err-make_at_call-clause-calls
returns-in-Err-make_at_call-clause-calls g c =
    inr (inl (record {
      callback = c.in-Ok.callback;
      made = _;
      future_hook = c.in-Ok.ensures.makes;
      body_hook = c.in-Err-make_at_call.ensures.makes;
      same = refl;
      abandoned = c.abandon_request-in-Err-make_at_call.ensures.abandoned;
    }))

pub returns-in-Err-twin-clause-calls : goal.returns-in-Err-twin-clause-calls
returns-in-Err-twin-clause-calls g c =
    inr (inl (record {
      callback = c.in-Ok.callback;
      made = _;
      future_hook = c.in-Ok.ensures.makes;
      body_hook = c.in-Ok-make_at_call.ensures.makes;
      same = refl;
      abandoned = c.abandon_request-in-Err-twin.ensures.abandoned;
    }))
