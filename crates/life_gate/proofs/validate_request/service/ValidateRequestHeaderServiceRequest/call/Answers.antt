use Rattle.std.proofs.Common.{Ok, Err, rules}
use Rattle.life_gate.proofs.validate_request.service.ValidateRequestHeaderServiceRequest.call.Goals as goal

pub returns-in_ok-call-in-Ok-Ok-clause-calls : goal.returns-in_ok-call-in-Ok-Ok-clause-calls
returns-in_ok-call-in-Ok-Ok-clause-calls g c = record {
  verdict = Ok (Ok tt);
  seen = c.validate.new.request;
  validated = search rules;
  follows = search rules;
}

pub returns-in_err-call-in-Ok-Ok-clause-calls : goal.returns-in_err-call-in-Ok-Ok-clause-calls
returns-in_err-call-in-Ok-Ok-clause-calls g c = record {
  verdict = Ok (Ok tt);
  seen = c.validate.new.request;
  validated = search rules;
  follows = search rules;
}

pub returns-in-Ok-Err-clause-calls : goal.returns-in-Ok-Err-clause-calls
returns-in-Ok-Err-clause-calls g c = record {
  verdict = Ok (Err c.in-Ok-Err.refusal);
  seen = c.validate.new.request;
  validated = search rules;
  follows = search rules;
}

pub returns-in-Err-clause-calls : goal.returns-in-Err-clause-calls
returns-in-Err-clause-calls g c = record {
  verdict = Err c.in-Err.field-0;
  seen = c.validate.new.request;
  validated = search rules;
  follows = search rules;
}
