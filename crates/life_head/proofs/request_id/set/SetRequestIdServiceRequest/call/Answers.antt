use Rattle.std.proofs.Common.{inl, inr, refl, rules}
use Rattle.life_head.proofs.request_id.set.SetRequestIdServiceRequest.call.Goals as goal

pub returns-in-Ok-clause-calls : goal.returns-in-Ok-clause-calls
returns-in-Ok-clause-calls g c = inl (record { tagged = c.tag.new.request; tags = search rules; inner = search rules; same = refl })

pub returns-in-Err-clause-calls : goal.returns-in-Err-clause-calls
returns-in-Err-clause-calls g c = inr (
  c.abandon_request.result,
  refl,
  record {
    asked = search rules;
    abandoned = rw c.tag.ensures.body at c.abandon_request.ensures.abandoned;
    same = refl;
  },
)
