use Rattle.std.proofs.Common.{rules, subst}
use Rattle.life_gate.specs.MediaType.{IsMediaType, IsNoMediaType}
use Rattle.life_gate.proofs.validate_request.accept.AcceptHeader.new.Goals as goal

pub returns-in_default-clause-invalid : goal.returns-in_default-clause-invalid
returns-in_default-clause-invalid g c =
    (λ e. subst IsNoMediaType c.as_bytes.ensures.value (rw c.in_default.is at c.in_ok-media.ensures.read), λ none. search rules)

pub returns-in_err-media-clause-invalid : goal.returns-in_err-media-clause-invalid
returns-in_err-media-clause-invalid g c =
    let m = c.in_err-media.ensures.wants in
    (λ e. search rules, λ none. absurd (none m.0 (subst (λ text. IsMediaType text m.0) c.as_bytes.ensures.value m.1)))
