use Rattle.std.proofs.Common.{refl, ap, ◌∙◌, rules}
use Rattle.std.specs.Prelude.{bytes_eq}
use Rattle.life_gate.specs.Required.{matches_first}
use Rattle.life_gate.proofs.Matching.{text_matches, no_text_matches}
use Rattle.life_gate.proofs.validate_request.required.matches.Goals as goal

pub returns-in-Ok : goal.returns-in-Ok
returns-in-Ok c =
    c.eq.ensures ∙ ap (λ text. bytes_eq text c.args.expected.now) c.in-Ok.ensures.ok
    ∙ text_matches c.args.expected.now c.in-Some.value.now (c.in-Ok.ensures.succeeds.0 refl)
    ∙ ap (λ first. matches_first c.args.expected.now first) c.in-Some.ensures.value

pub returns-in-Err : goal.returns-in-Err
returns-in-Err c =
    no_text_matches c.args.expected.now c.in-Some.value.now (search rules)
    ∙ ap (λ first. matches_first c.args.expected.now first) c.in-Some.ensures.value
