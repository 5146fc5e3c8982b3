use Rattle.std.proofs.Common.{ap, subst, ◌∙◌, List, ℕ}
use Rattle.http_header.specs.FieldValue.{IsFieldValue, plain_value}
use Rattle.life_script.proofs.HeaderLemmas.{value_good}
use Rattle.life_script.proofs.reading.header.read_value.Goals as goal

pub returns-in-Ok-clause-ok : goal.returns-in-Ok-clause-ok
returns-in-Ok-clause-ok c =
    let e = c.as_bytes.ensures.value in
    value_good c.args.text.now c.in-Ok.value (λ no. let bad = c.in-Ok.ensures.invalid.1 (λ h. no (subst (λ (t : List ℕ). IsFieldValue t) e h)) in cc) (c.in-Ok.ensures.ok ∙ ap plain_value e)
