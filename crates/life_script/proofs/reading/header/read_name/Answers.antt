use Rattle.std.proofs.Common.{ap, sym, subst, ◌∙◌, List, ℕ}
use Rattle.http_header.specs.FieldName.{IsFieldName}
use Rattle.http_header.specs.Token.{lowercase}
use Rattle.life_script.proofs.HeaderLemmas.{name_good, name_bad}
use Rattle.life_script.proofs.reading.header.read_name.Goals as goal

pub returns-in-Ok-clause-ok : goal.returns-in-Ok-clause-ok
returns-in-Ok-clause-ok c =
    let e = c.as_bytes.ensures.value in
    name_good c.args.text.now c.in-Ok.name (λ no. let bad = c.in-Ok.ensures.invalid.1 (λ h. no (subst (λ (t : List ℕ). IsFieldName t) e h)) in cc) (c.in-Ok.ensures.ok ∙ ap lowercase e)

pub returns-in-Err-Invalid-clause-bad : goal.returns-in-Err-Invalid-clause-bad
returns-in-Err-Invalid-clause-bad c = λ _.
    let e = c.as_bytes.ensures.value in
    name_bad c.args.text.now (λ h. c.in-Err-Invalid.ensures.invalid.0 (cc) (subst (λ (t : List ℕ). IsFieldName t) (sym e) h))
