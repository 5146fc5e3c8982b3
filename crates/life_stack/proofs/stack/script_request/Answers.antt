use Rattle.std.proofs.Common.{List, ap, sym, ◌∙◌, refl, subst}
use Rattle.std.proofs.lemmas.Option.{slice_get_read}
use Rattle.std.specs.Prelude.{IfOk, length, slice_get, ◌<◌}
use Rattle.life_script.specs.Scenario.{ScenarioView, ScriptView}
use Rattle.life_script.proofs.CheckLemmas.{valid_headers}
use Rattle.life_session.proofs.ActLaws.{some_is}
use Rattle.life_stack.specs.Service.Script.{IsRequestOf}
use Rattle.life_stack.proofs.stack.script_request.Goals as goal

pub request_of-requires : goal.request_of-requires
request_of-requires c =
    let same = c.as_slice.ensures ∙ ap (λ (s : ScenarioView). s.requests) c.scenario.view_is in
    let within = subst (λ (l : List ScriptView). c.args.i < length l) (sym same) c.requires.within in
    let there = slice_get_read c.as_slice.result.now (length c.as_slice.result.now) c.args.i c.index-as_slice-i.result refl within c.index-as_slice-i.is in
    valid_headers c.args.scenario.now c.requires.valid c.args.i c.index-as_slice-i.result (ap (λ (l : List ScriptView). slice_get l c.args.i) (sym same) ∙ there)

pub returns : goal.returns
returns c = λ script is.
    let same = c.as_slice.ensures ∙ ap (λ (s : ScenarioView). s.requests) c.scenario.view_is in
    let within = subst (λ (l : List ScriptView). c.args.i < length l) (sym same) c.requires.within in
    let there = slice_get_read c.as_slice.result.now (length c.as_slice.result.now) c.args.i c.index-as_slice-i.result refl within c.index-as_slice-i.is in
    let one = some_is (sym there ∙ ap (λ (l : List ScriptView). slice_get l c.args.i) same ∙ is) in
    subst (λ (s : ScriptView). IfOk c.request_of.result (IsRequestOf s c.args.i)) one c.request_of.ensures
