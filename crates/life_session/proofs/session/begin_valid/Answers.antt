use Rattle.std.proofs.Common.{◌≡◌, List, length, ℕ, ap, ◌∙◌, arith, subst, sym}
use Rattle.std.specs.List.{AllZip}
use Rattle.std.specs.Prelude.{slice_get, ◌<◌}
use Rattle.life_script.specs.Scenario.{ScenarioView, ScriptView}
use Rattle.life_script.specs.Valid.{IsValid}
use Rattle.life_script.specs.declared.scenario.Step.{Step}
use Rattle.life_script.proofs.CheckLemmas.{valid_headers, valid_requests}
use Rattle.life_session.specs.Acts.{Counts}
use Rattle.life_session.specs.Exchange.{IsFresh}
use Rattle.life_session.specs.Session.{Serves}
use Rattle.life_session.proofs.PlaceLaws.{zip_length}
use Rattle.life_session.proofs.SessionLaws.{session_begun}
use Rattle.life_session.proofs.session.begin_valid.Goals as goal

pub count_steps-requires : goal.count_steps-requires
count_steps-requires g c = λ k x is.
    let s = c.args.scenario.now in
    let within = valid_requests s c.requires k x (ap (λ (l : List Step). slice_get l k) (sym (c.as_slice.ensures ∙ ap (λ (v : ScenarioView). v.steps) c.scenario.view_is)) ∙ is) in
    subst (λ n. x.request < n) (sym (c.len-requests.ensures ∙ ap (λ (v : ScenarioView). length v.requests) c.scenario.view_is)) within

pub stack_over-requires : goal.stack_over-requires
stack_over-requires g c = λ i script is.
    valid_headers c.args.scenario.now c.requires i script (ap (λ (l : List ScriptView). slice_get l i) (sym (ap (λ l. l.items) c.in-Ok.ensures.cases ∙ c.in_ok-scripts.ensures ∙ ap (λ (v : ScenarioView). v.requests) c.scenario.view_is)) ∙ is)

pub invariant_of-result : goal.invariant_of-result
invariant_of-result g c =
    let requests : List ScriptView = c.in_ok-scripts.scripts.value.items in
    let steps : List Step = c.in_ok-steps.steps.items in
    let scenario : ScenarioView = record { requests = requests; steps = steps; end = c.scenario.inside.end } in
    let same : scenario ≡ c.args.scenario.now =
    ap (λ (l : List ScriptView). record { requests = l; steps = steps; end = c.scenario.inside.end }) c.in_ok-scripts.ensures
    ∙ ap (λ (l : List Step). record { requests = c.scenario.inside.requests.items; steps = l; end = c.scenario.inside.end }) c.in_ok-steps.ensures ∙ c.scenario.view_is in
    let valid : IsValid scenario = subst IsValid (sym same) c.requires in
    let many : c.len-requests.result ≡ length requests = c.len-requests.ensures ∙ ap (λ (l : List ScriptView). length l) (sym c.in_ok-scripts.ensures) in
    let counted : Counts c.len-requests.result steps c.in_ok-counts.counts.items =
    subst (λ (l : List Step). Counts c.len-requests.result l c.in_ok-counts.counts.items) (c.as_slice.ensures ∙ sym c.in_ok-steps.ensures) c.in_ok-counts.ensures in
    let fresh = subst (λ (l : List ℕ). AllZip IsFresh l c.in_ok-exchanges.exchanges.items) c.as_slice-2.ensures.value c.in_ok-exchanges.ensures.fresh in
    let own = c.in_ok-own_limits.own_limits.value in
    let own_is : own ≡ c.args.limits.now = c.in_ok-own_limits.ensures ∙ c.in_ok-twin.ensures in
    let stack = c.in_ok-stack.stack.value in
    let may = subst g.D.Driven.meaning.may (sym c.in_ok-stack.ensures) c.in_ok-stack_over.ensures.may in
    let each = zip_length IsFresh c.in_ok-counts.counts.items c.in_ok-exchanges.exchanges.items fresh in (
      session_begun g.D.Driven.meaning own scenario stack c.in_ok-counts.counts.items c.in_ok-exchanges.exchanges.items c.idles.ensures.fresh_first valid may c.in_ok-exchanges.ensures.may
          (λ script i there. subst (λ l. Serves g.D.Driven.meaning l i script stack) (sym own_is)
          (subst (Serves g.D.Driven.meaning c.args.limits.now i script) (sym c.in_ok-stack.ensures) (c.in_ok-stack_over.ensures.serves script i (ap (λ l. slice_get l.items i) c.in-Ok.ensures.cases ∙ there) (valid_headers scenario valid i script there))))
          (subst (λ n. Counts n steps c.in_ok-counts.counts.items) many counted) fresh,
      c.in_ok-reserve.ensures.items ∙ ap (λ l. l.items) c.new-told.ensures,
      (let room = c.in_ok-reserve.ensures.room in let all = counted.each_counted in omega (arith, room, all, each)),
    )
