use Rattle.std.proofs.Common.{List, length, ap, ◌∙◌, subst, sym}
use Rattle.life_script.specs.Told.{ToldView}
use Rattle.life_session.specs.Report.{Fits, report_by}
use Rattle.life_session.specs.Session.{SessionView}
use Rattle.life_session.specs.Table.{tables}
use Rattle.life_session.proofs.SessionLaws.{session_may, session_told}
use Rattle.life_session.proofs.ReportLaws.{report_fits}
use Rattle.life_session.proofs.session.Session.finish.Goals as goal

pub finish_exchanges-told-requires-clause-may : goal.finish_exchanges-told-requires-clause-may
finish_exchanges-told-requires-clause-may g c = session_may g.D.Driven.meaning _ c.self.invariant.0

pub invariant_of-result : goal.invariant_of-result
invariant_of-result g c =
    let s = c.self.invariant.0 in
    let told = session_told g.D.Driven.meaning _ s c.finish_exchanges-told.result.items (ap (λ (v : SessionView _ _ _ _). v.done) c.self.view_is ∙ c.requires ∙ ap (λ (v : SessionView _ _ _ _). length v.scenario.steps) (sym c.self.view_is)) c.finish_exchanges-told.ensures in
    subst (λ (l : List ToldView). Fits l c.self.inside.steps.items) (sym told) (report_fits (tables g.D.Driven.meaning c.self.inside.limits.value) _ s.valid)

pub returns : goal.returns
returns g c =
    let s = c.self.invariant.0 in
    let told = session_told g.D.Driven.meaning _ s c.finish_exchanges-told.result.items (ap (λ (v : SessionView _ _ _ _). v.done) c.self.view_is ∙ c.requires ∙ ap (λ (v : SessionView _ _ _ _). length v.scenario.steps) (sym c.self.view_is)) c.finish_exchanges-told.ensures in
    ap (λ (l : List ToldView). record { told = l; steps = c.self.inside.steps.items; end = c.self.inside.end }) told ∙ ap (λ (v : SessionView _ _ _ _). report_by (tables g.D.Driven.meaning v.limits) v.scenario) c.self.view_is
