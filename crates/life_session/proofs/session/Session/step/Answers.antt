use Rattle.std.proofs.Common.{◌≡◌, ◌<◌, ◌≤◌, List, length, Some, ap, ◌∙◌, subst, sym}
use Rattle.std.proofs.lemmas.Option.{slice_get-get_or}
use Rattle.std.specs.Prelude.{slice_get}
use Rattle.life_script.proofs.CheckLemmas.{valid_headers}
use Rattle.life_script.specs.declared.scenario.Step.{Step}
use Rattle.life_session.specs.Session.{IsSession, SessionView, session_of}
use Rattle.life_session.proofs.PlaceLaws.{found, set_length}
use Rattle.life_session.proofs.ActLaws.{some_is}
use Rattle.life_session.proofs.SessionLaws.{session_at, session_may, session_next, session_room, session_within}
use Rattle.life_session.proofs.session.Session.step.Goals as goal

pub run_step-requires-clause-may : goal.run_step-requires-clause-may
run_step-requires-clause-may g c = session_may g.D.Driven.meaning _ c.self.invariant.0

pub run_step-requires-clause-within : goal.run_step-requires-clause-within
run_step-requires-clause-within g c =
    let here = subst (λ (v : SessionView _ _ _ _). v.done < length v.scenario.steps) (sym c.self.view_is) c.requires in
    session_within g.D.Driven.meaning _ c.self.invariant.0 _ (ap (λ (l : List Step). slice_get l c.self.inside.done) (sym c.as_slice.ensures) ∙ slice_get-get_or c.as_slice.result.now c.self.inside.done _ (subst (λ (l : List Step). c.self.inside.done < length l) (sym c.as_slice.ensures) here))

pub run_step-requires-clause-room : goal.run_step-requires-clause-room
run_step-requires-clause-room g c =
    let here = subst (λ (v : SessionView _ _ _ _). v.done < length v.scenario.steps) (sym c.self.view_is) c.requires in
    session_room g.D.Driven.meaning _ c.self.invariant.0 _ (ap (λ (l : List Step). slice_get l c.self.inside.done) (sym c.as_slice.ensures) ∙ slice_get-get_or c.as_slice.result.now c.self.inside.done _ (subst (λ (l : List Step). c.self.inside.done < length l) (sym c.as_slice.ensures) here))

pub run_step-requires-clause-fits : goal.run_step-requires-clause-fits
run_step-requires-clause-fits g c = λ i script is.
    valid_headers _ (c.self.invariant.0).valid i script (ap (λ l. slice_get l i) (sym (c.as_slice-2.ensures ∙ ap (λ l. l.items) c.deref.ensures)) ∙ is)

pub invariant_of-result : goal.invariant_of-result
invariant_of-result g c =
    let here = subst (λ (v : SessionView _ _ _ _). v.done < length v.scenario.steps) (sym c.self.view_is) c.requires in
    let x = ap (λ (l : List Step). slice_get l c.self.inside.done) (sym c.as_slice.ensures) ∙ slice_get-get_or c.as_slice.result.now c.self.inside.done _ (subst (λ (l : List Step). c.self.inside.done < length l) (sym c.as_slice.ensures) here) in
    let m = g.D.Driven.meaning in
    let s = subst (λ st. IsSession m (session_of c.self.inside.limits.value c.self.inside.scripts.value.items c.self.inside.steps.items c.self.inside.end c.self.inside.done st c.self.inside.exchanges.items)) (sym c.deref_mut.ensures.value) c.self.invariant.0 in
    let ran = c.in-Ok.ensures.ran in
    let same = ap (λ l. length l) ran.3 ∙ set_length c.self.inside.exchanges.items _ ran.1 in (
      session_next m _ s _ x c.run_step.new.stack c.run_step.new.exchanges.items c.run_step.ensures.may_stack c.run_step.ensures.may c.run_step.ensures.kept _ (c.as_slice-2.ensures ∙ ap (λ l. l.items) c.deref.ensures) ran,
      c.self.invariant.1,
      subst (λ n. n ≤ c.self.inside.told.spare) (sym same) c.self.invariant.2,
    )

pub returns-in-Err-clause-dropped : goal.returns-in-Err-clause-dropped
returns-in-Err-clause-dropped g c = λ x is drop.
    let here = subst (λ (v : SessionView _ _ _ _). v.done < length v.scenario.steps) (sym c.self.view_is) c.requires in
    let x_is = ap (λ (l : List Step). slice_get l c.self.inside.done) (sym c.as_slice.ensures) ∙ slice_get-get_or c.as_slice.result.now c.self.inside.done _ (subst (λ (l : List Step). c.self.inside.done < length l) (sym c.as_slice.ensures) here) in
    let same = some_is (sym (subst (λ (v : SessionView _ _ _ _). slice_get v.scenario.steps v.done ≡ Some x) (sym c.self.view_is) is) ∙ x_is) in
    let e = found c.self.inside.exchanges.items _ (session_within g.D.Driven.meaning _ c.self.invariant.0 _ x_is) in
    let at = session_at g.D.Driven.meaning _ c.self.invariant.0 _ e.0 e.1 in
    absurd (c.in-Err.ensures.ran e.0 e.1 (_, _, _, at.2) (ap (λ (s : Step). s.act) (sym same) ∙ drop))
