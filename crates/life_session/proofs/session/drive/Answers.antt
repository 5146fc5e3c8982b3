use Rattle.life_session.proofs.ReportLaws.{same_report}
use Rattle.life_session.proofs.session.drive.Goals as goal

pub returns-clause-told : goal.returns-clause-told
returns-clause-told g c = same_report g.D.Driven.meaning _ _ _ _ _ c.finish.ensures c.loop-session.invariant.limits_are c.loop-session.invariant.scenario_is
