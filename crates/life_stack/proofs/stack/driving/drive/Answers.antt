use Rattle.std.proofs.Common.{◌≡◌, refl, sym, subst, Result, Ok, Err, IfOk, ◌≤◌, ℕ, Some, ap, ◌∙◌, arith}
use Rattle.life_script.specs.declared.error.DriveError.{DriveError}
use Rattle.life_session.specs.Report.{ReportView}
use Rattle.life_session.proofs.ReportLaws.{stories_count, story_of, told_story}
use Rattle.life_stack.specs.Stack.Drive.{IsOfScenario, report_of}
use Rattle.life_stack.specs.Table.Request.{numbered}
use Rattle.life_stack.specs.Table.Story.{story_table, body_bytes, drops, drop_records}
use Rattle.std.specs.Prelude.{slice_get}
use Rattle.life_script.specs.Scenario.{ScriptView, ScenarioView}
use Rattle.life_script.specs.Told.{ToldView}
use Rattle.life_script.specs.declared.scenario.Limits.{Limits}
use Rattle.life_session.specs.Acts.{own}
use Rattle.life_stack.proofs.TableLaws.Bounds.{story_bounded}
use Rattle.life_stack.proofs.TableLaws.Drops.{drops_once}
use Rattle.life_stack.specs.Table.Handed.{room}
use Rattle.life_session.specs.Moments.{dropped_at, drop_time}
use Rattle.life_stack.proofs.stack.driving.drive.Goals as goal

-- each request has the early drops of the table
report_drops : (limits : Limits) (s : ScenarioView) (i : ℕ) (script : ScriptView) (t : ToldView) → slice_get s.requests i ≡ Some script → slice_get (report_of limits s).told i ≡ Some t →
    drop_records t ≡ drops limits (numbered i script) (own s.steps i) (drop_time (dropped_at (own s.steps i)) s.end)
report_drops limits s i script t here is =
    ap drop_records (told_story (λ j x. story_table limits (numbered j x)) s i script t here is) ∙ drops_once limits (numbered i script) (own s.steps i) s.end

-- and no service was handed more than it has room for
report_bounded : (limits : Limits) (s : ScenarioView) (i : ℕ) (script : ScriptView) (t : ToldView) → slice_get s.requests i ≡ Some script → slice_get (report_of limits s).told i ≡ Some t → body_bytes t ≤ room limits script
report_bounded limits s i script t here is =
    let same = ap body_bytes (told_story (λ j x. story_table limits (numbered j x)) s i script t here is) in
    let bound = story_bounded limits (numbered i script) (own s.steps i) s.end in
    omega (arith, same, bound)

-- what holds of the report of a scenario holds of what a drive answers
of_report : (P : ReportView → Type 0) (r : Result ReportView DriveError) (whole : ReportView) → IfOk r (λ told. told ≡ whole) → P whole → IfOk r P
of_report P (Ok told) whole is p = subst P (sym is) p
of_report P (Err e) whole is p = tt

-- it tells of each request
report_whole : (limits : Limits) (s : ScenarioView) → IsOfScenario s (report_of limits s)
report_whole limits s = record { each_told = stories_count (λ i script. story_table limits (numbered i script)) s.requests 0 s.steps s.end; steps_are = refl; end_is = refl }

pub returns-clause-whole : goal.returns-clause-whole
returns-clause-whole c = of_report _ c.drive.result (report_of c.args.limits.now c.args.scenario.now) c.drive.ensures.told (report_whole c.args.limits.now c.args.scenario.now)

pub returns-clause-each : goal.returns-clause-each
returns-clause-each c = let s = c.args.scenario.now in of_report _ c.drive.result (report_of c.args.limits.now s) c.drive.ensures.told (story_of (λ i script. story_table c.args.limits.now (numbered i script)) s)

pub returns-clause-once : goal.returns-clause-once
returns-clause-once c = of_report _ c.drive.result (report_of c.args.limits.now c.args.scenario.now) c.drive.ensures.told (report_drops c.args.limits.now c.args.scenario.now)

pub returns-clause-bounded : goal.returns-clause-bounded
returns-clause-bounded c = of_report _ c.drive.result (report_of c.args.limits.now c.args.scenario.now) c.drive.ensures.told (report_bounded c.args.limits.now c.args.scenario.now)
