-- What a drive answers.
use Rattle.std.specs.Prelude.{◌≡◌, ℕ, length, slice_get, Some}
use Rattle.life_script.specs.Scenario.{ScenarioView, ScriptView}
use Rattle.life_script.specs.Told.{ToldView}
use Rattle.life_script.specs.declared.scenario.Limits.{Limits}
use Rattle.life_session.specs.Acts.{own}
use Rattle.life_session.specs.Moments.{drop_time, dropped_at}
use Rattle.life_session.specs.Report.{ReportView, report_by}
use Rattle.life_stack.specs.Table.Request.{numbered}
use Rattle.life_stack.specs.Table.Story.{story_table}

-- the report of a scenario: the story of each request by its number, its steps and its end
abbrev pub report_of : Limits → ScenarioView → ReportView
report_of limits s = report_by (λ i script. story_table limits (numbered i script)) s

-- a report tells of each request of this scenario, and has its steps and its end
pub record IsOfScenario (s : ScenarioView) (r : ReportView) : Type 0 where
  pub each_told : length r.told ≡ length s.requests
  pub steps_are : r.steps ≡ s.steps
  pub end_is : r.end ≡ s.end

-- P holds of each request of a scenario: of its number and its script
abbrev pub EachRequest : ScenarioView → (ℕ → ScriptView → Type 0) → Type 0
EachRequest s P = (i : ℕ) (script : ScriptView) → slice_get s.requests i ≡ Some script → P i script

-- P holds of each request of a scenario: of its number, its script and what a report tells of it
abbrev pub EachTold : ScenarioView → ReportView → (ℕ → ScriptView → ToldView → Type 0) → Type 0
EachTold s r P = (i : ℕ) (script : ScriptView) (t : ToldView) → slice_get s.requests i ≡ Some script → slice_get r.told i ≡ Some t → P i script t

-- when request i is dropped, in nanoseconds: at the first Drop after its Call, or else at the end
abbrev pub drop_time_of : ReportView → ℕ → ℕ
drop_time_of r i = drop_time (dropped_at (own r.steps i)) r.end
