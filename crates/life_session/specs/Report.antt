-- What a report is, and its text. Each line of the text is ended by a line feed.
use Rattle.std.specs.Prelude.{◌≡◌, ℕ, suc, ◌+◌, ◌<◌, ◌==◌, List, [], ◌∷◌, ◌++◌, length, slice_get, Option, Some, codes, decimal, flat_map, if◌then◌else◌}
use Rattle.std.specs.Option.{option_and_then, option_map_or}
use Rattle.life_core.specs.declared.event.Event.{Event}
use Rattle.life_script.specs.Scenario.{ScriptView, ScenarioView}
use Rattle.life_script.specs.Texts.{act_text, answer_text, event_text}
use Rattle.life_script.specs.Told.{ToldView, TurnView}
use Rattle.life_script.specs.declared.scenario.Step.{Step}
use Rattle.life_session.specs.Acts.{own, steps_of}
use Rattle.life_session.specs.Table.{Table, story_by}

-- what is told of each request, the steps and the end
pub record ReportView : Type 0 where
  pub told : List ToldView
  pub steps : List Step
  pub end : ℕ

-- each step is of a request that is told of, and each request has one turn for each of its steps
pub record Fits (told : List ToldView) (steps : List Step) : Type 0 where
  pub requests : (k : ℕ) (x : Step) → slice_get steps k ≡ Some x → x.request < length told
  pub turns : (i : ℕ) (t : ToldView) → slice_get told i ≡ Some t → length t.turns ≡ steps_of i steps

-- the stories of the requests from number i on, each by its own table and its own steps
abbrev pub stories : (ℕ → ScriptView → Table) → List ScriptView → ℕ → List Step → ℕ → List ToldView
stories tables [] i steps end = []
stories tables (script ∷ scripts) i steps end = story_by (tables i script) (own steps i) end ∷ stories tables scripts (suc i) steps end

-- the report of a scenario: the story of each request by its table, the steps and the end
abbrev pub report_by : (ℕ → ScriptView → Table) → ScenarioView → ReportView
report_by tables s = record { told = stories tables s.requests 0 s.steps s.end; steps = s.steps; end = s.end }

-- an event after two spaces
abbrev pub event_line : Event → List ℕ
event_line event = codes "  " ++ event_text event ++ codes "\n"

-- events, each in a line of its own
abbrev pub event_lines : List Event → List ℕ
event_lines events = flat_map event_line events

-- the line of step k, and those of its events
abbrev pub turn_lines : ℕ → Step → TurnView → List ℕ
turn_lines k x t =
    codes "step " ++ decimal k ++ codes " at " ++ decimal x.at ++ codes " request " ++ decimal x.request ++ codes " " ++ act_text x.act ++ codes ": " ++ answer_text t.answer ++ codes "\n"
    ++ event_lines t.events

-- the turn of a number of the request of a number
abbrev pub turn_of : List ToldView → ℕ → ℕ → Option TurnView
turn_of told i n = option_and_then (λ t. slice_get t.turns n) (slice_get told i)

-- the lines of a step after those that were made: its turn is the one after those of the earlier steps of its request
abbrev pub step_lines : List ToldView → List Step → Step → List ℕ
step_lines told made x = option_map_or (turn_lines (length made) x) (turn_of told x.request (steps_of x.request made)) []

-- the lines of the steps after those that were made
unfoldable pub steps_lines : List ToldView → List Step → List Step → List ℕ
steps_lines told made [] = []
steps_lines told made (x ∷ xs) = step_lines told made x ++ steps_lines told (made ++ x ∷ []) xs

-- what was recorded where the request of a number was dropped at the end
abbrev pub end_lines : ℕ → ℕ → List Event → List ℕ
end_lines end i events =
    if length events == 0 then []
    else codes "end at " ++ decimal end ++ codes " request " ++ decimal i ++ codes "\n" ++ event_lines events

-- the same for the requests from a number on
unfoldable pub ends_lines : ℕ → ℕ → List ToldView → List ℕ
ends_lines end i [] = []
ends_lines end i (t ∷ ts) = end_lines end i t.at_end ++ ends_lines end (i + 1) ts

-- the last line
abbrev pub total_line : ℕ → ℕ → ℕ → List ℕ
total_line requests steps end = codes "total: " ++ decimal requests ++ codes " requests, " ++ decimal steps ++ codes " steps, end " ++ decimal end ++ codes "\n"

-- a report: its steps, its ends and its totals
abbrev pub report_text : ReportView → List ℕ
report_text r = steps_lines r.told [] r.steps ++ ends_lines r.end 0 r.told ++ total_line (length r.told) (length r.steps) r.end
