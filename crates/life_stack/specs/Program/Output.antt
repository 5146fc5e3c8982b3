-- The output of a run: what it is to write, and with which status.
use Rattle.std.specs.Prelude.{◌≡◌, ℕ, ◌+◌, List, [], length, Option, Some, None, Err, ◌⊎◌}
use Rattle.life_script.specs.Scenario.{ScenarioView}
use Rattle.life_script.specs.declared.scenario.Limits.{Limits}
use Rattle.life_script.specs.declared.error.DriveError.{DriveError}
use Rattle.life_script.specs.Reading.{Reads, IsBadScenario}
use Rattle.life_script.specs.Valid.{IsValid, verdict}
use Rattle.life_stack.specs.Stack.Drive.{report_of}
use Rattle.life_session.specs.Report.{report_text}
use Rattle.life_stack.specs.Program.Input.{most_bytes, IsWhole}
use Rattle.life_stack.specs.Program.Lines.{usage_line, too_long_line, bad_scenario_line, refused_line}
use Rattle.life_stack.specs.declared.program.words.Command.{Command}
use Rattle.life_stack.specs.declared.program.words.Command.TheVariants.{Drive}
use Rattle.life_stack.specs.declared.program.status.Status.{Status}
use Rattle.life_stack.specs.declared.program.status.Status.TheVariants.{Done, Usage, BadScenario, Refused, TooLong}

-- the bytes are a valid scenario, and the text is what is reported of it
pub record IsReport (bytes text : List ℕ) : Type 0 where
  pub limits : Limits
  pub scenario : ScenarioView
  pub reads : Reads bytes limits scenario
  pub valid : IsValid scenario
  pub text_is : text ≡ report_text (report_of limits scenario)

-- the bytes are a scenario that is refused, and the text is the line that says why
pub record IsRefusal (bytes text : List ℕ) : Type 0 where
  pub limits : Limits
  pub scenario : ScenarioView
  pub why : DriveError
  pub reads : Reads bytes limits scenario
  pub refused : verdict scenario ≡ Err why
  pub text_is : text ≡ refused_line why

-- the bytes are no scenario, and the text is the line that says so
abbrev pub IsUnread : List ℕ → List ℕ → Type 0
IsUnread bytes text = IsBadScenario bytes × (text ≡ bad_scenario_line)

-- the status and the text for the bytes that a source gave to its end
abbrev pub IsOutputFor : List ℕ → Status → List ℕ → Type 0
IsOutputFor bytes Done text = IsReport bytes text
IsOutputFor bytes BadScenario text = IsUnread bytes text
IsOutputFor bytes Refused text = IsRefusal bytes text
IsOutputFor bytes _ text = ⊥

-- the status and the text on a command, where these bytes were taken from a source that has this left; a fault and want of
-- memory have none
abbrev pub IsOutput : Option Command → List ℕ → Option (List ℕ) → Status → List ℕ → Type 0
IsOutput command taken left Usage text = (command ≡ None) × (taken ≡ []) × (text ≡ usage_line)
IsOutput command taken left TooLong text = (command ≡ Some Drive) × (length taken ≡ most_bytes + 1) × (text ≡ too_long_line)
IsOutput command taken left BadScenario text = (command ≡ Some Drive) × IsWhole taken left × IsUnread taken text
IsOutput command taken left Refused text = (command ≡ Some Drive) × IsWhole taken left × IsRefusal taken text
IsOutput command taken left Done text = (command ≡ Some Drive) × IsWhole taken left × IsReport taken text
IsOutput command taken left _ text = ⊥
