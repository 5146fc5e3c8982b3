-- What a run did.
use Rattle.std.specs.Prelude.{◌≡◌, ℕ, ◌+◌, ◌<◌, ◌≤◌, List, [], length, Option, Some, ◌⊎◌}
use Rattle.std.specs.Io.KnownBytes.{Appends, Consumes, Keeps}
use Rattle.life_script.specs.Scenario.{ScenarioView}
use Rattle.life_script.specs.declared.scenario.Limits.{Limits}
use Rattle.life_script.specs.Reading.{Reads}
use Rattle.life_script.specs.Valid.{IsValid}
use Rattle.life_stack.specs.Program.Output.{IsOutput, IsOutputFor}
use Rattle.life_stack.specs.Program.Input.{most_bytes}
use Rattle.life_stack.specs.Program.Writing.{AppendsPrefix}
use Rattle.life_stack.specs.declared.program.words.Command.{Command}
use Rattle.life_stack.specs.declared.program.words.Command.TheVariants.{Drive}
use Rattle.life_stack.specs.declared.program.status.Status.{Status}
use Rattle.life_stack.specs.declared.program.status.Status.TheVariants.{SourceFault, TooLong, SinkFault, NoMemory}

-- a run that ended so was stopped before it had an output: a read failed, or there was no memory
abbrev pub EndedEarly : Status → Type 0
EndedEarly status = (status ≡ SourceFault) ⊎ (status ≡ NoMemory)

-- a run on a command was stopped before it had an output
pub record IsStopped (command : Option Command) (taken output : List ℕ) (held held' : Option (List ℕ)) : Type 0 where
  pub asked : command ≡ Some Drive
  pub within : length taken ≤ most_bytes
  pub none_output : output ≡ []
  pub unwritten : Keeps held held'

-- the sink failed while this was written, the output with some status
pub record IsCutShort (command : Option Command) (taken output : List ℕ) (left held held' : Option (List ℕ)) : Type 0 where
  pub meant : Status
  pub was_output : IsOutput command taken left meant output
  pub begun : AppendsPrefix held held' output

-- the output with this status was written whole
pub record IsWritten (command : Option Command) (taken output : List ℕ) (left held held' : Option (List ℕ)) (status : Status) : Type 0 where
  pub was_output : IsOutput command taken left status output
  pub whole : Appends held held' output

-- how a run ended, by its status: its output, and what was written of it
abbrev pub EndedWith : Option Command → List ℕ → List ℕ → Option (List ℕ) → Option (List ℕ) → Option (List ℕ) → Status → Type 0
EndedWith command taken output left held held' SourceFault = IsStopped command taken output held held'
EndedWith command taken output left held held' NoMemory = IsStopped command taken output held held'
EndedWith command taken output left held held' SinkFault = IsCutShort command taken output left held held'
EndedWith command taken output left held held' status = IsWritten command taken output left held held' status

-- a run took these bytes, and this text was its output
pub record RanOn (command : Option Command) (taken output : List ℕ) (rest left held held' : Option (List ℕ)) (status : Status) : Type 0 where
  pub took : Consumes rest left taken
  pub at_most : length taken ≤ most_bytes + 1
  pub over : most_bytes < length taken → (status ≡ TooLong) ⊎ (status ≡ SinkFault)
  pub ended : EndedWith command taken output left held held' status

-- a source has left the bytes of a valid scenario, and no more than are read
pub record HasScenario (rest : Option (List ℕ)) (limits : Limits) (scenario : ScenarioView) : Type 0 where
  pub bytes : List ℕ
  pub told : rest ≡ Some bytes
  pub within : length bytes ≤ most_bytes
  pub reads : Reads bytes limits scenario
  pub valid : IsValid scenario

-- a source has left bytes, no more than are read, which have an output with this status
pub record HasOutput (rest : Option (List ℕ)) (status : Status) : Type 0 where
  pub bytes : List ℕ
  pub text : List ℕ
  pub told : rest ≡ Some bytes
  pub within : length bytes ≤ most_bytes
  pub output : IsOutputFor bytes status text
