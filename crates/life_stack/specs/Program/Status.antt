-- The numbers of the statuses.
use Rattle.std.specs.Prelude.{ℕ}
use Rattle.life_stack.specs.declared.program.status.Status.{Status}
use Rattle.life_stack.specs.declared.program.status.Status.TheVariants.{Done, Usage, BadScenario, Refused, SourceFault, TooLong, SinkFault, NoMemory}

-- the number that a process ends with
abbrev pub exit_number : Status → ℕ
exit_number Done = 0
exit_number Usage = 2
exit_number BadScenario = 4
exit_number Refused = 5
exit_number SourceFault = 6
exit_number TooLong = 7
exit_number SinkFault = 8
exit_number NoMemory = 9
