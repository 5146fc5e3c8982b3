use Rattle.std.proofs.Common.{◌≡◌, ◌++◌, take}
use Rattle.life_session.specs.Report.{event_lines}
use Rattle.life_session.proofs.report.put_events.Given as goal

abbrev pub invariant-loop-event : goal.invariant-loop-event
invariant-loop-event l = l.text ≡ l.initial.text ++ event_lines (take l.event-index l.events)
