use Rattle.std.proofs.Common.{◌≡◌, take}
use Rattle.life_core.proofs.fields.FieldsTwin.twin.Given as goal

abbrev pub invariant-loop-field : goal.invariant-loop-field
invariant-loop-field l = l.entries.items ≡ take l.field-index l.field-items
