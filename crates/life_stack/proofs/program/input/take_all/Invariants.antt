use Rattle.std.proofs.Common.{◌≡◌, ◌≤◌, ◌-◌, vec_len}
use Rattle.std.specs.Io.KnownBytes.{Consumes}
use Rattle.life_stack.specs.Program.Input.{most_bytes}
use Rattle.life_stack.proofs.program.input.take_all.Given as goal

abbrev pub invariant-pieces : goal.invariant-pieces
invariant-pieces g l = record {
  within : vec_len l.bytes ≤ most_bytes;
  took : Consumes (g.S.Source.rest l.initial.source) (g.S.Source.rest l.source) l.bytes.items;
  later : g.S.Source.faults l.initial.source ≤ g.S.Source.faults l.source;
  reliable : g.S.Source.reliable l.initial.source → (g.S.Source.faults l.source ≡ g.S.Source.faults l.initial.source) × g.S.Source.reliable l.source;
}

abbrev pub decreases-pieces : goal.decreases-pieces
decreases-pieces g l = most_bytes - vec_len l.bytes
