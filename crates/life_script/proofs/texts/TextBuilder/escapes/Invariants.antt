use Rattle.std.proofs.Common.{◌≡◌, ◌-◌, ◌≤◌, ◌++◌, take, drop, flat_map}
use Rattle.life_script.specs.Texts.{escaped}
use Rattle.life_script.proofs.texts.TextBuilder.escapes.Given as goal

-- what was put, with the run of plain bytes since then
abbrev pub invariant-loop-i : goal.invariant-loop-i
invariant-loop-i l = record {
  within : l.done ≤ l.i;
  so_far : l.self ++ take (l.i - l.done) (drop l.done l.bytes) ≡ l.initial.self ++ flat_map escaped (take l.i l.bytes);
}
