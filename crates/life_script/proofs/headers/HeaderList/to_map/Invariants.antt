use Rattle.std.proofs.Common.{◌≡◌, take}
use Rattle.life_script.specs.Headers.{map_of}
use Rattle.life_script.proofs.headers.HeaderList.to_map.Given as goal

abbrev pub invariant-loop-name : goal.invariant-loop-name
invariant-loop-name l = l.map ≡ map_of (take l.name-index l.name-items)
