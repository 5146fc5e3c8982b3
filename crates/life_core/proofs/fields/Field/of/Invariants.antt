use Rattle.std.proofs.Common.{◌≡◌, ◌++◌, map}
use Rattle.http_header.specs.HeaderMap.{get_all}
use Rattle.life_core.specs.Fields.{as_shown}
use Rattle.life_core.proofs.fields.Field.of.Given as goal

abbrev pub invariant-loop-value : goal.invariant-loop-value
invariant-loop-value l = l.values.items ++ map as_shown l.value-iterator ≡ map as_shown (get_all l.headers l.name)
