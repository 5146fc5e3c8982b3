use Rattle.std.proofs.Common.{rules}
use Rattle.life_script.proofs.HeaderMaps.{never_full}
use Rattle.life_script.proofs.headers.HeaderList.to_map.Goals as goal

pub unreachable-requires : goal.unreachable-requires
unreachable-requires c =
    never_full _ c.loop-name.name-index c.as_slice-name-items.result.now (search rules)
    (rw c.loop-name.invariant at c.in-Err-MaxSizeReached.ensures.full.0 (search rules))
