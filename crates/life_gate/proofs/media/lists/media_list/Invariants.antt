use Rattle.std.proofs.Common.{List, ◌++◌, length}
use Rattle.life_gate.specs.declared.media.types.MediaItem.{MediaItem}
use Rattle.life_gate.specs.MediaList.{IsMediaList}
use Rattle.life_gate.proofs.media.lists.media_list.Given as goal

-- the items of the rest complete the list
abbrev pub invariant-loop-piece : goal.invariant-loop-piece
invariant-loop-piece l = (more : List MediaItem) → IsMediaList l.rest more → IsMediaList l.text (l.items.items ++ more)

abbrev pub decreases-loop-piece : goal.decreases-loop-piece
decreases-loop-piece l = length l.rest
