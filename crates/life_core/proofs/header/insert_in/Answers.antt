use Rattle.std.proofs.Common.{◌∙◌, rules}
use Rattle.life_core.proofs.Headers.{put_where_full, put_where_room}
use Rattle.life_core.proofs.header.insert_in.Goals.{in-Ok, in-Err-MaxSizeReached, in-Err-OutOfMemory}
use Rattle.life_core.proofs.header.insert_in.Goals as goal

pub returns : goal.returns
returns c = elim c.match-insert.branch [
  | in-Ok w ↦ rw w.result-is (
      let inserted = rw w.in-Ok.is at c.insert.ensures.ok in
      inserted ∙ put_where_room c.args.headers.now c.args.key c.args.value (λ r. let a = w.in-Ok.is in let b = c.insert.ensures.full.1 r in cc))
  | in-Err-MaxSizeReached w ↦ rw w.result-is (
      let stayed = rw w.in-Err-MaxSizeReached.is at c.insert.ensures.err in
      stayed ∙ put_where_full c.args.headers.now c.args.key c.args.value (c.insert.ensures.full.0 (search rules)))
  | in-Err-OutOfMemory w ↦ search rules
]
