use Rattle.life_core.proofs.Pieces.{source_read}
use Rattle.life_core.proofs.memory.MemorySourceSource.read.Goals as goal

pub returns-clause-bytes : goal.returns-clause-bytes
returns-clause-bytes c =
    source_read c.args.self.now.bytes c.as_slice-2.result.now c.args.buf.now c.copy_from_slice.new.self c.args.self.now.at c.min-count.result c.min.result
    c.args.self.now.most c.as_slice-2.ensures c.copy_from_slice.ensures.after c.min-count.ensures c.min.ensures c.args.self.now.within c.args.self.now.some
