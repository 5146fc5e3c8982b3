use Rattle.life_script.proofs.ReadingLemmas.{bad_read, whole_read}
use Rattle.life_script.proofs.reading.read_scenario.Goals as goal

pub returns-clause-whole : goal.returns-clause-whole
returns-clause-whole c = whole_read c.args.bytes.now c.read_text.result c.read_text.ensures.read c.read_text.ensures.bad

pub returns-clause-each_bad : goal.returns-clause-each_bad
returns-clause-each_bad c = bad_read c.args.bytes.now c.read_text.result c.read_text.ensures.read
