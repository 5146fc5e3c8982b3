use Rattle.life_session.proofs.ReportTexts.{ends_grown, ends_done}
use Rattle.life_session.proofs.report.put_ends.Goals as goal

pub loop-i-preserved : goal.loop-i-preserved
loop-i-preserved c =
    ends_grown c.args.end c.args.told.now c.loop-i.i c.index-told-i.result c.loop-i.text c.put_end.new.text _ c.loop-i-test.true c.index-told-i.is c.in_ok-put_end.ensures c.loop-i.invariant

pub returns : goal.returns
returns c = ends_done c.args.end c.args.told.now c.loop-i.i c.loop-i.text _ c.loop-i-test.false c.loop-i.invariant
