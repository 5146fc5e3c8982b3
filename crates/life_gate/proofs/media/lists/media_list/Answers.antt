use Rattle.life_gate.proofs.MediaLists.{list_once, list_step, list_end}
use Rattle.life_gate.proofs.media.lists.media_list.Goals as goal

pub loop-piece-preserved : goal.loop-piece-preserved
loop-piece-preserved c =
    list_step c.args.text.now c.loop-piece.rest.now c.in-Some.piece.now c.in-Some.after.now c.in_ok-media_item.field-0 c.loop-piece.items.items c.push.new.self.items
    c.loop-piece.invariant c.in-Some.ensures.0 c.in-Some.ensures.1 c.in_ok-media_item.ensures c.in_ok-push.ensures.items

pub returns-clause-read : goal.returns-clause-read
returns-clause-read c =
    list_end c.args.text.now c.loop-piece.rest.now c.in_ok-media_item-2.field-0 c.loop-piece.items.items c.push-2.new.self.items
    c.loop-piece.invariant c.in_default.ensures c.in_ok-media_item-2.ensures c.in_ok-push-2.ensures.items

pub returns-clause-only : goal.returns-clause-only
returns-clause-only c =
    list_once (list_end c.args.text.now c.loop-piece.rest.now c.in_ok-media_item-2.field-0 c.loop-piece.items.items c.push-2.new.self.items
    c.loop-piece.invariant c.in_default.ensures c.in_ok-media_item-2.ensures c.in_ok-push-2.ensures.items)
