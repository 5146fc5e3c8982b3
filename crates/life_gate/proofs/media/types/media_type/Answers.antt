use Rattle.std.proofs.Common.{rules}
use Rattle.life_gate.proofs.MediaTypes.{no_sub, suffix_passes, media_only, media_there}
use Rattle.life_gate.proofs.media.types.media_type.Goals as goal

pub returns-in_default-clause-read : goal.returns-in_default-clause-read
returns-in_default-clause-read c = λ media m. c.in_default.ensures m.kind m.after_slash m.has_kind

pub returns-in_default-clause-only : goal.returns-in_default-clause-only
returns-in_default-clause-only c = λ media m. absurd (c.in_default.ensures m.kind m.after_slash m.has_kind)

pub returns-in_default-sub_part-clause-read : goal.returns-in_default-sub_part-clause-read
returns-in_default-sub_part-clause-read c = no_sub c.args.text.now c.in-Some.kind.now c.in-Some.rest.now c.in-Some.ensures c.in_default-sub_part.ensures

pub returns-in_default-sub_part-clause-only : goal.returns-in_default-sub_part-clause-only
returns-in_default-sub_part-clause-only c = λ media m. absurd (no_sub c.args.text.now c.in-Some.kind.now c.in-Some.rest.now c.in-Some.ensures c.in_default-sub_part.ensures media m)

pub lowered-requires-2 : goal.lowered-requires-2
lowered-requires-2 c = rw c.before_suffix.ensures (suffix_passes c.in-Some-sub_part.sub.now c.in-Some-sub_part.ensures.token.1)

pub returns-clause-only : goal.returns-clause-only
returns-clause-only c =
    media_only c.args.text.now c.in-Some.kind.now c.in-Some.rest.now c.in-Some-sub_part.sub.now record { kind = c.in_ok-lowered.field-0; sub = c.in_ok-lowered-2.field-0 }
    c.in-Some.ensures c.in-Some-sub_part.ensures (search rules)

pub returns-in_err-lowered-clause-wants : goal.returns-in_err-lowered-clause-wants
returns-in_err-lowered-clause-wants c = media_there _ c.args.text.now c.in-Some.kind.now c.in-Some.rest.now c.in-Some-sub_part.sub.now c.in-Some.ensures c.in-Some-sub_part.ensures

pub returns-in_err-lowered-2-clause-wants : goal.returns-in_err-lowered-2-clause-wants
returns-in_err-lowered-2-clause-wants c = media_there _ c.args.text.now c.in-Some.kind.now c.in-Some.rest.now c.in-Some-sub_part.sub.now c.in-Some.ensures c.in-Some-sub_part.ensures
