-- What `AcceptHeader` asks of a request: that it accepts one media type.
use Rattle.std.specs.Prelude.{◌≡◌}
use Rattle.life_core.specs.declared.message.Request.{Request}
use Rattle.life_gate.specs.Accepting.{IsAcceptable}
use Rattle.life_gate.specs.Judged.{Judged, IsBareRefusal, Verdict}
use Rattle.life_gate.specs.declared.media.types.MediaType.{MediaType}
use Rattle.life_gate.specs.declared.validate_request.accept.AcceptHeader.{AcceptHeader}

-- the validator that asks for this media type
abbrev pub accept_of : {R : Type 0} → MediaType → AcceptHeader R
accept_of media = record { media = media; refusal = record {} }

-- a bare 406 where the media type is not accepted; validator and request stay as they were
pub record AcceptValidates {R B X : Type 0} (is_body : R → Type 0) (is_ext : X → Type 0) (old : AcceptHeader R) (req : Request B X)
    (answer : Verdict R X) (new : AcceptHeader R) (seen : Request B X) : Type 0 where
  pub judged : Judged (IsAcceptable req.head.parts.headers old.media) (¬ (IsAcceptable req.head.parts.headers old.media)) (IsBareRefusal is_body is_ext 406) answer
  pub same : new ≡ old
  pub kept : seen ≡ req
