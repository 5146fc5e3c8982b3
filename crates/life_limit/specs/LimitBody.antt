-- The bodies of `RequestBodyLimit`'s responses: an inner one, or a text.
use Rattle.std.specs.Prelude.{ℕ, Bool, List, Option, ⊤}
use Rattle.life_core.specs.UnsyncBoxBody.{NeverFaults}
use Rattle.life_core.specs.Full.{FullFrames, full_ends, full_hints}
use Rattle.life_core.specs.Calls.{Frames, Abandons, NothingToAbandon}
use Rattle.life_limit.specs.declared.limit.body.ResponseBody.{ResponseBody}
use Rattle.life_limit.specs.declared.limit.body.ResponseBody.TheVariants.{PayloadTooLarge, Body}

-- the default is the inner default
abbrev pub IsDefaultLimitBody : {B : Type 0} → (B → Type 0) → ResponseBody B → Type 0
IsDefaultLimitBody is_default (Body b) = is_default b
IsDefaultLimitBody is_default (PayloadTooLarge b) = ⊥

-- the inner body may be polled and abandoned; the text always may
abbrev pub LimitBodyMay : {B : Type 0} → (B → Type 0) → ResponseBody B → Type 0
LimitBodyMay may (Body b) = may b
LimitBodyMay may (PayloadTooLarge b) = ⊤

-- a default body may be polled and abandoned, where the inner default may
pub default_may_by : {B : Type 0} {is_default may : B → Type 0} → ((b : B) → is_default b → may b) → (body : ResponseBody B) → IsDefaultLimitBody is_default body → LimitBodyMay may body
default_may_by law (Body b) d = law b d
default_may_by law (PayloadTooLarge b) d = tt

-- the inner body is abandoned; with the text there is nothing to abandon
abbrev pub LimitBodyAbandons : {B : Type 0} → Abandons B → Abandons (ResponseBody B)
LimitBodyAbandons abandons (Body b) was m answer now = abandons b was m answer now
LimitBodyAbandons abandons (PayloadTooLarge b) was m answer now = NothingToAbandon b was m answer now

-- it answers as the body in it, which stays of its kind
abbrev pub LimitBodyFrames : {B E : Type 0} → Frames B (List ℕ) E → Frames (ResponseBody B) (List ℕ) E
LimitBodyFrames frames (Body b) was m answer (Body c) now = frames b was m answer c now
LimitBodyFrames frames (Body b) was m answer (PayloadTooLarge c) now = ⊥
LimitBodyFrames frames (PayloadTooLarge b) was m answer (Body c) now = ⊥
LimitBodyFrames frames (PayloadTooLarge b) was m answer (PayloadTooLarge c) now = NeverFaults {N = ⊥} FullFrames b was m answer c now

-- it tells its end as the body in it does
abbrev pub limit_body_ends : {B : Type 0} → (B → Bool) → ResponseBody B → Bool
limit_body_ends ends (Body b) = ends b
limit_body_ends ends (PayloadTooLarge b) = full_ends b

-- the hint of the body in it
abbrev pub limit_body_hints : {B : Type 0} → (B → ℕ × Option ℕ) → ResponseBody B → ℕ × Option ℕ
limit_body_hints hints (Body b) = hints b
limit_body_hints hints (PayloadTooLarge b) = full_hints b
