-- One body in place of several.
use Rattle.std.specs.Prelude.{◌≡◌, ℕ, Bool, true, Option, Some, None, Ok, Err, ⊤}
use Rattle.life_core.specs.Calls.{Frames, Answer, Abandons}
use Rattle.life_core.specs.Moment.{Moment}
use Rattle.life_core.specs.Recorded.{Recorded}
use Rattle.life_core.specs.declared.body.boxed.UnsyncBoxBody.{UnsyncBoxBody}
use Rattle.life_core.specs.declared.body.boxed.UnsyncBoxBody.TheVariants.{Inner, Panic, Empty}
use Rattle.life_core.specs.declared.poll.Poll.TheVariants.{Ready, Pending}

-- there is no body in it
abbrev pub IsEmptyBox : {B P : Type 0} → UnsyncBoxBody B P → Type 0
IsEmptyBox box = box ≡ Empty

-- the body in it may be polled and abandoned
abbrev pub BoxMay : {B P : Type 0} → (B → Type 0) → (P → Type 0) → UnsyncBoxBody B P → Type 0
BoxMay may panic_may (Inner b) = may b
BoxMay may panic_may (Panic p) = panic_may p
BoxMay may panic_may Empty = ⊤

-- the body in it is abandoned; with none there is nothing to abandon
abbrev pub BoxAbandons : {B P : Type 0} → Abandons B → Abandons P → Abandons (UnsyncBoxBody B P)
BoxAbandons abandons panic_abandons (Inner b) was m answer now = abandons b was m answer now
BoxAbandons abandons panic_abandons (Panic p) was m answer now = panic_abandons p was m answer now
BoxAbandons abandons panic_abandons Empty was m answer now = (answer ≡ Ok tt) × (now ≡ was)

-- an answer of a body that never faults, told as one of a body that may
abbrev pub NeverFaults : {P D E N : Type 0} → Frames P D N → P → Recorded → Moment → Answer D E → P → Recorded → Type 0
NeverFaults frames old was m (Ok (Ready (Some (Ok f)))) new now = frames old was m (Ok (Ready (Some (Ok f)))) new now
NeverFaults frames old was m (Ok (Ready (Some (Err e)))) new now = ⊥
NeverFaults frames old was m (Ok (Ready None)) new now = frames old was m (Ok (Ready None)) new now
NeverFaults frames old was m (Ok Pending) new now = frames old was m (Ok Pending) new now
NeverFaults frames old was m (Err e) new now = frames old was m (Err e) new now

-- it answers as the body in it, which stays of its kind; with none it is at its end
abbrev pub BoxFrames : {B P D E N : Type 0} → Frames B D E → Frames P D N → Frames (UnsyncBoxBody B P) D E
BoxFrames frames panic_frames (Inner b) was m answer (Inner c) now = frames b was m answer c now
BoxFrames frames panic_frames (Inner b) was m answer (Panic c) now = ⊥
BoxFrames frames panic_frames (Inner b) was m answer Empty now = ⊥
BoxFrames frames panic_frames (Panic p) was m answer (Inner c) now = ⊥
BoxFrames frames panic_frames (Panic p) was m answer (Panic q) now = NeverFaults panic_frames p was m answer q now
BoxFrames frames panic_frames (Panic p) was m answer Empty now = ⊥
BoxFrames frames panic_frames Empty was m answer (Inner c) now = ⊥
BoxFrames frames panic_frames Empty was m answer (Panic c) now = ⊥
BoxFrames frames panic_frames Empty was m answer Empty now = (answer ≡ Ok (Ready None)) × (now ≡ was)

-- it tells its end as the body in it does; with none it is at its end
abbrev pub box_ends : {B P : Type 0} → (B → Bool) → (P → Bool) → UnsyncBoxBody B P → Bool
box_ends ends panic_ends (Inner b) = ends b
box_ends ends panic_ends (Panic p) = panic_ends p
box_ends ends panic_ends Empty = true

-- the hint of the body in it; with none exactly 0
abbrev pub box_hints : {B P : Type 0} → (B → ℕ × Option ℕ) → (P → ℕ × Option ℕ) → UnsyncBoxBody B P → ℕ × Option ℕ
box_hints hints panic_hints (Inner b) = hints b
box_hints hints panic_hints (Panic p) = panic_hints p
box_hints hints panic_hints Empty = (0, Some 0)
