-- What `NoteDrop` does: it records the drop, with the time since the call.
use Rattle.std.specs.Prelude.{◌≡◌, ℕ, Result, Ok}
use Rattle.life_core.specs.Timer.{since}
use Rattle.life_core.specs.Moment.{Moment}
use Rattle.life_core.specs.Recorded.{Recorded, Notes}
use Rattle.life_core.specs.declared.event.Event.{Event}
use Rattle.life_core.specs.declared.event.Event.TheVariants.{Dropped}
use Rattle.life_core.specs.declared.event.DropKind.{DropKind}
use Rattle.life_core.specs.declared.event.DropKind.TheVariants.{Future, Body}
use Rattle.life_core.specs.declared.latency.LatencyUnit.TheVariants.{Nanos}
use Rattle.life_core.specs.declared.message.Request.{Request}
use Rattle.life_core.specs.declared.message.ResponseHead.{ResponseHead}
use Rattle.life_core.specs.declared.recorder.NoMemory.{NoMemory}
use Rattle.life_drop.specs.declared.on_early_drop.note.NoteDrop.{NoteDrop}
use Rattle.life_drop.specs.declared.on_early_drop.note.NoteDropped.{NoteDropped}

-- the record of a drop, so many nanoseconds after the call
abbrev pub drop_record : DropKind → ℕ → Event
drop_record what nanos = Dropped what (record { unit = Nanos; nanos = nanos })

-- the callback of what is called at this time
abbrev pub noting : DropKind → ℕ → NoteDropped
noting what start = record { what = what; start = start }

-- what it records at this time
abbrev pub noted : NoteDropped → ℕ → Event
noted c now = drop_record c.what (since c.start now)

-- the drop is recorded, or refused where there is no room
abbrev pub NotesDrop : NoteDropped → ℕ → Recorded → Result Unit NoMemory → Recorded → Type 0
NotesDrop c now old answer new = Notes old (noted c now) answer new

-- a callback that tells the drop of a future, since the call
abbrev pub NotesFuture : {B X : Type 0} → NoteDrop → Request B X → Moment → Result NoteDropped NoMemory → NoteDrop → Type 0
NotesFuture old request m answer new = answer ≡ Ok (noting Future m.now)

-- it keeps the time of the call
abbrev pub NotesStart : {B X : Type 0} → NoteDrop → Request B X → Moment → Result ℕ NoMemory → NoteDrop → Type 0
NotesStart old request m answer new = answer ≡ Ok m.now

-- a callback that tells the drop of a body with the response's status, since the call
abbrev pub NotesBody : {X : Type 0} → NoteDrop → ℕ → ResponseHead X → Result NoteDropped NoMemory → NoteDrop → Type 0
NotesBody old start head answer new = answer ≡ Ok (noting (Body head.parts.status) start)
