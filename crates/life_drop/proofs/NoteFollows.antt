-- `NoteDrop` records each early drop with the time since the call.
use Rattle.std.proofs.Common.{◌≡◌, ℕ, List, [], ◌∷◌, Ok, Result, ap, arith, ◌∙◌}
use Rattle.life_core.proofs.Growth.{adds_one}
use Rattle.life_core.specs.declared.event.DropKind.TheVariants.{Future, Body}
use Rattle.life_core.specs.declared.event.Event.{Event}
use Rattle.life_core.specs.declared.message.ResponseHead.{ResponseHead}
use Rattle.life_drop.specs.declared.on_early_drop.note.NoteDropped.{NoteDropped}
use Rattle.life_drop.specs.Note.{noting, noted, NotesDrop, NotesFuture, NotesStart, NotesBody}
use Rattle.life_drop.proofs.DropFollows.{CallbackFollows, RespondFollows, MakeFollows}

ok_is : {A E : Type 0} {a b : A} → ◌≡◌ {A = Result A E} (Ok a) (Ok b) → a ≡ b
ok_is e = cc

-- one record
abbrev pub notes : NoteDropped → ℕ → List Event
notes c t = noted c t ∷ []

pub note_records : CallbackFollows NotesDrop notes
note_records = record {
  records = λ c was t u now f. adds_one was now _ f;
  refused = λ c was t e now f. omega (arith, f.0);
}

pub note_future : {B X : Type 0} → MakeFollows (NotesFuture {B = B} {X = X}) (λ t. noting Future t)
note_future = record { gives = λ hook req m made new e. ok_is e }

pub note_start : {B X : Type 0} → MakeFollows (NotesStart {B = B} {X = X}) (λ t. t)
note_start = record { gives = λ hook req m made new e. ok_is e }

pub note_body : {G X : Type 0} (Heads : G → ResponseHead X → Type 0) (status : G → ℕ) (heads : (g : G) (head : ResponseHead X) → Heads g head → head.parts.status ≡ status g) (t0 : ℕ) →
    RespondFollows Heads NotesBody t0 (λ g. noting (Body (status g)) t0)
note_body Heads status heads t0 = record {
  gives = λ hook i g head made new b k e. ok_is e ∙ ap (λ x. noting (Body head.parts.status) x) b ∙ ap (λ x. noting (Body x) t0) (heads g head k);
}
