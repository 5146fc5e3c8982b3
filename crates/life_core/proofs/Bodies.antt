-- Bodies of one chunk, one body in place of several, and a body with room for so many bytes go on by their histories.
use Rattle.std.proofs.Common.{◌≡◌, inl, inr, ℕ, ◌<◌, List, [], ◌∷◌, length, Bool, Option, Some, None, Ok, Err, Result, refl, sym, ap, ◌∙◌, subst}
use Rattle.std.proofs.lemmas.Bool.{le-leb, lt-leb}
use Rattle.http_body.specs.declared.frame.Frame.{Frame}
use Rattle.life_core.specs.Calls.{Abandons, Frames, NothingToAbandon}
use Rattle.life_core.specs.Moment.{Moment}
use Rattle.life_core.specs.Recorded.{Recorded}
use Rattle.life_core.specs.declared.body.BodyError.{BodyError}
use Rattle.life_core.specs.declared.body.BodyError.TheVariants.{Elapsed, LengthLimit, Inner}
use Rattle.life_core.specs.declared.body.boxed.UnsyncBoxBody.{UnsyncBoxBody}
use Rattle.life_core.specs.declared.body.boxed.UnsyncBoxBody.TheVariants as Box
use Rattle.life_core.specs.declared.body.full.Full.{Full}
use Rattle.life_core.specs.declared.body.limited.Limited.{Limited}
use Rattle.life_core.specs.declared.event.Event.{Event}
use Rattle.life_core.specs.declared.poll.Poll.{Poll}
use Rattle.life_core.specs.declared.poll.Poll.TheVariants.{Ready, Pending}
use Rattle.life_core.specs.declared.recorder.NoMemory.{NoMemory}
use Rattle.life_core.specs.UnsyncBoxBody.{BoxFrames, BoxAbandons, NeverFaults, box_ends}
use Rattle.life_core.specs.Full.{FullFrames, full_answer, full_ends}
use Rattle.life_core.specs.History.{Adds, BodyHistory, BodyFollows, FrameSteps}
use Rattle.life_core.specs.Limited.{LimitedFrames, length_of}
use Rattle.life_core.specs.LimitedHistory.{LimitedStands, limited_history, room_after, within}
use Rattle.life_core.specs.OneChunk.{ChunkStands, FullStands, BoxStands}
use Rattle.life_core.proofs.Growth.{adds_none}

ok_is : {A E : Type 0} {a b : A} → ◌≡◌ {A = Result A E} (Ok a) (Ok b) → a ≡ b
ok_is e = cc

quiet : (was now : Recorded) (es : List Event) → es ≡ [] → now ≡ was → Adds was now es
quiet was now es e same = subst (λ fs. Adds was now fs) (sym e) (adds_none was now same)

module _ {P E : Type 0} (h : P → BodyHistory (List ℕ) E) where
  gave : (p : P) (c : Option (List ℕ)) (past : List ℕ) (was : Recorded) (q : ℕ) (a : Poll (Option (Result (Frame (List ℕ)) E))) (new : Full) (now : Recorded) →
      ChunkStands (h p) c past → Ok a ≡ full_answer c → new.chunk ≡ None → now ≡ was → FrameSteps (FullStands h) (h p) p past was q a new now
  gave p (Some chunk) [] was q a new now t e gone same = record {
    answer = ok_is e ∙ sym (t.first q);
    adds = quiet was now _ (t.events [] q) same;
    stands = rw gone (inr (chunk, t));
  }
  gave p (Some chunk) (x ∷ past) was q a new now t e gone same = elim t [ ]
  gave p None [] was q a new now t e gone same = record {
    answer = ok_is e ∙ sym (t.frame [] q);
    adds = quiet was now _ (t.events [] q) same;
    stands = rw gone (inl t);
  }
  gave p None (x ∷ past) was q a new now (inl t) e gone same = record {
    answer = ok_is e ∙ sym (t.frame (x ∷ past) q);
    adds = quiet was now _ (t.events (x ∷ past) q) same;
    stands = rw gone (inl t);
  }
  gave p None (x ∷ past) was q a new now (inr t) e gone same = record {
    answer = ok_is e ∙ sym (t.1.later x q past);
    adds = quiet was now _ (t.1.events (x ∷ past) q) same;
    stands = rw gone (inr t);
  }

  told : (p : P) (c : Option (List ℕ)) (past : List ℕ) → ChunkStands (h p) c past → full_ends (record { chunk = c }) ≡ (h p).ends past
  told p (Some chunk) [] t = sym t.untold
  told p (Some chunk) (x ∷ past) t = elim t [ ]
  told p None [] t = sym (t.ends [])
  told p None (x ∷ past) (inl t) = sym (t.ends (x ∷ past))
  told p None (x ∷ past) (inr t) = sym (t.1.ended x past)

  nothing_recorded : (p : P) (c : Option (List ℕ)) (past : List ℕ) (q : ℕ) → ChunkStands (h p) c past → (h p).abandoned past q ≡ []
  nothing_recorded p (Some chunk) [] q t = t.abandoned [] q
  nothing_recorded p (Some chunk) (x ∷ past) q t = elim t [ ]
  nothing_recorded p None [] q t = t.abandoned [] q
  nothing_recorded p None (x ∷ past) q (inl t) = t.abandoned (x ∷ past) q
  nothing_recorded p None (x ∷ past) q (inr t) = t.1.abandoned (x ∷ past) q

  pub full_follows : BodyFollows (FullFrames {E = E}) NothingToAbandon full_ends (FullStands h) h
  full_follows = record {
    tells = λ p b past s. told p b.chunk past s;
    frame = λ p past b was m a new now s d. gave p b.chunk past was m.now a new now s d.answer_is d.taken d.unrecorded;
    abandoned = λ p past b was m u now s d. quiet was now _ (nothing_recorded p b.chunk past m.now s) d.1;
    refused = λ p past b was m e now s d. absurd (cc d.0);
  }

  -- the same answer, told with another type of faults
  module _ (N : Type 0) where
    pending_is : (c : Option (List ℕ)) → Ok Pending ≡ full_answer {E = N} c → Ok Pending ≡ full_answer {E = E} c
    pending_is (Some chunk) e = absurd cc
    pending_is None e = absurd cc

    end_is : (c : Option (List ℕ)) → Ok (Ready None) ≡ full_answer {E = N} c → Ok (Ready None) ≡ full_answer {E = E} c
    end_is (Some chunk) e = absurd cc
    end_is None e = refl

    frame_is : (c : Option (List ℕ)) (f : Frame (List ℕ)) → Ok (Ready (Some (Ok f))) ≡ full_answer {E = N} c → Ok (Ready (Some (Ok f))) ≡ full_answer {E = E} c
    frame_is (Some chunk) f e = cc
    frame_is None f e = absurd cc

    without_fault : (b : Full) (was : Recorded) (m : Moment) (a : Poll (Option (Result (Frame (List ℕ)) E))) (new : Full) (now : Recorded) →
        NeverFaults (FullFrames {E = N}) b was m (Ok a) new now → FullFrames {E = E} b was m (Ok a) new now
    without_fault b was m Pending new now d = record { answer_is = pending_is b.chunk d.answer_is; taken = d.taken; unrecorded = d.unrecorded }
    without_fault b was m (Ready None) new now d = record { answer_is = end_is b.chunk d.answer_is; taken = d.taken; unrecorded = d.unrecorded }
    without_fault b was m (Ready (Some (Ok f))) new now d = record { answer_is = frame_is b.chunk f d.answer_is; taken = d.taken; unrecorded = d.unrecorded }
    without_fault b was m (Ready (Some (Err e))) new now d = elim d [ ]

  pub full_never_faults : {N : Type 0} → BodyFollows (NeverFaults {E = E} (FullFrames {E = N})) NothingToAbandon full_ends (FullStands h) h
  full_never_faults {N = N} = record {
    tells = λ p b past s. full_follows.tells p b past s;
    frame = λ p past b was m a new now s d. full_follows.frame p past b was m a new now s (without_fault N b was m a new now d);
    abandoned = λ p past b was m u now s d. full_follows.abandoned p past b was m u now s d;
    refused = λ p past b was m e now s d. full_follows.refused p past b was m e now s d;
  }

module _ {P B Q E N : Type 0} (frames : Frames B (List ℕ) E) (abandons : Abandons B) (ends : B → Bool) (Stands : P → B → List ℕ → Type 0)
    (panic_frames : Frames Q (List ℕ) N) (panic_abandons : Abandons Q) (panic_ends : Q → Bool) (PanicStands : P → Q → List ℕ → Type 0) (h : P → BodyHistory (List ℕ) E)
    (inner : BodyFollows frames abandons ends Stands h) (panic : BodyFollows (NeverFaults panic_frames) panic_abandons panic_ends PanicStands h) where
  abbrev Within : P → UnsyncBoxBody B Q → List ℕ → Type 0
  Within = BoxStands h Stands PanicStands

  box_told : (p : P) (b : UnsyncBoxBody B Q) (past : List ℕ) → Within p b past → box_ends ends panic_ends b ≡ (h p).ends past
  box_told p (Box.Inner b) past s = inner.tells p b past s
  box_told p (Box.Panic b) past s = panic.tells p b past s
  box_told p Box.Empty past s = sym (s.ends past)

  box_gave : (p : P) (past : List ℕ) (b : UnsyncBoxBody B Q) (was : Recorded) (m : Moment) (a : Poll (Option (Result (Frame (List ℕ)) E))) (new : UnsyncBoxBody B Q) (now : Recorded) →
      Within p b past → BoxFrames frames panic_frames b was m (Ok a) new now → FrameSteps Within (h p) p past was m.now a new now
  box_gave p past (Box.Inner b) was m a (Box.Inner c) now s d = let i = inner.frame p past b was m a c now s d in record { answer = i.answer; adds = i.adds; stands = i.stands }
  box_gave p past (Box.Inner b) was m a (Box.Panic c) now s d = elim d [ ]
  box_gave p past (Box.Inner b) was m a Box.Empty now s d = elim d [ ]
  box_gave p past (Box.Panic b) was m a (Box.Inner c) now s d = elim d [ ]
  box_gave p past (Box.Panic b) was m a (Box.Panic c) now s d = let i = panic.frame p past b was m a c now s d in record { answer = i.answer; adds = i.adds; stands = i.stands }
  box_gave p past (Box.Panic b) was m a Box.Empty now s d = elim d [ ]
  box_gave p past Box.Empty was m a (Box.Inner c) now s d = elim d [ ]
  box_gave p past Box.Empty was m a (Box.Panic c) now s d = elim d [ ]
  box_gave p past Box.Empty was m a Box.Empty now s d = record {
    answer = ok_is d.0 ∙ sym (s.frame past m.now);
    adds = quiet was now _ (s.events past m.now) d.1;
    stands = s;
  }

  box_abandoned : (p : P) (past : List ℕ) (b : UnsyncBoxBody B Q) (was : Recorded) (m : Moment) (u : Unit) (now : Recorded) →
      Within p b past → BoxAbandons abandons panic_abandons b was m (Ok u) now → Adds was now ((h p).abandoned past m.now)
  box_abandoned p past (Box.Inner b) was m u now s d = inner.abandoned p past b was m u now s d
  box_abandoned p past (Box.Panic b) was m u now s d = panic.abandoned p past b was m u now s d
  box_abandoned p past Box.Empty was m u now s d = quiet was now _ (s.abandoned past m.now) d.1

  box_refused : (p : P) (past : List ℕ) (b : UnsyncBoxBody B Q) (was : Recorded) (m : Moment) (e : NoMemory) (now : Recorded) →
      Within p b past → BoxAbandons abandons panic_abandons b was m (Err e) now → was.spare < length ((h p).abandoned past m.now)
  box_refused p past (Box.Inner b) was m e now s d = inner.refused p past b was m e now s d
  box_refused p past (Box.Panic b) was m e now s d = panic.refused p past b was m e now s d
  box_refused p past Box.Empty was m e now s d = absurd (cc d.0)

  pub box_follows : BodyFollows (BoxFrames frames panic_frames) (BoxAbandons abandons panic_abandons) (box_ends ends panic_ends) (BoxStands h Stands PanicStands) h
  box_follows = record { tells = box_told; frame = box_gave; abandoned = box_abandoned; refused = box_refused }

module _ {P B E : Type 0} (frames : Frames B (List ℕ) E) (abandons : Abandons B) (ends : B → Bool) (Stands : P → B → List ℕ → Type 0) (h : P → BodyHistory (List ℕ) E)
    (inner : BodyFollows frames abandons ends Stands h) where
  abbrev Limits : ℕ × P → Limited B → List ℕ → Type 0
  Limits = LimitedStands h Stands

  abbrev limited : ℕ × P → BodyHistory (List ℕ) (BodyError E)
  limited p = limited_history p.0 (h p.1)

  -- from the inner answer, how the room came out and what was answered
  passed : (p : ℕ × P) (past : List ℕ) (b : Limited B) (was : Recorded) (m : Moment) (i : Poll (Option (Result (Frame (List ℕ)) E))) (a : Poll (Option (Result (Frame (List ℕ)) (BodyError E)))) (new : Limited B) (now : Recorded) →
      Limits p b past → frames b.body was m (Ok i) new.body now → a ≡ within b.room i → new.room ≡ room_after b.room i → FrameSteps Limits (limited p) p past was m.now a new now
  passed p past b was m i a new now s d e r = let f = inner.frame p.1 past b.body was m i new.body now s.inner d in record {
    answer = e ∙ ap (λ x. within b.room x) f.answer ∙ ap (λ x. within x ((h p.1).frame past m.now)) s.room_is;
    adds = f.adds;
    stands = record {
      room_is = r ∙ ap (λ x. room_after b.room x) f.answer ∙ ap (λ x. room_after x ((h p.1).frame past m.now)) s.room_is;
      inner = f.stands;
    };
  }

  limited_gave : (p : ℕ × P) (past : List ℕ) (b : Limited B) (was : Recorded) (m : Moment) (a : Poll (Option (Result (Frame (List ℕ)) (BodyError E)))) (new : Limited B) (now : Recorded) →
      Limits p b past → LimitedFrames frames b was m (Ok a) new now → FrameSteps Limits (limited p) p past was m.now a new now
  limited_gave p past b was m Pending new now s d = passed p past b was m Pending Pending new now s d.0 refl d.1
  limited_gave p past b was m (Ready None) new now s d = passed p past b was m (Ready None) (Ready None) new now s d.0 refl d.1
  limited_gave p past b was m (Ready (Some (Ok f))) new now s d = passed p past b was m (Ready (Some (Ok f))) (Ready (Some (Ok f))) new now s d.0
      (rw (le-leb (length_of f) b.room d.1) refl) (rw (le-leb (length_of f) b.room d.1) d.2)
  limited_gave p past b was m (Ready (Some (Err Elapsed))) new now s d = elim d [ ]
  limited_gave p past b was m (Ready (Some (Err LengthLimit))) new now s d = passed p past b was m (Ready (Some (Ok d.frame))) (Ready (Some (Err LengthLimit))) new now s d.inner
      (rw (lt-leb (length_of d.frame) b.room d.long) refl) (rw (lt-leb (length_of d.frame) b.room d.long) d.gone)
  limited_gave p past b was m (Ready (Some (Err (Inner e)))) new now s d = passed p past b was m (Ready (Some (Err e))) (Ready (Some (Err (Inner e)))) new now s d.0 refl d.1

  pub limited_follows : BodyFollows (LimitedFrames frames) (λ b. abandons b.body) (λ b. ends b.body) (LimitedStands h Stands) (λ p. limited_history p.0 (h p.1))
  limited_follows = record {
    tells = λ p b past s. inner.tells p.1 b.body past s.inner;
    frame = limited_gave;
    abandoned = λ p past b was m u now s d. inner.abandoned p.1 past b.body was m u now s.inner d;
    refused = λ p past b was m e now s d. inner.refused p.1 past b.body was m e now s.inner d;
  }
