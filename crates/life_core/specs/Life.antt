-- What has come of a response's body so far.
use Rattle.std.specs.Prelude.{ℕ, Bool, true, false, ◌||◌, Option, Some, None, Result, Ok, Err}
use Rattle.http_body.specs.declared.frame.Frame.{Frame}
use Rattle.http_body.specs.declared.frame.Kind.{Kind}
use Rattle.http_body.specs.declared.frame.Kind.TheVariants as kind
use Rattle.life_core.specs.Calls.{Answer}
use Rattle.life_core.specs.declared.life.Life.{Life}
use Rattle.life_core.specs.declared.life.Passed.{Passed}
use Rattle.life_core.specs.declared.life.Passed.TheVariants.{Chunk, Trailers, End, Fault}
use Rattle.life_core.specs.declared.poll.Poll.TheVariants.{Ready, Pending}

-- a request that was called at one time and answered at another, with a body that tells its end or does not
abbrev pub life_begun : ℕ → ℕ → Bool → Life
life_begun called now ended = record { called = called; responded = now; last = called; closed = false; faulted = false; done = ended }

-- a ready answer of the body: what was once set stays
abbrev pub life_after : Life → ℕ → Passed → Life
life_after life now (Chunk ended) = record life { last = now; closed = life.closed || ended; done = life.done || ended }
life_after life now (Trailers ended) = record life { last = now; closed = true; done = life.done || ended }
life_after life now End = record life { last = now; closed = true; done = true }
life_after life now Fault = record life { last = now; faulted = true; done = true }

-- a frame, after which the body tells its end or does not
abbrev pub passed_frame : {D : Type 0} → Kind D → Bool → Passed
passed_frame (kind.Data chunk) ended = Chunk ended
passed_frame (kind.Trailers trailers) ended = Trailers ended

-- a ready answer, after which the body tells its end or does not
abbrev pub passed_of : {D E : Type 0} → Option (Result (Frame D) E) → Bool → Passed
passed_of None ended = End
passed_of (Some (Err e)) ended = Fault
passed_of (Some (Ok frame)) ended = passed_frame frame.kind ended

-- the life after an answer of a poll: a ready one passes, and any other leaves it
abbrev pub life_on : {D E : Type 0} → Life → ℕ → Answer D E → Bool → Life
life_on life now (Ok (Ready answer)) ended = life_after life now (passed_of answer ended)
life_on life now (Ok Pending) ended = life
life_on life now (Err e) ended = life
