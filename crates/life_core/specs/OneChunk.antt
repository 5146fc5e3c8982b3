-- Histories of a body of one chunk, and of none, and where such bodies stand.
use Rattle.std.specs.Prelude.{◌≡◌, ◌⊎◌, ℕ, true, false, List, [], ◌∷◌, Option, Some, None, Ok}
use Rattle.http_body.specs.Frame.{data_frame}
use Rattle.life_core.specs.History.{BodyHistory}
use Rattle.life_core.specs.declared.body.boxed.UnsyncBoxBody.{UnsyncBoxBody}
use Rattle.life_core.specs.declared.body.boxed.UnsyncBoxBody.TheVariants.{Inner, Panic, Empty}
use Rattle.life_core.specs.declared.body.full.Full.{Full}
use Rattle.life_core.specs.declared.poll.Poll.TheVariants.{Ready}

-- one chunk at the first poll, then the end, which is told once the chunk is given
pub record TellsChunk {E : Type 0} (chunk : List ℕ) (h : BodyHistory (List ℕ) E) : Type 0 where
  pub first : (q : ℕ) → h.frame [] q ≡ Ready (Some (Ok (data_frame chunk)))
  pub later : (p q : ℕ) (past : List ℕ) → h.frame (p ∷ past) q ≡ Ready None
  pub untold : h.ends [] ≡ false
  pub ended : (p : ℕ) (past : List ℕ) → h.ends (p ∷ past) ≡ true
  pub events : (past : List ℕ) (q : ℕ) → h.events past q ≡ []
  pub abandoned : (past : List ℕ) (q : ℕ) → h.abandoned past q ≡ []

-- the end from the start, which is told
pub record TellsEnd {E : Type 0} (h : BodyHistory (List ℕ) E) : Type 0 where
  pub frame : (past : List ℕ) (q : ℕ) → h.frame past q ≡ Ready None
  pub ends : (past : List ℕ) → h.ends past ≡ true
  pub events : (past : List ℕ) (q : ℕ) → h.events past q ≡ []
  pub abandoned : (past : List ℕ) (q : ℕ) → h.abandoned past q ≡ []

-- a chunk is there until the first poll
abbrev pub ChunkStands : {E : Type 0} → BodyHistory (List ℕ) E → Option (List ℕ) → List ℕ → Type 0
ChunkStands h (Some chunk) [] = TellsChunk chunk h
ChunkStands h (Some chunk) (p ∷ past) = ⊥
ChunkStands h None [] = TellsEnd h
ChunkStands h None (p ∷ past) = TellsEnd h ⊎ ((chunk : List ℕ) × TellsChunk chunk h)

-- its chunk is there until the first poll
abbrev pub FullStands : {P E : Type 0} → (P → BodyHistory (List ℕ) E) → P → Full → List ℕ → Type 0
FullStands h p b past = ChunkStands (h p) b.chunk past

-- the body in it stands; with none in it the plan is of nothing
abbrev pub BoxStands : {P B Q E : Type 0} → (P → BodyHistory (List ℕ) E) → (P → B → List ℕ → Type 0) → (P → Q → List ℕ → Type 0) → P → UnsyncBoxBody B Q → List ℕ → Type 0
BoxStands h Stands PanicStands p (Inner b) past = Stands p b past
BoxStands h Stands PanicStands p (Panic b) past = PanicStands p b past
BoxStands h Stands PanicStands p Empty past = TellsEnd (h p)
