-- What is live of a request after some of its acts, what one act shows, and what a session keeps of the request.
use Rattle.std.specs.Prelude.{◌≡◌, ℕ, ◌≤◌, suc, List, [], ◌∷◌, ◌++◌, Result, IfOk, IsOk, ⊤}
use Rattle.life_core.specs.List.{Listed}
use Rattle.life_core.specs.Recorded.{Recorded, none_counted}
use Rattle.life_core.specs.declared.event.Event.{Event}
use Rattle.life_core.specs.declared.recorder.NoMemory.{NoMemory}
use Rattle.life_script.specs.declared.answer.Answer.{Answer}
use Rattle.life_script.specs.declared.scenario.Act.{Act}
use Rattle.life_script.specs.declared.scenario.Act.TheVariants as act
use Rattle.life_session.specs.Acts.{NotBefore, Own}
use Rattle.life_session.specs.Table.{Meaning, turns_by}
use Rattle.life_session.specs.declared.exchange.Exchange.{Exchange}
use Rattle.life_session.specs.declared.exchange.live.Live.{Live}
use Rattle.life_session.specs.declared.exchange.live.Live.TheVariants as live

-- there is room for the record of an early drop, where something is live
abbrev pub HasRoom : {F B : Type 0} → Live F B → ℕ → Type 0
HasRoom live.Fresh spare = ⊤
HasRoom (live.Future f) spare = 1 ≤ spare
HasRoom (live.Body b) spare = 1 ≤ spare
HasRoom live.Over spare = ⊤

-- a log as a recorder: its events and its room; it counts no request
abbrev pub recorded_in : Listed Event → Recorded
recorded_in log = record { log = log.items; spare = log.spare; rest = none_counted }

-- nothing is live
abbrev pub IsIdle : {F B : Type 0} → Live F B → Type 0
IsIdle live.Fresh = ⊤
IsIdle (live.Future f) = ⊥
IsIdle (live.Body b) = ⊥
IsIdle live.Over = ⊤

-- nothing was done, and there is room for the turns of so many steps
pub record IsFresh {F B : Type 0} (steps : ℕ) (e : Exchange F B) : Type 0 where
  pub live_is : e.live ≡ live.Fresh
  pub log_is : e.log.items ≡ []
  pub turns_are : e.turns.items ≡ []
  pub turns_left : steps ≤ e.turns.spare

module _ {K N S R F B : Type 0} (m : Meaning K N S R F B) where
  -- it may be polled and abandoned
  abbrev pub MayGoOn : Live F B → Type 0
  MayGoOn live.Fresh = ⊤
  MayGoOn (live.Future f) = m.future_live f.value × m.future_may f.value
  MayGoOn (live.Body b) = m.body_may b.value
  MayGoOn live.Over = ⊤

  -- what is live stands at these acts of the request
  abbrev pub LiveAt : K → List Own → Live F B → Type 0
  LiveAt k acts live.Fresh = m.places.fresh k acts
  LiveAt k acts (live.Future f) = m.places.waiting k acts f.value
  LiveAt k acts (live.Body b) = m.places.streaming k acts b.value
  LiveAt k acts live.Over = m.places.over k acts

  -- what is live, of what is not refused, stands wherever this body stands
  abbrev pub LivesOn : B → Result (Live F B × Answer) NoMemory → Type 0
  LivesOn body made = (k : K) (acts : List Own) → m.places.streaming k acts body → IfOk made (λ p. LiveAt k acts p.0)

  -- the answer and the events are the table's, and what is live stands at the longer list
  pub record Shown (k : K) (acts : List Own) (x : Own) (was : Recorded) (p : Live F B × Answer) (now : Recorded) : Type 0 where
    pub live : LiveAt k (acts ++ x ∷ []) p.0
    pub answer_is : p.1 ≡ (m.table k).answer acts x
    pub log : now.log ≡ was.log ++ (m.table k).events acts x

  -- what is recorded at the end is the table's
  pub record Ended (k : K) (acts : List Own) (end : ℕ) (was now : Recorded) : Type 0 where
    pub log : now.log ≡ was.log ++ (m.table k).at_end acts end

  -- what is live stands at these acts, with room for its early drop; the turns are the table's, with room for so many more
  pub record ExchangeAt (k : K) (acts : List Own) (left : ℕ) (e : Exchange F B) : Type 0 where
    pub live : LiveAt k acts e.live
    pub room : HasRoom e.live e.log.spare
    pub turns_are : e.turns.items ≡ turns_by (m.table k) [] acts
    pub log_is : e.log.items ≡ []
    pub turns_left : left ≤ e.turns.spare

  -- WHAT A CALL SHOWS, whatever request what is live is of and at whatever acts it stands: was is what was recorded before it,
  -- made is its result, and now is what is recorded after it.

  -- an act that is not refused shows the table's answer and events
  abbrev pub IfShown : K → List Own → Own → Recorded → Result (Live F B × Answer) NoMemory → Recorded → Type 0
  IfShown k acts x was made now = IfOk made (λ p. Shown k acts x was p now)

  -- the same of an act on what is live
  abbrev pub ActShown : Live F B → Own → Recorded → Result (Live F B × Answer) NoMemory → Recorded → Type 0
  ActShown live x was made now = (k : K) (acts : List Own) → LiveAt k acts live → IfShown k acts x was made now

  -- the same of a first call of a request that the stack serves
  abbrev pub CallOfServed : K → List Own → S → ℕ → Recorded → Result (Live F B × Answer) NoMemory → Recorded → Type 0
  CallOfServed k acts stack t was made now = m.places.fresh k acts → m.places.serves k stack → m.places.ready k was
      → IfShown k acts (t, act.Call) was made now

  -- the same of any act, not before those so far, of a request that the stack serves
  abbrev pub ActOfServed : K → List Own → S → Live F B → Own → Recorded → Result (Live F B × Answer) NoMemory → Recorded → Type 0
  ActOfServed k acts stack live x was made now = LiveAt k acts live → m.places.serves k stack → m.places.ready k was → NotBefore x.0 acts
      → IfShown k acts x was made now

  -- an act, not before those so far, of a request that the stack serves adds its turn to what is kept of the request
  abbrev pub TurnOfServed : K → List Own → ℕ → S → Own → Exchange F B → Result Unit NoMemory → Exchange F B → Type 0
  TurnOfServed k acts left stack x old made new = ExchangeAt k acts (suc left) old → m.places.serves k stack → m.places.ready k (recorded_in old.log) → NotBefore x.0 acts
      → IfOk made (λ done. ExchangeAt k (acts ++ x ∷ []) left new)

  -- a Drop is not refused where there is room for the record of it
  abbrev pub DropIsDone : {A : Type 0} → Live F B → Act → ℕ → Result A NoMemory → Type 0
  DropIsDone live x spare made = (k : K) (acts : List Own) → LiveAt k acts live → x ≡ act.Drop → HasRoom live spare → IsOk made

  -- to abandon what is live is not refused where there is room for the record of it
  abbrev pub AbandonIsDone : {A : Type 0} → Live F B → ℕ → Result A NoMemory → Type 0
  AbandonIsDone live spare made = (k : K) (acts : List Own) → LiveAt k acts live → HasRoom live spare → IsOk made

  -- to abandon what is live at the end records what the table tells of the end
  abbrev pub EndShown : Live F B → ℕ → Recorded → Result Unit NoMemory → Recorded → Type 0
  EndShown live end was made now = (k : K) (acts : List Own) → LiveAt k acts live → IfOk made (λ done. Ended k acts end was now)
