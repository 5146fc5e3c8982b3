-- What a session is seen as, what its type keeps, and how a scenario is refused.
use Rattle.std.specs.Prelude.{◌≡◌, ℕ, ◌+◌, ◌≤◌, suc, List, [], ◌∷◌, ◌++◌, length, take, drop, slice_get, slice_set, Some, Ok, Err, Result}
use Rattle.std.specs.List.{All}
use Rattle.life_core.specs.declared.recorder.NoMemory.{NoMemory}
use Rattle.life_script.specs.Scenario.{ScriptView, ScenarioView}
use Rattle.life_script.specs.Told.{ToldView}
use Rattle.life_script.specs.Valid.{IsValid, verdict}
use Rattle.life_script.specs.declared.error.DriveError.{DriveError}
use Rattle.life_script.specs.declared.error.DriveError.TheVariants as error
use Rattle.life_script.specs.declared.scenario.Act.TheVariants as act
use Rattle.life_script.specs.declared.scenario.Step.{Step}
use Rattle.life_session.specs.Acts.{NotBefore, Own, own, steps_of}
use Rattle.life_session.specs.Exchange.{ExchangeAt, MayGoOn}
use Rattle.life_session.specs.Table.{Meaning, story_by}
use Rattle.life_session.specs.declared.exchange.Exchange.{Exchange}

-- a scenario is refused exactly by its verdict; want of memory is no verdict
abbrev pub IsRefused : ScenarioView → DriveError → Type 0
IsRefused s (error.TooManyHeaders i) = verdict s ≡ Err (error.TooManyHeaders i)
IsRefused s (error.ClockBack k) = verdict s ≡ Err (error.ClockBack k)
IsRefused s (error.NoRequest k) = verdict s ≡ Err (error.NoRequest k)
IsRefused s error.NoMemory = Unit {0}

-- the limits and the scenario, how many of its steps are done, the stack, and what is kept of each request
pub record SessionView (N S F B : Type 0) : Type 0 where
  pub limits : N
  pub scenario : ScenarioView
  pub done : ℕ
  pub stack : S
  pub exchanges : List (Exchange F B)

-- a session of these limits, scripts, steps and end, by what it holds
abbrev pub session_of : {N S F B : Type 0} → N → List ScriptView → List Step → ℕ → ℕ → S → List (Exchange F B) → SessionView N S F B
session_of limits scripts steps end done stack exchanges =
    record { limits = limits; scenario = record { requests = scripts; steps = steps; end = end }; done = done; stack = stack; exchanges = exchanges }

-- the acts of request i among the steps that are done
abbrev pub acts_done : {N S F B : Type 0} → SessionView N S F B → ℕ → List Own
acts_done v i = own (take v.done v.scenario.steps) i

-- how many turns of request i are to come
abbrev pub turns_left : {N S F B : Type 0} → SessionView N S F B → ℕ → ℕ
turns_left v i = steps_of i (drop v.done v.scenario.steps)

-- no step is done
pub record IsBegun {N S F B : Type 0} (limits : N) (scenario : ScenarioView) (v : SessionView N S F B) : Type 0 where
  pub limits_are : v.limits ≡ limits
  pub scenario_is : v.scenario ≡ scenario
  pub none_done : v.done ≡ 0

-- one more step is done
pub record IsNext {N S F B : Type 0} (old new : SessionView N S F B) : Type 0 where
  pub limits_are : new.limits ≡ old.limits
  pub scenario_is : new.scenario ≡ old.scenario
  pub one_done : new.done ≡ old.done + 1

module _ {K N S R F B : Type 0} (m : Meaning K N S R F B) where
  -- what is live of it may be polled and abandoned
  abbrev pub May : Exchange F B → Type 0
  May e = MayGoOn m e.live

  -- the exchange of a request, by its number and script, stands at these acts, with room for so many turns more
  abbrev pub Stands : N → ℕ → ScriptView → List Own → ℕ → Exchange F B → Type 0
  Stands limits i script acts left e = ExchangeAt m (m.key_of limits i script) acts left e

  -- the stack serves that request
  abbrev pub Serves : N → ℕ → ScriptView → S → Type 0
  Serves limits i script stack = m.places.serves (m.key_of limits i script) stack

  -- the stack stands for each script and its number; each request's turns are its story so far, and what is live of it
  -- stands at its own acts so far
  pub record IsSession (v : SessionView N S F B) : Type 0 where
    pub valid : IsValid v.scenario
    pub within : v.done ≤ length v.scenario.steps
    pub count : length v.exchanges ≡ length v.scenario.requests
    pub may : m.may v.stack
    pub may_each : All May v.exchanges
    pub stack : (i : ℕ) (script : ScriptView) → slice_get v.scenario.requests i ≡ Some script → Serves v.limits i script v.stack
    pub each : (i : ℕ) (script : ScriptView) (e : Exchange F B) → slice_get v.scenario.requests i ≡ Some script → slice_get v.exchanges i ≡ Some e
        → Stands v.limits i script (acts_done v i) (turns_left v i) e

  -- a step, not before the acts so far, moves the exchange of its request on by one act, where the stack serves the request
  abbrev pub MovesOn : S → Step → ScriptView → Exchange F B → Exchange F B → Type 0
  MovesOn stack x script old new = (limits : N) (acts : List Own) (left : ℕ) → Stands limits x.request script acts (suc left) old
      → Serves limits x.request script stack → NotBefore x.at acts → Stands limits x.request script (acts ++ (x.at, x.act) ∷ []) left new

  -- the exchange stands at some acts of some request
  abbrev pub IsAtSome : Exchange F B → Type 0
  IsAtSome e = (k : K) × (acts : List Own) × (left : ℕ) × ExchangeAt m k acts left e

  -- the exchange of the step's request moves on, and the others stay; a Drop is not refused
  abbrev pub RunsOn : S → Step → List ScriptView → List (Exchange F B) → Result Unit NoMemory → List (Exchange F B) → Type 0
  RunsOn stack x scripts old (Ok u) new =
      (before : Exchange F B) × (after : Exchange F B) × (slice_get old x.request ≡ Some before) × (new ≡ slice_set old x.request after)
      × ((script : ScriptView) → slice_get scripts x.request ≡ Some script → MovesOn stack x script before after)
  RunsOn stack x scripts old (Err e) new = (before : Exchange F B) → slice_get old x.request ≡ Some before → IsAtSome before → x.act ≡ act.Drop → ⊥

  -- what is told of an exchange whose steps are all done is its story
  abbrev pub IsStoryOf : ℕ → Exchange F B → ToldView → Type 0
  IsStoryOf end e t = (k : K) (acts : List Own) (left : ℕ) → ExchangeAt m k acts left e → t ≡ story_by (m.table k) acts end
