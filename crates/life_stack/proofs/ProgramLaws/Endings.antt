-- How an output and what was written of it make a run, and how a run with nothing in its way ends.
use Rattle.std.proofs.Common.{◌≡◌, ℕ, ◌+◌, ◌-◌, ◌^◌, ◌<◌, ◌≤◌, ◌⊎◌, inl, inr, List, [], ◌++◌, length, Option, None, Some, refl, sym, ap, ◌∙◌, arith, subst, lit≤, append-nil, length-append, Ok, Err}
use Rattle.std.specs.Io.KnownBytes.{Appends, Consumes, IsAtEnd}
use Rattle.life_core.specs.Faults.{Rose}
use Rattle.life_script.specs.Scenario.{ScenarioView}
use Rattle.life_script.specs.declared.error.DriveError.{DriveError}
use Rattle.life_script.specs.declared.scenario.Limits.{Limits}
use Rattle.life_script.proofs.ReadingLemmas.{reads_one}
use Rattle.life_script.specs.Reading.{IsBadScenario, Reads}
use Rattle.life_script.specs.Valid.{verdict}
use Rattle.life_stack.specs.Stack.Drive.{report_of}
use Rattle.life_session.specs.Report.{report_text}
use Rattle.life_stack.specs.Program.Output.{IsOutput, IsOutputFor, IsReport, IsRefusal, IsUnread}
use Rattle.life_stack.specs.Program.Lines.{bad_scenario_line, refused_line}
use Rattle.life_stack.specs.Program.Input.{most_bytes, IsWhole}
use Rattle.life_stack.specs.Program.Run.{RanOn, EndedWith, IsCutShort, HasScenario, HasOutput}
use Rattle.life_stack.specs.Program.Writing.{IsAnswered}
use Rattle.life_stack.specs.declared.program.words.Command.{Command}
use Rattle.life_stack.specs.declared.program.words.Command.TheVariants.{Drive}
use Rattle.life_stack.specs.declared.program.status.Status.{Status}
use Rattle.life_stack.specs.declared.program.status.Status.TheVariants.{Done, Usage, BadScenario, Refused, SourceFault, TooLong, SinkFault, NoMemory}

-- there is one command
pub one_command : (command : Command) → command ≡ Drive
one_command Drive = refl

-- the line on what is no scenario is the output for its bytes
pub bad_is_output : (bytes text : List ℕ) (status : Status) → IsBadScenario bytes → status ≡ BadScenario → text ≡ bad_scenario_line → IsOutputFor bytes status text
bad_is_output bytes text status cause is line =
    let output : IsUnread bytes text = (cause, line) in
    subst (λ (s : Status). IsOutputFor bytes s text) (sym is) output

-- the output of a scenario that is refused is the line that says why
pub refusal_is_output : (bytes text : List ℕ) (limits : Limits) (scenario : ScenarioView) (why : DriveError) (status : Status)
    → Reads bytes limits scenario → verdict scenario ≡ Err why → status ≡ Refused → text ≡ refused_line why → IsOutputFor bytes status text
refusal_is_output bytes text limits scenario why status reads refused is line =
    let output : IsRefusal bytes text = record { limits = limits; scenario = scenario; why = why; reads = reads; refused = refused; text_is = line } in
    subst (λ (s : Status). IsOutputFor bytes s text) (sym is) output

-- the output for bytes that were taken to the end of the source
pub output_whole : (taken text : List ℕ) (left : Option (List ℕ)) (status : Status) → IsWhole taken left → IsOutputFor taken status text → IsOutput (Some Drive) taken left status text
output_whole taken text left Done whole output = (refl, whole, output)
output_whole taken text left Usage whole output = absurd output
output_whole taken text left BadScenario whole output = (refl, whole, output)
output_whole taken text left Refused whole output = (refl, whole, output)
output_whole taken text left SourceFault whole output = output
output_whole taken text left TooLong whole output = absurd output
output_whole taken text left SinkFault whole output = output
output_whole taken text left NoMemory whole output = output

-- there is an output for the bytes of a whole source, for no command, or for more bytes than are read
by_output : (command : Option Command) (taken text : List ℕ) (left : Option (List ℕ)) (status : Status) → IsOutput command taken left status text
    → ((command ≡ Some Drive) × IsWhole taken left × IsOutputFor taken status text) ⊎ (((command ≡ None) × (taken ≡ [])) ⊎ ((status ≡ TooLong) × (length taken ≡ most_bytes + 1)))
by_output command taken text left Done output = inl output
by_output command taken text left Usage output = inr (inl (output.0, output.1))
by_output command taken text left BadScenario output = inl output
by_output command taken text left Refused output = inl output
by_output command taken text left SourceFault output = absurd output
by_output command taken text left TooLong output = inr (inr (refl, output.1))
by_output command taken text left SinkFault output = absurd output
by_output command taken text left NoMemory output = absurd output

-- at most one byte more is taken than is read, and only that is too long
output_size : (command : Option Command) (taken text : List ℕ) (left : Option (List ℕ)) (status : Status) → IsOutput command taken left status text
    → (length taken ≤ most_bytes) ⊎ ((length taken ≡ most_bytes + 1) × (status ≡ TooLong))
output_size command taken text left status output = elim (by_output command taken text left status output) [
  | inl (drive, whole, output) ↦ inl whole.within
  | inr (inl (none, empty)) ↦ inl (rw empty (lit≤ tt))
  | inr (inr (is, size)) ↦ inr (size, is)
]

written : (command : Option Command) (taken text : List ℕ) (left held held' : Option (List ℕ)) (status : Status)
    → IsOutput command taken left status text → Appends held held' text → EndedWith command taken text left held held' status
written command taken text left held held' Done output whole = record { was_output = output; whole = whole }
written command taken text left held held' Usage output whole = record { was_output = output; whole = whole }
written command taken text left held held' BadScenario output whole = record { was_output = output; whole = whole }
written command taken text left held held' Refused output whole = record { was_output = output; whole = whole }
written command taken text left held held' SourceFault output whole = absurd output
written command taken text left held held' TooLong output whole = record { was_output = output; whole = whole }
written command taken text left held held' SinkFault output whole = absurd output
written command taken text left held held' NoMemory output whole = absurd output

ended : (command : Option Command) (taken text : List ℕ) (left held held' : Option (List ℕ)) (meant status : Status)
    → IsOutput command taken left meant text → IsAnswered text held held' meant status → EndedWith command taken text left held held' status
ended command taken text left held held' meant status output (inl (is, whole)) =
    subst (λ (s : Status). EndedWith command taken text left held held' s) (sym is) (written command taken text left held held' meant output whole)
ended command taken text left held held' meant status output (inr (is, begun)) =
    let cut : IsCutShort command taken text left held held' = record { meant = meant; was_output = output; begun = begun } in
    subst (λ (s : Status). EndedWith command taken text left held held' s) (sym is) cut

over : (command : Option Command) (taken text : List ℕ) (left held held' : Option (List ℕ)) (meant status : Status)
    → IsOutput command taken left meant text → IsAnswered text held held' meant status → most_bytes < length taken → (status ≡ TooLong) ⊎ (status ≡ SinkFault)
over command taken text left held held' meant status output (inr (is, begun)) long = inr is
over command taken text left held held' meant status output (inl (is, whole)) long =
    elim (output_size command taken text left meant output) [ inl within ↦ absurd (omega (arith, within, long)) | inr (size, too_long) ↦ inl (is ∙ too_long) ]

at_most : (command : Option Command) (taken text : List ℕ) (left : Option (List ℕ)) (meant : Status) → IsOutput command taken left meant text → length taken ≤ most_bytes + 1
at_most command taken text left meant output =
    elim (output_size command taken text left meant output) [ inl within ↦ omega (arith, within) | inr (size, too_long) ↦ omega (arith, size) ]

-- a run that took these bytes had this output, and answered
pub ran_on : (command : Option Command) (taken text : List ℕ) (rest left held held' : Option (List ℕ)) (meant status : Status)
    → Consumes rest left taken → IsOutput command taken left meant text → IsAnswered text held held' meant status → RanOn command taken text rest left held held' status
ran_on command taken text rest left held held' meant status took output answered = record {
  took = took;
  at_most = at_most command taken text left meant output;
  over = over command taken text left held held' meant status output answered;
  ended = ended command taken text left held held' meant status output answered;
}

-- a source that is at its end gave all that it told
all_taken : (bytes taken : List ℕ) (left : Option (List ℕ)) → Consumes (Some bytes) left taken → IsAtEnd left → taken ≡ bytes
all_taken bytes taken None took end = absurd took
all_taken bytes taken (Some ys) took end = sym (took ∙ ap (λ (l : List ℕ). taken ++ l) end ∙ append-nil taken)

no_more : (bytes taken : List ℕ) (left : Option (List ℕ)) → Consumes (Some bytes) left taken → length taken ≤ length bytes
no_more bytes taken None took = absurd took
no_more bytes taken (Some ys) took = let size = ap (λ (l : List ℕ). length l) took ∙ length-append taken ys in omega (arith, size)

consumed : (rest left : Option (List ℕ)) (bytes taken : List ℕ) → rest ≡ Some bytes → Consumes rest left taken → Consumes (Some bytes) left taken
consumed rest left bytes taken told took = subst (λ (r : Option (List ℕ)). Consumes r left taken) told took

-- a count of faults that stays below its end did not rise
pub stands : (before now : ℕ) → now ≡ before → before < 2 ^ 64 - 1 → Rose before now → ⊥
stands before now same below rose = omega (arith, same, below, rose)

-- what can be the output for bytes that are read
kind : (bytes text : List ℕ) (status : Status) → IsOutputFor bytes status text
    → ((status ≡ Done) × IsReport bytes text) ⊎ (((status ≡ BadScenario) × IsUnread bytes text) ⊎ ((status ≡ Refused) × IsRefusal bytes text))
kind bytes text Done output = inl (refl, output)
kind bytes text Usage output = absurd output
kind bytes text BadScenario output = inr (inl (refl, output))
kind bytes text Refused output = inr (inr (refl, output))
kind bytes text SourceFault output = absurd output
kind bytes text TooLong output = absurd output
kind bytes text SinkFault output = absurd output
kind bytes text NoMemory output = absurd output

read_and_unread : (bytes text : List ℕ) (limits : Limits) (scenario : ScenarioView) → Reads bytes limits scenario → IsUnread bytes text → ⊥
read_and_unread bytes text limits scenario reads (bad, line) = bad limits scenario reads

valid_and_refused : (bytes text line : List ℕ) → IsReport bytes text → IsRefusal bytes line → ⊥
valid_and_refused bytes text line report refusal =
    let one = reads_one bytes refusal.limits report.limits refusal.scenario report.scenario refusal.reads report.reads in
    let both : Err refusal.why ≡ Ok tt = sym refusal.refused ∙ ap (λ (s : ScenarioView). verdict s) one.1 ∙ report.valid in cc

-- the same bytes have one status
one_status : (bytes text text' : List ℕ) (status status' : Status) → IsOutputFor bytes status text → IsOutputFor bytes status' text' → status ≡ status'
one_status bytes text text' status status' output output' =
    elim (kind bytes text status output) [
      | inl (is, report) ↦ elim (kind bytes text' status' output') [
        | inl (is', report') ↦ is ∙ sym is'
        | inr (inl (is', unread)) ↦ absurd (read_and_unread bytes text' report.limits report.scenario report.reads unread)
        | inr (inr (is', refusal)) ↦ absurd (valid_and_refused bytes text text' report refusal)
      ]
      | inr (inl (is, unread)) ↦ elim (kind bytes text' status' output') [
        | inl (is', report) ↦ absurd (read_and_unread bytes text report.limits report.scenario report.reads unread)
        | inr (inl (is', unread')) ↦ is ∙ sym is'
        | inr (inr (is', refusal)) ↦ absurd (read_and_unread bytes text refusal.limits refusal.scenario refusal.reads unread)
      ]
      | inr (inr (is, refusal)) ↦ elim (kind bytes text' status' output') [
        | inl (is', report) ↦ absurd (valid_and_refused bytes text' text report refusal)
        | inr (inl (is', unread)) ↦ absurd (read_and_unread bytes text' refusal.limits refusal.scenario refusal.reads unread)
        | inr (inr (is', refusal')) ↦ is ∙ sym is'
      ]
    ]

-- the output for what was taken is that for all the bytes that were told
output_for_told : (command : Option Command) (taken text : List ℕ) (rest left : Option (List ℕ)) (status meant : Status)
    → command ≡ Some Drive → HasOutput rest meant → Consumes rest left taken → IsOutput command taken left status text → status ≡ meant
output_for_told command taken text rest left status meant asked has took output = elim (by_output command taken text left status output) [
  | inl (drive, whole, output) ↦ one_status has.bytes text has.text status meant (subst (λ (l : List ℕ). IsOutputFor l status text) (all_taken has.bytes taken left (consumed rest left has.bytes taken has.told took) whole.at_end) output) has.output
  | inr (inl (none, empty)) ↦ let no = sym asked ∙ none in cc
  | inr (inr (is, size)) ↦ let fits = no_more has.bytes taken left (consumed rest left has.bytes taken has.told took) in absurd (omega (arith, size, has.within, fits))
]

-- the output of a valid scenario is its report, and nothing else
report_output : (rest : Option (List ℕ)) (limits : Limits) (scenario : ScenarioView) → HasScenario rest limits scenario → HasOutput rest Done
report_output rest limits scenario has = record {
  bytes = has.bytes;
  text = report_text (report_of limits scenario);
  told = has.told;
  within = has.within;
  output = record { limits = limits; scenario = scenario; reads = has.reads; valid = has.valid; text_is = refl };
}

output_is_report : (command : Option Command) (taken text : List ℕ) (rest left : Option (List ℕ)) (limits : Limits) (scenario : ScenarioView) (status : Status)
    → command ≡ Some Drive → HasScenario rest limits scenario → Consumes rest left taken → IsOutput command taken left status text
    → (status ≡ Done) × (text ≡ report_text (report_of limits scenario))
output_is_report command taken text rest left limits scenario status asked has took output =
    let done = output_for_told command taken text rest left status Done asked (report_output rest limits scenario has) took output in
    let report : IsOutput command taken left Done text = subst (λ (s : Status). IsOutput command taken left s text) done output in
    let same = all_taken has.bytes taken left (consumed rest left has.bytes taken has.told took) report.1.at_end in
    let one = reads_one has.bytes report.2.limits limits report.2.scenario scenario (subst (λ (l : List ℕ). Reads l report.2.limits report.2.scenario) same report.2.reads) has.reads in
    (done, report.2.text_is ∙ ap (λ (l : Limits). report_text (report_of l report.2.scenario)) one.0 ∙ ap (λ (s : ScenarioView). report_text (report_of limits s)) one.1)

-- a run on a valid scenario
pub runs_through : (command : Option Command) (taken text : List ℕ) (rest left held held' : Option (List ℕ)) (limits : Limits) (scenario : ScenarioView) (status : Status)
    → RanOn command taken text rest left held held' status → command ≡ Some Drive → HasScenario rest limits scenario
    → (status ≡ SourceFault → ⊥) → (status ≡ SinkFault → text ≡ report_text (report_of limits scenario) → ⊥)
    → (status ≡ Done) ⊎ (status ≡ NoMemory)
runs_through command taken text rest left held held' limits scenario Done ran asked has source sink = inl refl
runs_through command taken text rest left held held' limits scenario Usage ran asked has source sink =
    inl (output_is_report command taken text rest left limits scenario Usage asked has ran.took ran.ended.was_output).0
runs_through command taken text rest left held held' limits scenario BadScenario ran asked has source sink =
    inl (output_is_report command taken text rest left limits scenario BadScenario asked has ran.took ran.ended.was_output).0
runs_through command taken text rest left held held' limits scenario Refused ran asked has source sink =
    inl (output_is_report command taken text rest left limits scenario Refused asked has ran.took ran.ended.was_output).0
runs_through command taken text rest left held held' limits scenario SourceFault ran asked has source sink = absurd (source refl)
runs_through command taken text rest left held held' limits scenario TooLong ran asked has source sink =
    inl (output_is_report command taken text rest left limits scenario TooLong asked has ran.took ran.ended.was_output).0
runs_through command taken text rest left held held' limits scenario SinkFault ran asked has source sink =
    let output = output_is_report command taken text rest left limits scenario ran.ended.meant asked has ran.took ran.ended.was_output in absurd (sink refl output.1)
runs_through command taken text rest left held held' limits scenario NoMemory ran asked has source sink = inr refl

-- a run with no fault wrote its output, or lacked memory
answered : (command : Option Command) (taken text : List ℕ) (rest left held held' : Option (List ℕ)) (status : Status) → RanOn command taken text rest left held held' status
    → (status ≡ SourceFault → ⊥) → (status ≡ SinkFault → ⊥) → IsOutput command taken left status text ⊎ (status ≡ NoMemory)
answered command taken text rest left held held' Done ran source sink = inl ran.ended.was_output
answered command taken text rest left held held' Usage ran source sink = inl ran.ended.was_output
answered command taken text rest left held held' BadScenario ran source sink = inl ran.ended.was_output
answered command taken text rest left held held' Refused ran source sink = inl ran.ended.was_output
answered command taken text rest left held held' SourceFault ran source sink = absurd (source refl)
answered command taken text rest left held held' TooLong ran source sink = inl ran.ended.was_output
answered command taken text rest left held held' SinkFault ran source sink = absurd (sink refl)
answered command taken text rest left held held' NoMemory ran source sink = inr refl

-- a run on bytes that have an output with this status
pub runs_as : (command : Option Command) (taken text : List ℕ) (rest left held held' : Option (List ℕ)) (status meant : Status)
    → RanOn command taken text rest left held held' status → command ≡ Some Drive → HasOutput rest meant
    → (status ≡ SourceFault → ⊥) → (status ≡ SinkFault → ⊥) → (status ≡ meant) ⊎ (status ≡ NoMemory)
runs_as command taken text rest left held held' status meant ran asked has source sink =
    elim (answered command taken text rest left held held' status ran source sink) [
      | inl output ↦ inl (output_for_told command taken text rest left status meant asked has ran.took output)
      | inr none ↦ inr none
    ]

-- a source is too long or is read to its end
whole_or_long : (command : Option Command) (taken text : List ℕ) (left : Option (List ℕ)) (status : Status) → command ≡ Some Drive → IsOutput command taken left status text
    → IsWhole taken left ⊎ (status ≡ TooLong)
whole_or_long command taken text left status asked output = elim (by_output command taken text left status output) [
  | inl (drive, whole, output) ↦ inl whole
  | inr (inl (none, empty)) ↦ let no = sym asked ∙ none in cc
  | inr (inr (is, size)) ↦ inr is
]

-- a run on more bytes than are read
pub runs_over : (command : Option Command) (taken text bytes : List ℕ) (rest left held held' : Option (List ℕ)) (status : Status)
    → RanOn command taken text rest left held held' status → command ≡ Some Drive → rest ≡ Some bytes → most_bytes < length bytes
    → (status ≡ SourceFault → ⊥) → (status ≡ SinkFault → ⊥) → (status ≡ TooLong) ⊎ (status ≡ NoMemory)
runs_over command taken text bytes rest left held held' status ran asked told long source sink =
    elim (answered command taken text rest left held held' status ran source sink) [
      | inl output ↦ elim (whole_or_long command taken text left status asked output) [
        | inl whole ↦ let size = ap (λ (l : List ℕ). length l) (all_taken bytes taken left (consumed rest left bytes taken told ran.took) whole.at_end) in
            absurd (omega (arith, size, long, whole.within))
        | inr is ↦ inl is
      ]
      | inr none ↦ inr none
    ]
