-- What stands in a page beside the report, as JSON (the format is our own).
use Rattle.std.specs.Prelude.{◌≡◌, ℕ, zero, suc, ◌+◌, ◌==◌, ◌-◌, Option, Some, None, List, [], ◌∷◌, ◌++◌, codes, decimal, drop, flat_map, if◌then◌else◌, length, slice_get}
use Rattle.std.specs.declared.vec.Vec.{Vec}
use Rattle.std.specs.declared.alloc.Global.{Global}
use Rattle.swift_script.specs.Scripts.{ScriptView, executor_count}
use Rattle.swift_types.specs.declared.id.TaskId.{TaskId}
use Rattle.swift_events.specs.Events.{task_of}
use Rattle.swift_events.specs.declared.event.Event.{Event}
use Rattle.swift_events.specs.declared.event.Event.TheVariants.{Root, Begin, Apply, Free, Open, Child, Skip, CancelTask, CancelGroup, Wait, Next, Close, End, Give}
use Rattle.swift_journal.specs.Checkpoints.{CheckpointRoomView}
use Rattle.swift_journal.specs.Records.{RecordView}
use Rattle.swift_report.specs.declared.report.Report.{Report}
use Rattle.nuchapay_runs.specs.Explains.{Explains, Tells}
use Rattle.nuchapay_runs.specs.Notes.{change_text}
use Rattle.run_pictures.specs.Values.{ValuesView, values_from}
use Rattle.nuchapay_runs.specs.declared.explained.Explained.{Explained}
use Rattle.nuchapay_runs.specs.declared.explained.Explained.TheVariants as said
use Rattle.run_pictures.specs.declared.values.change.Change.{Change}
use Rattle.run_pictures.specs.declared.values.change.Outcome.{Outcome}
use Rattle.run_pictures.specs.declared.values.change.Outcome.TheVariants.{Kept, Undone, Broke}
use Rattle.run_page.specs.Escapes.{quoted}
use Rattle.run_page.specs.declared.explanations.TheConstants.{EXPLAINED}
use Rattle.run_page.specs.declared.more.Heading.{Heading}

-- what comes before an element of a list, by its place
abbrev pub comma : ℕ → List ℕ
comma place = if place == 0 then [] else codes ",\n"

-- what an event is called
abbrev pub event_word : Event → List ℕ
event_word (Root t p) = codes "[\"root\","
event_word (Begin t n env) = codes "[\"begin\","
event_word (Apply t n) = codes "[\"apply\","
event_word (Free t by p detached) = codes "[\"free\","
event_word (Open o g) = codes "[\"open\","
event_word (Child t o g p) = codes "[\"child\","
event_word (Skip o g) = codes "[\"skip\","
event_word (CancelTask t) = codes "[\"cancel task\","
event_word (CancelGroup o g) = codes "[\"cancel group\","
event_word (Wait t awaited) = codes "[\"wait\","
event_word (Next o g) = codes "[\"next\","
event_word (Close o g) = codes "[\"close\","
event_word (End t ending) = codes "[\"end\","
event_word (Give t n resume) = codes "[\"give\","

-- the second number of an event: that of the turn, of the group, or of the maker, owner or awaited task; 0 where it has none
abbrev pub other_of : Event → ℕ
other_of (Root t p) = 0
other_of (Begin t n env) = n
other_of (Apply t n) = n
other_of (Free t by p detached) = by.0
other_of (Open o g) = g
other_of (Child t o g p) = o.0
other_of (Skip o g) = g
other_of (CancelTask t) = 0
other_of (CancelGroup o g) = g
other_of (Wait t awaited) = awaited.0
other_of (Next o g) = g
other_of (Close o g) = g
other_of (End t ending) = 0
other_of (Give t n resume) = n

-- the event at a place of the log: its word, its task and its second number
abbrev pub event_json : ℕ → Event → List ℕ
event_json place e = comma place ++ (event_word e ++ decimal (task_of e)) ++ (codes "," ++ decimal (other_of e)) ++ codes "]"

-- the events of a log from this place on
abbrev pub events_json : ℕ → List Event → List ℕ
events_json place [] = []
events_json place (e ∷ es) = event_json place e ++ events_json (place + 1) es

-- what became of a turn
abbrev pub outcome_word : Outcome → List ℕ
outcome_word Kept = codes "[\"kept\""
outcome_word Undone = codes "[\"undone\""
outcome_word (Broke place) = codes "[\"broke\""

-- a change, after a comma
abbrev pub change_json : ScriptView → ℕ → Change → List ℕ
change_json p e c = codes ",\"" ++ change_text p e c ++ codes "\""

-- changes, each after a comma
abbrev pub changes_json : ScriptView → ℕ → List Change → List ℕ
changes_json p e = flat_map (change_json p e)

-- what the turn at a place of its journal did
abbrev pub turn_json : ScriptView → ℕ → ℕ → ValuesView → List ℕ
turn_json p e place v = comma place ++ outcome_word v.outcome ++ changes_json p e v.changes ++ codes "]"

-- what the turns from this place on did
abbrev pub turns_json : ScriptView → ℕ → ℕ → List ValuesView → List ℕ
turns_json p e place [] = []
turns_json p e place (v ∷ vs) = turn_json p e place v ++ turns_json p e (place + 1) vs

-- what the turns of a journal did, each on the fields that the checkpoint and those before it leave
abbrev pub journal_json : ScriptView → ℕ → Option CheckpointRoomView → Option (List RecordView) → List ℕ
journal_json p e (Some c) (Some journal) = turns_json p e 0 (values_from p c.view.fields journal)
journal_json p e _ _ = []

-- what the turns of an executor's journal did
abbrev pub executor_json : ScriptView → Report → ℕ → List ℕ
executor_json p r e = journal_json p e (slice_get r.checkpoints.items e) (slice_get r.journals.items e)

-- the executor at a place of a list
abbrev pub listed_json : ScriptView → Report → ℕ → List ℕ
listed_json p r e = comma e ++ codes "[" ++ executor_json p r e ++ codes "]"

-- what the turns of n executors from this number on did
abbrev pub all_values_json : ScriptView → Report → ℕ → ℕ → List ℕ
all_values_json p r e zero = []
all_values_json p r e (suc n) = listed_json p r e ++ all_values_json p r (e + 1) n

-- what a page is headed with, up to the end of the script's text
abbrev pub heading_json : Heading → List ℕ
heading_json h =
    (codes "{\"name\":\"" ++ quoted h.name.now) ++ (codes "\",\"workers\":" ++ decimal h.workers) ++ (codes ",\n\"source\":\"" ++ quoted h.source.now)

-- the log, and what the turns did, up to what is said of them
abbrev pub run_json : ScriptView → Report → List ℕ
run_json p r =
    codes "\",\n\"log\":[\n" ++ events_json 0 r.log.events ++ codes "],\n\"values\":[\n" ++ all_values_json p r 0 (executor_count p) ++ (codes "],\n\"why\":[" ++ decimal EXPLAINED)

-- what is said of a turn, by its task and its number, after a comma
abbrev pub explained_json : ℕ → ℕ → List ℕ → List ℕ
explained_json task number text = (codes ",\n[" ++ decimal task) ++ (codes "," ++ decimal number) ++ (codes ",\"" ++ quoted text) ++ codes "\"]"

-- a turn of which something is said, and that
pub record ExplainedTurn : Type 0 where
  pub task : ℕ
  pub number : ℕ
  pub text : Vec ℕ Global

-- what is said of turns
abbrev pub all_explained_json : List ExplainedTurn → List ℕ
all_explained_json = flat_map (λ e. explained_json e.task e.number e.text.items)

-- the turn that an event applies
abbrev pub applied_turn : Event → Option (TaskId × ℕ)
applied_turn (Apply t n) = Some (t, n)
applied_turn _ = None

-- a turn before others, if there is one
abbrev pub before_others : Option (TaskId × ℕ) → List (TaskId × ℕ) → List (TaskId × ℕ)
before_others (Some turn) turns = turn ∷ turns
before_others None turns = turns

-- the turns that events apply, in order
abbrev pub applied_turns : List Event → List (TaskId × ℕ)
applied_turns [] = []
applied_turns (e ∷ es) = before_others (applied_turn e) (applied_turns es)

-- the last turns that events apply, as many as are explained
abbrev pub last_turns : List Event → List (TaskId × ℕ)
last_turns es = drop (length (applied_turns es) - EXPLAINED) (applied_turns es)

-- what stands in a page of a turn, by what is said of it: nothing where it was folded, or is found nowhere
abbrev pub told_of : ℕ → ℕ → Explained → List ExplainedTurn
told_of task number (said.Found text) = record { task = task; number = number; text = text } ∷ []
told_of task number said.Folded = []
told_of task number said.Nowhere = []

-- This stands in a page of a turn: what explains it, which is the text of `why`.
abbrev pub IsTold : ScriptView → Report → ℕ → ℕ → List ExplainedTurn → Type 0
IsTold p r task number told = (said : Explained) × Explains r task number said × Tells p r task number said × (told ≡ told_of task number said)

-- This stands in a page of a turn, if there is one.
abbrev pub IsToldOfOne : ScriptView → Report → Option (TaskId × ℕ) → List ExplainedTurn → Type 0
IsToldOfOne p r (Some turn) told = IsTold p r turn.0.0 turn.1 told
IsToldOfOne p r None told = told ≡ []

-- This stands in a page of turns: what explains each, in order.
abbrev pub AreTold : ScriptView → Report → List (TaskId × ℕ) → List ExplainedTurn → Type 0
AreTold p r [] told = told ≡ []
AreTold p r (turn ∷ turns) told = (first : List ExplainedTurn) × (rest : List ExplainedTurn) × IsTold p r turn.0.0 turn.1 first × AreTold p r turns rest × (told ≡ first ++ rest)

-- What is told of a run: what explains each of the last turns of its log.
abbrev pub IsToldOfRun : ScriptView → Report → List ExplainedTurn → Type 0
IsToldOfRun p r told = AreTold p r (last_turns r.log.events) told

-- A text is appended that has something told in it.
abbrev pub AppendsTold : (List ExplainedTurn → Type 0) → (List ExplainedTurn → List ℕ) → List ℕ → List ℕ → Type 0
AppendsTold IsSo text old new = (told : List ExplainedTurn) × IsSo told × (new ≡ old ++ text told)

-- What stands beside the report of a run: what it is headed with, its log, what its turns did, and what explains some of them.
abbrev pub more_json : ScriptView → Report → Heading → List ExplainedTurn → List ℕ
more_json p r h turns = heading_json h ++ run_json p r ++ all_explained_json turns ++ codes "]}\n"
