-- The text that explains a turn (the format is our own).
use Rattle.std.specs.Prelude.{ℕ, ◌+◌, ◌==◌, ℤ, Bool, true, false, if◌then◌else◌, Option, Some, None, List, [], ◌∷◌, ◌++◌, codes, decimal, reverse, flat_map, slice_get, slice_range, unwrap_or}
use Rattle.std.specs.Fmt.{signed_decimal}
use Rattle.swift_types.specs.Priority.{rank}
use Rattle.swift_types.specs.declared.outcome.Ending.{Ending}
use Rattle.swift_events.specs.declared.life.Origin.{Origin}
use Rattle.script_code.specs.declared.instruction.Instruction.{Instruction}
use Rattle.swift_script.specs.Scripts.{ScriptView, executor_actors, local_name}
use Rattle.swift_interpreter.specs.Frames.{FrameView}
use Rattle.swift_journal.specs.Records.{RecordView}
use Rattle.swift_report.specs.Text.{line_of, resume_text, turn_text}
use Rattle.nuchapay_runs.specs.Formulas.{NamesView, variable_text}
use Rattle.nuchapay_runs.specs.Noted.{broken_lines}
use Rattle.nuchapay_runs.specs.Notes.{change_lines, change_text, note_line, note_lines, place_text}
use Rattle.nuchapay_runs.specs.Statements.{statement_text}
use Rattle.task_names.specs.Names.{task_name}
use Rattle.run_pictures.specs.Values.{ValuesView}
use Rattle.run_pictures.specs.declared.values.change.Change.{Change}
use Rattle.run_pictures.specs.declared.values.change.Outcome.{Outcome}
use Rattle.run_pictures.specs.declared.values.change.Outcome.TheVariants.{Kept, Undone, Broke}

-- where a frame goes on, if it does
abbrev pub goes_on_text : NamesView → List Instruction → Option FrameView → List ℕ
goes_on_text ns is None = []
goes_on_text ns is (Some after) = codes "\n    goes on at " ++ statement_text ns is after.instruction

-- at which statement a turn began, and at which its frame goes on
abbrev pub ends_text : NamesView → List Instruction → RecordView → List ℕ
ends_text ns is r = codes "\n    began at " ++ statement_text ns is r.frame.instruction ++ goes_on_text ns is r.after

-- whether the task was cancelled when the turn began
abbrev pub cancelled_text : Bool → List ℕ
cancelled_text true = codes ", cancelled\n"
cancelled_text false = codes ", not cancelled\n"

-- what a turn began with, and what it was given
abbrev pub given_text : RecordView → List ℕ
given_text r = codes "\nbegan with\n    " ++ resume_text r.resume ++ codes "\n    priority " ++ decimal (rank r.env.priority) ++ cancelled_text r.env.cancelled

-- the line of a variable with this value
abbrev pub variable_line : NamesView → ℕ → ℤ → List ℕ
variable_line ns k v = codes "    " ++ variable_text ns k ++ codes " " ++ signed_decimal v ++ codes "\n"

-- a line for each variable, from this one on
abbrev pub variables_text : NamesView → ℕ → List ℤ → List ℕ
variables_text ns k [] = []
variables_text ns k (v ∷ vs) = variable_line ns k v ++ variables_text ns (k + 1) vs

-- the line of a binding
abbrev pub binding_text : ScriptView → ℕ × ℤ → List ℕ
binding_text p b = codes "    @" ++ local_name p b.0 ++ codes " " ++ signed_decimal b.1 ++ codes "\n"

-- a line for each binding
abbrev pub bindings_text : ScriptView → List (ℕ × ℤ) → List ℕ
bindings_text p = flat_map (binding_text p)

-- What a turn found: its values, with the bindings that stood, the outermost first.
abbrev pub found_text : NamesView → RecordView → List ℕ
found_text ns r = given_text r ++ variables_text ns 0 r.frame.variables ++ bindings_text ns.script (reverse r.outer) ++ bindings_text ns.script (reverse r.frame.own)

-- the changes that stay of a turn of which this became: all, or none
abbrev pub kept_if : Outcome → List Change → List Change
kept_if Kept changes = changes
kept_if _ changes = []

-- the changes of a turn that stay
abbrev pub kept_changes : ValuesView → List Change
kept_changes v = kept_if v.outcome v.changes

-- a change is one of this field
abbrev pub is_change_at : Change → ℕ → ℕ → Bool
is_change_at c actor i = if c.actor == actor then c.field == i else false

-- the value that a field got, where a change is of it
abbrev pub changed_to : List Change → ℕ → ℕ → Option ℤ
changed_to [] actor i = None
changed_to (c ∷ cs) actor i = if is_change_at c actor i then Some c.after else changed_to cs actor i

-- the new value of a field, where it has one
abbrev pub arrow_text : Option ℤ → List ℕ
arrow_text None = []
arrow_text (Some v) = codes " -> " ++ signed_decimal v

-- the line of a field of the actor at a place of the executor, with the new value where it has one
abbrev pub field_line : ScriptView → ℕ → ℕ → ℕ → ℤ → Option ℤ → List ℕ
field_line p e actor i v after = codes "    " ++ place_text p e actor i ++ codes " " ++ signed_decimal v ++ arrow_text after ++ codes "\n"

-- a line for each field of the actor, from this field on, with what these changes make of it
abbrev pub row_text : ScriptView → ℕ → ℕ → List Change → ℕ → List ℤ → List ℕ
row_text p e actor changes i [] = []
row_text p e actor changes i (v ∷ vs) = field_line p e actor i v (changed_to changes actor i) ++ row_text p e actor changes (i + 1) vs

-- a line for a change of another actor's field
abbrev pub other_text : ScriptView → ℕ → ℕ → Change → List ℕ
other_text p e actor c = if c.actor == actor then [] else note_line (change_text p e c)

-- what a turn would have left, where that is another thing than it found
abbrev pub left_by_text : ScriptView → ℕ → List (List ℤ) → List Change → Outcome → List ℕ
left_by_text p e before [] outcome = []
left_by_text p e before (c ∷ cs) outcome = codes "would have left\n" ++ note_lines (change_lines p e [] (c ∷ cs)) ++ note_lines (broken_lines p e (c ∷ cs) before outcome)

-- what a turn that was undone would have left
abbrev pub undone_text : ScriptView → ℕ → List (List ℤ) → List Change → Outcome → List ℕ
undone_text p e before changes Kept = []
undone_text p e before changes Undone = left_by_text p e before changes Undone
undone_text p e before changes (Broke k) = left_by_text p e before changes (Broke k)

-- The fields of its actor from before a turn, and what it made of them and of others; of a turn that was undone, what it would have left.
abbrev pub fields_text : ScriptView → ℕ → ℕ → List (List ℤ) → ValuesView → List ℕ
fields_text p e actor before v = codes "fields\n" ++ row_text p e actor (kept_changes v) 0 (unwrap_or (slice_get before actor) []) ++ flat_map (other_text p e actor) (kept_changes v) ++ undone_text p e before v.changes v.outcome

-- the name of a task, after its number
abbrev pub name_note : ScriptView → List (Origin × Ending) → ℕ → List ℕ
name_note p es t = codes " (" ++ task_name p es t ++ codes ")"

-- which turn made a change
abbrev pub by_text : ScriptView → List (Origin × Ending) → ℕ → ℕ → List ℕ
by_text p es by number = codes " by t" ++ decimal by ++ codes "." ++ decimal number ++ name_note p es by ++ codes "\n"

-- who was waiting
abbrev pub waiting_text : ScriptView → List (Origin × Ending) → ℕ → List ℕ
waiting_text p es waiting = codes "changed while t" ++ decimal waiting ++ name_note p es waiting ++ codes " was waiting: "

-- the line of a change that turn `number` of task `by` made while task `waiting` was waiting
abbrev pub blame_text : ScriptView → List (Origin × Ending) → ℕ → ℕ → ℕ → ℕ → Change → List ℕ
blame_text p es e waiting by number c = waiting_text p es waiting ++ change_text p e c ++ by_text p es by number

-- this line for a change of a field of the actor at this place
abbrev pub blamed_text : ScriptView → List (Origin × Ending) → ℕ → ℕ → ℕ → ℕ → ℕ → Change → List ℕ
blamed_text p es e actor waiting by number c = if c.actor == actor then blame_text p es e waiting by number c else []

-- those lines of each change that these turns made and that stayed, with what each turn did
abbrev pub meanwhile_text : ScriptView → List (Origin × Ending) → ℕ → ℕ → ℕ → List RecordView → List ValuesView → List ℕ
meanwhile_text p es e actor task [] vs = []
meanwhile_text p es e actor task (r ∷ rs) [] = []
meanwhile_text p es e actor task (r ∷ rs) (v ∷ vs) = flat_map (blamed_text p es e actor task r.task r.number) (kept_changes v) ++ meanwhile_text p es e actor task rs vs

-- those lines of the turns after the one at `last` and before the one at `place`; none where there is no last one
abbrev pub since_text : ScriptView → List (Origin × Ending) → ℕ → ℕ → ℕ → List RecordView → List ValuesView → Option ℕ → ℕ → List ℕ
since_text p es e actor waiting rs vs None place = []
since_text p es e actor waiting rs vs (Some last) place = meanwhile_text p es e actor waiting (slice_range rs (last + 1) place) (slice_range vs (last + 1) place)

-- the place of an actor among these; past the last where it is not there
abbrev pub place_among : List ℕ → ℕ → ℕ
place_among [] a = 0
place_among (b ∷ bs) a = if b == a then 0 else place_among bs a + 1

-- A turn that is explained, and what is known of it: how things are called, and where tasks come from; the text of its method, and the
-- instructions; its place among all turns of its executor, those of the journal, and its place among these; what it was; the fields before
-- it, and what it did to them; what each turn of the journal did; and the place there of the last turn of its task, if it has one.
pub record KnownTurn : Type 0 where
  pub names : NamesView
  pub endings : List (Origin × Ending)
  pub method : List ℕ
  pub instructions : List Instruction
  pub position : ℕ
  pub journal : List RecordView
  pub place : ℕ
  pub turn : RecordView
  pub before : List (List ℤ)
  pub own : ValuesView
  pub values : List ValuesView
  pub last : Option ℕ

-- the place of the turn's actor on its executor
abbrev pub own_place : NamesView → ℕ
own_place ns = place_among (executor_actors ns.script ns.executor) ns.actor

-- what stands in the line of the report
abbrev pub legend_text : List ℕ
legend_text = codes "    place, task.turn, worker, method, priority, cancelled, what it began with -> how it ended\n"

-- whose turn it is: the task's number and its name
abbrev pub task_text : ScriptView → List (Origin × Ending) → ℕ → List ℕ
task_text p es t = codes "task\n    t" ++ decimal t ++ name_note p es t ++ codes "\n"

-- the line of the report, what stands in it, the task, the method, and where in it the turn began
abbrev pub head_text : KnownTurn → List ℕ
head_text k = turn_text k.names.script k.position (line_of k.turn) ++ legend_text ++ task_text k.names.script k.endings k.turn.task ++ codes "method\n    " ++ k.method ++ ends_text k.names k.instructions k.turn

-- who changed fields of its actor since the last turn of its task
abbrev pub meantime_text : KnownTurn → List ℕ
meantime_text k = since_text k.names.script k.endings k.names.executor (own_place k.names) k.turn.task k.journal k.values k.last k.place

-- The text that explains a turn: its head, what it found, the fields, and who changed them meanwhile.
abbrev pub why_text : KnownTurn → List ℕ
why_text k = head_text k ++ found_text k.names k.turn ++ fields_text k.names.script k.names.executor (own_place k.names) k.before k.own ++ meantime_text k
