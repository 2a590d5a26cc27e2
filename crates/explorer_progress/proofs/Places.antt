-- Turns of steps, each at its place.
use Rattle.std.proofs.Common.{◌≡◌, ◌⊎◌, ℕ, ◌+◌, ◌<◌, ◌≤◌, ◌==◌, ℤ, cond, Option, Some, None, List, [], ◌∷◌, ◌++◌, length, take, get_or, set, replicate, slice_get, option_map, count_by, sym, ap, ap₂, subst, ◌∙◌, inl, inr, refl, arith, unwrap_or}
use Rattle.std.specs.List.{cons_option}
use Rattle.std.specs.Global.{Vec}
use Rattle.std.proofs.lemmas.Bool.{cases_eq, eq-eqb, ne_eqb, cond-true, cond-false}
use Rattle.std.proofs.lemmas.Option.{none-some, slice_get-get_or, slice_get-map}
use Rattle.std.proofs.lemmas.List.{append-nil, get_or-replicate, get_or-set_other, get_or-set_same, length-map, length-replicate, length-set, length_push, map_push, take_all}
use Rattle.std.proofs.lemmas.List.Sums.{sum_by_push}
use Rattle.swift_types.specs.declared.id.TaskId.{TaskId}
use Rattle.swift_script.specs.Scripts.{ScriptView}
use Rattle.swift_journal.specs.Records.{RecordView}
use Rattle.swift_report.specs.declared.report.Report.{Report}
use Rattle.swift_explorer.specs.declared.moves.Move.{Move}
use Rattle.swift_explorer.specs.declared.moves.Move.TheVariants as step
use Rattle.run_pictures.specs.Values.{ValuesView, values_from, values_view, values_views}
use Rattle.run_pictures.specs.declared.values.change.TurnValues.{TurnValues}
use Rattle.explorer_progress.specs.declared.hint.RepeatedTask.{RepeatedTask}
use Rattle.explorer_progress.specs.declared.turns.TurnAt.{TurnAt}
use Rattle.explorer_progress.specs.Rounds.{IsAtLimit, changes_at, fields_in, journal_at, played_at, run_of, runs_of, told}
use Rattle.explorer_progress.specs.HintsInside.{ArePlayed, AreTurns, AreTurnsTo, IsRecordAt, IsThere, Stands}
use Rattle.explorer_progress.proofs.Lists.{filter_map_first, filter_map_more, read_or, slice_get_push}

-- the steps up to one run the turns of those before it, and its own
pub runs_more : (steps : List Move) (i : ℕ) (m : Move) → i < length steps → m ≡ get_or steps i m → runs_of (take (i + 1) steps) ≡ runs_of (take i steps) ++ cons_option (run_of m) []
runs_more steps i m within is = filter_map_more run_of steps i m within ∙ ap (λ (x : Move). runs_of (take i steps) ++ cons_option (run_of x) []) (sym is)

-- a step that runs no turn
pub none_added : (report : Report) (steps : List Move) (i : ℕ) (m : Move) (turns : List TurnAt) (run : List ℕ) → i < length steps → m ≡ get_or steps i m → run_of m ≡ None
    → AreTurnsTo report steps i turns run → AreTurnsTo report steps (i + 1) turns run
none_added report steps i m turns run within is none before =
    let same : runs_of (take (i + 1) steps) ≡ runs_of (take i steps) = runs_more steps i m within is ∙ ap (λ (o : Option ℕ). runs_of (take i steps) ++ cons_option o []) none ∙ append-nil (runs_of (take i steps)) in
    record {
      tasks = before.tasks ∙ sym same;
      stand = before.stand;
      counts = λ t lt. before.counts t lt ∙ ap (λ (xs : List ℕ). count_by (λ u. u == t) xs) (sym same);
    }

-- one turn more of a task: its count goes up, and no other one
one_more : (xs : List ℕ) (t u : ℕ) → count_by (λ v. v == u) (xs ++ t ∷ []) ≡ count_by (λ v. v == u) xs + cond (t == u) 1 0
one_more xs t u = sum_by_push (λ v. cond (v == u) 1 0) xs t

counted : (xs run : List ℕ) (t u : ℕ) → t < length run → get_or run t 0 ≡ count_by (λ v. v == t) xs → get_or run u 0 ≡ count_by (λ v. v == u) xs
    → (u ≡ t) ⊎ (u ≡ t → ⊥) → get_or (set run t (get_or run t 0 + 1)) u 0 ≡ count_by (λ v. v == u) (xs ++ t ∷ [])
counted xs run t u within own is (inl same) =
    let here : get_or (set run t (get_or run t 0 + 1)) t 0 ≡ count_by (λ v. v == t) (xs ++ t ∷ []) =
    get_or-set_same run t (get_or run t 0 + 1) 0 within
    ∙ ap₂ (λ (a b : ℕ). a + b) own (sym (cond-true (t == t) 1 0 (eq-eqb t t refl)))
    ∙ sym (one_more xs t t) in
    subst (λ (w : ℕ). get_or (set run t (get_or run t 0 + 1)) w 0 ≡ count_by (λ v. v == w) (xs ++ t ∷ [])) (sym same) here
counted xs run t u within own is (inr other) =
    let zero : count_by (λ v. v == u) xs ≡ count_by (λ v. v == u) xs + 0 = omega arith in
    get_or-set_other run t u (get_or run t 0 + 1) 0 other
    ∙ is
    ∙ zero
    ∙ ap (λ (b : ℕ). count_by (λ v. v == u) xs + b) (sym (cond-false (t == u) 1 0 (ne_eqb t u (λ e. other (sym e)))))
    ∙ sym (one_more xs t u)

stands_at : (report : Report) (steps : List Move) (turns : List TurnAt) (turn z : TurnAt) (k : ℕ) → ((k : ℕ) (z : TurnAt) → slice_get turns k ≡ Some z → Stands report steps k z)
    → Stands report steps (length turns) turn → (slice_get turns k ≡ Some z) ⊎ ((k ≡ length turns) × (z ≡ turn)) → Stands report steps k z
stands_at report steps turns turn z k stand new (inl old) = stand k z old
stands_at report steps turns turn z k stand new (inr both) =
    subst (λ (n : ℕ). Stands report steps n z) (sym both.0) (subst (λ (x : TurnAt). Stands report steps (length turns) x) (sym both.1) new)

-- a step that runs a turn, which is there
pub turn_added : (report : Report) (steps : List Move) (i : ℕ) (m : Move) (task : TaskId) (turns : List TurnAt) (run : List ℕ) (turn : TurnAt) → i < length steps → m ≡ get_or steps i m → m ≡ step.Run task
    → AreTurnsTo report steps i turns run → turn.step ≡ i → turn.task ≡ task → task.0 < length run
    → IsThere (journal_at report turn.executor) turn.place task.0 (get_or run task.0 0)
    → AreTurnsTo report steps (i + 1) (turns ++ turn ∷ []) (set run task.0 (get_or run task.0 0 + 1))
turn_added report steps i m task turns run turn within is runs before its_step its_task known there =
    let t = task.0 in
    let so_far = runs_of (take i steps) in
    let upto : runs_of (take (i + 1) steps) ≡ so_far ++ t ∷ [] = runs_more steps i m within is ∙ ap (λ (x : Move). so_far ++ cons_option (run_of x) []) runs in
    let many : length turns ≡ length so_far = sym (length-map turns (λ (z : TurnAt). z.task.0)) ∙ ap length before.tasks in
    let number : get_or run t 0 ≡ count_by (λ u. u == t) (take (length turns) (runs_of steps)) =
    before.counts t known
    ∙ ap (λ (xs : List ℕ). count_by (λ u. u == t) xs) (sym (filter_map_first run_of steps i))
    ∙ ap (λ (n : ℕ). count_by (λ u. u == t) (take n (runs_of steps))) (sym many) in
    let numbered : IsThere (journal_at report turn.executor) turn.place t (count_by (λ u. u == t) (take (length turns) (runs_of steps))) =
    subst (λ (n : ℕ). IsThere (journal_at report turn.executor) turn.place t n) number there in
    let new : Stands report steps (length turns) turn = record {
      there = subst (λ (x : TaskId). IsThere (journal_at report turn.executor) turn.place x.0 (count_by (λ u. u == x.0) (take (length turns) (runs_of steps)))) (sym its_task) numbered;
      within = subst (λ (n : ℕ). n < length steps) (sym its_step) within;
      upto = ap (λ (n : ℕ). length (runs_of (take (n + 1) steps))) its_step ∙ ap length upto ∙ length_push so_far t ∙ ap (λ (n : ℕ). n + 1) (sym many);
    } in
    record {
      tasks = map_push (λ (z : TurnAt). z.task.0) turns turn ∙ ap₂ (λ (xs : List ℕ) (x : TaskId). xs ++ x.0 ∷ []) before.tasks its_task ∙ sym upto;
      stand = λ k z at. stands_at report steps turns turn z k before.stand new (slice_get_push turns turn k z at);
      counts = λ u lt.
          let below : u < length run = subst (λ (n : ℕ). u < n) (length-set run t (get_or run t 0 + 1)) lt in
          counted so_far run t u known (before.counts t known) (before.counts u below) (cases_eq u t) ∙ ap (λ (xs : List ℕ). count_by (λ v. v == u) xs) (sym upto);
    }

-- before the first step there is none
pub none_yet : (report : Report) (steps : List Move) (n : ℕ) → AreTurnsTo report steps 0 [] (replicate n 0)
none_yet report steps n = record {
  tasks = refl;
  stand = λ k z is. absurd (none-some z is);
  counts = λ t lt. get_or-replicate n t 0 0 (omega (arith, lt, length-replicate {A = ℕ} n 0));
}

-- after the last one there are all
pub all_turns : (report : Report) (steps : List Move) (i : ℕ) (turns : List TurnAt) (run : List ℕ) → length steps ≤ i → AreTurnsTo report steps i turns run → AreTurns report steps turns
all_turns report steps i turns run past before = record {
  tasks = before.tasks ∙ ap runs_of (take_all i steps past);
  stand = before.stand;
}

abbrev told_of : ℕ → ℕ → RepeatedTask
told_of a b = record { task = record { 0 = a }; method = record { 0 = b } }

-- an element of a list that has one
some_record : (journal : List RecordView) (place : ℕ) → place < length journal → RecordView
some_record [] place within = absurd (omega (arith, within))
some_record (r ∷ rs) place within = r

-- the turn at a place of a journal, by its task and its number
pub there_at : (journal : List RecordView) (place t n : ℕ) → place < length journal → ((d : RecordView) → t ≡ (get_or journal place d).task) → ((d : RecordView) → n ≡ (get_or journal place d).number)
    → IsThere journal place t n
there_at journal place t n within task number =
    let d = some_record journal place within in
    record { r = get_or journal place d; written = slice_get-get_or journal place d within; task = sym (task d); number = sym (number d) }

-- the turn at a place of an executor's journal
record_of : (report : Report) (turn : TurnAt) (journal : List RecordView) (d : RecordView) → slice_get report.journals.items turn.executor ≡ Some journal → turn.place < length journal
    → IsRecordAt report turn (get_or journal turn.place d)
record_of report turn journal d at within = ap (λ (o : Option (List RecordView)). slice_get (unwrap_or o []) turn.place) at ∙ slice_get-get_or journal turn.place d within

-- it begins with the fault of a task that has had all its turns
pub limit_at : (report : Report) (turn : TurnAt) (journal : List RecordView) → slice_get report.journals.items turn.executor ≡ Some journal → turn.place < length journal
    → ((d : RecordView) → IsAtLimit (get_or journal turn.place d)) → (r : RecordView) × IsRecordAt report turn r × IsAtLimit r
limit_at report turn journal at within is =
    let d = some_record journal turn.place within in
    (get_or journal turn.place d, record_of report turn journal d at within, is d)

-- what is told of it
pub told_at : (report : Report) (turn : TurnAt) (journal : List RecordView) (t m : ℕ) → slice_get report.journals.items turn.executor ≡ Some journal → turn.place < length journal
    → ((d : RecordView) → t ≡ (get_or journal turn.place d).task) → ((d : RecordView) → m ≡ (get_or journal turn.place d).frame.method)
    → (r : RecordView) × IsRecordAt report turn r × (◌≡◌ {A = RepeatedTask} record { task = record { 0 = t }; method = record { 0 = m } } (told r))
told_at report turn journal t m at within task method =
    let d = some_record journal turn.place within in
    (get_or journal turn.place d, record_of report turn journal d at within, ap₂ (λ (a b : ℕ). told_of a b) (task d) (method d))

-- what a turn changed, by what was played
pub changes_found : (script : ScriptView) (report : Report) (values : List (Vec TurnValues)) (e place : ℕ) (done : Vec TurnValues) (v : TurnValues) → ArePlayed script report values
    → slice_get values e ≡ Some done → slice_get done.items place ≡ Some v → changes_at script report e place ≡ Some v.changes.items
changes_found script report values e place done v played at there =
    ap (λ (xs : List ValuesView). option_map (λ (did : ValuesView). did.changes) (slice_get xs place)) (sym (played e done at))
    ∙ ap (option_map (λ (did : ValuesView). did.changes)) (slice_get-map values_view done.items place ∙ ap (option_map values_view) there)

played_case : (script : ScriptView) (report : Report) (values : List (Vec TurnValues)) (v done : Vec TurnValues) (e : ℕ) (start : List (List ℤ)) (j : List RecordView)
    → start ≡ fields_in (slice_get report.checkpoints.items (length values)) → j ≡ journal_at report (length values) → values_views v.items ≡ values_from script start j
    → ArePlayed script report values → (slice_get values e ≡ Some done) ⊎ ((e ≡ length values) × (done ≡ v)) → values_views done.items ≡ played_at script report e
played_case script report values v done e start j start_is j_is is before (inl old) = before e done old
played_case script report values v done e start j start_is j_is is before (inr both) =
    ap (λ (d : Vec TurnValues). values_views d.items) both.1
    ∙ is
    ∙ ap₂ (λ (f : List (List ℤ)) (rs : List RecordView). values_from script f rs) start_is j_is
    ∙ ap (played_at script report) (sym both.0)

-- the turns of one journal more were played
pub played_more : (script : ScriptView) (report : Report) (values : List (Vec TurnValues)) (v : Vec TurnValues) (e : ℕ) (start : List (List ℤ)) (j : List RecordView)
    → length values ≡ e → e < length report.journals.items → j ≡ get_or report.journals.items e j → start ≡ fields_in (slice_get report.checkpoints.items e) → values_views v.items ≡ values_from script start j
    → ArePlayed script report values → ArePlayed script report (values ++ v ∷ [])
played_more script report values v e start j many within j_is start_is is before =
    let j_at : j ≡ journal_at report (length values) = read_or report.journals.items e j within j_is ∙ ap (journal_at report) (sym many) in
    let start_at : start ≡ fields_in (slice_get report.checkpoints.items (length values)) = start_is ∙ ap (λ (n : ℕ). fields_in (slice_get report.checkpoints.items n)) (sym many) in
    λ e2 done at. played_case script report values v done e2 start j start_at j_at is before (slice_get_push values v e2 done at)
