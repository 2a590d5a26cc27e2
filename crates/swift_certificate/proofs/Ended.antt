-- A report that was followed to its end.
use Rattle.swift_certificate.proofs.Prelude.{◌≡◌, ◌≢◌, ◌<◌, ◌≤◌, ℕ, zero, suc, get_or, ◌+◌, ℤ, List, [], ◌∷◌, length, map, true, refl, sym, subst, ap, ◌∙◌, arith, inl, inr, Option, Some, option_map, slice_get, take, unwrap_or, range_with_len, arc_value, cases_eq, slice_get_read, slice_get_within, slice_get-map, Ending, ScriptView, executor_count, root_count, Origin, life_of, opened_by, is_closed, RecordView, CheckpointView, IsLegal, ReportView, no_checkpoint, rows_at, same_one, ExecutorProgress, Replay, AreEndedAt, EndsAt, IsReplay}
use Rattle.std.proofs.Math.Seq.{take-length}
use Rattle.swift_events.specs.declared.event.Event.{Event}
use Rattle.swift_events.specs.Events.{tasks_of}

-- the executors before a number were followed to their ends
abbrev pub EndsBelow : ScriptView → List ExecutorProgress → List (List (List ℤ)) → ReportView → ℕ → Type 0
EndsBelow script rows owns report n = (e : ℕ) (row : ExecutorProgress) (own : List (List ℤ)) (journal : List RecordView) (checkpoint : CheckpointView) (fields : List (List ℤ)) → e < n
    → slice_get rows e ≡ Some row → slice_get owns e ≡ Some own → slice_get report.journals e ≡ Some journal → slice_get report.checkpoints e ≡ Some checkpoint → slice_get report.fields e ≡ Some fields
    → EndsAt script e row own journal checkpoint fields

below : (e n : ℕ) → e < n + 1 → e ≢ n → e < n
below e n lt ne = grind arith

pub ended_next : (script : ScriptView) (rows : List ExecutorProgress) (owns : List (List (List ℤ))) (report : ReportView) (n : ℕ) (row : ExecutorProgress) (own : List (List ℤ)) (journal : List RecordView) (checkpoint : CheckpointView) (fields : List (List ℤ)) → EndsBelow script rows owns report n
    → slice_get rows n ≡ Some row → slice_get owns n ≡ Some own → slice_get report.journals n ≡ Some journal → slice_get report.checkpoints n ≡ Some checkpoint → slice_get report.fields n ≡ Some fields → EndsAt script n row own journal checkpoint fields
    → EndsBelow script rows owns report (n + 1)
ended_next script rows owns report n row own journal checkpoint fields before at at_o at_j at_c at_f is e row' own' journal' checkpoint' fields' lt here here_o here_j here_c here_f = elim (cases_eq e n) [
  | inl same ↦
      let r : row ≡ row' = same_one row row' (sym at ∙ ap (slice_get rows) (sym same) ∙ here) in
      let o : own ≡ own' = same_one own own' (sym at_o ∙ ap (slice_get owns) (sym same) ∙ here_o) in
      let j : journal ≡ journal' = same_one journal journal' (sym at_j ∙ ap (slice_get report.journals) (sym same) ∙ here_j) in
      let k : checkpoint ≡ checkpoint' = same_one checkpoint checkpoint' (sym at_c ∙ ap (slice_get report.checkpoints) (sym same) ∙ here_c) in
      let f : fields ≡ fields' = same_one fields fields' (sym at_f ∙ ap (slice_get report.fields) (sym same) ∙ here_f) in
      subst (λ (i : ℕ). EndsAt script i row' own' journal' checkpoint' fields') (sym same)
      (subst (λ (x : ExecutorProgress). EndsAt script n x own' journal' checkpoint' fields') r
      (subst (λ (x : List (List ℤ)). EndsAt script n row x journal' checkpoint' fields') o
      (subst (λ (x : List RecordView). EndsAt script n row own x checkpoint' fields') j
      (subst (λ (x : CheckpointView). EndsAt script n row own journal x fields') k
      (subst (λ (x : List (List ℤ)). EndsAt script n row own journal checkpoint x) f is)))))
  | inr ne ↦ before e row' own' journal' checkpoint' fields' (below e n lt ne) here here_o here_j here_c here_f
]

there : {A : Type 0} (xs : List A) (e : ℕ) → e < length xs → (x : A) × (slice_get xs e ≡ Some x)
there [] e lt = absurd (grind arith)
there (x ∷ xs) zero lt = (x, refl)
there (x ∷ xs) (suc e) lt = there xs e (omega (arith, lt))

all_taken : {A : Type 0} (xs : List A) (n : ℕ) → n ≡ length xs → take n xs ≡ xs
all_taken xs n is = ap (λ k. take k xs) is ∙ take-length xs

pub legal_is : (report : ReportView) (x : Replay) → IsReplay report x → report.log ≡ x.history.book.log → x.history.roots ≡ root_count (arc_value x.history.script)
    → length report.endings ≡ tasks_of (root_count x.history.book.script) x.history.book.log
    → ((t : ℕ) (e : Origin × Ending) → slice_get report.endings t ≡ Some e → ((life_of t x.history.book.log).origin ≡ Some e.0) × ((life_of t x.history.book.log).ending ≡ Some e.1))
    → ((t g : ℕ) → t < length report.endings → g < opened_by t x.history.book.log → is_closed t g x.history.book.log ≡ true)
    → AreEndedAt (arc_value x.history.script) x.rows.items (rows_at x.history) report → IsLegal (arc_value x.history.script) report
legal_is report x is log roots many each closed ended =
    let script = arc_value x.history.script in
    let led = is.is.led in
    let row_at : (e : ℕ) → e < executor_count script → (row : ExecutorProgress) × (slice_get x.rows.items e ≡ Some row) = λ e lt. there x.rows.items e (subst (λ (n : ℕ). e < n) (sym ended.rows_many.0) lt) in
    let own_at : (e : ℕ) → e < executor_count script → (own : List (List ℤ)) × (slice_get (rows_at x.history) e ≡ Some own) = λ e lt. there (rows_at x.history) e (subst (λ (n : ℕ). e < n) (sym ended.rows_many.1) lt) in
    let journal_of : (e : ℕ) → e < executor_count script → (j : List RecordView) × (slice_get report.journals e ≡ Some j) = λ e lt. there report.journals e (subst (λ (n : ℕ). e < n) (sym ended.many.0) lt) in
    let checkpoint_of : (e : ℕ) → e < executor_count script → (c : CheckpointView) × (slice_get report.checkpoints e ≡ Some c) = λ e lt. there report.checkpoints e (subst (λ (n : ℕ). e < n) (sym ended.many.1) lt) in
    let fields_at : (e : ℕ) → e < executor_count script → (fs : List (List ℤ)) × (slice_get report.fields e ≡ Some fs) = λ e lt. there report.fields e (subst (λ (n : ℕ). e < n) (sym ended.many.2) lt) in
    let ends : (e : ℕ) (lt : e < executor_count script) → EndsAt script e (row_at e lt).0 (own_at e lt).0 (journal_of e lt).0 (checkpoint_of e lt).0 (fields_at e lt).0 =
    λ e lt. ended.each e (row_at e lt).0 (own_at e lt).0 (journal_of e lt).0 (checkpoint_of e lt).0 (fields_at e lt).0 (row_at e lt).1 (own_at e lt).1 (journal_of e lt).1 (checkpoint_of e lt).1 (fields_at e lt).1 in
    record {
      blocks = is.blocks;
      stand = led.stand;
      roots = led.roots_are ∙ ap (range_with_len 0) roots;
      log = log ∙ led.log_is;
      executors = ended.many;
      journals = λ e rs at.
          (let lt = subst (λ (n : ℕ). e < n) ended.many.0 (slice_get_within report.journals e rs at) in
          let row = row_at e lt in
          let here = ap (λ (o : Option (List RecordView)). unwrap_or o []) at in
          let same : (journal_of e lt).0 ≡ rs = same_one (journal_of e lt).0 rs (sym (journal_of e lt).1 ∙ at) in
          sym ((is.places e row.0 row.1).played ∙ ap (take row.0.played) here ∙ all_taken rs row.0.played ((ends e lt).played ∙ ap length same)));
      folded = λ e c at.
          (let lt = subst (λ (n : ℕ). e < n) ended.many.1 (slice_get_within report.checkpoints e c at) in
          let row = row_at e lt in
          let here = ap (λ (o : Option CheckpointView). (unwrap_or o no_checkpoint).folded) at in
          let same : (checkpoint_of e lt).0 ≡ c = same_one (checkpoint_of e lt).0 c (sym (checkpoint_of e lt).1 ∙ at) in
          sym ((is.places e row.0 row.1).folded ∙ ap (take row.0.folded) here ∙ all_taken c.folded row.0.folded ((ends e lt).folded ∙ ap (λ (d : CheckpointView). length d.folded) same)));
      start = λ e c at none.
          (let lt = subst (λ (n : ℕ). e < n) ended.many.1 (slice_get_within report.checkpoints e c at) in
          let same : (checkpoint_of e lt).0 ≡ c = same_one (checkpoint_of e lt).0 c (sym (checkpoint_of e lt).1 ∙ at) in
          ap (λ (d : CheckpointView). d.fields) (sym same) ∙ (ends e lt).start (ap (λ (d : CheckpointView). d.folded) same ∙ none));
      fields = λ e fs at.
          (let lt = subst (λ (n : ℕ). e < n) ended.many.2 (slice_get_within report.fields e fs at) in
          let own = own_at e lt in
          let same : (fields_at e lt).0 ≡ fs = same_one (fields_at e lt).0 fs (sym (fields_at e lt).1 ∙ at) in
          sym ((ends e lt).fields_are ∙ same) ∙ led.fields_are e own.0 own.1);
      tasks = many ∙ ap (λ (p : ScriptView). tasks_of (root_count p) x.history.book.log) is.is.book_is ∙ ap (tasks_of (root_count script)) (sym log);
      endings = λ t e at. subst (λ (l : List Event). ((life_of t l).origin ≡ Some e.0) × ((life_of t l).ending ≡ Some e.1)) (sym log) (each t e at);
      groups = subst (λ (l : List Event). (t g : ℕ) → t < length report.endings → g < opened_by t l → is_closed t g l ≡ true) (sym log) closed;
    }

pub at_place : {A : Type 0} (xs : List A) (i : ℕ) (x : A) → i < length xs → x ≡ get_or xs i x → slice_get xs i ≡ Some x
at_place xs i x lt is = slice_get_read xs (length xs) i x refl lt is

-- what is seen of the element at a place
pub seen_at : {A B : Type 0} (v : A → B) (xs : List A) (i : ℕ) (x : A) → i < length xs → x ≡ get_or xs i x → slice_get (map v xs) i ≡ Some (v x)
seen_at v xs i x lt is = slice_get-map v xs i ∙ ap (option_map v) (at_place xs i x lt is)

before_end : (e n m k : ℕ) → e < m → m ≡ k → k ≤ n → e < n
before_end e n m k lt is past = omega (arith, lt, is, past)

pub all_ended : (script : ScriptView) (rows : List ExecutorProgress) (owns : List (List (List ℤ))) (report : ReportView) (n : ℕ) → executor_count script ≤ n → EndsBelow script rows owns report n → length rows ≡ executor_count script → length owns ≡ executor_count script
    → length report.journals ≡ executor_count script → length report.checkpoints ≡ executor_count script → length report.fields ≡ executor_count script → AreEndedAt script rows owns report
all_ended script rows owns report n past each rows_many owns_many journals checkpoints fields = record {
  rows_many = (rows_many, owns_many);
  many = (journals, checkpoints, fields);
  each = λ e row o j k f at. each e row o j k f (before_end e n (length rows) (executor_count script) (slice_get_within rows e row at) rows_many past) at;
}
