-- Where each task has ended, a history has made a legal report.
use Rattle.swift_explorer.proofs.Prelude.{◌≡◌, ◌⊎◌, ◌<◌, ℕ, zero, suc, ◌+◌, List, [], ◌∷◌, ◌++◌, length, map, refl, sym, ap, ◌∙◌, ℤ, arith, inl, inr, Some, slice_get, unwrap_or, range_with_len, length-map, none-some, slice_get-map, Ending, ScriptView, executor_count, root_count, Event, Origin, tasks_of, life_of, RecordView, CheckpointView, Block, ReportView, records_of, start_of, starts, many_starts, SearchedHistory, IsOrderlyLegal, Move, AreSteps, AreEnded, HaveClosed, IsHistory, rows_at}
use Rattle.swift_explorer.proofs.First.{mapped, range_at, range_length}

-- what stands at a place of a list with one more
pub push_at : {A : Type 0} (xs : List A) (x y : A) (t : ℕ) → slice_get (xs ++ x ∷ []) t ≡ Some y → (slice_get xs t ≡ Some y) ⊎ ((t ≡ length xs) × (x ≡ y))
push_at [] x y zero at = inr (refl, ap (λ o. unwrap_or o x) at)
push_at [] x y (suc t) at = absurd (none-some y at)
push_at (z ∷ xs) x y zero at = inl at
push_at (z ∷ xs) x y (suc t) at = elim (push_at xs x y t at) [
  | inl old ↦ inl old
  | inr new ↦ inr (ap suc new.0, new.1)
]

pub push_length : {A : Type 0} (xs : List A) (x : A) → length (xs ++ x ∷ []) ≡ length xs + 1
push_length [] x = refl
push_length (y ∷ xs) x =
    let after : suc (length xs + 1) ≡ suc (length xs) + 1 = omega arith in
    ap suc (push_length xs x) ∙ after

pub lt_or : (t n : ℕ) → t < n + 1 → (t < n) ⊎ (t ≡ n)
lt_or t n lt = grind (arith, lt)

pub ended_push : (log : List Event) (es : List (Origin × Ending)) (x : Origin × Ending) → AreEnded log es → (life_of (length es) log).origin ≡ Some x.0 → (life_of (length es) log).ending ≡ Some x.1 → AreEnded log (es ++ x ∷ [])
ended_push log es x are origin ending t y at = elim (push_at es x y t at) [
  | inl old ↦ are t y old
  | inr new ↦ (
    ap (λ (u : ℕ). (life_of u log).origin) new.0 ∙ origin ∙ ap (λ (z : Origin × Ending). Some z.0) new.1,
    ap (λ (u : ℕ). (life_of u log).ending) new.0 ∙ ending ∙ ap (λ (z : Origin × Ending). Some z.1) new.1,
  )
]

pub starts_at : (script : ScriptView) (e : ℕ) (c : CheckpointView) → slice_get (starts script) e ≡ Some c → c ≡ start_of script e
starts_at script e c at =
    let one = mapped (start_of script) (slice_get (range_with_len 0 (executor_count script)) e) c (sym (slice_get-map (start_of script) (range_with_len 0 (executor_count script)) e) ∙ at) in
    let place = range_at 0 (executor_count script) e one.0 one.1 in
    let zero_is : 0 + e ≡ e = omega arith in
    let is : one.0 ≡ e = place.0 ∙ zero_is in
    sym one.2 ∙ ap (start_of script) is

journals_at : (script : ScriptView) (bs : List Block) (e : ℕ) (rs : List RecordView) → slice_get (map (λ (k : ℕ). records_of k bs) (range_with_len 0 (executor_count script))) e ≡ Some rs → rs ≡ records_of e bs
journals_at script bs e rs at =
    let f = λ (k : ℕ). records_of k bs in
    let one = mapped f (slice_get (range_with_len 0 (executor_count script)) e) rs (sym (slice_get-map f (range_with_len 0 (executor_count script)) e) ∙ at) in
    let place = range_at 0 (executor_count script) e one.0 one.1 in
    let zero_is : 0 + e ≡ e = omega arith in
    let is : one.0 ≡ e = place.0 ∙ zero_is in
    sym one.2 ∙ ap f is

-- the report that such a history has made
abbrev pub report_of : ScriptView → List Block → List Event → List (Origin × Ending) → List (List (List ℤ)) → ReportView
report_of script bs log es fields = record {
  journals = map (λ (k : ℕ). records_of k bs) (range_with_len 0 (executor_count script));
  checkpoints = starts script;
  fields = fields;
  log = log;
  endings = es;
}

pub legal_is : (script : ScriptView) (bs : List Block) (x : SearchedHistory) (es : List (Origin × Ending)) (ms : List Move) → IsHistory script bs x → AreSteps 0 ms bs
    → x.steps.roots ≡ root_count script → length es ≡ tasks_of (root_count script) x.steps.book.log → AreEnded x.steps.book.log es → HaveClosed x.steps.book.log (length es)
    → (l : IsOrderlyLegal script (report_of script bs x.steps.book.log es (rows_at x))) × AreSteps 0 ms l.legal.blocks
legal_is script bs x es ms h steps all many are closed = (
  record {
    legal = record {
      blocks = bs;
      stand = h.followed.led.stand;
      roots = h.followed.led.roots_are ∙ ap (range_with_len 0) all;
      log = h.followed.led.log_is;
      executors = (length-map (range_with_len 0 (executor_count script)) (λ (k : ℕ). records_of k bs) ∙ range_length 0 (executor_count script), many_starts script, h.many);
      journals = journals_at script bs;
      folded = λ e c at. ap (λ (x : CheckpointView). x.folded) (starts_at script e c at) ∙ sym (h.none_folded e);
      start = λ e c at none. ap (λ (x : CheckpointView). x.fields) (starts_at script e c at);
      fields = λ e rows at. h.followed.led.fields_are e rows at;
      tasks = many;
      endings = are;
      groups = closed;
    };
    orderly = h.orderly;
  },
  steps,
)

pub folds_none : (script : ScriptView) (e : ℕ) (c : CheckpointView) → slice_get (starts script) e ≡ Some c → c.folded ≡ []
folds_none script e c at = ap (λ (x : CheckpointView). x.folded) (starts_at script e c at)
