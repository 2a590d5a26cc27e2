-- The report of a run is legal.
use Rattle.swift_course.proofs.Prelude.{◌≡◌, ◌⊎◌, ℕ, ℤ, zero, suc, ◌≤◌, ◌<◌, List, [], ◌∷◌, ◌++◌, length, map, take, drop, refl, sym, ap, ◌∙◌, subst, arith, inl, inr, Option, Some, IfSome, slice_get, unwrap_or, range_with_len, slice_get_within, All-contains, executor_count, executor_start, root_count, CheckpointView, folded_of, RecordView, replay, Block, ReportView, Standing, checkpoint_at, no_checkpoint, records_of, roots_of, AllAllowed, IsOrderly, IsIn, IsOrdered, SaysOrder, starts, HasHistory, IsAccountedFor, IsReportOf, RunsAreLegal, RunsAreOrderly, Account, BookFacts, Maker, BookKnown}
use Rattle.swift_course.proofs.Folding.{GiveFields, Matches, all_match, all_orderly, all_plain, all_stand, nothing_matches, with_folds}
use Rattle.swift_course.proofs.Lists.{same_one}
use Rattle.swift_course.proofs.Starts.{many_starts, none_at, start_fields}

pub there : {A : Type 0} (xs : List A) (e : ℕ) → e < length xs → (x : A) × (slice_get xs e ≡ Some x)
there [] e lt = absurd (omega arith)
there (x ∷ xs) zero lt = (x, refl)
there (x ∷ xs) (suc e) lt = there xs e (omega (arith, lt))

take_first : {A : Type 0} (xs ys : List A) → take (length xs) (xs ++ ys) ≡ xs
take_first [] ys = refl
take_first (x ∷ xs) ys = ap (λ zs. x ∷ zs) (take_first xs ys)

drop_first : {A : Type 0} (xs ys : List A) → drop (length xs) (xs ++ ys) ≡ ys
drop_first [] ys = refl
drop_first (x ∷ xs) ys = drop_first xs ys

long : {A B : Type 0} (f : A → B) (xs : List A) → length (map f xs) ≡ length xs
long f [] = refl
long f (x ∷ xs) = ap suc (long f xs)

none_mapped : (rs : List RecordView) → map folded_of rs ≡ [] → rs ≡ []
none_mapped [] is = refl
none_mapped (r ∷ rs) is = cc

lt_or : (x y : ℕ) → (x < y) ⊎ (y ≤ x)
lt_or x y = grind arith

-- how many turns of each executor were folded
abbrev past_of : ReportView → ℕ → ℕ
past_of report e = length (checkpoint_at report.checkpoints e).folded

-- an executor of the report, with what its account has in the history
record HasLeft (facts : BookFacts) (report : ReportView) (blocks : List Block) (e : ℕ) : Type 0 where
  journal : List RecordView
  checkpoint : CheckpointView
  fields : List (List ℤ)
  past : List RecordView
  journal_at : slice_get report.journals e ≡ Some journal
  checkpoint_is : slice_get report.checkpoints e ≡ Some checkpoint
  fields_at : slice_get report.fields e ≡ Some fields
  records : records_of e blocks ≡ past ++ journal
  folded : checkpoint.folded ≡ map folded_of past
  replayed : checkpoint.fields ≡ replay facts.script (executor_start facts.script e) past
  fields_are : fields ≡ replay facts.script checkpoint.fields journal
  many : past_of report e ≡ length past
  own : checkpoint_at report.checkpoints e ≡ checkpoint

module _ (facts : BookFacts) (v : BookKnown) (report : ReportView) (h : HasHistory v facts) (r : IsReportOf facts v report) where
  left_of : (e : ℕ) (journal : List RecordView) (checkpoint : CheckpointView) (fields : List (List ℤ)) → slice_get report.journals e ≡ Some journal → slice_get report.checkpoints e ≡ Some checkpoint → slice_get report.fields e ≡ Some fields
      → IsAccountedFor facts.script v e journal checkpoint fields → HasLeft facts report h.blocks e
  left_of e journal checkpoint fields journal_at checkpoint_is fields_at is =
      let account : Account = record { executor = e; records = is.past ++ journal; order = is.order; seen = is.seen } in
      let known : IsIn h.blocks account = All-contains (IsIn h.blocks) v.accounts account h.accounts is.account in
      let own : checkpoint_at report.checkpoints e ≡ checkpoint = ap (λ (o : Option CheckpointView). unwrap_or o no_checkpoint) checkpoint_is in
      record {
        journal = journal;
        checkpoint = checkpoint;
        fields = fields;
        past = is.past;
        journal_at = journal_at;
        checkpoint_is = checkpoint_is;
        fields_at = fields_at;
        records = sym known;
        folded = is.folded;
        replayed = is.replayed;
        fields_are = is.fields_are;
        many = ap (λ (c : CheckpointView). length c.folded) own ∙ ap length is.folded ∙ long folded_of is.past;
        own = own;
      }

  left : (e : ℕ) → e < executor_count facts.script → HasLeft facts report h.blocks e
  left e lt =
      let journal = there report.journals e (let n = r.executors.0 in omega (arith, lt, n)) in
      let checkpoint = there report.checkpoints e (let n = r.executors.1 in omega (arith, lt, n)) in
      let fields = there report.fields e (let n = r.executors.2 in omega (arith, lt, n)) in
      left_of e journal.0 checkpoint.0 fields.0 journal.1 checkpoint.1 fields.1 (r.each e journal.0 checkpoint.0 fields.0 journal.1 checkpoint.1 fields.1)

  -- the checkpoints have the fields of the turns that they fold
  give_fields : GiveFields facts.script (starts facts.script) report.checkpoints (past_of report) h.blocks
  give_fields e = elim (lt_or e (executor_count facts.script)) [
    | inl lt ↦
        let l = left e lt in
        let start = executor_start facts.script e in
        ap (λ (c : CheckpointView). c.fields) l.own ∙ l.replayed ∙ ap (replay facts.script start) (sym (take_first l.past l.journal))
        ∙ ap (λ (n : ℕ). replay facts.script start (take n (l.past ++ l.journal))) (sym l.many) ∙ ap (λ (rs : List RecordView). replay facts.script start (take (past_of report e) rs)) (sym l.records)
        ∙ ap (λ (fs : List (List ℤ)). replay facts.script fs (take (past_of report e) (records_of e h.blocks))) (sym (start_fields facts.script e lt))
    | inr le ↦
        let none = none_at report.checkpoints e (let n = r.executors.1 in omega (arith, le, n)) in
        let first = none_at (starts facts.script) e (let n = many_starts facts.script in omega (arith, le, n)) in
        ap (λ (c : CheckpointView). c.fields) none ∙ ap (λ (c : CheckpointView). c.fields) (sym first)
        ∙ ap (λ (n : ℕ). replay facts.script (checkpoint_at (starts facts.script) e).fields (take n (records_of e h.blocks))) (sym (ap (λ (c : CheckpointView). length c.folded) none))
  ]

pub report_is_legal : RunsAreLegal
report_is_legal facts v report h all r =
    let script = facts.script in
    let past = past_of report in
    let plain = all_plain h.blocks h.none_folded in
    let first = nothing_matches script past in
    let bs = with_folds h.blocks past [] in
    let m : Matches script past h.blocks bs = all_match h.blocks script past [] [] plain first in
    let roots : roots_of h.blocks ≡ range_with_len 0 (root_count script) = subst (λ (o : Option Maker). IfSome o (λ n. roots_of h.blocks ≡ range_with_len 0 n.roots)) all h.roots in
    let at : (e : ℕ) → e < executor_count script → HasLeft facts report h.blocks e = left facts v report h r in
    let journal_of : (e : ℕ) (lt : e < executor_count script) → (at e lt).journal ≡ records_of e bs =
    (λ e lt. let l = at e lt in
    sym (m.records e ∙ ap (drop (past e)) l.records ∙ ap (λ (n : ℕ). drop n (l.past ++ l.journal)) l.many ∙ drop_first l.past l.journal))
    in
    record {
      blocks = bs;
      stand = all_stand script (starts script) report.checkpoints past h.blocks (give_fields facts v report h r) h.blocks [] [] refl first plain h.stand;
      roots = m.roots ∙ roots;
      log = r.log_is ∙ h.log_is ∙ ap (λ (s : Standing). s.log) (sym m.same);
      executors = r.executors;
      journals = λ e rs is.
          (let lt : e < executor_count script = (let w = slice_get_within report.journals e rs is in let n = r.executors.0 in omega (arith, w, n)) in
          same_one rs (at e lt).journal (sym is ∙ (at e lt).journal_at) ∙ journal_of e lt);
      folded = λ e c is.
          (let lt : e < executor_count script = (let w = slice_get_within report.checkpoints e c is in let n = r.executors.1 in omega (arith, w, n)) in
          let l = at e lt in
          ap (λ (d : CheckpointView). d.folded) (same_one c l.checkpoint (sym is ∙ l.checkpoint_is)) ∙ l.folded
          ∙ ap (map folded_of) (sym (take_first l.past l.journal)) ∙ ap (λ (n : ℕ). map folded_of (take n (l.past ++ l.journal))) (sym l.many)
          ∙ ap (λ (rs : List RecordView). map folded_of (take (past e) rs)) (sym l.records) ∙ sym (m.folds e));
      start = λ e c is none.
          (let lt : e < executor_count script = (let w = slice_get_within report.checkpoints e c is in let n = r.executors.1 in omega (arith, w, n)) in
          let l = at e lt in
          let same = same_one c l.checkpoint (sym is ∙ l.checkpoint_is) in
          let nothing = none_mapped l.past (sym l.folded ∙ ap (λ (d : CheckpointView). d.folded) (sym same) ∙ none) in
          ap (λ (d : CheckpointView). d.fields) same ∙ l.replayed ∙ ap (replay script (executor_start script e)) nothing);
      fields = λ e fs is.
          (let lt : e < executor_count script = (let w = slice_get_within report.fields e fs is in let n = r.executors.2 in omega (arith, w, n)) in
          let l = at e lt in
          same_one fs l.fields (sym is ∙ l.fields_at) ∙ l.fields_are ∙ ap (replay script l.checkpoint.fields) (journal_of e lt)
          ∙ ap (λ (c : CheckpointView). replay script c.fields (records_of e bs)) (sym l.own));
      tasks = r.tasks;
      endings = r.endings;
      groups = r.groups;
    }

pub report_is_orderly : RunsAreOrderly
unfolding report_is_legal
report_is_orderly facts v report h all r rest =
    let script = facts.script in
    let past = past_of report in
    let ordered : (e : ℕ) → e < executor_count script → IsOrdered (h.order e) =
    (λ e lt. let x = rest e lt in
    let says : SaysOrder facts.log h.order x.0 = All-contains (SaysOrder facts.log h.order) v.accounts x.0 h.orders x.1 in
    subst IsOrdered (sym (ap h.order (sym x.2) ∙ sym says.0 ∙ x.3)) tt)
    in
    let orderly : AllAllowed (IsOrderly script) [] h.blocks =
    subst (λ (o : Option Maker). IfSome o (λ m. ((e : ℕ) → e < m.executors → IsOrdered (h.order e)) → AllAllowed (IsOrderly script) [] h.blocks)) all h.orderly ordered
    in
    record { legal = report_is_legal facts v report h all r; orderly = all_orderly h.blocks script past [] [] (all_plain h.blocks h.none_folded) (nothing_matches script past) orderly }
