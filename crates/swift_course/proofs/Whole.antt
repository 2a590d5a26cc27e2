-- The report of a run is the fold of a whole one.
use Rattle.swift_course.proofs.Prelude.{◌≡◌, ℕ, ℤ, ◌<◌, List, [], ◌++◌, map, refl, sym, ap, ◌∙◌, subst, arith, Some, Contains, slice_get, range_with_len, slice_get_within, All-contains, executor_count, executor_start, CheckpointView, RecordView, replay, ReportView, records_of, IsIn, start_of, starts, HasHistory, IsAccountedFor, IsReportOf, Account, BookFacts, BookKnown}
use Rattle.swift_course.specs.Whole.{AreFoldedInto, RunsAreWhole}
use Rattle.swift_course.proofs.Blocks.{replay_append}
use Rattle.swift_course.proofs.Legal.{report_is_orderly, there}
use Rattle.swift_course.proofs.Lists.{same_one}
use Rattle.swift_course.proofs.Starts.{many, many_starts, place_of, start_at}

module _ (facts : BookFacts) (v : BookKnown) (report : ReportView) (h : HasHistory v facts) (r : IsReportOf facts v report) where
  -- the turns of an executor, by the history that led to the book
  abbrev turns_of : ℕ → List RecordView
  turns_of e = records_of e h.blocks

  abbrev journals : List (List RecordView)
  journals = map turns_of (range_with_len 0 (executor_count facts.script))

  -- the report without a fold
  abbrev pub whole : ReportView
  whole = record { journals = journals; checkpoints = starts facts.script; fields = report.fields; log = report.log; endings = report.endings }

  turns_at : (e : ℕ) (turns : List RecordView) → e < executor_count facts.script → slice_get journals e ≡ Some turns → turns ≡ turns_of e
  turns_at e turns lt is = same_one turns (turns_of e) (sym is ∙ place_of turns_of (executor_count facts.script) e lt)

  -- all that the account has is what the history has
  all_turns : (e : ℕ) (journal : List RecordView) (c : CheckpointView) (fields : List (List ℤ)) (is : IsAccountedFor facts.script v e journal c fields) → is.past ++ journal ≡ turns_of e
  all_turns e journal c fields is =
      let account : Account = record { executor = e; records = is.past ++ journal; order = is.order; seen = is.seen } in
      let known : IsIn h.blocks account = All-contains (IsIn h.blocks) v.accounts account h.accounts is.account in
      known

  -- of an executor, what its account says of its journal and checkpoint it says of all of its turns
  whole_accounted : (e : ℕ) (lt : e < executor_count facts.script) (journal turns : List RecordView) (c start : CheckpointView) (fields : List (List ℤ)) → IsAccountedFor facts.script v e journal c fields → turns ≡ turns_of e → start ≡ start_of facts.script e
      → IsAccountedFor facts.script v e turns start fields
  whole_accounted e lt journal turns c start fields is turns_are start_is =
      let first = executor_start facts.script e in
      let same : is.past ++ journal ≡ turns = all_turns e journal c fields is ∙ sym turns_are in
      record {
        past = [];
        order = is.order;
        seen = is.seen;
        account = subst (λ (rs : List RecordView). Contains v.accounts (record { executor = e; records = rs; order = is.order; seen = is.seen })) same is.account;
        folded = ap (λ (x : CheckpointView). x.folded) start_is;
        replayed = ap (λ (x : CheckpointView). x.fields) start_is;
        fields_are = is.fields_are ∙ ap (λ (fs : List (List ℤ)). replay facts.script fs journal) is.replayed ∙ sym (replay_append facts.script first is.past journal)
            ∙ ap (replay facts.script first) same ∙ ap (λ (x : CheckpointView). replay facts.script x.fields turns) (sym start_is);
      }

  -- the account of an executor of the report
  accounted : (e : ℕ) (fields : List (List ℤ)) → e < executor_count facts.script → slice_get report.fields e ≡ Some fields → (journal : List RecordView) × (c : CheckpointView) × IsAccountedFor facts.script v e journal c fields
  accounted e fields lt fields_at =
      let journal = there report.journals e (let n = r.executors.0 in omega (arith, lt, n)) in
      let c = there report.checkpoints e (let n = r.executors.1 in omega (arith, lt, n)) in
      (journal.0, c.0, r.each e journal.0 c.0 fields journal.1 c.1 fields_at)

  pub whole_is_report : IsReportOf facts v whole
  whole_is_report = record {
    log_is = r.log_is;
    executors = (many turns_of (executor_count facts.script) 0, many_starts facts.script, r.executors.2);
    each = λ e turns start fields turns_is start_is fields_is.
        (let lt : e < executor_count facts.script = (let w = slice_get_within (starts facts.script) e start start_is in let n = many_starts facts.script in omega (arith, w, n)) in
        let a = accounted e fields lt fields_is in
        whole_accounted e lt a.0 turns a.1 start fields a.2 (turns_at e turns lt turns_is) (start_at facts.script e start start_is));
    tasks = r.tasks;
    endings = r.endings;
    groups = r.groups;
  }

  pub folded_into : (e : ℕ) (turns journal : List RecordView) (c : CheckpointView) → slice_get whole.journals e ≡ Some turns → slice_get report.journals e ≡ Some journal → slice_get report.checkpoints e ≡ Some c → AreFoldedInto facts.script e turns journal c
  folded_into e turns journal c turns_is journal_is c_is =
      let lt : e < executor_count facts.script = (let w = slice_get_within report.journals e journal journal_is in let n = r.executors.0 in omega (arith, w, n)) in
      let fields = there report.fields e (let n = r.executors.2 in omega (arith, lt, n)) in
      let is = r.each e journal c fields.0 journal_is c_is fields.1 in
      record { past = is.past; parts = turns_at e turns lt turns_is ∙ sym (all_turns e journal c fields.0 is); folded = is.folded; fields = is.replayed }

pub report_has_whole : RunsAreWhole
report_has_whole facts v report h all r rest = record {
  whole = whole facts v report h r;
  legal = report_is_orderly facts v (whole facts v report h r) h all (whole_is_report facts v report h r) rest;
  fold = record {
    unfolded = refl;
    log = refl;
    endings = refl;
    fields = refl;
    executors = r.executors.0 ∙ sym (many (λ e. records_of e h.blocks) (executor_count facts.script) 0);
    checkpoints = r.executors.1 ∙ sym r.executors.0;
    turns = folded_into facts v report h r;
  };
}
