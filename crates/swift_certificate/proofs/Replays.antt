-- The journals of a history whose blocks may stand are lawful.
use Rattle.swift_certificate.proofs.Prelude.{◌≡◌, ℕ, ℤ, List, [], ◌∷◌, ◌++◌, refl, sym, subst, ap, ◌∙◌, append_assoc, inl, inr, Option, Some, None, if◌then◌else◌, unwrap_or, cases_eq, append-nil, ScriptView, actor_executor, method_actor, RecordView, CheckpointView, AllStand, Block, added, begun, ran, folded, IsLegal, ReportView, RecordStands, Stands, after_blocks, at_first, checkpoint_at, no_checkpoint, record_in, records_of, filter_none, filter_some, equal, unequal}
use Rattle.swift_history.specs.Replay.{AreLawful, IsLawfulRecord, LawfulGrows, RunOn, replay}
use Rattle.swift_certificate.specs.Laws.{HasExecutor, IsReplayed}

abbrev Grows : Type 0
Grows = (script : ScriptView) (fields : List (List ℤ)) (rs : List RecordView) (r : RecordView) → LawfulGrows script fields rs r

-- what is known of an executor's records
record AreRun (script : ScriptView) (fields : List (List ℤ)) (e : ℕ) (rs : List RecordView) : Type 0 where
  lawful : AreLawful script fields rs
  runs : RunOn script e rs

run_push : (script : ScriptView) (e : ℕ) (rs : List RecordView) (r : RecordView) → RunOn script e rs → actor_executor script (method_actor script r.frame.method) ≡ e → RunOn script e (rs ++ r ∷ [])
run_push script e [] r are is = (is, tt)
run_push script e (x ∷ rs) r are is = (are.0, run_push script e rs r are.1 is)

one_run : Grows → (script : ScriptView) (cps : List CheckpointView) (before : List Block) (e k : ℕ) (r : RecordView) → RecordStands script (after_blocks script (at_first script) before) (replay script (checkpoint_at cps k).fields (records_of k before)) k r
    → AreRun script (checkpoint_at cps e).fields e (records_of e before) → AreRun script (checkpoint_at cps e).fields e (records_of e (before ++ ran k r ∷ []))
one_run grows script cps before e k r stands are = elim (cases_eq k e) [
  | inl same ↦
      let fields = (checkpoint_at cps e).fields in
      let more = filter_some (record_in e) before (ran k r) r (ap (λ b. if b then Some r else None) (equal k e same)) in
      let lawful = subst (λ (n : ℕ). IsLawfulRecord script (replay script (checkpoint_at cps n).fields (records_of n before)) r) same stands.lawful in
      record {
        lawful = subst (AreLawful script fields) (sym more) ((grows script fields (records_of e before) r).lawful are.lawful lawful);
        runs = subst (RunOn script e) (sym more) (run_push script e (records_of e before) r are.runs (stands.stands.on ∙ same));
      }
  | inr ne ↦ subst (AreRun script (checkpoint_at cps e).fields e) (sym (filter_none (record_in e) before (ran k r) (ap (λ b. if b then Some r else None) (unequal k e ne)))) are
]

next_run : Grows → (script : ScriptView) (cps : List CheckpointView) (before : List Block) (b : Block) (e : ℕ) → Stands script cps before b → AreRun script (checkpoint_at cps e).fields e (records_of e before)
    → AreRun script (checkpoint_at cps e).fields e (records_of e (before ++ b ∷ []))
next_run grows script cps before (added r) e stands are = subst (AreRun script (checkpoint_at cps e).fields e) (sym (filter_none (record_in e) before (added r) refl)) are
next_run grows script cps before (begun t n env) e stands are = subst (AreRun script (checkpoint_at cps e).fields e) (sym (filter_none (record_in e) before (begun t n env) refl)) are
next_run grows script cps before (ran k r) e stands are = one_run grows script cps before e k r stands are
next_run grows script cps before (folded k f) e stands are = subst (AreRun script (checkpoint_at cps e).fields e) (sym (filter_none (record_in e) before (folded k f) refl)) are

all_run : Grows → (script : ScriptView) (cps : List CheckpointView) (before bs : List Block) (e : ℕ) → AllStand script cps before bs → AreRun script (checkpoint_at cps e).fields e (records_of e before)
    → AreRun script (checkpoint_at cps e).fields e (records_of e (before ++ bs))
all_run grows script cps before [] e all are = subst (λ (xs : List Block). AreRun script (checkpoint_at cps e).fields e (records_of e xs)) (sym (append-nil before)) are
all_run grows script cps before (b ∷ bs) e all are =
    subst (λ (xs : List Block). AreRun script (checkpoint_at cps e).fields e (records_of e xs)) (append_assoc before (b ∷ []) bs)
    (all_run grows script cps (before ++ b ∷ []) bs e all.1 (next_run grows script cps before b e all.0 are))

pub replayed : Grows → (script : ScriptView) (report : ReportView) (e : ℕ) (journal : List RecordView) (checkpoint : CheckpointView) (fields : List (List ℤ)) → IsLegal script report → HasExecutor report e journal checkpoint fields
    → IsReplayed script e journal checkpoint fields
replayed grows script report e journal checkpoint fields legal has =
    let own : checkpoint_at report.checkpoints e ≡ checkpoint = ap (λ (o : Option CheckpointView). unwrap_or o no_checkpoint) has.checkpoint_is in
    let records : records_of e legal.blocks ≡ journal = sym (legal.journals e journal has.journal_is) in
    let all = all_run grows script report.checkpoints [] legal.blocks e legal.stand (record { lawful = tt; runs = tt }) in
    record {
      lawful = subst (λ (c : CheckpointView). AreLawful script c.fields journal) own (subst (AreLawful script (checkpoint_at report.checkpoints e).fields) records all.lawful);
      runs = subst (RunOn script e) records all.runs;
      replayed = legal.fields e fields has.fields_are ∙ ap (λ (c : CheckpointView). replay script c.fields (records_of e legal.blocks)) own ∙ ap (replay script checkpoint.fields) records;
    }
