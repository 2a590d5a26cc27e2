-- The places of executors, when a block more was followed.
use Rattle.swift_certificate.proofs.Prelude.{◌≡◌, ◌≢◌, ℕ, zero, suc, ◌+◌, List, [], ◌∷◌, ◌++◌, refl, sym, subst, ap, ◌∙◌, inl, inr, Some, None, if◌then◌else◌, slice_get, slice_set, take, cases_eq, none-some, RecordView, FoldedView, Block, ran, folded, ReportView, checkpoint_at, folded_in, record_in, filter_none, filter_some, equal, same_one, unequal, ExecutorProgress, IsProgress, journal_at}
use Rattle.swift_certificate.proofs.Blocks.{take_next}

-- a block that is no turn of an executor leaves it where it was
pub place_stays : (report : ReportView) (bs : List Block) (b : Block) (e : ℕ) (row : ExecutorProgress) → record_in e b ≡ None → folded_in e b ≡ None → IsProgress report bs e row → IsProgress report (bs ++ b ∷ []) e row
place_stays report bs b e row none none' is = record { folded = filter_none (folded_in e) bs b none' ∙ is.folded; played = filter_none (record_in e) bs b none ∙ is.played }

-- a turn that was played again
pub place_played : (report : ReportView) (bs : List Block) (e : ℕ) (row row' : ExecutorProgress) (r : RecordView) → IsProgress report bs e row
    → slice_get (journal_at report.journals e) row.played ≡ Some r → row'.played ≡ row.played + 1 → row'.folded ≡ row.folded → IsProgress report (bs ++ ran e r ∷ []) e row'
place_played report bs e row row' r is there played kept =
    let journal = journal_at report.journals e in
    record {
      folded = filter_none (folded_in e) bs (ran e r) refl ∙ is.folded ∙ ap (λ n. take n (checkpoint_at report.checkpoints e).folded) (sym kept);
      played = filter_some (record_in e) bs (ran e r) r (ap (λ b. if b then Some r else None) (equal e e refl)) ∙ ap (λ rs. rs ++ r ∷ []) is.played
          ∙ sym (take_next journal row.played r there) ∙ ap (λ n. take n journal) (sym played);
    }

-- a turn of a checkpoint
pub place_folded : (report : ReportView) (bs : List Block) (e : ℕ) (row row' : ExecutorProgress) (f : FoldedView) → IsProgress report bs e row
    → slice_get (checkpoint_at report.checkpoints e).folded row.folded ≡ Some f → row'.played ≡ row.played → row'.folded ≡ row.folded + 1 → IsProgress report (bs ++ folded e f ∷ []) e row'
place_folded report bs e row row' f is there played is_folded =
    let all = (checkpoint_at report.checkpoints e).folded in
    record {
      folded = filter_some (folded_in e) bs (folded e f) f (ap (λ b. if b then Some f else None) (equal e e refl)) ∙ ap (λ fs. fs ++ f ∷ []) is.folded
          ∙ sym (take_next all row.folded f there) ∙ ap (λ n. take n all) (sym is_folded);
      played = filter_none (record_in e) bs (folded e f) refl ∙ is.played ∙ ap (λ n. take n (journal_at report.journals e)) (sym played);
    }

set_same : (rows : List ExecutorProgress) (k : ℕ) (row row' x : ExecutorProgress) → slice_get rows k ≡ Some row → slice_get (slice_set rows k row') k ≡ Some x → x ≡ row'
set_same [] k row row' x at is = absurd (none-some row at)
set_same (r ∷ rs) zero row row' x at is = sym (same_one row' x is)
set_same (r ∷ rs) (suc k) row row' x at is = set_same rs k row row' x at is

set_other : (rows : List ExecutorProgress) (k e : ℕ) (row' : ExecutorProgress) → k ≢ e → slice_get (slice_set rows k row') e ≡ slice_get rows e
set_other [] k e row' ne = refl
set_other (r ∷ rs) zero zero row' ne = absurd (ne refl)
set_other (r ∷ rs) zero (suc e) row' ne = refl
set_other (r ∷ rs) (suc k) zero row' ne = refl
set_other (r ∷ rs) (suc k) (suc e) row' ne = set_other rs k e row' (λ same. ne (ap suc same))

-- where one place is changed, and each other one stays
pub places_set : (P : ℕ → ExecutorProgress → Type 0) (Q : ℕ → ExecutorProgress → Type 0) (rows : List ExecutorProgress) (k : ℕ) (row row' : ExecutorProgress) → slice_get rows k ≡ Some row → Q k row'
    → ((e : ℕ) (x : ExecutorProgress) → k ≢ e → P e x → Q e x) → ((e : ℕ) (x : ExecutorProgress) → slice_get rows e ≡ Some x → P e x)
    → (e : ℕ) (x : ExecutorProgress) → slice_get (slice_set rows k row') e ≡ Some x → Q e x
places_set P Q rows k row row' at own stay all e x is = elim (cases_eq k e) [
  | inl same ↦ subst (λ n. Q n x) same (subst (Q k) (sym (set_same rows k row row' x at (ap (slice_get (slice_set rows k row')) same ∙ is))) own)
  | inr ne ↦ stay e x ne (all e x (sym (set_other rows k e row' ne) ∙ is))
]

-- the turn of an executor leaves each other one where it was
pub others_played : (report : ReportView) (bs : List Block) (k : ℕ) (r : RecordView) (e : ℕ) (x : ExecutorProgress) → k ≢ e → IsProgress report bs e x → IsProgress report (bs ++ ran k r ∷ []) e x
others_played report bs k r e x ne is = place_stays report bs (ran k r) e x (ap (λ b. if b then Some r else None) (unequal k e ne)) refl is

pub others_folded : (report : ReportView) (bs : List Block) (k : ℕ) (f : FoldedView) (e : ℕ) (x : ExecutorProgress) → k ≢ e → IsProgress report bs e x → IsProgress report (bs ++ folded k f ∷ []) e x
others_folded report bs k f e x ne is = place_stays report bs (folded k f) e x refl (ap (λ b. if b then Some f else None) (unequal k e ne)) is
