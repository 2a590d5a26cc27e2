-- Where a history is split at one of its blocks.
use Rattle.swift_laws.proofs.Prelude.{◌≡◌, ℕ, List, [], ◌∷◌, ◌++◌, zero, suc, sym, ap, subst, append_assoc, Some, slice_get, append-nil, none-some, same_Some, ScriptView, RecordView, CheckpointView, Block, ran, Stands, AllStand, IsLegal, ReportView, IsRecord}
use Rattle.swift_laws.proofs.HistoriesOnce.{ran_is, record_picked}

pub record IsSplit (script : ScriptView) (cps : List CheckpointView) (before bs : List Block) (b : Block) : Type 0 where
  pub front : List Block
  pub back : List Block
  pub parts : bs ≡ front ++ b ∷ back
  pub stands : Stands script cps (before ++ front) b
  pub all_front : AllStand script cps before front
  pub all_back : AllStand script cps (before ++ front) (b ∷ back)

pub split_at : (script : ScriptView) (cps : List CheckpointView) (before bs : List Block) (p : ℕ) (b : Block) → AllStand script cps before bs → slice_get bs p ≡ Some b → IsSplit script cps before bs b
split_at script cps before [] p b all at = absurd (none-some b at)
split_at script cps before (c ∷ bs) zero b all at =
    let same = same_Some c b at in
    let whole : AllStand script cps (before ++ []) (b ∷ bs) = subst (λ (xs : List Block). AllStand script cps xs (b ∷ bs)) (sym (append-nil before)) (subst (λ (x : Block). AllStand script cps before (x ∷ bs)) same all) in
    record { front = []; back = bs; parts = ap (λ (x : Block). x ∷ bs) same; stands = whole.0; all_front = tt; all_back = whole }
split_at script cps before (c ∷ bs) (suc p) b all at =
    let s = split_at script cps (before ++ c ∷ []) bs p b all.1 at in
    let same = append_assoc before (c ∷ []) s.front in
    record {
      front = c ∷ s.front;
      back = s.back;
      parts = ap (λ (xs : List Block). c ∷ xs) s.parts;
      stands = subst (λ (xs : List Block). Stands script cps xs b) same s.stands;
      all_front = (all.0, s.all_front);
      all_back = subst (λ (xs : List Block). AllStand script cps xs (b ∷ s.back)) same s.all_back;
    }

-- at the block that ran a record
pub at_record : (script : ScriptView) (report : ReportView) (legal : IsLegal script report) (e i : ℕ) (r : RecordView) → IsRecord report e i r → IsSplit script report.checkpoints [] legal.blocks (ran e r)
at_record script report legal e i r is =
    let p = record_picked script report legal e i r is in
    subst (IsSplit script report.checkpoints [] legal.blocks) (ran_is e p.item r p.gives) (split_at script report.checkpoints [] legal.blocks p.place p.item legal.stand p.at)
