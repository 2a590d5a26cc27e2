-- Where a turn of a task is under way, a block of another one leaves its job.
use Rattle.swift_reordering.proofs.Prelude.{◌≡◌, ℕ, List, [], ◌∷◌, ◌++◌, refl, sym, ◌∙◌, ap, subst, true, false≢true, ScriptView, root_count, CheckpointView, life_of, is_under_way, Block, added, begun, ran, folded, Standing, at_first, after_block, after_blocks, Stands, AllStand, AreCounted, unbegun, all_keep, first_counted, after_push, stage_at, IsOfOther}
use Rattle.swift_reordering.proofs.Others.{KeepsJob, turn_keeps_job, root_keeps_job, begin_keeps_job}

pub block_keeps_job : (script : ScriptView) (cps : List CheckpointView) (bs : List Block) (b : Block) (t : ℕ) → AllStand script cps [] bs → Stands script cps bs b → IsOfOther t b → is_under_way (stage_at (after_blocks script (at_first script) bs).log t) ≡ true
    → KeepsJob (after_blocks script (at_first script) bs) (after_blocks script (at_first script) (bs ++ b ∷ [])) t
block_keeps_job script cps bs b t stood stands of_other under =
    subst (λ (z : Standing). KeepsJob (after_blocks script (at_first script) bs) z t) (sym (after_push script (at_first script) bs b)) (by_kind b stands of_other)
  where
    s : Standing
    s = after_blocks script (at_first script) bs

    counted : AreCounted (root_count script) s.log s.held
    counted = all_keep script cps [] bs stood (first_counted script)

    by_kind : (c : Block) → Stands script cps bs c → IsOfOther t c → KeepsJob s (after_block script s c) t
    by_kind (added r) stands of_other = root_keeps_job script s r t (λ is.
        (let none = unbegun (counted.each t) (ap (λ (u : ℕ). (life_of u s.log).origin) (sym is) ∙ stands.1) in false≢true (sym none ∙ under)))
    by_kind (begun u m env) stands of_other = record { same = begin_keeps_job s u m env t of_other; job = refl }
    by_kind (ran e r) stands of_other = turn_keeps_job script s counted e r.task r.number r.effects r.exit r.after stands.job r.env r.frame stands.stands t of_other under
    by_kind (folded e f) stands of_other = absurd of_other
