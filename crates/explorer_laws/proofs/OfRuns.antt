-- What a search that came to its end says of each run.
use Rattle.explorer_laws.proofs.Prelude.{◌≡◌, ℕ, false, Option, Some, None, List, refl, subst, ◌∙◌, Contains, is_some, RecordView, ran, ScriptView, EachRunIsListed, NoRunBreaks}
use Rattle.script_parser.specs.declared.limits.TheConstants.{NESTING}
use Rattle.swift_script.specs.Accepted.{IsAccepted}
use Rattle.swift_script.proofs.Accepting.{same_spelled}
use Rattle.swift_laws.proofs.OpenExecutors.{runs_on_executor}
use Rattle.explorer_laws.proofs.Records.{folds_none, in_blocks}

pub listed : EachRunIsListed
listed bytes text quiet well run outcomes all =
    let w = run.whole in
    let found = all (runs_on_executor run.script (bytes, run.accepted)) w.whole w.legal (folds_none run.script w.whole w.fold.unfolded) in
    let tells = found.2 in
    (found.0, found.1, (w.fold.endings ∙ tells.0, w.fold.fields ∙ tells.1))

pub unbroken : NoRunBreaks
unbroken bytes text quiet well run never e turns r at there breaks =
    let w = run.whole in
    let legal = w.legal.legal in
    never (runs_on_executor run.script (bytes, run.accepted)) w.whole w.legal (folds_none run.script w.whole w.fold.unfolded) (ran e r)
    (in_blocks e r legal.blocks (subst (λ (rs : List RecordView). Contains rs r) (legal.journals e turns at) there)) breaks

-- bytes spell one script
pub one_script : (bytes : List ℕ) (s t : ScriptView) → IsAccepted bytes s → IsAccepted bytes t → s ≡ t
one_script bytes s t a b =
    same_spelled NESTING NESTING bytes s t (record { decls = a.decls; spelled = a.spelled; is = a.is }) (record { decls = b.decls; spelled = b.spelled; is = b.is })

pub is_none : {X : Type 0} (o : Option X) → is_some o ≡ false → o ≡ None
is_none None is = refl
is_none (Some x) is = absurd (cc is)
