use Rattle.swift_script.proofs.Prelude.{map, sym, ap, subst, piece, ScriptFaultKind, Refuses, read_kind, read_span}
use Rattle.swift_script.proofs.Refusing.{moved, read_blames, read_refused}
use Rattle.swift_script.proofs.spelled.declarations.Goals as goal

pub returns-in-Err-clause-refused : goal.returns-in-Err-clause-refused
returns-in-Err-clause-refused c =
    subst (λ (k : ScriptFaultKind). Refuses k c.args.text.now) (sym c.refusal.ensures.kind)
    (read_refused c.args.text.now (map piece c.deref.result.now) c.args.tokens c.in-Err.error c.requires.plain c.requires.kept (ap (map piece) c.deref.ensures.value) c.in-Err.ensures.refused)

pub returns-in-Err-clause-place : goal.returns-in-Err-clause-place
returns-in-Err-clause-place c = (
  moved c.args.text.now _ (read_kind c.in-Err.error) _ (read_span c.args.text.now c.args.tokens c.in-Err.error) c.refusal.ensures.kind c.refusal.ensures.span
      (read_blames c.args.text.now (map piece c.deref.result.now) c.args.tokens c.in-Err.error c.requires.kept (ap (map piece) c.deref.ensures.value) c.in-Err.ensures.fault),
  c.refusal.ensures.line,
)
