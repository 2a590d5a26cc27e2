use Rattle.swift_script.proofs.Prelude.{map, sym, subst, view_decl, ScriptFaultKind, Refuses, check_kind, check_span}
use Rattle.swift_script.specs.Scripts.{parts_of}
use Rattle.swift_script.proofs.Refusing.{moved, check_refused, check_blames}
use Rattle.swift_script.proofs.naming.compile_named.Goals as goal

pub returns-in-Err-clause-refused : goal.returns-in-Err-clause-refused
returns-in-Err-clause-refused c = λ spelled.
    subst (λ (k : ScriptFaultKind). Refuses k c.args.text.now) (sym c.refusal.ensures.kind) (check_refused c.args.text.now (map view_decl c.args.decls.now) c.args.tokens.now c.in-Err.error spelled c.in-Err.ensures.finds)

pub returns-in-Err-clause-place : goal.returns-in-Err-clause-place
returns-in-Err-clause-place c = λ spelled. (
  moved c.args.text.now _ (check_kind c.in-Err.error) _ (check_span c.args.text.now c.args.tokens.now c.in-Err.error) c.refusal.ensures.kind c.refusal.ensures.span
      (check_blames c.args.text.now (map view_decl c.args.decls.now) c.args.tokens.now c.in-Err.error spelled c.in-Err.ensures.finds),
  c.refusal.ensures.line,
)

pub returns-in-Ok-clause-compiled : goal.returns-in-Ok-clause-compiled
unfolding parts_of
returns-in-Ok-clause-compiled c = c.in-Ok.ensures.compiled
