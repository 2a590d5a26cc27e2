use Rattle.swift_script.proofs.Prelude.{Some, ap, subst, IsBroken, tree_of}
use Rattle.swift_script.specs.declared.fault.ScriptFaultKind.TheVariants as kind
use Rattle.swift_script.proofs.Refusing.{moved}
use Rattle.swift_script.proofs.Finishing.{invariant_blames, root_blames}
use Rattle.swift_script.proofs.start.fault_of.Goals as goal

pub returns-in-FalseInvariant-clause-place : goal.returns-in-FalseInvariant-clause-place
returns-in-FalseInvariant-clause-place c = λ named.
    let d = c.args.declarations.now in
    let w = c.in-FalseInvariant in
    let fault = c.fault_at in (
      moved c.args.text.now _ kind.InvariantFalse _ _ fault.ensures.kind fault.ensures.span
          (invariant_blames c.args.text.now d c.args.tokens.now c.deref-in-FalseInvariant.result.now c.deref-in-FalseInvariant-2.result.now c.deref.result.now w.actor
          c.invariants_before-before.result c.place_of-place.result _ named (subst (IsBroken (tree_of d)) w.is c.requires)
          c.deref-in-FalseInvariant.ensures.value c.deref-in-FalseInvariant-2.ensures.value c.deref.ensures.value
          c.invariants_before-before.ensures c.place_of-place.ensures (ap Some c.span_at.ensures)),
      fault.ensures.line,
    )

pub returns-in-WaitingRoot-clause-place : goal.returns-in-WaitingRoot-clause-place
returns-in-WaitingRoot-clause-place c = λ named.
    let s = tree_of c.args.declarations.now in
    let w = c.in-WaitingRoot in
    let fault = c.fault_at-in-WaitingRoot in (
      moved c.args.text.now _ kind.RootWaits _ _ fault.ensures.kind fault.ensures.span
          (root_blames c.args.text.now s c.args.tokens.now c.deref-in-WaitingRoot.result.now c.deref-in-WaitingRoot-2.result.now w.root c.place_of-place-in-WaitingRoot.result _ named (subst (IsBroken s) w.is c.requires)
          c.deref-in-WaitingRoot.ensures.value c.deref-in-WaitingRoot-2.ensures.value c.place_of-place-in-WaitingRoot.ensures (ap Some c.span_at-in-WaitingRoot.ensures)),
      fault.ensures.line,
    )
