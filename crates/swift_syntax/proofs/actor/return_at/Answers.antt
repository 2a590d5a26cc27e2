use Rattle.std.proofs.Common.{◌∙◌, Some, ap, refl, sym}
use Rattle.std.proofs.lemmas.Option.{slice_get-get_or}
use Rattle.std.specs.List.{slice_get}
use Rattle.swift_syntax.specs.Declarations.{found_returned}
use Rattle.swift_syntax.specs.declared.tree.Tree.{Tree}
use Rattle.swift_syntax.proofs.Grown.{extends_stmts}
use Rattle.swift_syntax.proofs.Methods.{unchanged}
use Rattle.swift_syntax.proofs.actor.return_at.Goals as goal

pub returns-else-stmt-eq0-clause-stmts : goal.returns-else-stmt-eq0-clause-stmts
returns-else-stmt-eq0-clause-stmts c =
    let stmts = c.deref_mut.result.now.stmts.items in
    let found = slice_get-get_or stmts c.args.place c.in-Some.stmt.now c.in-Some.ensures.item.3.0 ∙ ap Some (sym c.in-Some.ensures.value) in
    unchanged stmts c.args.place c.in-Some.stmt.now found c.if-stmt-eq0.false ∙ ap (λ (t : Tree). found_returned c.args.place t.stmts.items (slice_get t.stmts.items c.args.place)) c.deref_mut.ensures.value

pub returns-else-stmt-eq0-clause-extends : goal.returns-else-stmt-eq0-clause-extends
returns-else-stmt-eq0-clause-extends c = extends_stmts c.deref_mut.result.now (λ n. n) refl refl refl c.deref_mut.ensures.value
