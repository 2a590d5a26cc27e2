use Rattle.std.proofs.Common.{subst, sym}
use Rattle.swift_syntax.specs.Statements.{SpellsPerhaps}
use Rattle.swift_syntax.specs.Statements as swift
use Rattle.swift_syntax.specs.declared.word.Word.TheVariants as word
use Rattle.swift_syntax.proofs.Grown.{extends_of}
use Rattle.swift_syntax.proofs.Steps.{lexed_on}
use Rattle.swift_syntax.proofs.closure.head.Goals as goal

pub returns-clause-grows : goal.returns-clause-grows
returns-clause-grows c = let g = c.head_form-form.ensures.grows in record { refused = g.refused; text = g.text; tokens = g.tokens; declared = g.declared; stmts = g.stmts; more = g.more; exprs = g.exprs; more_arguments = g.more_arguments; arguments = g.arguments }

pub returns-clause-spelled : goal.returns-clause-spelled
returns-clause-spelled c = λ n.
    let d = c.head_form-form.ensures.spelled n in
    let same = sym (lexed_on c.args.reader.now c.head_form-form.new.reader (extends_of (returns-clause-grows c))) in
    let tried = subst (λ l. SpellsPerhaps l word.Try c.args.reader.now.at c.behind-place.result.0 c.behind-place.result.1) same c.behind-place.ensures in
    let awaited = subst (λ l. SpellsPerhaps l word.Await c.behind-place.result.0 c.behind-first.result.0 c.behind-first.result.1) same c.behind-first.ensures in
    record { more = d.more; stmts = d.stmts; holds = λ xs l. swift.covered tried awaited (d.holds xs l) }
