use Rattle.std.proofs.Common.{refl, sym, ap, ◌∙◌, []}
use Rattle.swift_syntax.specs.ReadersInside.{lexed_of}
use Rattle.swift_syntax.specs.Statements.{Separates, a_sign}
use Rattle.swift_syntax.specs.Statements as swift
use Rattle.swift_syntax.specs.declared.sign.Sign.TheVariants as sign
use Rattle.swift_syntax.proofs.Steps.{takes_one}
use Rattle.swift_syntax.proofs.reader.Reader.separator.Goals.{then-next-via-then-next, then-next-via-else-next+then-is_sign}
use Rattle.swift_syntax.proofs.reader.Reader.separator.Goals as goal

pub returns-then-takes-clause-spelled : goal.returns-then-takes-clause-spelled
returns-then-takes-clause-spelled c = λ n. swift.semicolon ((takes_one c.args.self.now c.takes.new.self (a_sign sign.Semicolon) (c.if-takes.ensures.found.0 refl) c.if-takes.ensures.taken).holds n [])

pub returns-then-next-clause-spelled : goal.returns-then-next-clause-spelled
returns-then-next-clause-spelled c = λ n.
    let there : Separates (lexed_of c.takes.new.self) c.takes.new.self.at c.takes.new.self.at =
    elim c.then-next.branch [ then-next-via-then-next w ↦ swift.new_line (ap (λ t. t.begins_line) (sym c.here-next.ensures.token) ∙ w.if-next.true) refl | then-next-via-else-next+then-is_sign w ↦ swift.before_brace (w.if-is_sign.ensures.0 refl) refl ] in
    rw (sym c.if-takes.ensures.taken) there
