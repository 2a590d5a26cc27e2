use Rattle.std.proofs.Common.{refl}
use Rattle.swift_syntax.specs.Statements as swift
use Rattle.swift_syntax.specs.Statements.{a_key, a_sign}
use Rattle.swift_syntax.specs.declared.sign.Sign.TheVariants as sign
use Rattle.swift_syntax.specs.declared.word.Word.TheVariants as word
use Rattle.swift_syntax.proofs.statement.target.Goals as goal

pub returns-then-is_sign_ahead-clause-spelled : goal.returns-then-is_sign_ahead-clause-spelled
returns-then-is_sign_ahead-clause-spelled c =
    rw (c.take-then-is_sign_ahead.ensures.taken, c.take.ensures.taken) (swift.own (swift.next_token {x = a_key word.Own} (c.if-is_key.ensures.0 refl) (swift.next_token {x = a_sign sign.Dot} ((c.if-is_sign_ahead.ensures refl).0 refl) (swift.no_token refl))))

pub returns-clause-spelled : goal.returns-clause-spelled
returns-clause-spelled c = swift.plain refl
