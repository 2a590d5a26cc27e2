use Rattle.std.proofs.Common.{refl, rules}
use Rattle.std.proofs.lemmas.Bool.{false≢true}
use Rattle.swift_syntax.specs.Statements as swift
use Rattle.swift_syntax.specs.Statements.{a_key}
use Rattle.swift_syntax.proofs.closure.behind.Goals as goal

pub returns-then-is_key_at : goal.returns-then-is_key_at
returns-then-is_key_at c = swift.there (swift.next_token {x = a_key c.args.word} (c.if-is_key_at.ensures.0 refl) (swift.no_token (search rules)))

pub returns-else-is_key_at : goal.returns-else-is_key_at
returns-else-is_key_at c = swift.missing (λ k. false≢true (c.if-is_key_at.ensures.1 k)) refl
