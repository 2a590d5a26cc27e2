use Rattle.std.proofs.Common.{◌∷◌, []}
use Rattle.swift_syntax.specs.Declarations.{SpellsActor, SpellsDeclaration, SpellsImport}
use Rattle.swift_syntax.specs.Declarations as swift
use Rattle.swift_syntax.specs.Statements.{a_key}
use Rattle.swift_syntax.specs.declared.word.Word.TheVariants as word
use Rattle.swift_syntax.proofs.DeclaredRows.{took_declares, took_then}
use Rattle.swift_syntax.proofs.Declaring.{puts_as}
use Rattle.swift_syntax.proofs.Statements.{row_stays}
use Rattle.swift_syntax.proofs.Steps.{took_call, took_key}
use Rattle.swift_syntax.proofs.declaration.declaration.Goals as goal

pub returns-in-Key-Import : goal.returns-in-Key-Import
returns-in-Key-Import c = took_declares c.args.reader.now c.import.new.reader SpellsDeclaration (took_call c.args.reader.now c.import.new.reader SpellsImport c.import.ensures.spelled c.import.ensures.grows) (λ a u x. swift.decl_import x)

pub returns-in-Key-Actor : goal.returns-in-Key-Actor
returns-in-Key-Actor c = puts_as (λ a x. swift.decl_actor x) c.actor.ensures

pub returns-in-Key-Final : goal.returns-in-Key-Final
returns-in-Key-Final c =
    let final = took_key c.args.reader.now c.key.new.self word.Final c.key.ensures.taken c.key.ensures.grows in
    took_then c.args.reader.now c.key.new.self c.actor-in-Key-Final.new.reader SpellsActor SpellsDeclaration (row_stays (a_key word.Final ∷ []) c.args.reader.now.at c.key.new.self.at) final c.actor-in-Key-Final.ensures (λ n a u v x d. swift.decl_final_actor x d)
