use Rattle.std.proofs.Common.{◌∷◌, [], ◌++◌, subst, sym}
use Rattle.swift_syntax.specs.Declarations.{Rows, SpellsInstance, rows_of}
use Rattle.swift_syntax.specs.Declarations as swift
use Rattle.swift_syntax.specs.Statements.{a_name, a_sign}
use Rattle.swift_syntax.specs.declared.sign.Sign.TheVariants as sign
use Rattle.swift_syntax.specs.declared.tree.InstanceDecl.{InstanceDecl}
use Rattle.swift_syntax.proofs.DeclaredRows.{both_stay, put_behind}
use Rattle.swift_syntax.proofs.Statements.{arguments_stay, row_stays}
use Rattle.swift_syntax.proofs.Steps.{row_then, rows, took_arguments, took_name, took_sign}
use Rattle.swift_syntax.proofs.declaration.instance.Goals as goal

pub returns : goal.returns
returns c =
    let name = took_name c.args.reader.now c.name-of.new.self c.name-of.ensures.taken c.name-of.ensures.grows in
    let opened = took_sign c.name-of.new.self c.sign.new.self sign.Open c.sign.ensures.taken c.sign.ensures.grows in
    let rest = took_arguments c.sign.new.self c.call_arguments-arguments.new.reader c.call_arguments-arguments.result c.call_arguments-arguments.ensures.spelled c.call_arguments-arguments.ensures.grows in
    let all = row_then _ _ _ (rows _ _ _ name opened) rest in
    let before : Rows = rows_of c.args.reader.now.tree.value in
    let made : InstanceDecl = record { name = c.args.name; of = c.name-of.result; arguments = c.call_arguments-arguments.result } in
    put_behind c.args.reader.now c.call_arguments-arguments.new.reader c.put_instance.new.reader (λ s. SpellsInstance s c.args.name) (λ r. record r { instances = r.instances ++ made ∷ [] }) (both_stay (row_stays (a_name ∷ a_sign sign.Open ∷ []) c.args.reader.now.at c.sign.new.self.at) (arguments_stay c.sign.new.self.at c.call_arguments-arguments.new.reader.at c.call_arguments-arguments.result)) all c.put_instance.ensures.put c.put_instance.ensures.continues (λ n a x.
    let own = c.name-of.ensures.taken (opened.grows.refused (rest.grows.refused n)) in
    subst (λ p. SpellsInstance a c.args.name c.args.reader.now.at c.call_arguments-arguments.new.reader.at before (record before { instances = before.instances ++ record { name = c.args.name; of = p; arguments = c.call_arguments-arguments.result } ∷ [] })) (sym own.1) (swift.an_instance x.0 x.1))
