use Rattle.std.proofs.Common.{◌∷◌, [], ◌++◌, ◌≡◌, IsNone, ℕ, length, rules, ◌-◌, subst, sym}
use Rattle.swift_syntax.specs.Declarations.{Rows, SpellsCase, rows_of}
use Rattle.swift_syntax.specs.Declarations as swift
use Rattle.swift_syntax.specs.RowsInside.{ArePut}
use Rattle.swift_syntax.specs.Statements.{a_name}
use Rattle.swift_syntax.specs.declared.tree.CaseDecl.{CaseDecl}
use Rattle.swift_syntax.proofs.DeclaredRows.{put_behind}
use Rattle.swift_syntax.proofs.Statements.{row_stays}
use Rattle.swift_syntax.proofs.Steps.{took_name}
use Rattle.swift_syntax.proofs.declaration.case.Goals as goal

pub returns : goal.returns
returns c =
    let name = took_name c.args.reader.now c.name-name.new.self c.name-name.ensures.taken c.name-name.ensures.grows in
    let before : Rows = rows_of c.args.reader.now.tree.value in
    let place : c.saturating_sub-place.result ≡ length before.cases - c.args.first = search rules in
    let after : Rows = rows_of c.name-name.new.self.tree.value in
    let made : ℕ → CaseDecl = λ p. record { of = c.args.of; name = c.name-name.result; place = p } in
    let put = subst (λ p. IsNone c.put_case.new.reader.refused → ArePut c.name-name.new.self c.put_case.new.reader (record after { cases = after.cases ++ made p ∷ [] })) place c.put_case.ensures.put in
    put_behind c.args.reader.now c.name-name.new.self c.put_case.new.reader (λ s. SpellsCase s.lexed c.args.of c.args.first) (λ r. record r { cases = r.cases ++ made (length before.cases - c.args.first) ∷ [] }) (row_stays (a_name ∷ []) c.args.reader.now.at c.name-name.new.self.at) name put c.put_case.ensures.continues (λ n a x.
    subst (λ p. SpellsCase a.lexed c.args.of c.args.first c.args.reader.now.at c.name-name.new.self.at before (record before { cases = before.cases ++ record { of = c.args.of; name = p; place = length before.cases - c.args.first } ∷ [] })) (sym (c.name-name.ensures.taken n).1) (swift.a_case x))
