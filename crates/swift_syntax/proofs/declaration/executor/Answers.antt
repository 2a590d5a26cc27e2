use Rattle.std.proofs.Common.{◌∷◌, [], ◌++◌, ◌≡◌, ap, codes, subst, sym, true, ◌∙◌}
use Rattle.swift_syntax.specs.Declarations.{Rows, SpellsBalanced, SpellsDeclaration, SpellsKind, SpellsSendable, rows_of}
use Rattle.swift_syntax.specs.Declarations as swift
use Rattle.swift_syntax.specs.Expressions.{after, kind_at}
use Rattle.swift_syntax.specs.Statements.{Row, a_key, a_name, a_sign, begins_line, the_word}
use Rattle.swift_syntax.specs.declared.sign.Sign.TheVariants as sign
use Rattle.swift_syntax.specs.declared.token.TokenKind.TheVariants as kind
use Rattle.swift_syntax.specs.declared.tree.ExecutorDecl.{ExecutorDecl}
use Rattle.swift_syntax.specs.declared.word.Word.TheVariants as word
use Rattle.swift_syntax.proofs.DeclaredRows.{both_stay, put_behind, takes_kind, took_begins}
use Rattle.swift_syntax.proofs.Statements.{lexed_stays, row_stays}
use Rattle.swift_syntax.proofs.Steps.{row_on, row_then, rows, then, took_call, took_key, took_lexed, took_name, took_sign, took_word}
use Rattle.swift_syntax.proofs.declaration.executor.Goals as goal

pub returns : goal.returns
returns c = λ is.
    let token = takes_kind c.args.reader.now c.take.new.self kind.Executor is c.take.ensures.taken in
    let of = took_call c.take.new.self c.kind-kind.new.reader (λ l i j. SpellsKind l i j c.kind-kind.result) c.kind-kind.ensures.spelled c.kind-kind.ensures.grows in
    let line = took_begins c.kind-kind.new.reader c.want_line.new.reader c.want_line.ensures.same c.want_line.ensures.line c.want_line.ensures.grows in
    let final = took_key c.want_line.new.reader c.key.new.self word.Final c.key.ensures.taken c.key.ensures.grows in
    let class = took_key c.key.new.self c.key-2.new.self word.Class c.key-2.ensures.taken c.key-2.ensures.grows in
    let name = took_name c.key-2.new.self c.name-name.new.self c.name-name.ensures.taken c.name-name.ensures.grows in
    let colon = took_sign c.name-name.new.self c.sign.new.self sign.Colon c.sign.ensures.taken c.sign.ensures.grows in
    let wrote = took_word c.sign.new.self c.word.new.self (codes "SerialExecutor") c.word.ensures.taken c.word.ensures.grows in
    let sent = took_call c.word.new.self c.sendable.new.reader SpellsSendable c.sendable.ensures.spelled c.sendable.ensures.grows in
    let body = took_lexed c.sendable.new.reader c.unread.new.reader (λ l. (kind_at l.tokens c.sendable.new.reader.at ≡ kind.Sign sign.OpenBrace) × SpellsBalanced l 0 c.sendable.new.reader.at c.unread.new.reader.at) (λ n. (c.unread.ensures.opened n, c.unread.ensures.spelled n)) c.unread.ensures.grows in
    let token_stays = lexed_stays (λ l. (kind_at l.tokens c.args.reader.now.at ≡ kind.Executor) × (after c.args.reader.now.at ≡ c.take.new.self.at)) in
    let of_stays = lexed_stays (λ l. SpellsKind l c.take.new.self.at c.kind-kind.new.reader.at c.kind-kind.result) in
    let line_stays = lexed_stays (λ l. Row l [] c.kind-kind.new.reader.at c.want_line.new.reader.at × (begins_line l c.kind-kind.new.reader.at ≡ true)) in
    let sent_stays = lexed_stays (λ l. SpellsSendable l c.word.new.self.at c.sendable.new.reader.at) in
    let body_stays = lexed_stays (λ l. (kind_at l.tokens c.sendable.new.reader.at ≡ kind.Sign sign.OpenBrace) × SpellsBalanced l 0 c.sendable.new.reader.at c.unread.new.reader.at) in
    let last = then _ _ _ sent_stays sent body in
    let colons = rows _ _ _ colon wrote in
    let words = rows _ _ _ final (rows _ _ _ class (rows _ _ _ name colons)) in
    let all = then _ _ _ token_stays token (then _ _ _ of_stays of (then _ _ _ line_stays line (row_then _ _ _ words last))) in
    let stays = both_stay token_stays (both_stay of_stays (both_stay line_stays (both_stay (row_stays (a_key word.Final ∷ a_key word.Class ∷ a_name ∷ a_sign sign.Colon ∷ the_word (codes "SerialExecutor") ∷ []) c.want_line.new.reader.at c.word.new.self.at) (both_stay sent_stays body_stays)))) in
    let before : Rows = rows_of c.args.reader.now.tree.value in
    let made : ExecutorDecl = record { name = c.name-name.result; kind = c.kind-kind.result } in
    put_behind c.args.reader.now c.unread.new.reader c.put_executor.new.reader SpellsDeclaration (λ r. record r { executors = r.executors ++ made ∷ [] }) stays all c.put_executor.ensures.put c.put_executor.ensures.continues (λ n a x.
    let n_name = colons.grows.refused (last.grows.refused n) in
    let n_class = name.grows.refused n_name in
    let n_final = class.grows.refused n_class in
    let at_class = ap (λ y. y.at) (c.key-2.ensures.taken n_class).1 in
    let at_final = ap (λ y. after y.at) (c.key.ensures.taken n_final).1 in
    let at_line = ap (λ y. after (after y.at)) (c.want_line.ensures.same (final.grows.refused n_final)) in
    let own : c.name-name.result ≡ after (after c.kind-kind.new.reader.at) = (c.name-name.ensures.taken n_name).1 ∙ (at_class ∙ (at_final ∙ at_line)) in
    let of_kind = subst (λ i. SpellsKind a.lexed i c.kind-kind.new.reader.at c.kind-kind.result) (sym x.0.1) x.1.0 in
    subst (λ p. SpellsDeclaration a c.args.reader.now.at c.unread.new.reader.at before (record before { executors = before.executors ++ record { name = p; kind = c.kind-kind.result } ∷ [] })) (sym own) (swift.decl_executor x.0.0 of_kind x.1.1.0.1 (row_on a.lexed x.1.1.0.0 x.1.1.1.0) x.1.1.1.1.0 x.1.1.1.1.1.0 x.1.1.1.1.1.1))
