use Rattle.std.proofs.Common.{[], ◌∷◌, codes, refl, subst, sym}
use Rattle.swift_syntax.specs.Declarations.{private_set, private_whole}
use Rattle.swift_syntax.specs.Statements.{Row, a_key, a_sign}
use Rattle.swift_syntax.specs.declared.sign.Sign.TheVariants as sign
use Rattle.swift_syntax.specs.declared.word.Word.TheVariants as word
use Rattle.swift_syntax.proofs.Grown.{extends_of}
use Rattle.swift_syntax.proofs.Steps.{lexed_on, row_on, rows, takes_one, took_sign, took_word}
use Rattle.swift_syntax.proofs.actor.private_access.Goals as goal

pub returns-then-takes-clause-spelled : goal.returns-then-takes-clause-spelled
returns-then-takes-clause-spelled c = λ n i row.
    let opened = takes_one c.args.reader.now c.takes.new.self (a_sign sign.Open) (c.if-takes.ensures.found.0 refl) c.if-takes.ensures.taken in
    let set = took_word c.takes.new.self c.word.new.self (codes "set") c.word.ensures.taken c.word.ensures.grows in
    let closed = took_sign c.word.new.self c.sign.new.self sign.Close c.sign.ensures.taken c.sign.ensures.grows in
    let all = rows _ _ _ opened (rows _ _ _ set closed) in
    private_set (row_on _ (subst (λ l. Row l (a_key word.Private ∷ []) i c.args.reader.now.at) (sym (lexed_on _ _ (extends_of all.grows))) row) (all.holds n []))

pub returns-else-takes-clause-spelled : goal.returns-else-takes-clause-spelled
returns-else-takes-clause-spelled c = λ n i row. rw c.if-takes.ensures.taken (private_whole row)
