use Rattle.swift_shared_book.proofs.Prelude.{◌≡◌, rules, sym, subst, BookView, empty_book}
use Rattle.swift_shared_book.proofs.RuleKept.{starts}
use Rattle.swift_shared_book.proofs.shared.BookLock.new.Goals as goal

pub new-requires-2 : goal.new-requires-2
new-requires-2 c =
    let same : c.in-Ok.book.value ≡ c.args.book = search rules in
    starts _ (subst (λ (b : BookView). b ≡ empty_book b.script) (sym same) c.requires)
