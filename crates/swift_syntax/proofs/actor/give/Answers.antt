use Rattle.std.proofs.Common.{◌∙◌, ap, sym}
use Rattle.swift_syntax.specs.Declarations.{given_to, rows_of}
use Rattle.swift_syntax.specs.ReadersInside.{lexed_of}
use Rattle.swift_syntax.proofs.Declaring.{lexed_as}
use Rattle.swift_syntax.proofs.Giving.{given_first, puts_lexed}
use Rattle.swift_syntax.proofs.actor.give.Goals as goal

pub returns-else-give_at : goal.returns-else-give_at
returns-else-give_at c =
    let r = rows_of c.args.reader.now.tree.value in
    let first = given_first (lexed_of c.args.reader.now) c.args.actor c.args.name c.args.value r.fields c.in-Some.place (sym c.field_named.ensures ∙ c.in-Some.is) in
    puts_lexed (λ a l x.
    let same = sym (l ∙ lexed_as _ _ c.give_at.ensures.continues) in
    (x.0, x.1 ∙ ap (λ fs. record r { fields = fs }) (first ∙ ap (λ y. given_to y c.args.actor c.args.name c.args.value r.fields) same))) c.give_at.ensures
