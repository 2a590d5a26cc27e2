use Rattle.std.proofs.Common.{[], ◌∷◌, IsNone, refl, subst, sym}
use Rattle.swift_syntax.specs.Declarations.{open_public, public_restricted, restricted}
use Rattle.swift_syntax.specs.ReadersInside.{lexed_of}
use Rattle.swift_syntax.specs.Statements.{Row, a_key}
use Rattle.swift_syntax.specs.declared.word.Word.TheVariants as word
use Rattle.swift_syntax.proofs.Grown.{extends_of, grows_on}
use Rattle.swift_syntax.proofs.Steps.{lexed_on, takes_one}
use Rattle.swift_syntax.proofs.actor.access.Goals as goal

pub returns-then-takes_key-clause-spelled : goal.returns-then-takes_key-clause-spelled
returns-then-takes_key-clause-spelled c = λ n.
    let key = takes_one c.args.reader.now c.takes_key.new.self (a_key word.Private) (c.if-takes_key.ensures.found.0 refl) c.if-takes_key.ensures.taken in
    restricted (c.private_access.ensures.spelled n _ (key.holds (c.private_access.ensures.grows.refused n) []))

pub returns-then-takes_key-3-clause-spelled : goal.returns-then-takes_key-3-clause-spelled
returns-then-takes_key-3-clause-spelled c = λ n.
    let opened = takes_one c.takes_key.new.self c.takes_key-2.new.self (a_key word.Public) (c.if-takes_key-2.ensures.found.0 refl) c.if-takes_key-2.ensures.taken in
    let key = takes_one c.takes_key-2.new.self c.takes_key-then-takes_key-2.new.self (a_key word.Private) (c.if-takes_key-3.ensures.found.0 refl) c.if-takes_key-3.ensures.taken in
    let g = grows_on key.grows c.private_access-then-takes_key-3.ensures.grows in
    let row = subst (λ l. Row l (a_key word.Public ∷ []) c.takes_key.new.self.at c.takes_key-2.new.self.at) (sym (lexed_on _ _ (extends_of g))) (opened.holds (g.refused n) []) in
    rw c.if-takes_key.ensures.taken at (public_restricted row (c.private_access-then-takes_key-3.ensures.spelled n _ (key.holds (c.private_access-then-takes_key-3.ensures.grows.refused n) [])))

pub returns-then-takes_key-2-clause-spelled : goal.returns-then-takes_key-2-clause-spelled
returns-then-takes_key-2-clause-spelled c = λ n.
    let opened = takes_one c.takes_key.new.self c.takes_key-2.new.self (a_key word.Public) (c.if-takes_key-2.ensures.found.0 refl) c.if-takes_key-2.ensures.taken in
    let row : Row (lexed_of c.takes_key-2.new.self) (a_key word.Public ∷ []) c.takes_key.new.self.at c.takes_key-2.new.self.at = opened.holds (subst (λ s. IsNone s.refused) c.if-takes_key-3.ensures.taken n) [] in
    rw c.if-takes_key-3.ensures.taken (rw c.if-takes_key.ensures.taken at (open_public row))

pub returns-clause-spelled : goal.returns-clause-spelled
returns-clause-spelled c = λ n. rw c.if-takes_key.ensures.taken at (rw c.if-takes_key-2.ensures.taken at (c.open_access.ensures.spelled n))
