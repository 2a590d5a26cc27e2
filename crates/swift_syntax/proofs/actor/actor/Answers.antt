use Rattle.std.proofs.Common.{◌∷◌, [], ◌≡◌, ℕ, ap, length, subst, ◌∙◌}
use Rattle.swift_syntax.specs.Declarations.{Rows, named_actor}
use Rattle.swift_syntax.specs.DeclaringInside.{with_actor}
use Rattle.swift_syntax.specs.Statements.{Row, Source, a_key, a_name, a_sign}
use Rattle.swift_syntax.specs.declared.sign.Sign.TheVariants as sign
use Rattle.swift_syntax.specs.declared.word.Word.TheVariants as word
use Rattle.swift_syntax.proofs.DeclaredRows.{both_stay, puts_where, then_took, took_then}
use Rattle.swift_syntax.proofs.Declaring.{puts}
use Rattle.swift_syntax.proofs.Members.{actor_of}
use Rattle.swift_syntax.proofs.Statements.{Stays, row_stays}
use Rattle.swift_syntax.proofs.Steps.{rows, took_key, took_name, took_sign}
use Rattle.swift_syntax.proofs.actor.actor.Goals as goal

pub returns : goal.returns
returns c =
    let key = took_key c.args.reader.now c.key.new.self word.Actor c.key.ensures.taken c.key.ensures.grows in
    let name = took_name c.key.new.self c.name-name.new.self c.name-name.ensures.taken c.name-name.ensures.grows in
    let opened = took_sign c.put_actor-actor.new.reader c.sign.new.self sign.OpenBrace c.sign.ensures.taken c.sign.ensures.grows in
    let Put : Source → ℕ → ℕ → Rows → Rows → Type 0 = λ s i j r t. (i ≡ j) × (t ≡ with_actor (named_actor c.name-name.result) r) × (c.put_actor-actor.result ≡ length r.actors) in
    let Begun : Source → ℕ → ℕ → Rows → Rows → Type 0 = λ s i j r t. Row s.lexed (a_key word.Actor ∷ a_name ∷ []) i j × (t ≡ with_actor (named_actor c.name-name.result) r) × (c.put_actor-actor.result ≡ length r.actors) in
    let Opened : Source → ℕ → ℕ → Rows → Rows → Type 0 = λ s i j r t. Begun s i c.put_actor-actor.new.reader.at r t × Row s.lexed (a_sign sign.OpenBrace ∷ []) c.put_actor-actor.new.reader.at j in
    let begun_stays : (i j : ℕ) (r t : Rows) → Stays (λ a. Begun a i j r t) = λ i j r t a b m d. (row_stays _ _ _ a b m d.0, d.1, d.2) in
    let begun = took_then c.args.reader.now c.name-name.new.self c.put_actor-actor.new.reader Put Begun (row_stays (a_key word.Actor ∷ a_name ∷ []) c.args.reader.now.at c.name-name.new.self.at) (rows _ _ _ key name) c.put_actor-actor.ensures (λ n a u v x d. (subst (λ j. Row a.lexed (a_key word.Actor ∷ a_name ∷ []) c.args.reader.now.at j) d.0 x, d.1, d.2)) in
    let front = then_took c.args.reader.now c.put_actor-actor.new.reader c.sign.new.self Begun Opened begun_stays begun opened (λ a u v q p. (q, p)) in
    let stays : Stays (λ a. Opened a c.args.reader.now.at c.sign.new.self.at _ _) = both_stay (begun_stays _ _ _ _) (row_stays (a_sign sign.OpenBrace ∷ []) c.put_actor-actor.new.reader.at c.sign.new.self.at) in
    puts_where (λ n a x.
    let m = c.put_actor-actor.ensures.continues.refused (opened.grows.refused (c.members.ensures.continues.refused n)) in
    let own = (c.name-name.ensures.taken m).1 ∙ ap (λ y. y.at) (c.key.ensures.taken (name.grows.refused m)).1 in
    actor_of a x.0.0.0 own x.0.0.1 x.0.0.2 x.0.1 x.1) (puts c.args.reader.now c.sign.new.self c.members.new.reader stays front c.members.ensures)
