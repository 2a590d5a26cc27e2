use Rattle.swift_explorer.proofs.Prelude.{rules, ◌≡◌, true, false, list_any, bytes_eq}
use Rattle.swift_explorer.proofs.Noting.{is_there, known_tells, new_keyed, new_noted, new_once}
use Rattle.swift_explorer.proofs.search.Search.note_outcome.Goals as goal

pub returns-then-contains-clause-noted : goal.returns-then-contains-clause-noted
returns-then-contains-clause-noted c =
    let x = c.args.self.now in
    let key = c.in_ok-key.key.bytes.items in
    let among : list_any (bytes_eq key) x.ends ≡ true = search rules in
    known_tells x.outcomes.items x.ends key c.args.outcome c.requires.ends c.in_ok-key.ensures among

pub returns-clause-ends : goal.returns-clause-ends
returns-clause-ends c =
    let x = c.args.self.now in
    let key = c.in_ok-key.key.bytes.items in
    new_noted x.outcomes.items c.push.new.self.items c.args.outcome c.in_ok-push.ensures.items x.ends c.add.new.self key c.requires.ends (λ k has. (c.in_ok-add.ensures.ok k).0 has) c.in_ok-key.ensures

pub returns-clause-keyed : goal.returns-clause-keyed
returns-clause-keyed c =
    let x = c.args.self.now in
    let key = c.in_ok-key.key.bytes.items in
    new_keyed x.outcomes.items c.push.new.self.items c.args.outcome c.in_ok-push.ensures.items x.ends c.add.new.self key c.requires.keyed (λ k has. (c.in_ok-add.ensures.ok k).1 has) c.in_ok-key.ensures

pub returns-clause-once : goal.returns-clause-once
returns-clause-once c =
    let x = c.args.self.now in
    let key = c.in_ok-key.key.bytes.items in
    let none : list_any (bytes_eq key) x.ends ≡ false = search rules in
    new_once x.outcomes.items c.push.new.self.items c.args.outcome c.in_ok-push.ensures.items x.ends key c.requires.keyed none c.in_ok-key.ensures c.requires.once

pub returns-clause-noted : goal.returns-clause-noted
returns-clause-noted c = λ report tells. (c.args.outcome, is_there c.args.self.now.outcomes.items c.push.new.self.items c.args.outcome c.in_ok-push.ensures.items, tells)
