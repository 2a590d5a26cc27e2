use Rattle.swift_explorer.proofs.Prelude.{◌≡◌, ◌≤◌, ◌∙◌, ℕ, true, leb, length, sym, subst, ap, arith, false≢true, leb-true, ScriptView, Search, ExplorationView, HasEachOutcome, NeverBreaks}
use Rattle.swift_explorer.proofs.Complete.{has_each, never_breaks}
use Rattle.swift_explorer.proofs.exploration.Exploration.finish.Goals.{then-is_complete, else-is_complete}
use Rattle.swift_explorer.proofs.exploration.Exploration.finish.Goals as goal

last_of : (states : ℕ) (x : Search) (next : ℕ) → states ≡ length x.nodes → leb states next ≡ true → length x.nodes ≤ next
last_of states x next many is = let low = leb-true states next is in omega (arith, low, many)

at_limit : (states : ℕ) (x : Search) → states ≡ length x.nodes → length x.nodes ≡ x.limit → states ≡ x.limit
at_limit states x many met = omega (arith, many, met)

pub returns-clause-all : goal.returns-clause-all
returns-clause-all c = λ is.
    (let x = c.self.inside.search in
    let same = ap (λ (v : ExplorationView). v.script) c.self.view_is in
    elim c.if-is_complete.branch [
      | then-is_complete w ↦ subst (λ (s : ScriptView). HasEachOutcome s x.outcomes.items) same (has_each x c.self.inside.next c.self.invariant (last_of c.len-states.result x c.self.inside.next c.len-states.ensures (sym w.result-is ∙ is)) w.if-is_complete.true)
      | else-is_complete w ↦ absurd (false≢true (sym w.if-is_complete.false ∙ sym w.result-is ∙ is))
    ])

pub returns-clause-unbroken : goal.returns-clause-unbroken
returns-clause-unbroken c = λ is whole.
    (let x = c.self.inside.search in
    let same = ap (λ (v : ExplorationView). v.script) c.self.view_is in
    elim c.if-is_complete.branch [
      | then-is_complete w ↦ subst NeverBreaks same (never_breaks x c.self.inside.next c.self.invariant (last_of c.len-states.result x c.self.inside.next c.len-states.ensures (sym w.result-is ∙ is)) w.if-is_complete.true whole)
      | else-is_complete w ↦ absurd (false≢true (sym w.if-is_complete.false ∙ sym w.result-is ∙ is))
    ])

pub returns-clause-once : goal.returns-clause-once
returns-clause-once c = c.self.invariant.sound.once

pub returns-clause-limit : goal.returns-clause-limit
returns-clause-limit c = λ is. at_limit c.len-states.result c.self.inside.search c.len-states.ensures (c.self.invariant.sound.met is) ∙ ap (λ (v : ExplorationView). v.limit) c.self.view_is
