use Rattle.swift_tasks.proofs.Prelude.{◌≡◌, ◌<◌, ◌∙◌, ap, sym, subst, ℕ, List, ◌++◌, None, arc_value, ScriptView, root_count, Event, life_of, root_events, LedgerView, BookView}
use Rattle.swift_tasks.proofs.Pushes.{kept_root}
use Rattle.swift_tasks.proofs.book.Book.add_root.Goals as goal

pub note_root-requires-clause-there : goal.note_root-requires-clause-there
note_root-requires-clause-there c =
    let there : c.args.root.0 < root_count c.args.self.now.script = c.refusal_of_root.ensures.there c.in_default.is in
    let count = ap (λ (l : LedgerView). l.roots) c.reserve.ensures.same ∙ c.self.invariant.0.roots_are ∙ ap (λ (b : BookView). root_count b.script) c.self.view_is in
    subst (λ (n : ℕ). c.args.root.0 < n) (sym count) there

pub note_root-requires-clause-unmade : goal.note_root-requires-clause-unmade
note_root-requires-clause-unmade c =
    let log = ap (λ (l : LedgerView). l.log) c.reserve.ensures.same ∙ ap (λ (b : BookView). b.log) c.self.view_is in
    ap (λ (l : List Event). (life_of c.args.root.0 l).origin) log ∙ c.refusal_of_root.ensures.unmade c.in_default.is

pub invariant_of-self-2 : goal.invariant_of-self-2
invariant_of-self-2 c =
    let none : (life_of c.args.root.0 c.self.inside.ledger.log).origin ≡ None = ap (λ (b : BookView). (life_of c.args.root.0 b.log).origin) c.self.view_is ∙ c.refusal_of_root.ensures.unmade c.in_default.is in
    let roots = c.note_root.ensures.roots ∙ ap (λ (l : LedgerView). l.roots) c.reserve.ensures.same in
    let log = c.note_root.ensures.log ∙ ap (λ (s : ScriptView). c.reserve.new.self.log ++ root_events s c.args.root.0) c.deref.ensures ∙ ap (λ (l : LedgerView). l.log ++ root_events (arc_value c.self.inside.script) c.args.root.0) c.reserve.ensures.same in
    (kept_root c.args.root.0 none c.self.invariant.0 roots log, c.self.invariant.1, c.self.invariant.2)
