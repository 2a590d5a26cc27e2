use Rattle.swift_explorer.proofs.Prelude.{rules, refl, arc_value, begun, at_rest, MayBegin}
use Rattle.swift_explorer.proofs.Followed.{history_on, yes_is}
use Rattle.swift_explorer.proofs.Orderly.{begin_orderly}
use Rattle.swift_explorer.proofs.Used.{used_same}
use Rattle.swift_explorer.proofs.history.SearchedHistory.begin.Goals as goal

pub begin-requires : goal.begin-requires
begin-requires c = at_rest _ _ _ c.args.self.now.steps c.requires.1.followed

pub returns-clause-follows : goal.returns-clause-follows
returns-clause-follows c = λ done blocks h.
    (let x = c.args.self.now in
    let t = c.args.task.0 in
    let told = c.quiet.ensures done in
    let begins = c.in_ok-begin.ensures.follows told.0 in
    let may : MayBegin x t = search rules in
    let b = begun t begins.0 begins.1 in (
      b,
      refl,
      history_on (arc_value x.steps.script) blocks x _ b h begins.3 (begin_orderly blocks x t begins.0 begins.1 h may) (λ e. refl) (used_same x.used.items blocks b (λ e. refl) h.used) h.short refl,
      begins.3.roots_are,
      λ is. absurd (yes_is c.quiet.result told.1 is),
      λ _ breaks. breaks,
    ))
