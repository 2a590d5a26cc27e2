use Rattle.swift_explorer.proofs.Prelude.{rules, refl, arc_value, added, at_rest, IsMissing}
use Rattle.swift_explorer.proofs.Followed.{history_on, yes_is}
use Rattle.swift_explorer.proofs.Orderly.{add_orderly}
use Rattle.swift_explorer.proofs.Used.{used_same}
use Rattle.swift_explorer.proofs.history.SearchedHistory.add.Goals as goal

pub add_root-requires : goal.add_root-requires
add_root-requires c = at_rest _ _ _ c.args.self.now.steps c.requires.1.followed

pub returns-clause-follows : goal.returns-clause-follows
returns-clause-follows c = λ done blocks h.
    (let x = c.args.self.now in
    let script = arc_value x.steps.script in
    let told = c.quiet.ensures done in
    let follows = c.in_ok-add_root.ensures.follows told.0 in
    let first : IsMissing script x.steps.book.log x.steps.roots = search rules in
    let b = added x.steps.roots in (
      b,
      refl,
      history_on script blocks x _ b h follows (add_orderly script blocks x.steps.book.log x.steps.roots h.followed.led.log_is first.before) (λ e. refl) (used_same x.used.items blocks b (λ e. refl) h.used) h.short refl,
      follows.roots_are,
      λ is. absurd (yes_is c.quiet.result told.1 is),
      λ _ breaks. breaks,
    ))
