use Rattle.swift_executor.proofs.Prelude.{rules, arith, ◌≡◌, length, ◌++◌, ◌∷◌, [], ◌+◌, refl, sym, ap, ◌∙◌, append-nil, map-append, job_facts, PassKnown, InboxView}
use Rattle.std.proofs.Common.{length-append}
use Rattle.swift_executor.proofs.AccountIsKept.{takes, goes_on}
use Rattle.swift_executor.proofs.inbox.Inbox.drain.Goals as goal

pub drain-init : goal.drain-init
drain-init g c = (search rules, refl, search rules, refl, [], sym (append-nil _), sym (append-nil _), refl)

pub pop_as-requires-clause-rule : goal.pop_as-requires-clause-rule
pop_as-requires-clause-rule g c = (takes _ _ c.drain.invariant.2, λ _ _ _ _. tt)

pub drain-preserved : goal.drain-preserved
drain-preserved g c =
    let i = c.drain.invariant in
    let x = c.into_job.result in
    let took = c.in-Some.ensures.rule.0 in (
      search rules,
      search rules,
      ap (λ (v : PassKnown). v.takes) took ∙ i.2,
      ap (λ (v : PassKnown). v.site) took ∙ i.3,
      i.4 ++ x ∷ [],
      goes_on _ _ c.args.list.items i.4 x c.push_reserved.ensures.items i.5,
      rw (map-append job_facts i.4 (x ∷ []), c.into_job.ensures) (goes_on _ _ _ _ _ (ap (λ (v : PassKnown). v.taken) took) i.6),
      length-append i.4 (x ∷ []) ∙ ap (λ n. n + 1) i.7,
    )

pub returns : goal.returns
returns g c =
    let i = c.drain.invariant in
    let room = ap (λ (b : InboxView). b.room) c.self.view_is in
    (i.4, i.5, omega (arith, i.7, c.drain.auto.counter-end, c.capacity-end.ensures, room), search rules)

pub push_reserved-requires : goal.push_reserved-requires
push_reserved-requires g c =
    let i = c.drain.invariant in
    let room = ap (λ (b : InboxView). b.room) c.self.view_is in
    let len : length c.drain.list.items ≡ length c.args.list.items + length i.4 = ap length i.5 ∙ length-append c.args.list.items i.4 in
    omega (arith, len, c.drain.list.ok.0, c.args.list.ok.0, i.1, i.7, c.drain-test.true, c.capacity-end.ensures, room, c.requires.room)
