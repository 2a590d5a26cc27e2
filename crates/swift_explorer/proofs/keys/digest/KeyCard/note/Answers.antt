use Rattle.swift_explorer.proofs.Prelude.{rules, link_numbers, task_numbers}
use Rattle.swift_explorer.proofs.Past.{count_stays, flag_stays, numbers_stay}
use Rattle.swift_explorer.proofs.keys.digest.KeyCard.note.Goals as goal

pub returns-then-not-may_change_cards-clause-links : goal.returns-then-not-may_change_cards-clause-links
returns-then-not-may_change_cards-clause-links c = numbers_stay link_numbers _ _ (c.may_change_cards.ensures (search rules) c.args.task.0).link

pub returns-then-not-may_change_cards-clause-own : goal.returns-then-not-may_change_cards-clause-own
returns-then-not-may_change_cards-clause-own c = numbers_stay task_numbers _ _ (c.may_change_cards.ensures (search rules) c.args.task.0).own

pub returns-then-not-may_change_cards-clause-waiters : goal.returns-then-not-may_change_cards-clause-waiters
returns-then-not-may_change_cards-clause-waiters c = numbers_stay task_numbers _ _ (c.may_change_cards.ensures (search rules) c.args.task.0).waiter

pub returns-then-not-may_change_cards-clause-named : goal.returns-then-not-may_change_cards-clause-named
returns-then-not-may_change_cards-clause-named c = flag_stays _ _ (c.may_change_cards.ensures (search rules) c.args.task.0).named

pub returns-then-not-may_change_cards-clause-opened : goal.returns-then-not-may_change_cards-clause-opened
returns-then-not-may_change_cards-clause-opened c = count_stays _ _ (c.may_change_cards.ensures (search rules) c.args.task.0).opens
