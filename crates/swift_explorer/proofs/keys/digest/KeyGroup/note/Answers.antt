use Rattle.swift_explorer.proofs.Prelude.{rules, task_numbers, ended_numbers}
use Rattle.swift_explorer.proofs.Past.{count_stays, flag_stays, items_stay, numbers_stay, stays_unless}
use Rattle.swift_explorer.proofs.keys.digest.KeyGroup.note.Goals as goal

pub returns-then-not-may_change_groups-clause-children : goal.returns-then-not-may_change_groups-clause-children
returns-then-not-may_change_groups-clause-children c = items_stay _ _ (c.may_change_groups.ensures (search rules) c.args.owner.0 c.args.group c.args.self.now.closed c.args.self.now.children.items).child

pub returns-then-not-may_change_groups-clause-added : goal.returns-then-not-may_change_groups-clause-added
returns-then-not-may_change_groups-clause-added c = numbers_stay task_numbers _ _ (c.may_change_groups.ensures (search rules) c.args.owner.0 c.args.group c.args.self.now.closed c.args.self.now.children.items).child

pub returns-then-not-may_change_groups-clause-ended : goal.returns-then-not-may_change_groups-clause-ended
returns-then-not-may_change_groups-clause-ended c =
    let past = c.may_change_groups.ensures (search rules) c.args.owner.0 c.args.group c.args.self.now.closed c.args.self.now.children.items in
    stays_unless _ _ _ _ past.closes (numbers_stay ended_numbers _ _ past.ended)

pub returns-then-not-may_change_groups-clause-asked : goal.returns-then-not-may_change_groups-clause-asked
returns-then-not-may_change_groups-clause-asked c =
    let past = c.may_change_groups.ensures (search rules) c.args.owner.0 c.args.group c.args.self.now.closed c.args.self.now.children.items in
    stays_unless _ _ _ _ past.closes (count_stays _ _ past.asks)

pub returns-then-not-may_change_groups-clause-closed : goal.returns-then-not-may_change_groups-clause-closed
returns-then-not-may_change_groups-clause-closed c = flag_stays _ _ (c.may_change_groups.ensures (search rules) c.args.owner.0 c.args.group c.args.self.now.closed c.args.self.now.children.items).closes

pub returns-then-not-may_change_groups-clause-named : goal.returns-then-not-may_change_groups-clause-named
returns-then-not-may_change_groups-clause-named c = flag_stays _ _ (c.may_change_groups.ensures (search rules) c.args.owner.0 c.args.group c.args.self.now.closed c.args.self.now.children.items).named
