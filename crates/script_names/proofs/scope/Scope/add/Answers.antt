use Rattle.script_names.proofs.Standing.{added, as_many}
use Rattle.script_names.proofs.Known.{with_new}
use Rattle.script_names.proofs.scope.Scope.add.Goals as goal

pub invariant_of-self-in-Ok : goal.invariant_of-self-in-Ok
invariant_of-self-in-Ok c = (
  as_many (record { directory = c.self.inside.declared.now; actor = c.self.inside.actor; names = c.self.inside.names; kinds = c.self.inside.kinds.items; bound = c.self.inside.bound }) c.args.self.now c.args.name.now c.args.kind c.add.new.self c.push.new.self.items
      c.self.invariant.0 c.self.view_is c.requires c.in-Ok.ensures.ok c.in_ok-push.ensures.items,
  with_new (record { directory = c.self.inside.declared.now; actor = c.self.inside.actor; names = c.self.inside.names; kinds = c.self.inside.kinds.items; bound = c.self.inside.bound }) c.args.self.now c.args.name.now c.add.new.self c.self.inside.cleared
      c.self.invariant.0 c.self.view_is c.requires c.in-Ok.ensures.ok c.self.invariant.1,
)

pub returns-in-Ok-clause-standing : goal.returns-in-Ok-clause-standing
returns-in-Ok-clause-standing c =
    added (record { directory = c.self.inside.declared.now; actor = c.self.inside.actor; names = c.self.inside.names; kinds = c.self.inside.kinds.items; bound = c.self.inside.bound }) c.args.self.now c.args.name.now c.args.kind c.add.new.self c.push.new.self.items
    c.self.invariant.0 c.self.view_is c.requires c.in-Ok.ensures.ok c.in_ok-push.ensures.items
