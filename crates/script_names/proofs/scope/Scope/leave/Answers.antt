use Rattle.script_names.proofs.Prelude.{◌≡◌, length, refl, length-take}
use Rattle.script_names.proofs.Known.{left}
use Rattle.script_names.proofs.scope.Scope.leave.Goals as goal

pub invariant_of-self : goal.invariant_of-self
invariant_of-self c =
    let kinds : length c.truncate-2.new.self.items ≡ length c.truncate.new.self =
    rw (c.truncate-2.ensures.items, c.truncate.ensures, length-take c.args.outside.names c.self.inside.kinds.items, length-take c.args.outside.names c.self.inside.names, c.self.invariant.0) refl in
    (kinds, left c.self.inside.declared.now c.self.inside.names c.truncate.new.self c.self.inside.cleared c.lower.new.self c.args.outside.names c.self.invariant.1 c.truncate.ensures c.lower.ensures)
