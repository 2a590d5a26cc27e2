use Rattle.std.proofs.Common.{◌∙◌, sym}
use Rattle.swift_plain.specs.Signatures.{is_thrower, view_thrower}
use Rattle.plain_parts.proofs.Lists.{any_mapped}
use Rattle.swift_plain.proofs.signature.method_throws.Goals as goal

pub returns : goal.returns
returns c = c.any_thrower.ensures ∙ sym (any_mapped (is_thrower c.args.actor.now.text.items c.args.method.now.text.items) view_thrower c.args.throwers.now)
