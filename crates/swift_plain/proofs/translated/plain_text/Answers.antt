use Rattle.std.proofs.Common.{map}
use Rattle.swift_plain.specs.Signatures.{view_thrower}
use Rattle.swift_plain.proofs.translated.plain_text.Goals as goal

pub returns : goal.returns
returns c = record {
  throwers = map view_thrower c.in_ok-known.known.items;
  told = c.in_ok-known.ensures;
  is = rw c.deref.ensures.value at c.in_ok-said.ensures;
}
