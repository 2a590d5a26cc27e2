use Rattle.std.proofs.Common.{map}
use Rattle.script_grammar.specs.Tree.{view_decl}
use Rattle.swift_plain.proofs.translated.plain_swift.Goals as goal

pub returns-clause-translated : goal.returns-clause-translated
returns-clause-translated c = record {
  script = c.in_ok-script.script;
  accepted = c.in_ok-script.ensures.found;
  decls = map view_decl c.in_ok-decls.decls.items;
  spelled = c.in_ok-decls.ensures;
  plain = rw c.deref.ensures.value at c.in_ok-want_plain.ensures.plain;
  file = rw c.deref-2.ensures.value at c.in_ok-said.ensures;
}
