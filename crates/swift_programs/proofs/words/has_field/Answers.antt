use Rattle.std.proofs.Common.{◌∙◌, sym}
use Rattle.std.specs.Prelude.{bytes_eq}
use Rattle.script_grammar.specs.Tree.{view_field}
use Rattle.swift_programs.proofs.Wrote.{any_mapped}
use Rattle.swift_programs.proofs.words.has_field.Goals as goal

pub returns : goal.returns
returns c =
    rw c.deref.ensures.value at c.is_one_of.ensures ∙ sym (any_mapped (λ f. bytes_eq f.name c.args.name.now.text.items) view_field c.args.actor.now.fields.items)
