use Rattle.swift_script.proofs.Prelude.{tree_of}
use Rattle.swift_script.proofs.Finishing.{few_methods, named_again}
use Rattle.swift_script.proofs.reading.settle.Goals as goal

pub first_broken-requires-clause-few : goal.first_broken-requires-clause-few
first_broken-requires-clause-few c = few_methods c.args.text.now (tree_of c.args.declarations.now) c.args.compiled.now c.requires.named c.requires.compiled

pub returns-clause-refused : goal.returns-clause-refused
returns-clause-refused c =
    c.fault_of.ensures.refused (named_again c.args.text.now (tree_of c.args.declarations.now) c.in_ok-tokens.tokens c.requires.named c.in_ok-tokens.ensures.kept)

pub returns-clause-place : goal.returns-clause-place
returns-clause-place c =
    c.fault_of.ensures.place (named_again c.args.text.now (tree_of c.args.declarations.now) c.in_ok-tokens.tokens c.requires.named c.in_ok-tokens.ensures.kept)
