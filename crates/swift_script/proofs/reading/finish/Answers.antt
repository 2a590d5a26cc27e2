use Rattle.swift_script.proofs.Prelude.{refl, ap, ◌∙◌, printed, IsAccepted, tree_of}
use Rattle.swift_script.proofs.Finishing.{accepted, can_be_kept, lent_tree}
use Rattle.swift_script.proofs.TreeAgain.{tree_again}
use Rattle.swift_script.proofs.reading.finish.Goals as goal

pub of-requires : goal.of-requires
of-requires c =
    let d = c.args.declarations in
    let was : IsAccepted c.args.text.now (tree_of d) = accepted c.args.text.now (tree_of d) (tree_of d) refl c.requires.named c.in_ok-settle.ensures.starts c.in_ok-settle.ensures.waits in
    let same = lent_tree d c.deref.result.now c.deref-2.result.now c.deref-3.result.now c.deref-4.result.now c.deref.ensures.value c.deref-2.ensures.value c.deref-3.ensures.value c.deref-4.ensures.value in
    can_be_kept c.args.text.now (tree_of d) _ c.args.compiled was (c.in_ok-printed.ensures ∙ ap printed same) c.requires.compiled

pub returns-clause-found : goal.returns-clause-found
returns-clause-found c =
    let d = c.args.declarations in
    let was : IsAccepted c.args.text.now (tree_of d) = accepted c.args.text.now (tree_of d) (tree_of d) refl c.requires.named c.in_ok-settle.ensures.starts c.in_ok-settle.ensures.waits in
    let same = lent_tree d c.deref.result.now c.deref-2.result.now c.deref-3.result.now c.deref-4.result.now c.deref.ensures.value c.deref-2.ensures.value c.deref-3.ensures.value c.deref-4.ensures.value in
    let again = tree_again (tree_of d) _ (c.args.text.now, was) (c.in_ok-printed.ensures ∙ ap printed same) in
    accepted c.args.text.now (tree_of d) c.of.result (c.of.ensures ∙ again) c.requires.named c.in_ok-settle.ensures.starts c.in_ok-settle.ensures.waits
