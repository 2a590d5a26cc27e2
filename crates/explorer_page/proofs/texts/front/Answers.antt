use Rattle.std.proofs.Common.{◌++◌}
use Rattle.explorer_page.specs.declared.texts.frame.TheConstants.{BODY, HEAD}
use Rattle.explorer_page.specs.declared.texts.style.TheConstants.{STYLE}
use Rattle.run_page.proofs.Joined.{onto, onto_last}
use Rattle.explorer_page.proofs.texts.front.Goals as goal

pub returns : goal.returns
returns c =
    let styled = onto _ _ _ HEAD.now STYLE.now c.in_ok-say_text.ensures c.in_ok-say_text-2.ensures in
    onto_last c.say_text-3.result _ _ _ (HEAD.now ++ STYLE.now) BODY.now styled c.say_text-3.ensures
