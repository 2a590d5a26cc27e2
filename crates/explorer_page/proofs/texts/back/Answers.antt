use Rattle.std.proofs.Common.{◌++◌}
use Rattle.explorer_page.specs.Pages.{script_text}
use Rattle.explorer_page.specs.declared.texts.frame.TheConstants.{BELOW, END}
use Rattle.run_page.proofs.Joined.{onto, onto_last}
use Rattle.explorer_page.proofs.texts.back.Goals as goal

pub returns : goal.returns
returns c =
    let before = onto _ _ _ BELOW.now script_text c.in_ok-say_text.ensures c.in_ok-script.ensures in
    onto_last c.say_text-2.result _ _ _ (BELOW.now ++ script_text) END.now before c.say_text-2.ensures
