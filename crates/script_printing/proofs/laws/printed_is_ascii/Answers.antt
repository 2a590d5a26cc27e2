use Rattle.script_printing.proofs.Prelude.{printed, script_in}
use Rattle.script_printing.proofs.PrintedSpells.{readable_again}
use Rattle.script_printing.proofs.Plain.{script_is_text, text_is_ascii}
use Rattle.script_printing.proofs.laws.printed_is_ascii.Goals as goal

pub returns : goal.returns
returns c = λ limit text ts ds l d. text_is_ascii (printed (script_in ds)) (script_is_text (script_in ds) (readable_again limit text ts ds l d))
