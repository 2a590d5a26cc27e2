use Rattle.script_printing.proofs.Prelude.{script_in}
use Rattle.script_printing.proofs.PrintedSpells.{readable_again}
use Rattle.script_printing.proofs.Plain.{script_is_text}
use Rattle.script_printing.proofs.laws.printed_is_text.Goals as goal

pub returns : goal.returns
returns c = λ limit text ts ds l d. script_is_text (script_in ds) (readable_again limit text ts ds l d)
