use Rattle.script_printing.proofs.Prelude.{script_in}
use Rattle.script_printing.proofs.PrintedSpells.{readable_again}
use Rattle.script_printing.proofs.Lexed.{script_lexes}
use Rattle.script_printing.proofs.Read.{spelled_again}
use Rattle.script_printing.proofs.laws.printed_reads_back.Goals as goal

pub returns : goal.returns
returns c = λ limit text ts ds l d. (script_lexes (script_in ds) (readable_again limit text ts ds l d), spelled_again limit ts ds d)
