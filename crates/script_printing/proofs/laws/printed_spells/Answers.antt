use Rattle.script_printing.proofs.SpelledWhole.{script}
use Rattle.script_printing.proofs.laws.printed_spells.Goals as goal

pub returns : goal.returns
returns c = script
