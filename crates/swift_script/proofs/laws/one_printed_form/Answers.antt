use Rattle.swift_script.proofs.Printing.{one_form}
use Rattle.swift_script.proofs.laws.one_printed_form.Goals as goal

pub returns : goal.returns
returns c = one_form
