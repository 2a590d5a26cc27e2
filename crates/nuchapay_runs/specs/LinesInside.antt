-- What the line of a turn says, by its box.
use Rattle.swift_report.specs.declared.line.Line.{Line}
use Rattle.run_pictures.specs.declared.picture.boxes.TurnBox.{TurnBox}

-- the line of the turn of a box
abbrev pub line_in : TurnBox → Line
line_in b = record { task = b.task; number = b.number; worker = b.worker; method = b.method; env = b.env; resume = b.resume; exit = b.exit }
