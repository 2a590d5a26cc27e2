use Rattle.swift_translation.proofs.writer.Writer.+indent.Given as goal

abbrev pub decreases-indent : goal.decreases-indent
decreases-indent l = l.many
