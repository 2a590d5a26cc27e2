use Rattle.std.proofs.Common.{◌≡◌, ◌++◌, length, take}
use Rattle.script_code.specs.Seen.{pairs_of}
use Rattle.swift_turn.proofs.outer.bind_all.Given as goal

abbrev pub invariant-loop-binding : goal.invariant-loop-binding
invariant-loop-binding l = record { outer : l.outer ≡ pairs_of (take l.binding-index l.own) ++ l.initial.outer; depth : l.depth ≡ length l.initial.outer }
