use Rattle.swift_explorer.proofs.Prelude.{◌≡◌, ◌++◌, take, some_numbers, flag_numbers}
use Rattle.swift_explorer.proofs.keys.frames.put_flags.Given as goal

abbrev pub invariant-loop-flag : goal.invariant-loop-flag
invariant-loop-flag l = l.key.items ≡ l.initial.key.items ++ some_numbers flag_numbers (take l.flag-index l.flags)
