use Rattle.swift_tool.proofs.Prelude.{◌≤◌, ◌+◌, ◌-◌, vec_len}
use Rattle.std.specs.Io.KnownBytes.{Consumes}
use Rattle.swift_tool.proofs.input.read_input.Given as goal

-- what was taken is the text so far
abbrev pub invariant-loop-chunk : goal.invariant-loop-chunk
invariant-loop-chunk g l = record {
  most : vec_len l.text ≤ 65537;
  taken : Consumes (g.R.Read.remaining l.initial.from) (g.R.Read.remaining l.from) l.text.items;
}

abbrev pub decreases-loop-chunk : goal.decreases-loop-chunk
decreases-loop-chunk g l = 65537 - vec_len l.text
