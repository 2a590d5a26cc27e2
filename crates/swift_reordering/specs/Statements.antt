-- What holds of each statement of a method, and of each one of the turn that comes next (our own).
use Rattle.std.specs.Prelude.{Bool, true, false, ◌&&◌, ◌||◌}
use Rattle.script_code.specs.Tree.{Term, Operation, Code}
use Rattle.script_code.specs.Tree as code
use Rattle.script_code.specs.Instructions.{NextAction, ends, does, tests, first_by}
use Rattle.script_code.specs.declared.instruction.Instruction.{Instruction}

-- Each statement is so, and each test.
abbrev pub code_all : (Operation → Bool) → (Term → Bool) → Code → Bool
code_all op test code.end = true
code_all op test (code.act d rest) = op d && code_all op test rest
code_all op test (code.choice t a b rest) = test t && (code_all op test a && (code_all op test b && code_all op test rest))
code_all op test (code.loop t a rest) = test t && (code_all op test a && code_all op test rest)

-- the turn ends with it, whatever follows
abbrev pub ends_turn : Operation → Bool
ends_turn (code.return t) = true
ends_turn (code.throw t) = true
ends_turn code.yield = true
ends_turn (code.wait w) = true
ends_turn _ = false

-- From here to each end of the turn that comes next each statement is so, and each test, where `after` says it of what follows.
abbrev pub turn_all : (Operation → Bool) → (Term → Bool) → Code → Bool → Bool
turn_all op test code.end after = after
turn_all op test (code.act d rest) after = op d && (ends_turn d || turn_all op test rest after)
turn_all op test (code.choice t a b rest) after = test t && (turn_all op test a (turn_all op test rest after) && turn_all op test b (turn_all op test rest after))
turn_all op test (code.loop t a rest) after = test t && (turn_all op test a true && turn_all op test rest after)

-- what comes next is so, whatever follows it
abbrev pub action_is : (Operation → Bool) → (Term → Bool) → NextAction → Bool
action_is op test ends = true
action_is op test (does d rest) = op d
action_is op test (tests t held failed) = test t

-- what an instruction does next, wherever it goes on
abbrev pub here : Instruction → NextAction
here line = first_by (λ k. code.end) line.act line.next line.other

-- an instruction is so, wherever it goes on
abbrev pub instruction_is : (Operation → Bool) → (Term → Bool) → Instruction → Bool
instruction_is op test line = action_is op test (here line)
