-- Marks of instructions, by which it is seen that each statement up to each end of a turn is so (our own).
use Rattle.std.specs.Prelude.{◌≡◌, ℕ, Bool, true, false, ◌&&◌, ◌||◌, Some, List, slice_get, slice_index_or}
use Rattle.script_code.specs.Tree.{Term, Operation, Code}
use Rattle.script_code.specs.Instructions.{NextAction, ends, does, tests, FollowsCode}
use Rattle.script_code.specs.declared.instruction.Instruction.{Instruction}
use Rattle.swift_reordering.specs.Statements.{ends_turn, turn_all, here, instruction_is}

-- the turn ends with it
abbrev pub action_ends : NextAction → Bool
action_ends ends = true
action_ends (does d rest) = ends_turn d
action_ends (tests t held failed) = false

abbrev pub turn_ends : Instruction → Bool
turn_ends line = action_ends (here line)

-- those that may follow have marks
abbrev pub followers_marked : NextAction → Bool → Bool → Bool
followers_marked ends next other = true
followers_marked (does d rest) next other = next
followers_marked (tests t held failed) next other = next && other

-- the instruction at a place has a mark; one past the last has
abbrev pub is_marked : List Bool → ℕ → Bool
is_marked marks k = slice_index_or marks k true

-- an instruction is so, and the turn ends with it or goes on with one that has a mark
abbrev pub may_be_marked : (Operation → Bool) → (Term → Bool) → List Bool → Instruction → Bool
may_be_marked op test marks line = instruction_is op test line && (turn_ends line || followers_marked (here line) (is_marked marks line.next) (is_marked marks line.other))

-- each instruction that has a mark may have it
abbrev pub AreMarked : (Operation → Bool) → (Term → Bool) → List Bool → List Instruction → Type 0
AreMarked op test marks lines = (k : ℕ) (line : Instruction) → slice_get lines k ≡ Some line → is_marked marks k ≡ true → may_be_marked op test marks line ≡ true

-- From an instruction that has a mark each statement is so up to each end of the turn: to see that, each instruction is read once, and its
-- marks are compared.
abbrev pub MarksTell : Type 0
MarksTell = (op : Operation → Bool) (test : Term → Bool) (instructions : List Instruction) (body : Code) (at : ℕ → Code) (marks : List Bool) → FollowsCode instructions body at
    → AreMarked op test marks instructions → (k : ℕ) → is_marked marks k ≡ true → turn_all op test (at k) true ≡ true
