-- What the steps of a history do (our own).
use Rattle.std.specs.Prelude.{◌≡◌, ℕ, ◌+◌, List, [], ◌∷◌}
use Rattle.swift_interpreter.specs.Turn.{ExitView, closing, failing}
use Rattle.swift_types.specs.declared.outcome.Fault.TheVariants.{Invariant}
use Rattle.std.specs.Prelude.{Some}
use Rattle.swift_history.specs.Histories.{Block, added, begun, ran}
use Rattle.swift_explorer.specs.declared.moves.Move.{Move}
use Rattle.swift_explorer.specs.declared.moves.Move.TheVariants as step

-- a block is what a step does, where the first `roots` roots were added
abbrev pub IsStep : ℕ → Move → Block → Type 0
IsStep roots step.Add (added r) = r ≡ roots
IsStep roots (step.Begin t) (begun u n env) = u ≡ t.0
IsStep roots (step.Run t) (ran e r) = r.task ≡ t.0
IsStep _ _ _ = ⊥

-- how many roots were added after it
abbrev pub roots_after : ℕ → Move → ℕ
roots_after roots step.Add = roots + 1
roots_after roots _ = roots

abbrev pub roots_over : ℕ → List Move → ℕ
roots_over roots [] = roots
roots_over roots (m ∷ ms) = roots_over (roots_after roots m) ms

-- the blocks of a history are what these steps do, in order
abbrev pub AreSteps : ℕ → List Move → List Block → Type 0
AreSteps roots [] [] = Unit {0}
AreSteps roots (m ∷ ms) (b ∷ bs) = IsStep roots m b × AreSteps (roots_after roots m) ms bs
AreSteps _ _ _ = ⊥

-- A turn ends so where it is undone since it would break an invariant, or where such a fault leaves its frame.
abbrev pub BreaksInvariant : ExitView → Type 0
BreaksInvariant (failing Invariant) = Unit {0}
BreaksInvariant (closing g (Some Invariant)) = Unit {0}
BreaksInvariant _ = ⊥

-- of a turn that runs in this block
abbrev pub IsBroken : Block → Type 0
IsBroken (ran e r) = BreaksInvariant r.exit
IsBroken _ = ⊥
