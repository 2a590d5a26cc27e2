-- Steps that were read one after the other.
use Rattle.std.proofs.Common.{List, [], ◌∷◌, ◌++◌}
use Rattle.serde_json.specs.Data.{Data}
use Rattle.swift_explorer.specs.declared.moves.Move.{Move}
use Rattle.explorer_files.specs.Steps.{AreSavedSteps, IsSavedStep}

-- one step more
pub saved_more : (vs : List Data) (ss : List Move) (v : Data) (s : Move) → AreSavedSteps vs ss → IsSavedStep v s → AreSavedSteps (vs ++ v ∷ []) (ss ++ s ∷ [])
saved_more [] [] v s are is = (is, tt)
saved_more [] (s' ∷ ss) v s are is = absurd are
saved_more (v' ∷ vs) [] v s are is = absurd are
saved_more (v' ∷ vs) (s' ∷ ss) v s are is = (are.0, saved_more vs ss v s are.1 is)
