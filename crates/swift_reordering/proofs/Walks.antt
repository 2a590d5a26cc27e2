-- What holds of the empty history, and goes on by each block in order that may stand, holds of each history.
use Rattle.swift_reordering.proofs.Prelude.{List, [], ◌∷◌, ◌++◌, sym, subst, append_assoc, append-nil, ScriptView, CheckpointView, Block, Stands, AllStand, AllAllowed, IsOrderly, all_push}

pub allowed_push : (Allowed : List Block → Block → Type 0) (xs before : List Block) (b : Block) → AllAllowed Allowed before xs → Allowed (before ++ xs) b → AllAllowed Allowed before (xs ++ b ∷ [])
allowed_push Allowed [] before b all is = (subst (λ (ys : List Block). Allowed ys b) (append-nil before) is, tt)
allowed_push Allowed (x ∷ xs) before b all is = (all.0, allowed_push Allowed xs (before ++ x ∷ []) b all.1 (subst (λ (ys : List Block). Allowed ys b) (sym (append_assoc before (x ∷ []) xs)) is))

-- a history in order
pub record IsCourse (script : ScriptView) (cps : List CheckpointView) (blocks : List Block) : Type 0 where
  pub stand : AllStand script cps [] blocks
  pub orderly : AllAllowed (IsOrderly script) [] blocks

module _ (script : ScriptView) (cps : List CheckpointView) where
  pub course_none : IsCourse script cps []
  course_none = record { stand = tt; orderly = tt }

  pub course_push : (before : List Block) (b : Block) → IsCourse script cps before → Stands script cps before b → IsOrderly script before b → IsCourse script cps (before ++ b ∷ [])
  course_push before b course stands orderly = record { stand = all_push script cps before [] b course.stand stands; orderly = allowed_push (IsOrderly script) before [] b course.orderly orderly }

  module _ (P : List Block → Type 0) (more : (before : List Block) (b : Block) → IsCourse script cps before → Stands script cps before b → IsOrderly script before b → P before → P (before ++ b ∷ [])) where
    walk : (before bs : List Block) → IsCourse script cps before → AllStand script cps before bs → AllAllowed (IsOrderly script) before bs → P before → P (before ++ bs)
    walk before [] course stand may is = subst P (sym (append-nil before)) is
    walk before (b ∷ bs) course stand may is =
        subst P (append_assoc before (b ∷ []) bs)
        (walk (before ++ b ∷ []) bs (course_push before b course stand.0 may.0) stand.1 may.1 (more before b course stand.0 may.0 is))

    pub along : P [] → (bs : List Block) → IsCourse script cps bs → P bs
    along first bs course = walk [] bs course_none course.stand course.orderly first
