-- Names of tasks, by their makers.
use Rattle.std.proofs.Common.{◌≡◌, ◌<◌, ◌++◌, ℕ, zero, suc, List, [], ◌∷◌, length, append_assoc, refl, ap, ◌∙◌, arith}
use Rattle.std.specs.Prelude.{Option, Some, slice_get, slice_index_or}
use Rattle.swift_types.specs.declared.id.TaskId.{TaskId}
use Rattle.swift_types.specs.declared.outcome.Ending.{Ending}
use Rattle.swift_events.specs.declared.life.Origin.{Origin}
use Rattle.swift_script.specs.Scripts.{ScriptView}
use Rattle.task_names.specs.Names.{maker_of, name_by, name_if, name_within}

read_at : (es : List (Origin × Ending)) (t : ℕ) (d : Origin × Ending) → t < length es → slice_get es t ≡ Some (slice_index_or es t d)
read_at [] t d lt = absurd (omega (arith, lt))
read_at (e ∷ es) zero d lt = refl
read_at (e ∷ es) (suc t) d lt = read_at es t d (omega (arith, lt))

-- the name of a task, by who has made it
pub name_at : (p : ScriptView) (es : List (Origin × Ending)) (n k t : ℕ) (d : Origin × Ending) (m : Option TaskId) → n ≡ suc k → t < length es → maker_of (slice_index_or es t d).0 ≡ m
    → name_within n p es t ≡ name_by (name_within k p es) p es t m
name_at p es n k t d m more lt is =
    ap (λ (i : ℕ). name_within i p es t) more ∙ ap (name_if (name_within k p es) p es t) (read_at es t d lt) ∙ ap (name_by (name_within k p es) p es t) is

-- a name that is put after a text, in three parts
pub put_name : (a b c d name slash number : List ℕ) → b ≡ a ++ name → c ≡ b ++ slash → d ≡ c ++ number → d ≡ a ++ (name ++ (slash ++ number))
put_name a b c d name slash number first then_is last =
    let joined : ((a ++ name) ++ slash) ++ number ≡ a ++ (name ++ (slash ++ number)) = simp append_assoc in
    last ∙ ap (λ (l : List ℕ). l ++ number) (then_is ∙ ap (λ (l : List ℕ). l ++ slash) first) ∙ joined
