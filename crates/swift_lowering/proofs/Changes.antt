-- What assignments put last.
use Rattle.std.proofs.Common.{◌≡◌, ◌∙◌, ◌<◌, ◌++◌, ℕ, List, ◌∷◌, [], Option, None, Some, MatchOption, IsNone, append_assoc, length, pos, slice_index_or, ap, refl, subst, sym}
use Rattle.std.proofs.lemmas.List.{get_or_append_left}
use Rattle.swift_types.specs.declared.operator.Operator.{Operator}
use Rattle.swift_expressions.specs.declared.code.Code.{Code}
use Rattle.swift_expressions.specs.declared.code.Instruction.{Instruction}
use Rattle.swift_expressions.specs.declared.code.Instruction.TheVariants as instruction
use Rattle.swift_expressions.specs.declared.code.Value.{Value}
use Rattle.swift_expressions.specs.declared.code.Value.TheVariants as value
use Rattle.swift_expressions.specs.declared.lowering.Lowering.{Lowering}
use Rattle.swift_expressions.specs.Instructions.{IsPlaced, KeepsRefusal, Puts, value_at}
use Rattle.swift_lowering.specs.Assignments.{read_of, set_of}
use Rattle.swift_lowering.specs.EndsInside.{Combines, Changes, EndsCancelled, EndsInAssignment, EndsInChange, EndsInSet, Sets}
use Rattle.swift_lowering.specs.declared.assignment.Destination.{Destination}
use Rattle.swift_lowering.specs.declared.assignment.Destination.TheVariants.{Name, Field}

-- a value stays where it is when another one is put behind it
value_stays : (before after : Code) (v : Value) (place i : ℕ) → IsPlaced before after v place → i < length before.values.items → value_at after i ≡ value_at before i
value_stays before after v place i p lt =
    ap (λ (xs : List Value). slice_index_or xs i (value.Number (pos 0))) p.behind
    ∙ get_or_append_left before.values.items (v ∷ []) (value.Number (pos 0)) i lt

changes_of : (code : Code) (o : Operator) (to : Destination) (right place : ℕ) → Combines code o (read_of to) right place → Changes code o right (set_of to place)
changes_of code o (Name b) right place h = h
changes_of code o (Field f) right place h = h

-- what gives a destination a value gives it this one
pub sets_of : (to : Destination) (place : ℕ) → Sets place (set_of to place)
sets_of (Name b) place = refl
sets_of (Field f) place = refl

-- read, combined, and set
pub changed : (start read combined end : Code) (o : Operator) (to : Destination) (left right place : ℕ)
    → IsPlaced start read (read_of to) left → read.instructions ≡ start.instructions
    → IsPlaced read combined (value.Binary o left right) place → combined.instructions ≡ read.instructions
    → end.instructions.items ≡ combined.instructions.items ++ set_of to place ∷ [] → end.values ≡ combined.values
    → EndsInChange start.instructions.items end o right
changed start read combined end o to left right place first same second still put kept = record {
  last = set_of to place;
  is = put ∙ ap (λ c. c.items ++ set_of to place ∷ []) (still ∙ same);
  changes = changes_of end o to right place (record {
    left = left;
    is = ap (λ vs. slice_index_or vs.items place (value.Number (pos 0))) kept ∙ second.is;
    reads = ap (λ vs. slice_index_or vs.items left (value.Number (pos 0))) kept ∙ value_stays read combined (value.Binary o left right) place left second first.within ∙ first.is;
  });
}

-- what combines is an assignment that does
pub assigned_change : (before : List Instruction) (code : Code) (how : Option Operator) (o : Operator) (right : ℕ) → how ≡ Some o → EndsInChange before code o right → EndsInAssignment code how
assigned_change before code how o right e h = record {
  before = before;
  right = right;
  assigns = subst (λ (m : Option Operator). MatchOption m (EndsInSet before code right) (λ p. EndsInChange before code p right)) (sym e) h;
}

-- what only sets is one that does
pub assigned_set : (before : List Instruction) (code : Code) (how : Option Operator) (right : ℕ) → how ≡ None → EndsInSet before code right → EndsInAssignment code how
assigned_set before code how right e h = record {
  before = before;
  right = right;
  assigns = subst (λ (m : Option Operator). MatchOption m (EndsInSet before code right) (λ p. EndsInChange before code p right)) (sym e) h;
}

-- a group is cancelled, and its block ended
pub ends_cancelled : (a b c : Lowering) (group : ℕ) → Puts a b (instruction.Cancel group) → Puts b c instruction.End → KeepsRefusal b c → IsNone c.refused → EndsCancelled c.code group
ends_cancelled a b c group first second keeps none = record {
  before = a.code.instructions.items;
  is = second none ∙ ap (λ l. l ++ instruction.End ∷ []) (first (keeps none)) ∙ append_assoc a.code.instructions.items (instruction.Cancel group ∷ []) (instruction.End ∷ []);
}
