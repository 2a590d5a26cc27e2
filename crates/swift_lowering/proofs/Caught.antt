-- What a `do` catches, from what is called.
use Rattle.std.proofs.Common.{◌≡◌, ◌<◌, ◌≤◌, ◌+◌, ◌-◌, ℕ, Bool, true, false, Some, length, pos, arith, refl, sym, ap, subst, ◌∙◌, slice_get}
use Rattle.swift_syntax.specs.declared.tree.Assigning.{Assigning}
use Rattle.swift_syntax.specs.declared.tree.Into.{Into}
use Rattle.swift_syntax.specs.declared.tree.StmtForm.{StmtForm}
use Rattle.swift_syntax.specs.declared.tree.StmtForm.TheVariants as form
use Rattle.swift_expressions.specs.States.{Gives, IsDeclared, State, next_value, next_variable, put, with_fallback, with_operand, with_temporary, with_value}
use Rattle.swift_expressions.specs.Lowered.{Lowers}
use Rattle.swift_expressions.specs.declared.code.Instruction.TheVariants as instruction
use Rattle.swift_expressions.specs.declared.code.Kind.{Kind}
use Rattle.swift_expressions.specs.declared.code.Operand.{Operand}
use Rattle.swift_expressions.specs.declared.code.Target.{Target}
use Rattle.swift_expressions.specs.declared.code.Target.TheVariants.{Declare}
use Rattle.swift_expressions.specs.declared.code.TheConstants.{NONE}
use Rattle.swift_expressions.specs.declared.code.Value.TheVariants as value
use Rattle.swift_expressions.specs.declared.code.Wait.{Wait}
use Rattle.swift_expressions.specs.declared.code.Wait.TheVariants as waiting
use Rattle.swift_expressions.specs.declared.lowering.Fallback.TheVariants as fallbacks
use Rattle.swift_expressions.specs.declared.typed.Typed.{Typed}
use Rattle.swift_expressions.proofs.Stepped.{given_as, lowered_from}
use Rattle.swift_lowering.specs.Assignments.{GoesTo, set_of}
use Rattle.swift_lowering.specs.Catching as catching
use Rattle.swift_lowering.specs.Catching.{Catches, GivesCaught, HandsOn, Rewires, Tells, Tries, Wraps, begin_or, came_to, fault_sign, is_int, open_where, variable_for, waits_freely, with_variable_for, zero_freed}
use Rattle.swift_lowering.specs.Statements.{GivesTo}
use Rattle.swift_lowering.specs.declared.assignment.Destination.{Destination}
use Rattle.swift_lowering.specs.Units.{BeginsUnit, in_unit, unit_ended, with_instruction}
use Rattle.swift_lowering.proofs.Stated.{goes_from}

-- no operand was handed on so far
pub handed_begun : {n : ℕ} {s t : State} {place found : ℕ} → HandsOn (n - 0) s place NONE NONE t found → HandsOn n s place NONE NONE t found
handed_begun {n} {s} {t} {place} {found} h = let z : n - 0 ≡ n = omega arith in subst (λ m. HandsOn m s place NONE NONE t found) z h

-- one operand more
pub handed_on : {n i : ℕ} {s u v w t : State} {place begin last variable start here found : ℕ} {o : Operand} {given : Typed} → i < n → slice_get s.operands place ≡ Some o → IsDeclared s 0 true u → variable ≡ next_variable s → Gives u (value.Variable variable) o.kind v given → w ≡ with_operand given last v → here ≡ length v.operands → start ≡ begin_or begin here → HandsOn (n - (i + 1)) w o.next start here t found → HandsOn (n - i) s place begin last t found
handed_on {n} {i} {v = v} {w} {t} {begin = begin} {last} {variable} {start} {here} {found} {o} {given} lt there d is g e at b rest =
    catching.one_more (omega arith) there d (given_as (ap value.Variable is) g)
    (subst (λ x. HandsOn (n - (i + 1)) (with_operand given last v) o.next (begin_or begin x) x t found) at
    (subst (λ x. HandsOn (n - (i + 1)) (with_operand given last v) o.next x here t found) b
    (subst (λ x. HandsOn (n - (i + 1)) x o.next start here t found) e rest)))

-- no operand is looked at any more
pub handed_spent : {n i : ℕ} {s : State} {place begin last : ℕ} → n ≤ i → HandsOn (n - i) s place begin last s begin
handed_spent {n} {i} {s} {place} {begin} {last} le = let e : 0 ≡ n - i = omega arith in subst (λ m. HandsOn m s place begin last s begin) e catching.spent

-- a wait of a unit of its own
pub wrapped : (line : ℕ) {s b h a p f e z t : State} {place token unit skip first variable none : ℕ} {target : Target} {what inner : Wait} → BeginsUnit s token b → unit ≡ length s.units → skip ≡ length s.instructions → Rewires (in_unit unit b) what h inner first → variable ≡ next_variable h → a ≡ with_temporary h → p ≡ put (instruction.Wait (Declare variable) inner NONE) a → f ≡ zero_freed variable line p → e ≡ unit_ended unit skip token (in_unit s.unit f) → none ≡ next_value e → z ≡ with_value (value.Number (pos 0)) e → t ≡ with_instruction place (instruction.Wait target (waiting.Unit unit first) none) z → Wraps s place target what token t
wrapped line {s} {b} {h} {a} {p} {f} {e} {z} {t} {place} {token} {unit} {skip} {first} {variable} {none} {target} {what} {inner} begins is over rewires var temporary waits frees ends at one last =
    let waited : p ≡ put (instruction.Wait (Declare (next_variable h)) inner NONE) (with_temporary h) = waits ∙ ap (put (instruction.Wait (Declare variable) inner NONE)) temporary ∙ ap (λ x. put (instruction.Wait (Declare x) inner NONE) (with_temporary h)) var in
    let freed : f ≡ waits_freely inner line h = frees ∙ ap (zero_freed variable line) waited ∙ ap (λ x. zero_freed x line (put (instruction.Wait (Declare (next_variable h)) inner NONE) (with_temporary h))) var in
    record {
      begun = b;
      begins = begins;
      handed = h;
      inner = inner;
      first = first;
      rewires = subst (λ x. Rewires (in_unit x b) what h inner first) is rewires;
      line = line;
      ended = e;
      ends = ends ∙ ap (λ x. unit_ended unit skip token (in_unit s.unit x)) freed ∙ ap (λ x. unit_ended x skip token (in_unit s.unit (waits_freely inner line h))) is ∙ ap (λ x. unit_ended (length s.units) x token (in_unit s.unit (waits_freely inner line h))) over;
      state = last ∙ ap (with_instruction place (instruction.Wait target (waiting.Unit unit first) none)) one ∙ ap (λ x. with_instruction place (instruction.Wait target (waiting.Unit x first) none) (with_value (value.Number (pos 0)) e)) is ∙ ap (λ x. with_instruction place (instruction.Wait target (waiting.Unit (length s.units) first) x) (with_value (value.Number (pos 0)) e)) at;
    }

-- what is waited for, with a value for a fault
pub tried : {s r q u : State} {place none : ℕ} {came : Typed} → r ≡ s → q ≡ with_value (value.Number (pos 0)) r → none ≡ next_value r → Lowers (with_fallback (fallbacks.Fault none) q) place u came → Tries s place (with_fallback fallbacks.None u) came
tried {s} {r} {q} {u} {none = none} same one is h =
    let begins : with_fallback (fallbacks.Fault none) q ≡ with_fallback (fallbacks.Fault (next_value s)) (with_value (value.Number (pos 0)) s) =
    ap (λ x. with_fallback (fallbacks.Fault x) q) (is ∙ ap next_value same) ∙ ap (with_fallback (fallbacks.Fault (next_value s))) (one ∙ ap (with_value (value.Number (pos 0))) same) in
    record { u = u; lowers = lowered_from begins h; state = refl }

-- what tells of a fault, from a state that is the same
pub told_from : {s r t : State} {target other : Target} {what : Wait} {token : ℕ} {kind : Kind} → r ≡ s → target ≡ other → Tells r target what token kind t → Tells s other what token kind t
told_from {r = r} {t} {target} {other} {what} {token} {kind} e is h = subst (λ x. Tells x other what token kind t) e (subst (λ x. Tells r x what token kind t) is h)

-- a fault is caught
pub caught : {s u q v w t : State} {place token variable : ℕ} {came found : Typed} {target : Target} {what : Wait} → Tries s place u came → length s.instructions < length u.instructions → (otherwise : ℕ) × (slice_get u.instructions (length u.instructions - 1) ≡ Some (instruction.Wait target what otherwise)) → q ≡ with_variable_for target u → variable ≡ variable_for target u → Tells q (Declare variable) what token came.kind v → Gives v (value.Variable variable) came.kind w found → t ≡ open_where found.value (fault_sign came.kind) w → Catches s place token t found
caught {u = u} {v = v} {w} {variable = variable} {came} {found} {target} {what} tries more last e is tells gives state = record {
  u = u;
  came = came;
  tries = tries;
  more = more;
  target = target;
  what = what;
  otherwise = last.0;
  last = last.1;
  v = v;
  tells = told_from e (ap Declare is) tells;
  w = w;
  gives = given_as (ap value.Variable is) gives;
  state = state;
}

-- which call is waited for in another unit
pub rewired_as : {s t : State} {what other inner : Wait} {first : ℕ} → what ≡ other → Rewires s other t inner first → Rewires s what t inner first
rewired_as {s} {t} {inner = inner} {first} e h = subst (λ x. Rewires s x t inner first) (sym e) h

-- 0 tells of a fault
pub told_by_zero : {s t : State} {target : Target} {what : Wait} {token place : ℕ} {kind : Kind} → is_int kind ≡ true → place ≡ length s.instructions - 1 → Wraps s place target what token t → Tells s target what token kind t
told_by_zero {s} {t} {target} {what} {token} is at h = catching.by_zero is (subst (λ x. Wraps s x target what token t) at h)

-- and 2
pub told_by_two : {s r t : State} {target : Target} {what : Wait} {token place two : ℕ} {kind : Kind} → is_int kind ≡ false → place ≡ length s.instructions - 1 → two ≡ next_value s → r ≡ with_value (value.Number (pos 2)) s → t ≡ with_instruction place (instruction.Wait target what two) r → Tells s target what token kind t
told_by_two {s} {target = target} {what} {place = place} {two} is at one r e =
    catching.by_two is (e ∙ ap (with_instruction place (instruction.Wait target what two)) r ∙ ap (λ x. with_instruction x (instruction.Wait target what two) (with_value (value.Number (pos 2)) s)) at ∙ ap (λ x. with_instruction (length s.instructions - 1) (instruction.Wait target what x) (with_value (value.Number (pos 2)) s)) one)

-- what came is set
pub caught_set : {s r t : State} {token : ℕ} {found : Typed} {f : StmtForm} {how : Assigning} {is_own : Bool} {place : ℕ} → f ≡ form.Assign how is_own place → r ≡ came_to found s → (to : Destination) × GoesTo r token is_own to × (t ≡ put (set_of to found.value) r) → GivesCaught s token found t f
caught_set {s} {t = t} {token} {found} e came d = subst (λ x. GivesCaught s token found t x) (sym e) (catching.sets d.0 (goes_from came d.1) (d.2 ∙ ap (put (set_of d.0 found.value)) came))

-- or given
pub caught_given : {s r t : State} {token : ℕ} {found : Typed} {f : StmtForm} {into : Into} {place : ℕ} → f ≡ form.Value into place → r ≡ came_to found s → GivesTo r found t into → GivesCaught s token found t f
caught_given {s} {t = t} {token} {found} {into = into} e came g = subst (λ x. GivesCaught s token found t x) (sym e) (catching.gives (subst (λ x. GivesTo x found t into) came g))
