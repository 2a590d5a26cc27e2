-- What was put stays, over statements.
use Rattle.std.proofs.Common.{◌≡◌, ◌==◌, ◌<◌, nat_lt, ℕ, Bool, List, Option, Some, length, length-append, [], ◌∷◌, ◌++◌, pos, arith, refl, ap, ◌∙◌}
use Rattle.std.proofs.lemmas.List.{get_or_append_left, get_or_push}
use Rattle.swift_types.specs.declared.operator.Operator.{Operator}
use Rattle.swift_syntax.specs.declared.tree.Into.{Into}
use Rattle.swift_syntax.specs.declared.tree.StmtForm.{StmtForm}
use Rattle.swift_expressions.specs.Lowered.{Grows}
use Rattle.swift_expressions.specs.States.{IsDeclared, State, in_scope, next_value, value_in, with_value}
use Rattle.swift_expressions.specs.declared.code.Kind.{Kind}
use Rattle.swift_expressions.specs.declared.code.Kind.TheVariants as kinds
use Rattle.swift_expressions.specs.declared.code.TheConstants.{NONE}
use Rattle.swift_expressions.specs.declared.code.Value.{Value}
use Rattle.swift_expressions.specs.declared.code.Value.TheVariants as value
use Rattle.swift_expressions.specs.declared.lowering.Returns.{Returns}
use Rattle.swift_expressions.specs.declared.lowering.Returns.TheVariants as returning
use Rattle.swift_expressions.specs.declared.scope.Binding.{Binding}
use Rattle.swift_expressions.specs.declared.typed.Typed.{Typed}
use Rattle.swift_expressions.proofs.Grown.{alike, either, lowers_grow, on, puts, reads, same, stays, to}
use Rattle.swift_lowering.specs.Assignments.{read_of}
use Rattle.swift_lowering.specs.Statements as statements
use Rattle.swift_lowering.specs.Statements.{Assigns, Defines, DoesPlain, GivesTo, LetsGo, ReadsLate, ended_by, given_by, result_set, returned}

below : (vs : List Value) (v : Value) → length vs < length (vs ++ v ∷ [])
below vs v = omega (arith, length-append vs (v ∷ []))

assigns_grow : {s u : State} {name place : ℕ} {is_own : Bool} {how : Option Operator} → Assigns s name is_own place u how → Grows s u
assigns_grow (statements.sets {t = t} d h to_it e) = on (lowers_grow h) (to e (puts _ (stays t)))
assigns_grow (statements.changes {t = t} d h to_it e) = on (lowers_grow h) (to e (puts _ (reads _ (reads _ (stays t)))))

pub binds_grow : (b : Binding) {s t : State} → t ≡ in_scope b s → Grows s t
binds_grow b {s} e = to e (alike (stays s) refl refl refl)

pub declares_grow : {s t : State} {token : ℕ} {is_param : Bool} → IsDeclared s token is_param t → Grows s t
declares_grow {s} d = to d.state (alike (stays s) refl refl refl)

defines_grow : {s t : State} {name : ℕ} {found : Typed} {is_var : Bool} → Defines s name found is_var t → Grows s t
defines_grow {s} (statements.as_it_is variable n b) = on (to n.state (alike (stays s) refl refl refl)) (binds_grow b.binding b.state)
defines_grow (statements.anew {u = u} d e b) = on (declares_grow d) (on (to e (puts _ (stays u))) (binds_grow b.binding b.state))

returned_grows : (place : ℕ) (s : State) → Grows s (returned place s)
returned_grows place s = puts _ (either (Grows s) (nat_lt 0 s.groups) (alike (stays s) refl refl refl) (stays s))

pub set_grows : (variable : ℕ) (kind : Kind) (place : ℕ) (s : State) → Grows s (result_set variable kind place s)
set_grows variable kinds.Void place s = stays s
set_grows variable kinds.Int place s = either (Grows s) (variable == NONE) (stays s) (puts _ (stays s))
set_grows variable kinds.Bool place s = either (Grows s) (variable == NONE) (stays s) (puts _ (stays s))
set_grows variable kinds.Urgency place s = either (Grows s) (variable == NONE) (stays s) (puts _ (stays s))

given_grows : (r : Returns) (found : Typed) (s : State) → Grows s (given_by r found s)
given_grows returning.Unit found s = returned_grows _ s
given_grows (returning.Closure variable blocks) found s = set_grows variable found.kind found.value s

ended_grows : (r : Returns) (s : State) → Grows s (ended_by r s)
ended_grows returning.Unit s = returned_grows NONE s
ended_grows (returning.Closure variable blocks) s = stays s

pub gives_to_grow : {s t : State} {found : Typed} {into : Into} → GivesTo s found t into → Grows s t
gives_to_grow (statements.nothing e) = same e
gives_to_grow (statements.constant d) = defines_grow d
gives_to_grow (statements.variable d) = defines_grow d
gives_to_grow {s} (statements.assigned d to_it e) = to e (puts _ (stays s))
gives_to_grow {s} {found = found} (statements.goes_back e) = to e (given_grows s.returns found s)

lets_go_grow : {s t : State} {place : ℕ} → LetsGo s place t → Grows s t
lets_go_grow (statements.printed said g) = g
lets_go_grow {s} (statements.required said e r) = to r.state (puts _ (alike (on (alike (stays s) refl refl refl) (lowers_grow r.lowers)) refl refl refl))
lets_go_grow {s} (statements.caught e h w) = to w (alike (on (alike (reads _ (stays s)) refl refl refl) (lowers_grow h)) refl refl refl)
lets_go_grow (statements.computed h) = lowers_grow h

-- a statement without a block
pub plain_grows : {s t : State} {token : ℕ} {form : StmtForm} → DoesPlain s token t form → Grows s t
plain_grows (statements.lets_go is h) = lets_go_grow h
plain_grows (statements.gives is h g) = on (lowers_grow h) (gives_to_grow g)
plain_grows (statements.assigns h) = assigns_grow h
plain_grows {s} (statements.toggles d to_it e) = to e (puts _ (reads _ (reads _ (stays s))))
plain_grows {s} (statements.returns e) = to e (ended_grows s.returns s)
plain_grows {s} (statements.throws number is e) = to e (puts _ (reads _ (stays s)))

-- an assignment with an operator
pub reads_late : {s u : State} {name place : ℕ} {is_own : Bool} {o : Operator} → Assigns s name is_own place u (Some o) → ReadsLate s place o u
reads_late {o = o} (statements.changes {t = t} {found = found} d h to_it e) =
    let read : State = with_value (read_of d) t in
    record {
      t = t;
      found = found;
      right = h;
      to = d;
      last = next_value read;
      left = next_value t;
      puts = ap (λ x. x.instructions) e;
      combines = ap (λ x. value_in x (next_value read)) e ∙ get_or_push read.values (value.Binary o (next_value t) found.value) (value.Number (pos 0)) (next_value read) refl;
      reads = ap (λ x. value_in x (next_value t)) e ∙ get_or_append_left read.values (value.Binary o (next_value t) found.value ∷ []) (value.Number (pos 0)) (next_value t) (below t.values (read_of d)) ∙ get_or_push t.values (read_of d) (value.Number (pos 0)) (next_value t) refl;
    }
