-- What statements put, from what they call.
use Rattle.std.proofs.Common.{◌≡◌, ℕ, Bool, false, Option, None, Some, IfSome, pos, sym, ap, subst, ◌∙◌}
use Rattle.std.specs.List.{slice_get}
use Rattle.std.specs.Prelude.{ℤ}
use Rattle.swift_types.specs.declared.operator.Operator.{Operator}
use Rattle.swift_syntax.specs.declared.tree.Expr.{Expr}
use Rattle.swift_syntax.specs.declared.tree.ExprForm.TheVariants as expr
use Rattle.swift_syntax.specs.declared.tree.Into.{Into}
use Rattle.swift_syntax.specs.declared.tree.StmtForm.{StmtForm}
use Rattle.swift_expressions.specs.Lowered.{Lowers}
use Rattle.swift_expressions.specs.States.{Binds, Gives, IsDeclared, State, expr_at, form_at, next_value, next_variable, put, standing_of, with_fallback, with_value}
use Rattle.swift_expressions.specs.Scopes.{IsInnermost}
use Rattle.swift_expressions.specs.declared.code.Instruction.TheVariants as instruction
use Rattle.swift_expressions.specs.declared.code.Kind.{Kind}
use Rattle.swift_expressions.specs.declared.code.Value.TheVariants as value
use Rattle.swift_expressions.specs.declared.lowering.Fallback.TheVariants as fallbacks
use Rattle.swift_expressions.specs.declared.scope.Binding.{Binding}
use Rattle.swift_expressions.specs.declared.typed.Typed.{Typed}
use Rattle.swift_expressions.proofs.Stepped.{lowered_from}
use Rattle.swift_lowering.specs.Assignments as assignments
use Rattle.swift_lowering.specs.Assignments.{GoesTo, read_of, set_of}
use Rattle.swift_lowering.specs.Statements as statements
use Rattle.swift_lowering.specs.Statements.{Assigns, Defines, DoesPlain, GivesTo, IsNamed, IsThrown, LetsGo, changed, thrown, toggled}
use Rattle.swift_lowering.specs.declared.assignment.Destination.{Destination}
use Rattle.swift_lowering.specs.declared.assignment.Destination.TheVariants.{Name}

-- a name for a variable that has none
pub defined_as_it_is : {s r u t : State} {name variable : ℕ} {found : Typed} {is_var : Bool} → r ≡ s → IsNamed r found.value name variable u → Binds u name (standing_of is_var) variable found.kind variable t → Defines s name found is_var t
defined_as_it_is {t = t} {name} {variable} {found} {is_var} e n b = subst (λ x. Defines x name found is_var t) e (statements.as_it_is variable n b)

-- a name for a variable that begins here
pub defined_anew : {s r u v t : State} {name variable : ℕ} {found : Typed} {is_var : Bool} → r ≡ s → IsDeclared r name false u → variable ≡ next_variable r → v ≡ put (instruction.Let variable found.value) u → Binds v name (standing_of is_var) variable found.kind variable t → Defines s name found is_var t
defined_anew {r = r} {u} {v} {t} {name} {variable} {found} {is_var} e d is p b =
    let begins : v ≡ put (instruction.Let (next_variable r) found.value) u = subst (λ x. v ≡ put (instruction.Let x found.value) u) is p in
    let binds : Binds v name (standing_of is_var) (next_variable r) found.kind (next_variable r) t = subst (λ x. Binds v name (standing_of is_var) x found.kind x t) is b in
    subst (λ x. Defines x name found is_var t) e (statements.anew d begins binds)

-- `x = e`
pub assigned_by_set : {s t u : State} {name place : ℕ} {is_own : Bool} {found : Typed} {how : Option Operator} → how ≡ None → Lowers s place t found → (to : Destination) × GoesTo t name is_own to × (u ≡ put (set_of to found.value) t) → Assigns s name is_own place u how
assigned_by_set {s} {u = u} {name} {place} {is_own} {how = how} e h d = subst (λ x. Assigns s name is_own place u x) (sym e) (statements.sets d.0 h d.1 d.2)

-- `x += e`
pub assigned_by_change : {s t u : State} {name place : ℕ} {is_own : Bool} {found : Typed} {how : Option Operator} {o : Operator} → how ≡ Some o → Lowers s place t found → (to : Destination) × GoesTo t name is_own to × (u ≡ changed o to found.value t) → Assigns s name is_own place u how
assigned_by_change {s} {u = u} {name} {place} {is_own} {how = how} e h d = subst (λ x. Assigns s name is_own place u x) (sym e) (statements.changes d.0 h d.1 d.2)

-- where an assignment goes, by whether `self.` stands there
pub goes_by : (s : State) (name : ℕ) {is_own other : Bool} (found : Option Destination) → is_own ≡ other → IfSome found (GoesTo s name other) → IfSome found (GoesTo s name is_own)
goes_by s name found e h = subst (λ x. IfSome found (GoesTo s name x)) (sym e) h

pub goes_where : {s : State} {name : ℕ} {is_own other : Bool} {to : Destination} → is_own ≡ other → GoesTo s name other to → GoesTo s name is_own to
goes_where {s} {name} {to = to} e h = subst (λ x. GoesTo s name x to) (sym e) h

-- a name in scope, as it was looked for
pub goes_to_name : {s : State} {name : ℕ} {b : Binding} → (place : ℕ) × IsInnermost s name place × (slice_get s.scope place ≡ Some b) → GoesTo s name false (Name b)
goes_to_name found = assignments.to_name found.0 found.1 found.2

-- what stands somewhere is read, combined, and set
pub changed_from : {s r q v u : State} (to : Destination) {o : Operator} {right left : ℕ} {kind : Kind} {after : Typed} → r ≡ s → q ≡ with_value (read_of to) r → left ≡ next_value r → Gives q (value.Binary o left right) kind v after → u ≡ put (set_of to after.value) v → u ≡ changed o to right s
changed_from {s} {q = q} to {o} {right} {left} {after = after} same read is g e =
    let reads : q ≡ with_value (read_of to) s = read ∙ ap (with_value (read_of to)) same in
    let at : left ≡ next_value s = is ∙ ap next_value same in
    e ∙ ap (put (set_of to after.value)) (g.state ∙ ap (with_value (value.Binary o left right)) reads ∙ ap (λ x. with_value (value.Binary o x right) (with_value (read_of to) s)) at)
    ∙ ap (λ x. put (set_of to x) (with_value (value.Binary o (next_value s) right) (with_value (read_of to) s))) (g.place ∙ ap next_value reads)

-- read, turned round, and set
pub toggled_from : {s r q p v u : State} (to : Destination) {left : ℕ} {kind : Kind} {after : Typed} → r ≡ s → q ≡ with_value (read_of to) r → left ≡ next_value r → p ≡ q → Gives p (value.Not left) kind v after → u ≡ put (set_of to after.value) v → u ≡ toggled to s
toggled_from {s} {p = p} to {left} {after = after} same read is still g e =
    let reads : p ≡ with_value (read_of to) s = still ∙ read ∙ ap (with_value (read_of to)) same in
    let at : left ≡ next_value s = is ∙ ap next_value same in
    e ∙ ap (put (set_of to after.value)) (g.state ∙ ap (with_value (value.Not left)) reads ∙ ap (λ x. with_value (value.Not x) (with_value (read_of to) s)) at)
    ∙ ap (λ x. put (set_of to x) (with_value (value.Not (next_value s)) (with_value (read_of to) s))) (g.place ∙ ap next_value reads)

-- where it goes from a state that is the same
pub goes_from : {s r : State} {name : ℕ} {is_own : Bool} {to : Destination} → r ≡ s → GoesTo r name is_own to → GoesTo s name is_own to
goes_from {name = name} {is_own} {to} e h = subst (λ x. GoesTo x name is_own to) e h

-- what is thrown, as it was read
pub thrown_read : {s : State} {e x : Expr} {number other : ℤ} → x ≡ e → other ≡ number → IsThrown s x number → IsThrown s e other
thrown_read {s} {e} {number = number} same is h = subst (λ n. IsThrown s e n) (sym is) (subst (λ x. IsThrown s x number) same h)

-- what is thrown, from a state that is the same
pub thrown_from : {s r q u : State} (place : ℕ) {number : ℤ} {at : ℕ} → r ≡ s → IsThrown r (expr_at r place) number → q ≡ r → at ≡ next_value q → u ≡ put (instruction.Throw at) (with_value (value.Number number) q) → (n : ℤ) × IsThrown s (expr_at s place) n × (u ≡ thrown n s)
thrown_from {s} {q = q} place {number} same h still is e =
    let begins : q ≡ s = still ∙ same in
    (number, subst (λ x. IsThrown x (expr_at x place) number) same h, e ∙ ap (λ x. put (instruction.Throw x) (with_value (value.Number number) q)) (is ∙ ap next_value begins) ∙ ap (λ x. put (instruction.Throw (next_value s)) (with_value (value.Number number) x)) begins)

-- where a value goes, by what that is
pub given_to : {s t : State} {found : Typed} {into other : Into} → into ≡ other → GivesTo s found t other → GivesTo s found t into
given_to {s} {t} {found} e h = subst (λ x. GivesTo s found t x) (sym e) h

-- a statement without a block, by what it is
pub plain_by : {s t : State} {token : ℕ} {f g : StmtForm} → f ≡ g → DoesPlain s token t g → DoesPlain s token t f
plain_by {s} {t} {token} e h = subst (λ x. DoesPlain s token t x) (sym e) h

-- `try?`, whose value is let go
pub caught_by_try : {s r q u w : State} {place inner none : ℕ} {found : Typed} → form_at s place ≡ expr.TryOptional inner → r ≡ s → q ≡ with_value (value.Number (pos 0)) r → none ≡ next_value r → Lowers (with_fallback (fallbacks.Fault none) q) inner u found → w ≡ u → LetsGo s place (with_fallback fallbacks.None w)
caught_by_try {s} {r} {q} {u} {inner = inner} {none} {found} e same one is h ends =
    let begins : with_fallback (fallbacks.Fault none) q ≡ with_fallback (fallbacks.Fault (next_value s)) (with_value (value.Number (pos 0)) s) =
    ap (λ x. with_fallback (fallbacks.Fault x) q) (is ∙ ap next_value same) ∙ ap (with_fallback (fallbacks.Fault (next_value s))) (one ∙ ap (with_value (value.Number (pos 0))) same) in
    statements.caught e (lowered_from begins h) (ap (with_fallback fallbacks.None) ends)
