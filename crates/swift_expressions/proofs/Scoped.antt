-- What is found among names in scope, and among declarations.
use Rattle.std.proofs.Common.{◌≡◌, ◌<◌, ◌≤◌, ◌+◌, ℕ, Bool, true, false, IsTrue, Option, Some, None, IfSome, IfNone, length, arith, sym, ap, ◌∙◌, ◌↔◌, ◌⊎◌, inl, inr}
use Rattle.std.proofs.lemmas.Option.{none-some, same_Some, slice_get_within}
use borrow.Author.Count.{below_more}
use Rattle.std.specs.List.{slice_get}
use Rattle.swift_syntax.specs.declared.tree.ActorDecl.{ActorDecl}
use Rattle.swift_syntax.specs.declared.tree.ConstantDecl.{ConstantDecl}
use Rattle.swift_syntax.specs.declared.tree.FieldDecl.{FieldDecl}
use Rattle.swift_syntax.specs.declared.tree.InstanceDecl.{InstanceDecl}
use Rattle.swift_expressions.specs.declared.scope.Binding.{Binding}
use Rattle.swift_expressions.specs.declared.scope.Standing.{Standing}
use Rattle.swift_expressions.specs.declared.scope.Standing.TheVariants as standings
use Rattle.swift_expressions.specs.Lowered.{holds_value}
use Rattle.swift_expressions.specs.Scopes.{IsActorAt, IsConstantAt, IsFieldAt, IsFirst, IsFree, IsInnermost, IsInstanceAt, IsLocalAt, IsMethodAt, IsNamedAt}
use Rattle.swift_expressions.specs.States.{State, bytes_at}

-- whether a name stands at a place, by what is read there
pub not_seen : {s : State} {token place : ℕ} → place < s.boundary → IsNamedAt s token place → ⊥
not_seen lt n = let seen = n.seen in omega (arith, lt, seen)

pub nothing_there : {s : State} {token place : ℕ} → slice_get s.scope place ≡ None → IsNamedAt s token place → ⊥
nothing_there e n = none-some n.binding (sym e ∙ n.there)

pub named_there : {R : Type 0} {s : State} {token place : ℕ} {b : Binding} → slice_get s.scope place ≡ Some b → s.boundary ≤ place → (R ↔ (bytes_at s b.token ≡ bytes_at s token)) → R ↔ IsNamedAt s token place
named_there {s = s} {b = b} e seen h = (λ r. record { binding = b; there = e; seen = seen; spelled = h.0 r }, λ n. h.1 (ap (λ (x : Binding). bytes_at s x.token) (same_Some b n.binding (sym e ∙ n.there)) ∙ n.spelled))

pub not_true : {b : Bool} → b ≡ false → IsTrue b → ⊥
not_true e h = cc

-- the innermost name among the first places
abbrev pub FoundBelow : State → ℕ → ℕ → Option ℕ → Type 0
FoundBelow s token n None = (place : ℕ) → place < n → IsNamedAt s token place → ⊥
FoundBelow s token n (Some found) = IsNamedAt s token found × ((later : ℕ) → later < n → found < later → IsNamedAt s token later → ⊥)

pub found_here : (s : State) (token n : ℕ) → IsNamedAt s token n → FoundBelow s token (n + 1) (Some n)
found_here s token n h = (h, λ later lt gt x. omega (arith, lt, gt))

pub not_here : (s : State) (token n : ℕ) (found : Option ℕ) → (IsNamedAt s token n → ⊥) → FoundBelow s token n found → FoundBelow s token (n + 1) found
not_here s token n None other h = below_more (λ k. IsNamedAt s token k → ⊥) n h other
not_here s token n (Some found) other h = (h.0, below_more (λ k. found < k → IsNamedAt s token k → ⊥) n h.1 (λ gt x. other x))

within : {s : State} {token place n : ℕ} → length s.scope ≤ n → IsNamedAt s token place → place < n
within {s} {place = place} le x = let lt = slice_get_within s.scope place x.binding x.there in omega (arith, le, lt)

pub innermost_found : (s : State) (token : ℕ) (n : ℕ) (found : Option ℕ) → length s.scope ≤ n → FoundBelow s token n found → IfSome found (IsInnermost s token)
innermost_found s token n None le h = tt
innermost_found s token n (Some found) le h = record { named = h.0; innermost = λ later gt x. h.1 later (within le x) gt x }

pub none_found : (s : State) (token : ℕ) (n : ℕ) (found : Option ℕ) → length s.scope ≤ n → FoundBelow s token n found → IfNone found (IsFree s token)
none_found s token n None le h = λ place x. h place (within le x) x
none_found s token n (Some found) le h = tt

-- whether a declaration stands at a place
pub no_field : {s : State} {actor token place : ℕ} → slice_get s.tree.fields.items place ≡ None → IsFieldAt s actor token place → ⊥
no_field e f = none-some f.field (sym e ∙ f.there)

pub no_constant : {s : State} {token place : ℕ} → slice_get s.tree.constants.items place ≡ None → IsConstantAt s token place → ⊥
no_constant e f = none-some f.constant (sym e ∙ f.there)

pub no_method : {s : State} {actor token place : ℕ} → slice_get s.tree.methods.items place ≡ None → IsMethodAt s actor token place → ⊥
no_method e m = none-some m.method (sym e ∙ m.there)

pub no_instance : {s : State} {token place : ℕ} → slice_get s.tree.instances.items place ≡ None → IsInstanceAt s token place → ⊥
no_instance e i = none-some i.instance (sym e ∙ i.there)

pub no_local : {s : State} {of token place : ℕ} → slice_get s.tree.locals.items place ≡ None → IsLocalAt s of token place → ⊥
no_local e l = none-some l.local (sym e ∙ l.there)

pub no_actor : {s : State} {token place : ℕ} → slice_get s.tree.actors.items place ≡ None → IsActorAt s token place → ⊥
no_actor e a = none-some a.actor (sym e ∙ a.there)

pub constant_there : {R : Type 0} {s : State} {token place : ℕ} {d : ConstantDecl} → slice_get s.tree.constants.items place ≡ Some d → (R ↔ (bytes_at s d.name ≡ bytes_at s token)) → R ↔ IsConstantAt s token place
constant_there {s = s} {d = d} e h = (λ r. record { constant = d; there = e; spelled = h.0 r }, λ n. h.1 (ap (λ (x : ConstantDecl). bytes_at s x.name) (same_Some d n.constant (sym e ∙ n.there)) ∙ n.spelled))

pub fields_end : {s : State} {actor token n : ℕ} → length s.tree.fields.items ≤ n → ((place : ℕ) → place < n → IsFieldAt s actor token place → ⊥) → (place : ℕ) → IsFieldAt s actor token place → ⊥
fields_end {s} le h place x = let lt = slice_get_within s.tree.fields.items place x.field x.there in h place (omega (arith, le, lt)) x

pub constants_end : {s : State} {token n : ℕ} → length s.tree.constants.items ≤ n → ((place : ℕ) → place < n → IsConstantAt s token place → ⊥) → (place : ℕ) → IsConstantAt s token place → ⊥
constants_end {s} le h place x = let lt = slice_get_within s.tree.constants.items place x.constant x.there in h place (omega (arith, le, lt)) x

pub instance_there : {R : Type 0} {s : State} {token place : ℕ} {d : InstanceDecl} → slice_get s.tree.instances.items place ≡ Some d → (R ↔ (bytes_at s d.name ≡ bytes_at s token)) → R ↔ IsInstanceAt s token place
instance_there {s = s} {d = d} e h = (λ r. record { instance = d; there = e; spelled = h.0 r }, λ n. h.1 (ap (λ (x : InstanceDecl). bytes_at s x.name) (same_Some d n.instance (sym e ∙ n.there)) ∙ n.spelled))

pub actor_there : {R : Type 0} {s : State} {token place : ℕ} {d : ActorDecl} → slice_get s.tree.actors.items place ≡ Some d → (R ↔ (bytes_at s d.name ≡ bytes_at s token)) → R ↔ IsActorAt s token place
actor_there {s = s} {d = d} e h = (λ r. record { actor = d; there = e; spelled = h.0 r }, λ n. h.1 (ap (λ (x : ActorDecl). bytes_at s x.name) (same_Some d n.actor (sym e ∙ n.there)) ∙ n.spelled))

pub methods_end : {s : State} {actor token n : ℕ} → length s.tree.methods.items ≤ n → ((place : ℕ) → place < n → IsMethodAt s actor token place → ⊥) → (place : ℕ) → IsMethodAt s actor token place → ⊥
methods_end {s} le h place x = let lt = slice_get_within s.tree.methods.items place x.method x.there in h place (omega (arith, le, lt)) x

pub instances_end : {s : State} {token n : ℕ} → length s.tree.instances.items ≤ n → ((place : ℕ) → place < n → IsInstanceAt s token place → ⊥) → (place : ℕ) → IsInstanceAt s token place → ⊥
instances_end {s} le h place x = let lt = slice_get_within s.tree.instances.items place x.instance x.there in h place (omega (arith, le, lt)) x

pub locals_end : {s : State} {of token n : ℕ} → length s.tree.locals.items ≤ n → ((place : ℕ) → place < n → IsLocalAt s of token place → ⊥) → (place : ℕ) → IsLocalAt s of token place → ⊥
locals_end {s} le h place x = let lt = slice_get_within s.tree.locals.items place x.local x.there in h place (omega (arith, le, lt)) x

pub actors_end : {s : State} {token n : ℕ} → length s.tree.actors.items ≤ n → ((place : ℕ) → place < n → IsActorAt s token place → ⊥) → (place : ℕ) → IsActorAt s token place → ⊥
actors_end {s} le h place x = let lt = slice_get_within s.tree.actors.items place x.actor x.there in h place (omega (arith, le, lt)) x

-- what never changes, or may be assigned, is a value
pub holds_where : {x : Standing} → (x ≡ standings.Constant) ⊎ (x ≡ standings.Variable) → holds_value x ≡ true
holds_where (inl e) = ap holds_value e
holds_where (inr e) = ap holds_value e
