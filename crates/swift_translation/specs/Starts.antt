-- The start values of fields. (Our own.)
use Rattle.std.specs.Prelude.{ℕ, ◌==◌, ◌&&◌, ℤ, pos, neg_ℤ, int_lt, cond, if◌then◌else◌, Bool, List, [], ◌∷◌, Option, Some, None, bytes_eq, length, nat_le, position, slice_get, slice_range}
use Rattle.swift_syntax.specs.declared.tree.ActorDecl.{ActorDecl}
use Rattle.swift_syntax.specs.declared.tree.Argument.{Argument}
use Rattle.swift_syntax.specs.declared.tree.ExprForm.{ExprForm}
use Rattle.swift_syntax.specs.declared.tree.ExprForm.TheVariants as form
use Rattle.swift_syntax.specs.declared.tree.FieldDecl.{FieldDecl}
use Rattle.swift_syntax.specs.declared.tree.FieldStart.{FieldStart}
use Rattle.swift_syntax.specs.declared.tree.FieldStart.TheVariants as start
use Rattle.swift_syntax.specs.declared.tree.InstanceDecl.{InstanceDecl}
use Rattle.swift_syntax.specs.declared.tree.ParamDecl.{ParamDecl}
use Rattle.swift_translation.specs.Sources.{argument_at, bytes_at, expr_at}
use Rattle.swift_translation.specs.declared.source.Source.{Source}

-- a number with its sign the other way round; there is none of the least one
abbrev pub negated : ℤ → Option ℤ
negated n = if int_lt (neg_ℤ (pos 9223372036854775808)) n then Some (neg_ℤ n) else None

-- the number of an expression that is a number, with its sign the other way round
abbrev pub negated_number : ExprForm → Option ℤ
negated_number (form.Number n) = negated n
negated_number e = None

-- the number of a literal
abbrev pub form_number : Source → ExprForm → Option ℤ
form_number s (form.Number n) = Some n
form_number s (form.Truth t) = Some (pos (cond t 1 0))
form_number s (form.Negate inner) = negated_number (expr_at s inner).form
form_number s e = None

-- the number of the literal at a place
abbrev pub literal_number : Source → ℕ → Option ℤ
literal_number s place = form_number s (expr_at s place).form

-- the place of the actor that a token names
abbrev pub actor_named : Source → ℕ → Option ℕ
actor_named s of = position (λ a. bytes_eq (bytes_at s a.name) (bytes_at s of)) s.tree.now.value.actors.items

-- the place of the actor of an instance that was looked for
abbrev pub actor_of_found : Source → Option InstanceDecl → Option ℕ
actor_of_found s None = None
actor_of_found s (Some i) = actor_named s i.of

-- the place of the actor of an instance
abbrev pub actor_of : Source → ℕ → Option ℕ
actor_of s instance = actor_of_found s (slice_get s.tree.now.value.instances.items instance)

-- the parameters of the init of an actor that was looked for
abbrev pub params_of_found : List ParamDecl → Option ActorDecl → List ParamDecl
params_of_found ps None = []
params_of_found ps (Some a) = if nat_le a.first_param a.params_end && nat_le a.params_end (length ps) then slice_range ps a.first_param a.params_end else []

-- the parameters of the init of an actor
abbrev pub params_of : Source → ℕ → List ParamDecl
params_of s actor = params_of_found s.tree.now.value.params.items (slice_get s.tree.now.value.actors.items actor)

-- the number of an argument that was looked for, where its parameter is the one that is looked for, or else what comes of the next one
abbrev pub argument_or : Source → Bool → (ℕ → Option ℤ) → Option Argument → Option ℤ
argument_or s is_it rest None = None
argument_or s is_it rest (Some a) = if is_it then literal_number s a.value else rest a.next

-- the number of the argument for the first of some parameters that a token names; the arguments begin at a place
abbrev pub argument_among : Source → List ParamDecl → ℕ → ℕ → Option ℤ
argument_among s [] name place = None
argument_among s (p ∷ ps) name place = argument_or s (bytes_eq (bytes_at s p.name) (bytes_at s name)) (argument_among s ps name) (argument_at s place)

-- the same of an actor that was looked for
abbrev pub argument_of_actor : Source → ℕ → ℕ → Option ℕ → Option ℤ
argument_of_actor s name place None = None
argument_of_actor s name place (Some actor) = argument_among s (params_of s actor) name place

-- the same of an instance that was looked for
abbrev pub argument_of_found : Source → ℕ → Option InstanceDecl → Option ℤ
argument_of_found s name None = None
argument_of_found s name (Some i) = argument_of_actor s name i.arguments (actor_named s i.of)

-- the number of the argument of an instance for the parameter that a token names
abbrev pub argument : Source → ℕ → ℕ → Option ℤ
argument s instance name = argument_of_found s name (slice_get s.tree.now.value.instances.items instance)

-- the number that an expression gives a field, which may name a parameter
abbrev pub given_by : Source → ℕ → ℕ → ℕ → ExprForm → Option ℤ
given_by s instance token place form.Name = argument s instance token
given_by s instance token place e = literal_number s place

-- the number that an init gives a field of an instance
abbrev pub given : Source → ℕ → ℕ → Option ℤ
given s instance place = given_by s instance (expr_at s place).token place (expr_at s place).form

-- the number with which a field begins by itself
abbrev pub started_by : Source → FieldStart → Option ℤ
started_by s (start.Value place) = literal_number s place
started_by s start.None = None

-- the start value of a field of an instance, if there is one
abbrev pub started : Source → ℕ → FieldDecl → Option ℤ
started s instance f = if f.given == 0 then started_by s f.start else given s instance f.given

-- a number, or 0
abbrev pub or_zero : Option ℤ → ℤ
or_zero (Some n) = n
or_zero None = pos 0

-- the start value of a field of an instance; 0 where it has none, and then it is refused
unfoldable pub start_number : Source → ℕ → FieldDecl → ℤ
start_number s instance f = or_zero (started s instance f)
