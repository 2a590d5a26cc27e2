-- What declares a name (our own).
use Rattle.std.specs.Prelude.{◌≡◌, ◌≤◌, ◌<◌, ◌-◌, ℕ, ◌⊎◌, Option, Some, List, slice_get, codes}
use Rattle.script_tokens.specs.declared.keyword.Keyword.{Keyword}
use Rattle.script_tokens.specs.declared.keyword.Keyword.TheVariants as key
use Rattle.script_tokens.specs.declared.mark.Mark.TheVariants.{Open, Comma}
use Rattle.script_tokens.specs.declared.token.Token.{Token}
use Rattle.script_tokens.specs.declared.token.Token.TheVariants.{Key, Sign}
use Rattle.script_context.specs.declared.declared.Declared.{Declared}
use Rattle.script_context.specs.declared.declared.Declared.TheVariants as declared
use Rattle.script_context.specs.Words.{IsKeyAt, name_at}

-- What a keyword declares the name behind it as: a `let` a variable or a task.
abbrev pub Declares : Keyword → Declared → Type 0
Declares key.Executor d = d ≡ declared.Executor
Declares key.Local d = d ≡ declared.Local
Declares key.Actor d = d ≡ declared.Actor
Declares key.Root d = d ≡ declared.Root
Declares key.Var d = d ≡ declared.Field
Declares key.Func d = d ≡ declared.Method
Declares key.Group d = d ≡ declared.Group
Declares key.Let d = (d ≡ declared.Variable) ⊎ (d ≡ declared.Task)
Declares k d = ⊥

-- What a token before a name declares it as: a keyword, or, of a parameter, a parenthesis or a comma.
abbrev pub DeclaresBy : Option Token → Declared → Type 0
DeclaresBy (Some (Key k)) d = Declares k d
DeclaresBy (Some (Sign Open)) d = d ≡ declared.Parameter
DeclaresBy (Some (Sign Comma)) d = d ≡ declared.Parameter
DeclaresBy other d = ⊥

-- The name at a place is declared there as this.
abbrev pub IsDeclared : List Token → ℕ → Declared → Type 0
IsDeclared ts place d = (1 ≤ place) × DeclaresBy (slice_get ts (place - 1)) d

-- This name is declared at a place as this.
abbrev pub IsNamedAs : List Token → ℕ → List ℕ → Declared → Type 0
IsNamedAs ts place name d = (name_at ts place ≡ Some name) × IsDeclared ts place d

-- This keyword does not stand before a place.
abbrev pub HasNoKey : List Token → ℕ → Keyword → Type 0
HasNoKey ts place k = (at : ℕ) → at < place → IsKeyAt ts at k → ⊥

-- A place is that of the last of this keyword before another.
abbrev pub IsLastKey : List Token → ℕ → Keyword → ℕ → Type 0
IsLastKey ts place k last = (last < place) × IsKeyAt ts last k × ((at : ℕ) → last < at → at < place → IsKeyAt ts at k → ⊥)

-- A place is that of the name of the actor around another: behind the last keyword `actor` before that one.
abbrev pub IsActorOf : List Token → ℕ → ℕ → Type 0
IsActorOf ts place name = (1 ≤ name) × IsLastKey ts place key.Actor (name - 1)

-- what it is called
abbrev pub called : Declared → List ℕ
called declared.Executor = codes "an executor"
called declared.Local = codes "a task local"
called declared.Actor = codes "an actor"
called declared.Root = codes "a root"
called declared.Field = codes "a field"
called declared.Method = codes "a method"
called declared.Parameter = codes "a parameter"
called declared.Variable = codes "a variable"
called declared.Task = codes "a task"
called declared.Group = codes "a group"
