-- Reading declarations: the parser's own way.
use Rattle.std.specs.Prelude.{ℕ, ℤ, neg_ℤ, ◌+◌, Option, Some, None, List, [], ◌∷◌, length, Ok, Err, if◌then◌else◌}
use Rattle.std.specs.Ordering.{int_eq}
use Rattle.script_parser.specs.declared.fault.Kind.TheVariants.{Unexpected, OutOfRange, EndsEarly}
use Rattle.script_tokens.specs.declared.keyword.Keyword.TheVariants as key
use Rattle.script_tokens.specs.declared.mark.Mark.TheVariants as mark
use Rattle.script_tokens.specs.Pieces.{TokenView, Num, Huge, Key, Sign}
use Rattle.swift_types.specs.declared.executor_kind.ExecutorKind.{ExecutorKind}
use Rattle.swift_types.specs.declared.executor_kind.ExecutorKind.TheVariants as kind
use Rattle.script_grammar.specs.declared.region.Atoms.TheVariants.{Plain}
use Rattle.script_grammar.specs.declared.region.Region.TheVariants as region
use Rattle.script_grammar.specs.Tree.{ExprTree, ExecutorTree, LocalTree, FieldTree, MethodTree, ActorTree, RootTree, DeclTree, Executes, Binds, Acts, Roots}
use Rattle.script_grammar.specs.Grammar.{least, or_medium}
use Rattle.script_parser.specs.Model.Steps.{at, ◌>>=◌, Reads}
use Rattle.script_parser.specs.Model.Parts.{name_at, sign_at, brace_at, items_at, list_at}
use Rattle.script_parser.specs.Model.Expressions.{expr_in}
use Rattle.script_parser.specs.Model.Actions.{given_at}
use Rattle.script_parser.specs.Model.Statements.{block_at}

-- a number, and what is after it
unfoldable pub number_at : Reads ℤ
number_at [] = Err (at EndsEarly [])
number_at (Num v ∷ ts) = Ok (v, ts)
number_at (Huge ∷ ts) = Err (at OutOfRange (Huge ∷ ts))
number_at (found ∷ ts) = Err (at Unexpected (found ∷ ts))

-- the opposite of the number at the front of digits, if there is one
unfoldable pub opposite_at : List TokenView → ℤ → Reads ℤ
opposite_at digits v ts = if int_eq v least then Err (at OutOfRange digits) else Ok (neg_ℤ v, ts)

-- a number, perhaps after a minus
unfoldable pub int_at : Reads ℤ
int_at (Sign mark.Minus ∷ ts) = do
  v ← number_at ts
  opposite_at ts v.0 v.1
int_at ts = number_at ts

-- a name and the number that it is set to, up to the semicolon
unfoldable pub setting_at : Reads (List ℕ × ℤ)
setting_at ts = do
  n ← name_at ts
  a ← sign_at mark.Assign n.1
  v ← int_at a
  s ← sign_at mark.Semicolon v.1
  Ok ((n.0, v.0), s)

-- a kind of executors
unfoldable pub kind_at : Reads ExecutorKind
kind_at [] = Err (at EndsEarly [])
kind_at (Key key.Priority ∷ ts) = Ok (kind.Priority, ts)
kind_at (Key key.Fifo ∷ ts) = Ok (kind.Fifo, ts)
kind_at (Key key.Pinned ∷ ts) = do
  v ← number_at ts
  Ok (kind.Pinned v.0, v.1)
kind_at (found ∷ ts) = Err (at Unexpected (found ∷ ts))

-- an executor after its keyword
unfoldable pub executor_at : Reads ExecutorTree
executor_at ts = do
  n ← name_at ts
  k ← kind_at n.1
  s ← sign_at mark.Semicolon k.1
  Ok (record { name = n.0; kind = k.0 }, s)

-- a task local after its keyword
unfoldable pub local_at : Reads LocalTree
local_at ts = do
  x ← setting_at ts
  Ok (record { name = x.0.0; default = x.0.1 }, x.1)

-- fields end where no `var` stands
unfoldable pub fields_end : List TokenView → Option (List TokenView)
fields_end (Key key.Var ∷ ts) = None
fields_end ts = Some ts

-- a field
unfoldable pub field_at : Reads FieldTree
field_at [] = Err (at EndsEarly [])
field_at (Key key.Var ∷ ts) = do
  x ← setting_at ts
  Ok (record { name = x.0.0; start = x.0.1 }, x.1)
field_at (found ∷ ts) = Err (at Unexpected (found ∷ ts))

-- the executor that an actor is on, if one is named
unfoldable pub on_at : Reads (Option (List ℕ))
on_at (Key key.On ∷ ts) = do
  n ← name_at ts
  Ok (Some n.0, n.1)
on_at ts = Ok (None, ts)

-- an invariant, if one stands there
unfoldable pub invariant_at : ℕ → Reads (Option ExprTree)
invariant_at limit (Key key.Invariant ∷ ts) = do
  e ← expr_in Plain limit limit ts
  s ← sign_at mark.Semicolon e.1
  Ok (Some e.0, s)
invariant_at limit ts = Ok (None, ts)

-- a method
unfoldable pub method_at : ℕ → Reads MethodTree
method_at limit [] = Err (at EndsEarly [])
method_at limit (Key key.Func ∷ ts) = do
  n ← name_at ts
  o ← sign_at mark.Open n.1
  p ← list_at name_at o
  b ← block_at limit limit region.Method p.1
  Ok (record { name = n.0; params = p.0; body = b.0 }, b.1)
method_at limit (found ∷ ts) = Err (at Unexpected (found ∷ ts))

-- an actor after its keyword
unfoldable pub actor_at : ℕ → Reads ActorTree
actor_at limit ts = do
  n ← name_at ts
  x ← on_at n.1
  o ← sign_at mark.OpenBrace x.1
  f ← items_at fields_end field_at (length o + 1) o
  i ← invariant_at limit f.1
  m ← items_at brace_at (method_at limit) (length i.1 + 1) i.1
  Ok (record { name = n.0; executor = x.0; fields = f.0; invariant = i.0; methods = m.0 }, m.1)

-- a root after its keyword
unfoldable pub root_at : Reads RootTree
root_at ts = do
  n ← name_at ts
  e ← sign_at mark.Assign n.1
  a ← name_at e
  d ← sign_at mark.Dot a.1
  m ← name_at d
  o ← sign_at mark.Open m.1
  v ← list_at int_at o
  p ← given_at v.1
  s ← sign_at mark.Semicolon p.1
  Ok (record { name = n.0; actor = a.0; method = m.0; args = v.0; priority = or_medium p.0 }, s)

-- a declaration
unfoldable pub decl_at : ℕ → Reads DeclTree
decl_at limit [] = Err (at EndsEarly [])
decl_at limit (Key key.Executor ∷ ts) = do
  x ← executor_at ts
  Ok (Executes x.0, x.1)
decl_at limit (Key key.Local ∷ ts) = do
  l ← local_at ts
  Ok (Binds l.0, l.1)
decl_at limit (Key key.Actor ∷ ts) = do
  a ← actor_at limit ts
  Ok (Acts a.0, a.1)
decl_at limit (Key key.Root ∷ ts) = do
  r ← root_at ts
  Ok (Roots r.0, r.1)
decl_at limit (found ∷ ts) = Err (at Unexpected (found ∷ ts))

-- declarations end with the text
unfoldable pub decls_end : List TokenView → Option (List TokenView)
decls_end [] = Some []
decls_end (t ∷ ts) = None

-- all declarations of a text
abbrev pub decls_at : ℕ → Reads (List DeclTree)
decls_at limit ts = items_at decls_end (decl_at limit) (length ts + 1) ts
