-- Which roots wait for themselves or for a later root: what is named by the operations of a method counts, whether they are
-- reached or not. (Own.)
use Rattle.std.specs.Prelude.{ℕ, suc, Option, Some, None, List, [], ◌∷◌, ◌++◌, map}
use Rattle.std.specs.List.{flat_map}
use Rattle.script_compiler.specs.declared.waits.first.CallEdge.{CallEdge}
use Rattle.script_compiler.specs.declared.waits.first.RootWait.{RootWait}
use Rattle.script_code.specs.Tree as code
use Rattle.script_code.specs.Tree.{Wanted, Operation, Code, end, act, choice, loop}
use Rattle.script_compiler.specs.Compiled.{MethodView, CompiledView}

-- all operations that stand in statements
abbrev pub operations_in : Code → List Operation
operations_in end = []
operations_in (act d rest) = d ∷ operations_in rest
operations_in (choice t a b rest) = operations_in a ++ (operations_in b ++ operations_in rest)
operations_in (loop t a rest) = operations_in a ++ operations_in rest

-- the method whose call is waited for
abbrev pub method_wanted : Wanted → Option ℕ
method_wanted (code.call t) = Some t.method
method_wanted _ = None

-- the root that is waited for
abbrev pub root_wanted : Wanted → Option ℕ
root_wanted (code.root r) = Some r
root_wanted _ = None

-- the method that an operation calls, spawns, detaches or adds
abbrev pub method_called : Operation → Option ℕ
method_called (code.wait w) = method_wanted w
method_called (code.spawn t p h) = Some t.method
method_called (code.detach t p h) = Some t.method
method_called (code.add g unless t p) = Some t.method
method_called _ = None

-- the root that an operation waits for
abbrev pub root_awaited : Operation → Option ℕ
root_awaited (code.wait w) = root_wanted w
root_awaited _ = None

-- the edge from a method to that one, if there is one
abbrev pub edge_to : ℕ → Option ℕ → List CallEdge
edge_to m None = []
edge_to m (Some k) = record { from = m; to = k } ∷ []

-- the wait of a method for that root, if there is one
abbrev pub wait_for : ℕ → Option ℕ → List RootWait
wait_for m None = []
wait_for m (Some r) = record { method = m; root = r } ∷ []

-- the edges that an operation of a method makes, and the waits
abbrev pub edges_made : ℕ → Operation → List CallEdge
edges_made m d = edge_to m (method_called d)

-- the waits for roots that an operation of method m makes: one at most
abbrev pub waits_made : ℕ → Operation → List RootWait
waits_made m d = wait_for m (root_awaited d)

-- what each operation makes of methods from number m on
abbrev pub made_by : {A : Type 0} → (ℕ → Operation → List A) → ℕ → List MethodView → List A
made_by made m [] = []
made_by made m (x ∷ others) = flat_map (made m) (operations_in x.code) ++ made_by made (suc m) others

-- the edges of a script: from each method to those that it calls, spawns, detaches or adds
abbrev pub edges_of : CompiledView → List CallEdge
edges_of c = made_by edges_made 0 c.methods

-- the waits of a script: of each method for the roots that it waits for
abbrev pub waits_of : CompiledView → List RootWait
waits_of c = made_by waits_made 0 c.methods

-- the method of each root
abbrev pub root_methods : CompiledView → List ℕ
root_methods c = map (λ r. r.method) c.roots
