-- What is printed of two scripts, computed.
use Rattle.script_printing.proofs.Prelude.{◌≡◌, pos, negsuc, true, false, [], ◌∷◌, Some, None, refl, codes, Low, Medium, High, Number, Named, Local, OwnPriority, IsCancelled, Negated, Both, CallTree, Called, TaskOf, NextOf, Computed, Waited, Spawned, Detached, Let, LetTask, Assign, Await, Makes, Adds, Cancel, Return, Throw, Check, Yield, If, While, Bind, Group, Assume, StmtTree, Do, Headed, IfElse, nothing, first_then, ActorTree, RootTree, printed}
use Rattle.std.specs.Fmt.{digits}
use Rattle.swift_types.specs.declared.operator.Operator.TheVariants as op
use Rattle.swift_types.specs.declared.executor_kind.ExecutorKind.TheVariants as kind

abbrev account : ActorTree
account = record {
  name = codes "Acc";
  executor = None;
  fields = record { name = codes "bal"; start = pos 10 } ∷ [];
  invariant = Some (Both op.AtLeast (Named (codes "bal")) (Number (pos 0)));
  methods = record { name = codes "take"; params = codes "k" ∷ []; body = Do (Assign (codes "bal") (Computed (Both op.Minus (Named (codes "bal")) (Named (codes "k"))))) ∷ Do (Return (Named (codes "bal"))) ∷ [] } ∷ [];
}

abbrev start : RootTree
start = record { name = codes "a"; actor = codes "Acc"; method = codes "take"; args = pos 3 ∷ []; priority = Medium }

-- an actor with a field, an invariant and a method, and a root
pub printed-account : printed (record { executors = []; locals = []; actors = account ∷ []; roots = start ∷ [] }) ≡ codes "actor Acc { var bal = 10 ; invariant ( bal >= 0 ) ; func take ( k ) { bal = ( bal - k ) ; return bal ; } }\nroot a = Acc . take ( 3 ) at medium ;\n"
unfolding digits
printed-account = refl

abbrev no_arguments : CallTree
no_arguments = record { actor = codes "A"; method = codes "f"; args = [] }

abbrev two_arguments : CallTree
two_arguments = record { actor = codes "A"; method = codes "f"; args = Local (codes "L") ∷ OwnPriority ∷ [] }

abbrev tasks : StmtTree
tasks = Headed (Bind (codes "L") (Negated (Number (pos 1)))) (first_then (Do (LetTask (codes "t") (Spawned two_arguments (Some High)))) (first_then (Do (Makes (Spawned no_arguments None))) (first_then (Do (Makes (Detached no_arguments Low))) (first_then (Do (Cancel (codes "t"))) (first_then (Do (Await (record { for = TaskOf (codes "t"); other = Some (Number (pos 0)) }))) nothing)))))

abbrev children : StmtTree
children = Headed (Group (codes "g")) (first_then (Do (Adds (record { group = codes "g"; unless = true; call = no_arguments; priority = Some Low }))) (first_then (Do (Adds (record { group = codes "g"; unless = false; call = no_arguments; priority = None }))) (first_then (Do (Let (codes "x") (Waited (record { for = NextOf (codes "g"); other = None })))) nothing)))

abbrev assumption : StmtTree
assumption = Headed (Assume (codes "A")) (first_then (IfElse IsCancelled (first_then (Do Check) nothing) (first_then (Do (Throw (Named (codes "x")))) nothing)) nothing)

abbrev busy : ActorTree
busy = record {
  name = codes "A";
  executor = Some (codes "E");
  fields = [];
  invariant = None;
  methods = record { name = codes "f"; params = codes "x" ∷ codes "y" ∷ []; body = tasks ∷ children ∷ assumption ∷ Headed (While (Named (codes "x"))) (first_then (Do Yield) nothing) ∷ Headed (If (Named (codes "y"))) nothing ∷ Do (Await (record { for = Called no_arguments; other = None })) ∷ [] } ∷ [];
}

-- executors, a task local, and the other statements
pub printed-busy : printed (record { executors = record { name = codes "E"; kind = kind.Fifo } ∷ record { name = codes "P"; kind = kind.Pinned (pos 2) } ∷ record { name = codes "Q"; kind = kind.Priority } ∷ []; locals = record { name = codes "L"; default = negsuc 6 } ∷ []; actors = busy ∷ []; roots = [] }) ≡ codes "executor E fifo ;\nexecutor P pinned 2 ;\nexecutor Q priority ;\nlocal L = - 7 ;\nactor A on E { func f ( x , y ) { bind L = ( - 1 ) { let t = spawn A . f ( @ L , priority ) at high ; spawn A . f ( ) ; detach A . f ( ) at low ; cancel t ; await task t else 0 ; } group g { add g unless A . f ( ) at low ; add g A . f ( ) ; let x = await next g ; } assume A { if cancelled { check ; } else { throw x ; } } while x { yield ; } if y { } await A . f ( ) ; } }\n"
unfolding digits
printed-busy = refl
