-- Statements in words, as bytes, by the instructions that they were compiled to (our own).
use Rattle.std.specs.Prelude.{ℕ, ◌==◌, List, [], ◌∷◌, ◌++◌, codes, if◌then◌else◌, slice_get, Option, Some, None}
use Rattle.script_code.specs.Tree.{Term, CallTarget, Wanted, call, root, task, next, term_of, target_of, wanted_of}
use Rattle.script_code.specs.declared.instruction.Act.{Act}
use Rattle.script_code.specs.declared.instruction.Act.TheVariants as acts
use Rattle.script_code.specs.declared.instruction.Cancelled.{Cancelled}
use Rattle.script_code.specs.declared.instruction.Cancelled.TheVariants as stopped
use Rattle.script_code.specs.declared.instruction.Instruction.{Instruction}
use Rattle.script_code.specs.declared.instruction.NumberPlace.{NumberPlace}
use Rattle.script_code.specs.declared.instruction.NumberPlace.TheVariants as place
use Rattle.swift_script.specs.Scripts.{actor_name, local_name, method_name, root_name}
use Rattle.nuchapay_runs.specs.Formulas.{NamesView, field_text, formula_text, variable_text}

-- expressions: in front of the first stands `between`, and in front of each other one a comma
abbrev pub listed_text : NamesView → List ℕ → List Term → List ℕ
listed_text ns between [] = []
listed_text ns between (t ∷ ts) = between ++ formula_text ns t ++ listed_text ns (codes " , ") ts

-- a method by its names, that of its actor first, as the printed form has it
abbrev pub called_text : NamesView → CallTarget → List ℕ
called_text ns c = actor_name ns.script c.actor ++ codes " . " ++ method_name ns.script c.method

-- a call, after the word that says what becomes of it
abbrev pub call_text : NamesView → List ℕ → CallTarget → List ℕ
call_text ns word c = word ++ codes " " ++ called_text ns c ++ codes " (" ++ listed_text ns (codes " ") c.args ++ codes " )"

-- what is waited for
abbrev pub awaited_text : NamesView → Wanted → List ℕ
awaited_text ns (call c) = call_text ns (codes "await") c
awaited_text ns (root r) = codes "await root " ++ root_name ns.script r
awaited_text ns (task h) = codes "await task"
awaited_text ns (next h) = codes "await next"

-- what is cancelled
abbrev pub cancel_text : NamesView → Cancelled → List ℕ
cancel_text ns (stopped.Root r) = codes "cancel root " ++ root_name ns.script r.0
cancel_text ns (stopped.Task h) = codes "cancel task"
cancel_text ns (stopped.Group h) = codes "cancel group"

-- where a number is kept
abbrev pub kept_text : NamesView → NumberPlace → List ℕ
kept_text ns (place.Variable x) = variable_text ns x
kept_text ns (place.Field f) = field_text ns f

-- where what was waited for is kept, if anywhere
abbrev pub receiver_text : NamesView → Option NumberPlace → List ℕ
receiver_text ns None = []
receiver_text ns (Some p) = kept_text ns p ++ codes " = "

-- what an act waits for, if it does
abbrev pub awaited_by : Act → Option Wanted
awaited_by (acts.Wait w) = Some (wanted_of w)
awaited_by _ = None

-- the first of two answers that there is
abbrev pub or_else : Option Wanted → Option Wanted → Option Wanted
or_else None later = later
or_else (Some w) later = Some w

-- what is waited for at the instruction of this number: that of the first wait which it follows
abbrev pub awaited_at : List Instruction → ℕ → Option Wanted
awaited_at [] k = None
awaited_at (i ∷ is) k = or_else (if i.next == k then awaited_by i.act else None) (awaited_at is k)

-- an await that stands open
abbrev pub open_text : NamesView → Option Wanted → List ℕ
open_text ns None = codes "await"
open_text ns (Some w) = awaited_text ns w

-- the statement that the act of an instruction stands for, without its blocks
abbrev pub act_text : NamesView → List Instruction → ℕ → Act → List ℕ
act_text ns is k acts.End = codes "the end of the method"
act_text ns is k (acts.Test e) = codes "the test " ++ formula_text ns (term_of e)
act_text ns is k (acts.SetVariable x e) = variable_text ns x ++ codes " = " ++ formula_text ns (term_of e)
act_text ns is k (acts.SetField p e) = field_text ns p ++ codes " = " ++ formula_text ns (term_of e)
act_text ns is k (acts.Return e) = codes "return " ++ formula_text ns (term_of e)
act_text ns is k (acts.Throw e) = codes "throw " ++ formula_text ns (term_of e)
act_text ns is k acts.Check = codes "check"
act_text ns is k acts.Yield = codes "yield"
act_text ns is k (acts.Wait w) = awaited_text ns (wanted_of w)
act_text ns is k (acts.Receive p e) = receiver_text ns p ++ open_text ns (awaited_at is k)
act_text ns is k (acts.Spawn c p h) = call_text ns (codes "spawn") (target_of c)
act_text ns is k (acts.Detach c p h) = call_text ns (codes "detach") (target_of c)
act_text ns is k (acts.Add g unless c p) = call_text ns (codes "add") (target_of c)
act_text ns is k (acts.Cancel c) = cancel_text ns c
act_text ns is k (acts.Open h) = codes "group"
act_text ns is k acts.Close = codes "the end of a group"
act_text ns is k (acts.Bind l e) = codes "bind " ++ local_name ns.script l.0 ++ codes " = " ++ formula_text ns (term_of e)
act_text ns is k acts.Unbind = codes "the end of a bind"
act_text ns is k acts.Assume = codes "assume"
act_text ns is k acts.Isolated = codes "assume"

-- an instruction past the last is the end of the method
abbrev pub instruction_text : NamesView → List Instruction → ℕ → Option Instruction → List ℕ
instruction_text ns is k None = codes "the end of the method"
instruction_text ns is k (Some i) = act_text ns is k i.act

-- the statement that an instruction stands for
abbrev pub statement_text : NamesView → List Instruction → ℕ → List ℕ
statement_text ns is k = instruction_text ns is k (slice_get is k)
