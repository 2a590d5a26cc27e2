-- What was put stays, over statements with blocks.
use Rattle.std.proofs.Common.{◌≡◌, ◌==◌, ◌<◌, ◌≤◌, ◌-◌, ℕ, Bool, true, false, List, Option, None, Some, length, ◌++◌, arith, refl, ap, ◌∙◌, slice_set}
use Rattle.std.proofs.lemmas.List.{set-append_right}
use Rattle.swift_types.specs.declared.operator.Operator.TheVariants as operators
use Rattle.swift_syntax.specs.declared.tree.Into.{Into}
use Rattle.swift_syntax.specs.declared.tree.Into.TheVariants as goes
use Rattle.swift_syntax.specs.declared.tree.Stmt.{Stmt}
use Rattle.swift_syntax.specs.declared.tree.StmtForm.{StmtForm}
use Rattle.swift_syntax.specs.declared.tree.TaskForm.{TaskForm}
use Rattle.swift_expressions.specs.Lowered.{Grows, yielding}
use Rattle.swift_expressions.specs.States.{State, next_variable}
use Rattle.swift_expressions.specs.declared.code.Callee.{Callee}
use Rattle.swift_expressions.specs.declared.code.Instruction.{Instruction}
use Rattle.swift_expressions.specs.declared.code.Kind.{Kind}
use Rattle.swift_expressions.specs.declared.code.Kind.TheVariants as kinds
use Rattle.swift_expressions.specs.declared.code.Target.{Target}
use Rattle.swift_expressions.specs.declared.code.Target.TheVariants.{Nothing, Declare}
use Rattle.swift_expressions.specs.declared.code.Value.{Value}
use Rattle.swift_expressions.specs.declared.code.Value.TheVariants as value
use Rattle.swift_expressions.specs.declared.code.Wait.{Wait}
use Rattle.swift_expressions.specs.declared.lowering.Returns.{Returns}
use Rattle.swift_expressions.specs.declared.lowering.Returns.TheVariants as returning
use Rattle.swift_expressions.specs.declared.scope.Binding.{Binding}
use Rattle.swift_expressions.specs.declared.typed.Typed.{Typed}
use Rattle.swift_expressions.proofs.Grown.{alike, begins, child_tests, counts, either, gives_grow, hands_grow, lowers_grow, on, puts, reads, same, stays, to, uses}
use Rattle.swift_lowering.specs.Blocks as blocks
use Rattle.swift_lowering.specs.Blocks.{AddsTask, AttemptsAll, AttemptsBlock, BeginsChild, Counts, CountsOn, Does, DoesAll, DoesBlock, DoesClosed, DoesElse, Encloses, EndsChild, Fixes, IsNext, LoopsOver, MakesTask, NamesCounter, Renames, Repeats, Says, SaysClosed, StartsChild, TakesResults, Tests, child_begun, counted_in, done_where, end_where, open_results, rest_where, trapped_unless, with_child_count}
use Rattle.swift_lowering.specs.Catching as catching
use Rattle.swift_lowering.specs.Catching.{Catches, GivesCaught, HandsOn, Rewires, Tells, Wraps, begin_at_zero, came_to, given_as_it_was, open_rest, waits_freely, with_variable_for, zero_freed}
use Rattle.swift_lowering.specs.Closures as closures
use Rattle.swift_lowering.specs.Closures.{Captures, CapturesAll, OpensClosure, Receives}
use Rattle.swift_lowering.specs.Groups as groups
use Rattle.swift_lowering.specs.Groups.{BeginsGroup, GivesClosed, with_result}
use Rattle.swift_lowering.specs.Statements.{result_given}
use Rattle.swift_lowering.specs.Units.{BeginsUnit, exchanged, in_unit, unit_ended, with_instruction}
use Rattle.swift_lowering.specs.declared.closure.ClosureBody.{ClosureBody}
use Rattle.swift_lowering.proofs.Grown.{binds_grow, declares_grow, gives_to_grow, plain_grows, set_grows}

-- an instruction behind others is another one
behind : (xs ys all : List Instruction) (place : ℕ) (i : Instruction) (was : Option Instruction) → all ≡ xs ++ ys → length xs ≤ place → (zs : List Instruction) × (exchanged all place i was ≡ xs ++ zs)
behind xs ys all place i None e le = (ys, e)
behind xs ys all place i (Some was) e le = (slice_set ys (place - length xs) i, ap (λ x. slice_set x place i) e ∙ set-append_right xs ys (length xs) place i refl le)

exchanges : (place : ℕ) (i : Instruction) {s t : State} → length s.instructions ≤ place → Grows s t → Grows s (with_instruction place i t)
exchanges place i {s} {t} le g =
    let more = behind s.instructions g.instructions t.instructions place i _ g.behind le in
    record { instructions = more.0; values = g.values; behind = more.1; valued = g.valued; tree = g.tree }

unit_ends : (unit end : ℕ) {s t : State} → Grows s t → Grows s (unit_ended unit (length s.instructions) end t)
unit_ends unit end {s} g = exchanges (length s.instructions) _ (omega arith) (alike g refl refl refl)

unit_begins : {s t : State} {token : ℕ} → BeginsUnit s token t → Grows s t
unit_begins {s} b = to b.state (puts _ (to b.begun.state (alike (stays s) refl refl refl)))

receives_grow : {s t : State} {unit token : ℕ} {b : Binding} → Receives s unit token b t → Grows s t
receives_grow {s} r = on (on (alike (stays s) refl refl refl) (declares_grow r.declared)) (on (alike (stays _) refl refl refl) (binds_grow r.binds.binding r.binds.state))

captures_grow : {s t : State} {unit token last next : ℕ} → Captures s unit token last t next → Grows s t
captures_grow (closures.not_captured free e n) = same e
captures_grow {s} (closures.captured place named at is e r n) = on (to e (alike (reads _ (stays s)) refl refl refl)) (receives_grow r)

all_captured : {s : State} {unit : ℕ} {t : State} {first last : ℕ} → CapturesAll s unit t first last → Grows s t
all_captured closures.none_so_far = stays _
all_captured (closures.one_further token h c) = on (all_captured h) (captures_grow c)

opens_grow : {s t : State} {operand : ℕ} {body : ClosureBody} → OpensClosure s body operand t → Grows s t
opens_grow o = to o.state (alike (on (unit_begins o.begins) (all_captured o.captures)) refl refl refl)

-- what a `do` catches
hands_on_grow : {n : ℕ} {s t : State} {place begin last found : ℕ} → HandsOn n s place begin last t found → Grows s t
hands_on_grow catching.spent = stays _
hands_on_grow (catching.no_more e) = stays _
hands_on_grow (catching.one_more n at d g rest) = on (on (declares_grow d) (alike (gives_grow g) refl refl refl)) (hands_on_grow rest)

rewires_grow : {s t : State} {what inner : Wait} {first : ℕ} → Rewires s what t inner first → Grows s t
rewires_grow (catching.of_method h) = hands_on_grow h
rewires_grow (catching.of_own h) = hands_on_grow h

frees : (variable line : ℕ) {s t : State} → Grows s t → Grows s (zero_freed variable line t)
frees variable line g = puts _ (puts _ (counts operators.Plus variable (puts _ (reads _ (reads _ (puts _ (reads _ (reads _ (reads _ g)))))))))

wraps_grow : {s r t : State} {place token : ℕ} {target : Target} {what : Wait} → Grows s r → length s.instructions ≤ place → Wraps r place target what token t → Grows s t
wraps_grow {r = r} {place = place} {token} g le w =
    let inside : Grows r (in_unit (length r.units) w.begun) = alike (unit_begins w.begins) refl refl refl in
    let waits : Grows r (in_unit r.unit (waits_freely w.inner w.line w.handed)) = alike (frees (next_variable w.handed) w.line (puts _ (begins (on inside (rewires_grow w.rewires))))) refl refl refl in
    let ended : Grows r w.ended = to w.ends (unit_ends (length r.units) token waits) in
    to w.state (exchanges place _ le (reads _ (on g ended)))

tells_grow : {s r t : State} {target : Target} {what : Wait} {token : ℕ} {kind : Kind} → Grows s r → length s.instructions < length r.instructions → Tells r target what token kind t → Grows s t
tells_grow g lt (catching.by_zero is w) = wraps_grow g (omega arith) w
tells_grow g lt (catching.by_two is e) = to e (exchanges _ _ (omega arith) (reads _ g))

for_grows : (target : Target) {s u : State} → Grows s u → Grows s (with_variable_for target u)
for_grows Nothing g = begins g
for_grows (Declare v) g = g

for_length : (target : Target) (u : State) → length (with_variable_for target u).instructions ≡ length u.instructions
for_length Nothing u = refl
for_length (Declare v) u = refl

catches_grow : {s t : State} {place token : ℕ} {found : Typed} → Catches s place token t found → Grows s t
catches_grow {s} c =
    let tried : Grows s c.u = to c.tries.state (alike (on (alike (reads _ (stays s)) refl refl refl) (lowers_grow c.tries.lowers)) refl refl refl) in
    let long = for_length c.target c.u in
    on (on (tells_grow (for_grows c.target tried) (omega (arith, long, c.more)) c.tells) (gives_grow c.gives)) (to c.state (puts _ (reads _ (reads _ (stays _)))))

was_given : (kind : Kind) (v : Value) (place : ℕ) {s t : State} → Grows s t → Grows s (given_as_it_was kind v place t)
was_given kinds.Int (value.Variable v) place g = puts _ (counts operators.Minus v (puts _ (reads _ (reads _ g))))
was_given kinds.Int (value.Number n) place g = g
was_given kinds.Int (value.Field f) place g = g
was_given kinds.Int (value.Member i f) place g = g
was_given kinds.Int (value.Local l) place g = g
was_given kinds.Int value.Priority place g = g
was_given kinds.Int value.Cancelled place g = g
was_given kinds.Int (value.Negate v) place g = g
was_given kinds.Int (value.Not v) place g = g
was_given kinds.Int (value.Binary o l r) place g = g
was_given kinds.Bool v place g = g
was_given kinds.Void v place g = g
was_given kinds.Urgency v place g = g

came_grows : (found : Typed) (s : State) → Grows s (came_to found s)
came_grows found s = was_given found.kind _ found.value (puts _ (stays s))

caught_grows : {s t : State} {token : ℕ} {found : Typed} {f : StmtForm} → GivesCaught s token found t f → Grows s t
caught_grows {s} {found = found} (catching.sets d to_it e) = to e (puts _ (came_grows found s))
caught_grows {s} {found = found} (catching.gives g) = on (came_grows found s) (gives_to_grow g)

rests : (b : Bool) {s t : State} → Grows s t → Grows s (open_rest b t)
rests true g = puts _ (alike g refl refl refl)
rests false g = g

ends : (b : Bool) {s t : State} → Grows s t → Grows s (end_where b t)
ends true g = puts _ g
ends false g = g

rests_where : (b : Bool) {s t : State} → Grows s t → Grows s (rest_where b t)
rests_where true g = puts _ g
rests_where false g = g

dones : (b : Bool) {s t : State} → Grows s t → Grows s (done_where b t)
dones true g = alike g refl refl refl
dones false g = g

-- heads of loops
fixes_grow : {s t : State} {given found : Typed} → Fixes s given t found → Grows s t
fixes_grow (blocks.number is e f) = same e
fixes_grow {s} (blocks.computed is g) = on (puts _ (begins (stays s))) (gives_grow g)

traps : (b : Bool) (here last : ℕ) {s t : State} → Grows s t → Grows s (trapped_unless b here last t)
traps true here last g = g
traps false here last g = puts _ (puts _ (begins (reads _ (reads _ (reads _ (puts _ (reads _ g)))))))

counts_grow : {s t : State} {from to counter : ℕ} {is_closed : Bool} → Counts s from to is_closed counter t → Grows s t
counts_grow (blocks.counts {a = a} {e = e} h b i f g t n) = on (on (on (on (on (lowers_grow h) (to b (puts _ (begins (stays a))))) (lowers_grow i)) (fixes_grow f)) (gives_grow g)) (to t (puts _ (reads _ (traps _ _ _ (stays e)))))

renames_grow : {s t : State} {variable name : ℕ} → Renames s variable name t → Grows s t
renames_grow {s} (blocks.renamed d e) = to e (alike (stays s) refl refl refl)
renames_grow (blocks.as_it_was e) = same e

names_counter_grow : {s t : State} {name counter : ℕ} → NamesCounter s name counter t → Grows s t
names_counter_grow (blocks.unnamed is e) = same e
names_counter_grow (blocks.by_name r b) = on (renames_grow r) (binds_grow b.binding b.state)

next_grows : {s t : State} {b : Binding} {name : ℕ} → IsNext s b name t → Grows s t
next_grows {b = b} n = to n.state (counts operators.Minus b.count (puts _ (declares_grow n.declared)))

takes_grow : {s t : State} {group name : ℕ} → TakesResults s group name t → Grows s t
takes_grow {s} (blocks.of_nothing {b = b} place at e) = to e (counts operators.Minus b.count (puts _ (puts _ (child_tests b.count (uses place (stays s))))))
takes_grow {s} (blocks.without_name {b = b} place at n h) = on (puts _ (child_tests b.count (uses place (stays s)))) (next_grows h)
takes_grow {s} (blocks.with_name {b = b} place at n h) = on (on (puts _ (child_tests b.count (uses place (stays s)))) (next_grows n)) (binds_grow h.binding h.state)

-- tasks
makes_grow : {s t : State} {name : ℕ} {what : TaskForm} {callee : Callee} → MakesTask s name what callee t → Grows s t
makes_grow m = on (puts _ (declares_grow m.declared)) (binds_grow m.binds.binding m.binds.state)

counts_in : (b : Bool) (place : ℕ) (group : Binding) {s t : State} → Grows s t → Grows s (counted_in b place group t)
counts_in true place group g = alike g refl refl refl
counts_in false place group g = counts operators.Plus group.count g

adds_grow : {s t : State} {token : ℕ} {is_only : Bool} {callee : Callee} → AddsTask s token is_only callee t → Grows s t
adds_grow {s} {is_only = is_only} a = to a.state (counts_in is_only a.place a.b (puts _ (stays s)))

child_counts : (b : Bool) {s t : State} → Grows s t → Grows s (with_child_count b t)
child_counts true g = puts _ (reads _ (begins g))
child_counts false g = g

child_begins_grow : {s t : State} {token : ℕ} {early : Bool} {callee : Callee} {variable count : ℕ} → BeginsChild s token early callee variable count t → Grows s t
child_begins_grow {early = early} c = to c.state (alike (on (puts _ (puts _ (child_counts early (declares_grow c.declared)))) (binds_grow c.binds.binding c.binds.state)) refl refl refl)

yields : (b : Bool) {s t : State} → Grows s t → Grows s (yielding b t)
yields true g = puts _ g
yields false g = g

child_ends_grow : {s t : State} {variable count : ℕ} → EndsChild s variable count t → Grows s t
child_ends_grow {s} {variable = variable} {count} c = to c.state (alike (puts _ (puts _ (either (Grows s) (count == variable) (yields c.yields (stays s)) (puts _ (puts _ (puts _ (child_tests count (stays s)))))))) refl refl refl)

-- groups and bindings
at_zero : {s t : State} → Grows s t → Grows s (begin_at_zero t)
at_zero g = puts _ (reads _ (begins g))

results : (into : Into) {s t : State} → Grows s t → Grows s (with_result into t)
results goes.Nothing g = g
results (goes.Let name wanted) g = at_zero g
results (goes.Var name wanted) g = at_zero g
results (goes.Assign name) g = at_zero g
results goes.Return g = at_zero g

group_begins : {s t : State} {name : ℕ} {kind : Kind} → BeginsGroup s name kind t → Grows s t
group_begins b = on (at_zero (puts _ (declares_grow b.declared))) (binds_grow b.binds.binding b.binds.state)

closed_given : {s t : State} {into : Into} {variable : ℕ} → GivesClosed s into variable t → Grows s t
closed_given (groups.nowhere is e) = same e
closed_given (groups.somewhere g h) = on (gives_grow g) (gives_to_grow h)

result_grows : (r : Returns) (found : Typed) (s : State) → Grows s (result_given r found s)
result_grows returning.Unit found s = stays s
result_grows (returning.Closure variable blocks) found s = set_grows variable found.kind found.value s

mutual
  -- a statement
  pub does_grow : {s t : State} {stmt : Stmt} → Does s stmt t → Grows s t
  does_grow (blocks.plain h) = plain_grows h
  does_grow (blocks.conditional {t = t} e h b o w) = on (on (on (lowers_grow h.lowers) (puts _ (stays t))) (on (block_grows b) (else_grows o))) (to w (puts _ (stays _)))
  does_grow (blocks.guarded {t = t} e h b w) = on (on (on (lowers_grow h.lowers) (puts _ (reads _ (stays t)))) (block_grows b)) (to w (puts _ (stays _)))
  does_grow (blocks.while_value {t = t} e h n r w) = on (on (on (lowers_grow h.lowers) (puts _ (stays t))) (repeats_grow r)) (to w (puts _ (stays _)))
  does_grow (blocks.while_again {t = t} {u = u} e h r g w) = on (on (on (on (lowers_grow h.lowers) (puts _ (reads _ (puts _ (begins (stays t)))))) (repeats_grow r)) (on (rests_where _ (stays u)) (lowers_grow g.lowers))) (to w (puts _ (ends _ (puts _ (stays _)))))
  does_grow (blocks.for_range e h c) = on (counts_grow h) (counts_on_grow c)
  does_grow (blocks.for_results e h) = loops_grow h
  does_grow (blocks.while_results e h) = loops_grow h
  does_grow (blocks.makes_task e is h m) = on (encloses_grow h) (makes_grow m)
  does_grow (blocks.adds_task e is h a) = on (encloses_grow h) (adds_grow a)
  does_grow (blocks.catches_one e at n c h b g w) = on (on (on (catches_grow h) (block_grows b)) (caught_grows g)) (to w (puts _ (stays _)))
  does_grow {s} (blocks.catches_several e n a b w) = on (on (on (at_zero (stays s)) (attempt_grows a)) (on (puts _ (reads _ (stays _))) (block_grows b))) (to w (puts _ (stays _)))
  does_grow {s} (blocks.groups {into = into} e r b c w g) = on (on (on (on (to r (results into (stays s))) (group_begins b)) (closed_grows c)) (to w (alike (puts _ (stays _)) refl refl refl))) (closed_given g)
  does_grow {s} (blocks.binds {into = into} e r b c w g) = on (on (on (on (to r (results into (stays s))) (to b.state (puts _ (lowers_grow b.lowers)))) (closed_grows c)) (to w (alike (puts _ (stays _)) refl refl refl))) (closed_given g)

  all_grow : {n : ℕ} {s t : State} {p : ℕ} → DoesAll n s p t → Grows s t
  all_grow blocks.spent = stays _
  all_grow (blocks.no_more e) = stays _
  all_grow (blocks.one_more n at h fails rest) = on (does_grow h) (all_grow rest)
  all_grow (blocks.unless_returned at h is u rest w) = on (on (on (does_grow h) (to u (puts _ (alike (stays _) refl refl refl)))) (all_grow rest)) (to w (puts _ (stays _)))
  all_grow (blocks.child at is b rest e) = on (on (started_grows b) (all_grow rest)) (child_ends_grow e)

  started_grows : {s t : State} {stmt : Stmt} {given variable count : ℕ} → StartsChild s stmt given variable count t → Grows s t
  started_grows (blocks.started is h b) = on (encloses_grow h) (child_begins_grow b)

  encloses_grow : {s t : State} {body : ClosureBody} {callee : Callee} → Encloses s body t callee → Grows s t
  encloses_grow (blocks.hands_over h) = hands_grow h.hands.hands
  encloses_grow {s} {body = body} (blocks.as_unit o h e) = to e (alike (unit_ends (length s.units) (body.to - 1) (on (opens_grow o) (says_grow h))) refl refl refl)

  says_grow : {s t : State} {body : ClosureBody} → Says s body t → Grows s t
  says_grow (blocks.statements is h) = all_grow h
  says_grow (blocks.value_alone other g) = to g.state (puts _ (lowers_grow g.lowers))

  closed_grows : {s t : State} {first variable : ℕ} → DoesClosed s first variable t → Grows s t
  closed_grows {s} (blocks.closed b h e) = to e (alike (on (alike (stays s) refl refl refl) (says_closed_grow h)) refl refl refl)

  says_closed_grow : {s t : State} {first : ℕ} → SaysClosed s first t → Grows s t
  says_closed_grow (blocks.one_value {t = t} {found = found} is other h e) = on (lowers_grow h) (to e (result_grows t.returns found t))
  says_closed_grow (blocks.as_block is h) = block_grows h

  block_grows : {s t : State} {first : ℕ} → DoesBlock s first t → Grows s t
  block_grows (blocks.whole h e) = to e (alike (all_grow h) refl refl refl)

  else_grows : {s t : State} {first : ℕ} → DoesElse s first t → Grows s t
  else_grows (blocks.no_block e) = stays _
  else_grows {s} (blocks.other h) = on (puts _ (stays s)) (block_grows h)

  repeats_grow : {s t : State} {first : ℕ} → Repeats s first t → Grows s t
  repeats_grow {s} (blocks.loop_body h) = on (dones _ (stays s)) (block_grows h)

  counts_on_grow : {s t : State} {name counter body : ℕ} → CountsOn s name counter body t → Grows s t
  counts_on_grow (blocks.count_on {counter = counter} n r e) = to e (alike (puts _ (counts operators.Plus counter (on (names_counter_grow n) (repeats_grow r)))) refl refl refl)

  loops_grow : {s t : State} {group name body : ℕ} → LoopsOver s group name body t → Grows s t
  loops_grow (blocks.loop_over h r e) = to e (alike (puts _ (on (takes_grow h) (repeats_grow r))) refl refl refl)

  attempts_grow : {n : ℕ} {s t : State} {flag token p : ℕ} → AttemptsAll n s flag token p t → Grows s t
  attempts_grow blocks.none_left = stays _
  attempts_grow (blocks.at_end e) = stays _
  attempts_grow (blocks.one_done n at c h fails rest) = on (does_grow h) (attempts_grow rest)
  attempts_grow (blocks.rest_unless_returned at c h is u rest w) = on (on (on (does_grow h) (to u (rests true (stays _)))) (attempts_grow rest)) (to w (puts _ (stays _)))
  attempts_grow (blocks.rest_unless_caught at c h g q rest w) = on (on (on (on (catches_grow h) (on (puts _ (reads _ (stays _))) (caught_grows g))) (to q (rests _ (stays _)))) (attempts_grow rest)) (to w (puts _ (ends _ (stays _))))

  attempt_grows : {s t : State} {flag token first : ℕ} → AttemptsBlock s flag token first t → Grows s t
  attempt_grows (blocks.attempted h e) = to e (alike (attempts_grow h) refl refl refl)
