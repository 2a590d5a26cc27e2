use Rattle.script_compiler.proofs.Prelude.{◌≡◌, ℕ, ◌+◌, ◌-◌, ◌<◌, All, List, length, arith, sym, ◌∙◌, subst, slice_get-get_or, both_ways, All-contains, Has, AreListsOf, count_of, Calls, WaitsInPlace, AreMarks, IsFirstFrom, CallEdge, RootWait, MethodLists, Marks}
use Rattle.script_compiler.proofs.Search.{marks_begin, marks_go_on, marks_closed, first_begins, first_found}
use Rattle.script_compiler.proofs.Search.{first_stays, first_waits, first_is_first, none_is_none}
use Rattle.script_compiler.proofs.waits.first.first_waiting.Goals as goal
use Rattle.script_compiler.proofs.waits.first.first_waiting.Goals.{In_ok-reach-2}

-- only methods lead to a method, and only methods wait for a root
callers_within : (edges : List CallEdge) (methods : ℕ) (callers : MethodLists) (s : Marks) → AreListsOf (Calls edges) methods callers
    → All (λ e. e.from < methods) edges → count_of s ≡ methods → (k m : ℕ) → Has callers k m → m < count_of s
callers_within edges methods callers s are all same k m h =
    let below : m < methods = All-contains (λ (e : CallEdge). e.from < methods) edges _ all (are.only k m h) in omega (arith, below, same)

waiting_within : (waits : List RootWait) (methods roots count : ℕ) (waiting : MethodLists) (s : Marks)
    → AreListsOf (WaitsInPlace waits roots) count waiting → All (λ w. w.method < methods) waits → count_of s ≡ methods
    → (k m : ℕ) → Has waiting k m → m < count_of s
waiting_within waits methods roots count waiting s are all same k m h =
    let below : m < methods = All-contains (λ (w : RootWait). w.method < methods) waits _ all (are.only k m h).wait in
    omega (arith, below, same)

pub reach-requires-clause-orderly : goal.reach-requires-clause-orderly
reach-requires-clause-orderly c = c.in_ok-waiting.ensures.orderly

pub reach-requires-clause-list : goal.reach-requires-clause-list
reach-requires-clause-list c = let n = c.in_ok-waiting.ensures.same in omega (arith, n)

pub reach-requires-clause-methods : goal.reach-requires-clause-methods
reach-requires-clause-methods c =
    waiting_within c.args.waits.now c.args.methods (length c.args.roots.now) (length c.args.roots.now + 1) c.in_ok-waiting.waiting
    c.in_ok-marks.marks c.in_ok-waiting.ensures c.requires.waits c.in_ok-marks.ensures.count (length c.args.roots.now)

pub reach-requires-clause-callers : goal.reach-requires-clause-callers
reach-requires-clause-callers c = c.in_ok-callers.ensures.orderly

pub reach-requires-clause-count : goal.reach-requires-clause-count
reach-requires-clause-count c = c.in_ok-callers.ensures.same ∙ sym c.in_ok-marks.ensures.count

pub reach-requires-clause-calling : goal.reach-requires-clause-calling
reach-requires-clause-calling c =
    callers_within c.args.edges.now c.args.methods c.in_ok-callers.callers c.in_ok-marks.marks c.in_ok-callers.ensures c.requires.from
    c.in_ok-marks.ensures.count

pub reach-requires-clause-closed : goal.reach-requires-clause-closed
reach-requires-clause-closed c = λ k m has is_marked. absurd (c.in_ok-marks.ensures.none k is_marked)

pub reach-requires-clause-none_pending : goal.reach-requires-clause-none_pending
reach-requires-clause-none_pending c = c.in_ok-marks.ensures.none_pending

pub loop-place-init : goal.loop-place-init
loop-place-init c = record {
  marks = marks_begin c.args.edges.now c.args.waits.now c.args.methods (length c.args.roots.now) c.in_ok-callers.callers c.in_ok-waiting.waiting
      c.in_ok-callers.ensures c.in_ok-waiting.ensures c.in_ok-marks.marks c.reach.new.self c.in_ok-marks.ensures c.in_ok-reach.ensures;
  first = first_begins c.args.edges.now c.args.waits.now c.args.roots.now c.args.methods (length c.args.roots.now) (omega arith);
}

pub reach-requires-in-loop-place-clause-orderly : goal.reach-requires-in-loop-place-clause-orderly
reach-requires-in-loop-place-clause-orderly c = c.in_ok-waiting.ensures.orderly

pub reach-requires-in-loop-place-clause-list : goal.reach-requires-in-loop-place-clause-list
reach-requires-in-loop-place-clause-list c = let n = c.in_ok-waiting.ensures.same in let l = c.loop-place-test.true in omega (arith, n, l)

pub reach-requires-in-loop-place-clause-methods : goal.reach-requires-in-loop-place-clause-methods
reach-requires-in-loop-place-clause-methods c =
    waiting_within c.args.waits.now c.args.methods (length c.args.roots.now) (length c.args.roots.now + 1) c.in_ok-waiting.waiting
    c.loop-place.marks c.in_ok-waiting.ensures c.requires.waits c.loop-place.invariant.marks.count (c.loop-place.place - 1)

pub reach-requires-in-loop-place-clause-callers : goal.reach-requires-in-loop-place-clause-callers
reach-requires-in-loop-place-clause-callers c = c.in_ok-callers.ensures.orderly

pub reach-requires-in-loop-place-clause-count : goal.reach-requires-in-loop-place-clause-count
reach-requires-in-loop-place-clause-count c = c.in_ok-callers.ensures.same ∙ sym c.loop-place.invariant.marks.count

pub reach-requires-in-loop-place-clause-calling : goal.reach-requires-in-loop-place-clause-calling
reach-requires-in-loop-place-clause-calling c =
    callers_within c.args.edges.now c.args.methods c.in_ok-callers.callers c.loop-place.marks c.in_ok-callers.ensures c.requires.from
    c.loop-place.invariant.marks.count

pub reach-requires-in-loop-place-clause-closed : goal.reach-requires-in-loop-place-clause-closed
reach-requires-in-loop-place-clause-closed c =
    marks_closed c.args.edges.now c.args.waits.now c.args.methods (length c.args.roots.now) c.in_ok-callers.callers c.in_ok-waiting.waiting
    c.in_ok-callers.ensures c.in_ok-waiting.ensures c.loop-place.place c.loop-place.marks c.loop-place.invariant.marks

pub reach-requires-in-loop-place-clause-none_pending : goal.reach-requires-in-loop-place-clause-none_pending
reach-requires-in-loop-place-clause-none_pending c = c.loop-place.invariant.marks.none_pending

-- one place down
down : (c : In_ok-reach-2) → c.loop-place.place ≡ c.loop-place.place - 1 + 1
down c = let l = c.loop-place-test.true in omega (arith, l)

marks_at : (c : In_ok-reach-2) → AreMarks c.args.edges.now c.args.waits.now c.args.methods (c.loop-place.place - 1) c.reach-in-loop-place.new.self
marks_at c =
    marks_go_on c.args.edges.now c.args.waits.now c.args.methods (length c.args.roots.now) c.in_ok-callers.callers c.in_ok-waiting.waiting
    c.in_ok-callers.ensures c.in_ok-waiting.ensures (c.loop-place.place - 1) c.loop-place.marks c.reach-in-loop-place.new.self (omega arith)
    (subst (λ (p : ℕ). AreMarks c.args.edges.now c.args.waits.now c.args.methods p c.loop-place.marks) (down c) c.loop-place.invariant.marks)
    c.in_ok-reach-2.ensures

pub loop-place-preserved-then-is_marked : goal.loop-place-preserved-then-is_marked
loop-place-preserved-then-is_marked c =
    let marks = marks_at (goal.at.loop-place-preserved-then-is_marked c).In_ok-reach-2 in
    record {
      marks = marks;
      first = first_found c.args.edges.now c.args.waits.now c.args.roots.now c.args.methods (c.loop-place.place - 1) _ c.reach-in-loop-place.new.self marks
          (slice_get-get_or c.args.roots.now (c.loop-place.place - 1) 0 (omega arith)) (c.is_marked.ensures.0 c.if-is_marked.true);
    }

pub loop-place-preserved : goal.loop-place-preserved
loop-place-preserved c =
    let marks = marks_at (goal.at.loop-place-preserved c).In_ok-reach-2 in
    record {
      marks = marks;
      first = first_stays c.args.edges.now c.args.waits.now c.args.roots.now c.args.methods (c.loop-place.place - 1) _ c.reach-in-loop-place.new.self c.loop-place.first marks
          (slice_get-get_or c.args.roots.now (c.loop-place.place - 1) 0 (omega arith)) (λ h. both_ways c.is_marked.result c.if-is_marked.false (c.is_marked.ensures.1 h))
          (subst (λ (p : ℕ). IsFirstFrom c.args.edges.now c.args.waits.now c.args.roots.now p c.loop-place.first) (down (goal.at.loop-place-preserved c).In_ok-reach-2) c.loop-place.invariant.first);
    }

pub returns-clause-found : goal.returns-clause-found
returns-clause-found c =
    first_waits c.args.edges.now c.args.waits.now c.args.roots.now c.args.methods c.loop-place.place c.loop-place.first
    c.loop-place.invariant.first

pub returns-clause-first : goal.returns-clause-first
returns-clause-first c =
    first_is_first c.args.edges.now c.args.waits.now c.args.roots.now c.args.methods c.loop-place.place c.loop-place.first (omega arith)
    c.loop-place.invariant.first

pub returns-clause-none : goal.returns-clause-none
returns-clause-none c =
    none_is_none c.args.edges.now c.args.waits.now c.args.roots.now c.args.methods c.loop-place.place c.loop-place.first (omega arith)
    c.loop-place.invariant.first
