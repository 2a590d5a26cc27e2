-- What is kept of a turn.
use Rattle.swift_undo.proofs.Prelude.{◌≡◌, ℕ, zero, suc, ℤ, Bool, true, false, if◌then◌else◌, Option, Some, None, List, [], ◌∷◌, refl, sym, subst, ap, ◌∙◌, ◌⊎◌, inl, inr, arith, IsTrue, Contains, nat_lt, ◌^◌, Thrown, Cancelled, Invariant, Overflow, Steps, Turns, Depth, Tasks, Empty, Isolation, Resume, Term, Operation, Wanted, Code, ev, evs, holds, NextAction, first, ends, does, tests, TurnStateView, TurnInputView, InvocationView, EffectView, ExitView, calling, waiting, asking_next, yielding, closing, returning, failing, AfterStatement, goes, leaves, Played, scene, standing, with_value, with_invocation, given, perform, act, settled, at_limit, on, end_of, caught, received, raised_by, taken_by, taken, whole_turn, tail, left_by, exits, undoes, all_hold, kept_of, kept, fault_of, SaysUndone, IsUndone, IsUntouched, AllHold}
use Rattle.swift_types.specs.declared.outcome.Fault.{Fault}
use Rattle.swift_types.specs.declared.outcome.Resume.TheVariants.{Start, Go, Value, Fault as Raise}
use Rattle.script_code.specs.Tree as code
use Rattle.swift_interpreter.specs.Turn
use Rattle.swift_interpreter.specs.Turn.{turn}

-- how a frame is left by a fault
left_by_untouched : (f : Fault) (gs : List ℕ) (s : TurnStateView) → s.groups ≡ gs → IsUntouched s (left_by f gs s).state
left_by_untouched f [] s is = record { todo = refl; variables = refl; handles = refl; made = refl; opened = refl; fields = refl; effects = refl; room = refl; own = refl; groups = rw is refl }
left_by_untouched f (g ∷ gs) s is = record { todo = refl; variables = refl; handles = refl; made = refl; opened = refl; fields = refl; effects = refl; room = refl; own = refl; groups = rw is refl }

left_by_fields : (f : Fault) (gs : List ℕ) (s : TurnStateView) → (left_by f gs s).state.fields ≡ s.fields
left_by_fields f [] s = refl
left_by_fields f (g ∷ gs) s = refl

left_by_fault : (f : Fault) (gs : List ℕ) (s : TurnStateView) → fault_of (left_by f gs s).exit ≡ Some f
left_by_fault f [] s = refl
left_by_fault f (g ∷ gs) s = refl

-- how a frame is left changes nothing else
left_untouched : (s : TurnStateView) (f : Fault) → IsUntouched s (exits s (failing f)).state
left_untouched s f = left_by_untouched f s.groups s refl

undoing_untouched : (s : TurnStateView) (e : ExitView) → undoes e ≡ true → IsUntouched s (exits s e).state
undoing_untouched s (failing f) is = left_untouched s f
undoing_untouched s e is = absurd (cc)

exits_fields : (s : TurnStateView) (e : ExitView) → (exits s e).state.fields ≡ s.fields
exits_fields s (failing f) = left_by_fields f s.groups s
exits_fields s e = refl

-- a fault that leaves a frame is seen, also where a group is closed first
undone_by : (s : TurnStateView) (f : Fault) → SaysUndone (Some f) → IsUndone (exits s (failing f))
undone_by s f says = subst SaysUndone (sym (left_by_fault f s.groups s)) says

says_of : (s : TurnStateView) (f : Fault) → IsUndone (exits s (failing f)) → SaysUndone (Some f)
says_of s f undone = subst SaysUndone (left_by_fault f s.groups s) undone

-- what undoes its turn says so
undoes_says : (s : TurnStateView) (e : ExitView) → undoes e ≡ true → IsUndone (exits s e)
undoes_says s (failing Overflow) is = undone_by s Overflow tt
undoes_says s (failing Steps) is = undone_by s Steps tt
undoes_says s (failing Tasks) is = undone_by s Tasks tt
undoes_says s (failing Isolation) is = undone_by s Isolation tt
undoes_says s e is = absurd (cc)

-- the ends of statements: none closes a group with a fault, or has the fault of an invariant
abbrev IsPlain : ExitView → Type 0
IsPlain (closing g (Some f)) = ⊥
IsPlain (failing Invariant) = ⊥
IsPlain e = Unit {0}

abbrev PlainNext : AfterStatement → Type 0
PlainNext (goes s) = Unit {0}
PlainNext (leaves s e) = IsPlain e

value_plain : (v : Option ℤ) (s : TurnStateView) (go : ℤ → AfterStatement) → ((x : ℤ) → PlainNext (go x)) → PlainNext (with_value v s go)
value_plain None s go h = tt
value_plain (Some x) s go h = h x

invocation_plain : (i : Option InvocationView) (s : TurnStateView) (go : InvocationView → AfterStatement) → ((x : InvocationView) → PlainNext (go x)) → PlainNext (with_invocation i s go)
invocation_plain None s go h = tt
invocation_plain (Some x) s go h = h x

if_plain : (b : Bool) (a c : AfterStatement) → PlainNext a → PlainNext c → PlainNext (if b then a else c)
if_plain true a c h k = h
if_plain false a c h k = k

make_plain : (e : EffectView) (h : Option ℕ) (rest : Code) (s : TurnStateView) → PlainNext (Turn.make e h rest s)
make_plain e h rest s = if_plain (nat_lt 0 s.room) _ _ (if_plain (nat_lt s.made (2 ^ 32)) _ _ tt tt) tt

add_plain : (e : EffectView) (rest : Code) (s : TurnStateView) → PlainNext (Turn.add_child e rest s)
add_plain e rest s = if_plain (nat_lt 0 s.room) _ _ tt tt

close_plain : (gs : List ℕ) (rest : Code) (s : TurnStateView) → PlainNext (Turn.close_group gs rest s)
close_plain [] rest s = tt
close_plain (g ∷ gs) rest s = tt

wait_plain : (g : TurnInputView) (w : Wanted) (rest : Code) (s : TurnStateView) → PlainNext (Turn.wait_for g w rest s)
wait_plain g (code.call c) rest s = invocation_plain (Turn.invoked c (evs c.args (scene g s))) s _ (λ i. tt)
wait_plain g w rest s = tt

perform_plain : (g : TurnInputView) (d : Operation) (rest : Code) (s : TurnStateView) → PlainNext (perform g d rest s)
perform_plain g (code.set_variable x t) rest s = value_plain (ev t (scene g s)) s _ (λ v. tt)
perform_plain g (code.set_field p t) rest s = value_plain (ev t (scene g s)) s _ (λ v. tt)
perform_plain g (code.return t) rest s = value_plain (ev t (scene g s)) s _ (λ v. tt)
perform_plain g (code.throw t) rest s = value_plain (ev t (scene g s)) s _ (λ v. tt)
perform_plain g code.check rest s = if_plain g.env.cancelled _ _ tt tt
perform_plain g (code.wait w) rest s = wait_plain g w rest s
perform_plain g (code.spawn c p h) rest s = invocation_plain (Turn.invoked c (evs c.args (scene g s))) s _ (λ i. make_plain (Turn.spawning i p (standing g s)) h rest s)
perform_plain g (code.detach c p h) rest s = invocation_plain (Turn.invoked c (evs c.args (scene g s))) s _ (λ i. make_plain (Turn.detaching i p) h rest s)
perform_plain g (code.add h unless c p) rest s = invocation_plain (Turn.invoked c (evs c.args (scene g s))) s _ (λ i. add_plain (Turn.adding (Turn.handle_at s.handles h) unless i p (standing g s)) rest s)
perform_plain g (code.open_group h) rest s = if_plain (nat_lt s.opened (2 ^ 32)) _ _ tt tt
perform_plain g code.close_group rest s = close_plain s.groups rest s
perform_plain g (code.bind l t) rest s = value_plain (ev t (scene g s)) s _ (λ v. tt)
perform_plain g d rest s = tt

act_plain : (g : TurnInputView) (here : NextAction) (s : TurnStateView) → PlainNext (act g here s)
act_plain g ends s = tt
act_plain g (does d rest) s = perform_plain g d rest s
act_plain g (tests t held failed) s = value_plain (ev t (scene g s)) s _ (λ v. tt)

end_plain : (x : AfterStatement) → PlainNext x → IsPlain (end_of x).exit
end_plain (goes s) plain = tt
end_plain (leaves s e) plain = plain

limit_plain : (here : NextAction) (s : TurnStateView) → PlainNext (at_limit here s)
limit_plain ends s = tt
limit_plain (does code.close_group rest) s = close_plain s.groups rest s
limit_plain here s = tt

on_plain : (x : AfterStatement) (go : TurnStateView → Played) → PlainNext x → ((s : TurnStateView) → IsPlain (go s).exit) → IsPlain (on x go).exit
on_plain (goes s) go plain h = h s
on_plain (leaves s e) go plain h = plain

turn_plain : (g : TurnInputView) (n : ℕ) (s : TurnStateView) → IsPlain (turn g n s).exit
unfolding turn
turn_plain g zero s = let at = settled s.todo s in end_plain (at_limit (first at.todo) at) (limit_plain (first at.todo) at)
turn_plain g (suc n) s = let at = settled s.todo s in on_plain (act g (first at.todo) at) (turn g n) (act_plain g (first at.todo) at) (turn_plain g n)

-- a resume that ends its turn does so with a fault, and before any statement
abbrev RefusedNext : TurnStateView → AfterStatement → Type 0
RefusedNext s (goes s') = Unit {0}
RefusedNext s (leaves s' e) = (f : Fault) × (s' ≡ s) × (e ≡ failing f)

value_refused : (v : Option ℤ) (s : TurnStateView) (go : ℤ → AfterStatement) → ((x : ℤ) → RefusedNext s (go x)) → RefusedNext s (with_value v s go)
value_refused None s go h = (Overflow, refl, refl)
value_refused (Some x) s go h = h x

caught_refused : (g : TurnInputView) (f : Fault) (other : Option Term) (s : TurnStateView) (go : ℤ → AfterStatement) → ((x : ℤ) → RefusedNext s (go x)) → RefusedNext s (caught g f other s go)
caught_refused g Turns other s go h = (Turns, refl, refl)
caught_refused g f None s go h = (f, refl, refl)
caught_refused g f (Some t) s go h = value_refused (ev t (scene g s)) s go h

raised_refused : (resume : Resume) (s : TurnStateView) → RefusedNext s (raised_by resume s)
raised_refused (Raise f) s = (f, refl, refl)
raised_refused resume s = tt

by_refused : (g : TurnInputView) (here : NextAction) (resume : Resume) (s : TurnStateView) → RefusedNext s (taken_by g here resume s)
by_refused g (does (code.receive place other) rest) Start s = tt
by_refused g (does (code.receive place other) rest) Go s = tt
by_refused g (does (code.receive place other) rest) (Value v) s = tt
by_refused g (does (code.receive place other) rest) (Raise f) s = caught_refused g f other s (given place rest s) (λ x. tt)
by_refused g here resume s = raised_refused resume s

taken_refused : (g : TurnInputView) (pending : Option Fault) (here : NextAction) (resume : Resume) (s : TurnStateView) → RefusedNext s (taken g pending here resume s)
taken_refused g None here resume s = by_refused g here resume s
taken_refused g (Some f) here resume s = (f, refl, refl)

-- a whole turn ends as its statements do, or with a fault before any of them
abbrev Ends : TurnStateView → Played → Type 0
Ends s p = IsPlain p.exit ⊎ ((f : Fault) × (p.state ≡ s) × (p.exit ≡ failing f))

on_ends : (s : TurnStateView) (x : AfterStatement) (go : TurnStateView → Played) → RefusedNext s x → ((s' : TurnStateView) → IsPlain (go s').exit) → Ends s (on x go)
on_ends s (goes s') go refused h = inl (h s')
on_ends s (leaves s' e) go refused h = inr refused

whole_ends : (g : TurnInputView) (n : ℕ) (s : TurnStateView) (resume : Resume) → Ends s (whole_turn g n s resume)
whole_ends g n s resume =
    on_ends s (taken g s.pending (first s.todo) resume s) (turn g n) (taken_refused g s.pending (first s.todo) resume s) (turn_plain g n)

-- an end of statements that says that its turn was undone undoes it
plain_undoes : (s : TurnStateView) (e : ExitView) → IsPlain e → IsUndone (exits s e) → undoes e ≡ true
plain_undoes s (failing Overflow) plain undone = refl
plain_undoes s (failing Steps) plain undone = refl
plain_undoes s (failing Tasks) plain undone = refl
plain_undoes s (failing Isolation) plain undone = refl
plain_undoes s (failing Invariant) plain undone = absurd plain
plain_undoes s (failing (Thrown v)) plain undone = absurd (says_of s (Thrown v) undone)
plain_undoes s (failing Cancelled) plain undone = absurd (says_of s Cancelled undone)
plain_undoes s (failing Turns) plain undone = absurd (says_of s Turns undone)
plain_undoes s (failing Depth) plain undone = absurd (says_of s Depth undone)
plain_undoes s (failing Empty) plain undone = absurd (says_of s Empty undone)
plain_undoes s (closing g (Some f)) plain undone = absurd plain
plain_undoes s (closing g None) plain undone = absurd undone
plain_undoes s e plain undone = absurd undone

-- where all invariants hold, each of them does
and_true : (a b : Bool) → (if a then b else false) ≡ true → (a ≡ true) × (b ≡ true)
and_true true b h = (refl, h)
and_true false b h = absurd (cc)

each_holds : (invariants : List Term) (fields : List (List ℤ)) → all_hold invariants fields ≡ true → AllHold invariants fields
each_holds [] fields h t is = absurd (omega (arith, is.1))
each_holds (x ∷ xs) fields h t (zero, below, same) = subst (λ (y : Term). holds (Some y) fields ≡ true) same (and_true (holds (Some x) fields) (all_hold xs fields) h).0
each_holds (x ∷ xs) fields h t (suc k, below, same) = each_holds xs fields (and_true (holds (Some x) fields) (all_hold xs fields) h).1 t (k, omega arith, same)

-- an invariant after what is kept, by whether the end undoes the turn, and whether the invariants hold after it
invariant_by : (invariants : List Term) (t : Term) (before : TurnStateView) (after : Played) (undone good : Bool) → undoes after.exit ≡ undone → all_hold invariants after.state.fields ≡ good
    → Contains invariants t → IsTrue (holds (Some t) before.fields) → IsTrue (holds (Some t) (kept_of invariants before after).state.fields)
invariant_by invariants t before after true good u h is held = rw u (ap (holds (Some t)) (exits_fields before after.exit) ∙ held)
invariant_by invariants t before after false true u h is held = rw (u, h) (ap (holds (Some t)) (exits_fields after.state after.exit) ∙ each_holds invariants after.state.fields h t is)
invariant_by invariants t before after false false u h is held = rw (u, h) (ap (holds (Some t)) (exits_fields before (failing Invariant)) ∙ held)

pub invariants_kept : (g : TurnInputView) (n : ℕ) (invariants : List Term) (s : TurnStateView) (resume : Resume) (t : Term)
    → Contains invariants t → IsTrue (holds (Some t) s.fields) → IsTrue (holds (Some t) (kept g n invariants s resume).state.fields)
invariants_kept g n invariants s resume t is held =
    let after = whole_turn g n s resume in
    invariant_by invariants t s after (undoes after.exit) (all_hold invariants after.state.fields) refl refl is held

-- what is kept, where its end says that the turn was undone
untouched_by : (invariants : List Term) (before : TurnStateView) (after : Played) (undone good : Bool) → Ends before after → undoes after.exit ≡ undone → all_hold invariants after.state.fields ≡ good
    → IsUndone (kept_of invariants before after) → IsUntouched before (kept_of invariants before after).state
untouched_by invariants before after true good how u h is = rw u (undoing_untouched before after.exit u)
untouched_by invariants before after false true (inl plain) u h is =
    let says : IsUndone (exits after.state after.exit) = rw (u, h) at is in
    let undoing = plain_undoes after.state after.exit plain says in
    let never : true ≡ false = sym undoing ∙ u in
    absurd (cc)
untouched_by invariants before after false true (inr refused) u h is =
    let at : IsUntouched after.state (exits after.state after.exit).state =
    subst (λ (e : ExitView). IsUntouched after.state (exits after.state e).state) (sym refused.2) (left_untouched after.state refused.0) in
    let here : IsUntouched before (exits after.state after.exit).state = subst (λ (s : TurnStateView). IsUntouched s (exits after.state after.exit).state) refused.1 at in
    rw (u, h) here
untouched_by invariants before after false false how u h is = rw (u, h) (left_untouched before Invariant)

pub undone_changes_nothing : (g : TurnInputView) (n : ℕ) (invariants : List Term) (s : TurnStateView) (resume : Resume)
    → IsUndone (kept g n invariants s resume) → IsUntouched s (kept g n invariants s resume).state
undone_changes_nothing g n invariants s resume is =
    let after = whole_turn g n s resume in
    untouched_by invariants s after (undoes after.exit) (all_hold invariants after.state.fields) (whole_ends g n s resume) refl refl is

-- what is kept, where its end doesn't say that the turn was undone
others_by : (invariants : List Term) (before : TurnStateView) (after : Played) (undone good : Bool) → undoes after.exit ≡ undone → all_hold invariants after.state.fields ≡ good
    → (IsUndone (kept_of invariants before after) → ⊥)
    → (kept_of invariants before after ≡ exits after.state after.exit) × AllHold invariants (kept_of invariants before after).state.fields
others_by invariants before after true good u h never = absurd (never (rw u (undoes_says before after.exit u)))
others_by invariants before after false true u h never =
    rw (u, h) (refl, λ t is. ap (holds (Some t)) (exits_fields after.state after.exit) ∙ each_holds invariants after.state.fields h t is)
others_by invariants before after false false u h never = absurd (never (rw (u, h) (undone_by before Invariant tt)))

pub others_are_kept : (g : TurnInputView) (n : ℕ) (invariants : List Term) (s : TurnStateView) (resume : Resume)
    → (IsUndone (kept g n invariants s resume) → ⊥)
    → (kept g n invariants s resume ≡ exits (whole_turn g n s resume).state (whole_turn g n s resume).exit)
    × AllHold invariants (kept g n invariants s resume).state.fields
others_are_kept g n invariants s resume never =
    let after = whole_turn g n s resume in
    others_by invariants s after (undoes after.exit) (all_hold invariants after.state.fields) refl refl never
