-- The bindings in the effects of a turn.
use Rattle.swift_laws.proofs.Prelude.{◌≡◌, ℕ, zero, suc, ℤ, Bool, true, false, List, [], ◌∷◌, ◌++◌, length, inl, inr, refl, sym, ap, arith, ◌∙◌, ◌⊎◌, nat_lt, ◌^◌, length-append, STEPS, Fault, Turns, Resume, Start, Go, Value, Term, Operation, Wanted, Code, ev, evs, NumberPlace, Variable, ScriptView, executor_invariants, actor_executor, method_actor, TurnStateView, TurnInputView, InvocationView, EffectView, ExitView, failing, AfterStatement, goes, leaves, Played, scene, standing, with_value, with_invocation, given, perform, settled, at_limit, on, end_of, caught, raised_by, taken_by, whole_turn, left_by, exits, kept, RecordView, state_at, IsLegal, ReportView, fields_of, IsRecord, GoesOn, Passes, HandsOn, IsHandedOn}
use Rattle.std.proofs.Common.{if◌then◌else◌, Option, Some, None}
use Rattle.swift_types.specs.declared.outcome.Resume.TheVariants.{Fault as Raise}
use Rattle.script_code.specs.Tree as code
use Rattle.script_code.specs.Instructions.{NextAction, first, ends, does, tests}
use Rattle.script_code.specs.declared.instruction.Cancelled.{Cancelled as Subject}
use Rattle.script_code.specs.declared.instruction.Cancelled.TheVariants as subject
use Rattle.swift_interpreter.specs.Turn
use Rattle.swift_interpreter.specs.Turn.{act, turn, taken}
use Rattle.swift_laws.proofs.HistoriesMade.{in_order}
use Rattle.swift_laws.proofs.HistoriesSplit.{at_record}

-- a statement leaves the effects, or has one of its own, which hands on what stands there
record Adds (standing : List (ℕ × ℤ)) (before after : List EffectView) : Type 0 where
  effect : EffectView
  more : after ≡ before ++ effect ∷ []
  hands_on : HandsOn standing effect

abbrev Step : List (ℕ × ℤ) → List EffectView → AfterStatement → Type 0
Step standing before (goes s) = (s.effects ≡ before) ⊎ Adds standing before s.effects
Step standing before (leaves s e) = s.effects ≡ before

value_steps : (x : List (ℕ × ℤ)) (v : Option ℤ) (s : TurnStateView) (go : ℤ → AfterStatement) → ((y : ℤ) → Step x s.effects (go y)) → Step x s.effects (with_value v s go)
value_steps x None s go k = refl
value_steps x (Some y) s go k = k y

invocation_steps : (x : List (ℕ × ℤ)) (i : Option InvocationView) (s : TurnStateView) (go : InvocationView → AfterStatement) → ((y : InvocationView) → Step x s.effects (go y)) → Step x s.effects (with_invocation i s go)
invocation_steps x None s go k = refl
invocation_steps x (Some y) s go k = k y

if_steps : (x : List (ℕ × ℤ)) (before : List EffectView) (b : Bool) (n m : AfterStatement) → Step x before n → Step x before m → Step x before (if b then n else m)
if_steps x before true n m p q = p
if_steps x before false n m p q = q

given_steps : (x : List (ℕ × ℤ)) (place : Option NumberPlace) (rest : Code) (s : TurnStateView) (v : ℤ) → Step x s.effects (given place rest s v)
given_steps x (Some (Variable y)) rest s v = inl refl
given_steps x _ rest s v = inl refl

make_steps : (x : List (ℕ × ℤ)) (e : EffectView) (handle : Option ℕ) (rest : Code) (s : TurnStateView) → HandsOn x e → Step x s.effects (Turn.make e handle rest s)
make_steps x e handle rest s on = if_steps x s.effects (nat_lt 0 s.room) _ _ (if_steps x s.effects (nat_lt s.made (2 ^ 32)) _ _ (inr (record { effect = e; more = refl; hands_on = on })) refl) refl

add_steps : (x : List (ℕ × ℤ)) (e : EffectView) (rest : Code) (s : TurnStateView) → HandsOn x e → Step x s.effects (Turn.add_child e rest s)
add_steps x e rest s on = if_steps x s.effects (nat_lt 0 s.room) _ _ (inr (record { effect = e; more = refl; hands_on = on })) refl

close_steps : (x : List (ℕ × ℤ)) (gs : List ℕ) (rest : Code) (s : TurnStateView) → Step x s.effects (Turn.close_group gs rest s)
close_steps x [] rest s = inl refl
close_steps x (g ∷ gs) rest s = refl

wait_steps : (g : TurnInputView) (w : Wanted) (rest : Code) (s : TurnStateView) → Step (standing g s) s.effects (Turn.wait_for g w rest s)
wait_steps g (code.call c) rest s = invocation_steps (standing g s) (Turn.invoked c (evs c.args (scene g s))) s _ (λ i. refl)
wait_steps g _ rest s = refl

cancel_on : (x : List (ℕ × ℤ)) (handles : List ℕ) (c : Subject) → HandsOn x (Turn.cancel_of handles c)
cancel_on x handles (subject.Group y) = tt
cancel_on x handles _ = tt

perform_steps : (g : TurnInputView) (d : Operation) (rest : Code) (s : TurnStateView) → Step (standing g s) s.effects (perform g d rest s)
perform_steps g (code.set_variable x t) rest s = value_steps (standing g s) (ev t (scene g s)) s _ (λ v. inl refl)
perform_steps g (code.set_field p t) rest s = value_steps (standing g s) (ev t (scene g s)) s _ (λ v. inl refl)
perform_steps g (code.return t) rest s = value_steps (standing g s) (ev t (scene g s)) s _ (λ v. refl)
perform_steps g (code.throw t) rest s = value_steps (standing g s) (ev t (scene g s)) s _ (λ v. refl)
perform_steps g code.check rest s = if_steps (standing g s) s.effects g.env.cancelled _ _ refl (inl refl)
perform_steps g code.yield rest s = refl
perform_steps g (code.wait w) rest s = wait_steps g w rest s
perform_steps g (code.receive place other) rest s = given_steps (standing g s) place rest s _
perform_steps g (code.spawn c p handle) rest s = invocation_steps (standing g s) (Turn.invoked c (evs c.args (scene g s))) s _ (λ i. make_steps (standing g s) (Turn.spawning i p (standing g s)) handle rest s refl)
perform_steps g (code.detach c p handle) rest s = invocation_steps (standing g s) (Turn.invoked c (evs c.args (scene g s))) s _ (λ i. make_steps (standing g s) (Turn.detaching i p) handle rest s tt)
perform_steps g (code.add x unless c p) rest s =
    invocation_steps (standing g s) (Turn.invoked c (evs c.args (scene g s))) s _ (λ i. add_steps (standing g s) (Turn.adding (Turn.handle_at s.handles x) unless i p (standing g s)) rest s refl)
perform_steps g (code.cancel c) rest s = inr (record { effect = Turn.cancel_of s.handles c; more = refl; hands_on = cancel_on (standing g s) s.handles c })
perform_steps g (code.open_group x) rest s = if_steps (standing g s) s.effects (nat_lt s.opened (2 ^ 32)) _ _ (inr (record { effect = Turn.opening; more = refl; hands_on = tt })) refl
perform_steps g code.close_group rest s = close_steps (standing g s) s.groups rest s
perform_steps g (code.bind l t) rest s = value_steps (standing g s) (ev t (scene g s)) s _ (λ v. inl refl)
perform_steps g code.unbind rest s = inl refl
perform_steps g code.assume rest s = inl refl
perform_steps g code.isolated rest s = refl

act_steps : (g : TurnInputView) (here : NextAction) (s : TurnStateView) → Step (standing g s) s.effects (act g here s)
act_steps g ends s = refl
act_steps g (does d rest) s = perform_steps g d rest s
act_steps g (tests t held failed) s = value_steps (standing g s) (ev t (scene g s)) s _ (λ v. inl refl)

settled_effects : (c : Code) (s : TurnStateView) → (settled c s).effects ≡ s.effects
settled_effects (code.act code.unbind rest) s = settled_effects rest _
settled_effects c s = refl

-- the end of the steps adds none

close_limit : (gs : List ℕ) (rest : Code) (s : TurnStateView) → (end_of (Turn.close_group gs rest s)).state.effects ≡ s.effects
close_limit [] rest s = refl
close_limit (g ∷ gs) rest s = refl

limit_effects : (here : NextAction) (s : TurnStateView) → (end_of (at_limit here s)).state.effects ≡ s.effects
limit_effects (does code.close_group rest) s = close_limit s.groups rest s
limit_effects _ s = refl

-- an effect of a turn is that of a statement at which the turn has the effects before it

record DoneAt (g : TurnInputView) (P : TurnStateView → Type 0) (before : List EffectView) (x : EffectView) : Type 0 where
  at : TurnStateView
  passes : P at
  has : at.effects ≡ before
  adds : GoesOn (act g (first at.todo) at) (λ s. s.effects ≡ before ++ x ∷ [])
  hands_on : HandsOn (at.own ++ g.outer) x

-- an effect of a longer list is one of the first part, or the last one
last_or_before : (before : List EffectView) (x : EffectView) (after : List EffectView) (xs : List EffectView) (y : EffectView) → xs ++ y ∷ [] ≡ before ++ x ∷ after
    → ((before ≡ xs) × (x ≡ y)) ⊎ ((rest : List EffectView) × (xs ≡ before ++ x ∷ rest))
last_or_before before x after xs y is = elim (in_order before x after xs y [] (sym is)) [
  | inl same ↦ inl same
  | inr (inl more) ↦ inr more
  | inr (inr less) ↦ absurd
      (let long = ap length is in
      omega (arith, long, length-append xs (y ∷ []), length-append before (x ∷ after), ap length less.1 ∙ length-append xs (y ∷ less.0)))
]

abbrev HasEffect : List EffectView → List EffectView → EffectView → Type 0
HasEffect effects before x = (after : List EffectView) × (effects ≡ before ++ x ∷ after)

abbrev Done : TurnInputView → (TurnStateView → Type 0) → List EffectView → List EffectView → Type 0
Done g P first_effects effects = (before : List EffectView) (x : EffectView) (after : List EffectView) → effects ≡ before ++ x ∷ after → HasEffect first_effects before x ⊎ DoneAt g P before x

step_done : (g : TurnInputView) (n : ℕ) (at : TurnStateView) (first_effects : List EffectView) (next : AfterStatement) (P : TurnStateView → Type 0) → act g (first at.todo) at ≡ next → at.effects ≡ first_effects → P at → ((y : TurnStateView) → GoesOn next (λ m. Passes g n m y) → P y)
    → ((m : TurnStateView) → Done g (Passes g n m) m.effects (turn g n m).state.effects) → Step (standing g at) at.effects next → Done g P first_effects (on next (turn g n)).state.effects
step_done g n at es (leaves s e) P acts same here later rest steps before x after is = inl (after, sym same ∙ sym steps ∙ is)
step_done g n at es (goes m) P acts same here later rest (inl none) before x after is = grind arith
step_done g n at es (goes m) P acts same here later rest (inr adds) before x after is = grind (arith, last_or_before)

turn_done : (g : TurnInputView) (n : ℕ) (s : TurnStateView) → Done g (Passes g n s) s.effects (turn g n s).state.effects
unfolding turn
turn_done g zero s = λ before x after is. inl (after, sym (settled_effects s.todo s) ∙ sym (limit_effects (first (settled s.todo s).todo) (settled s.todo s)) ∙ is)
turn_done g (suc n) s =
    let at = settled s.todo s in
    step_done g n at s.effects (act g (first at.todo) at) (Passes g (suc n) s) refl (settled_effects s.todo s) (inl refl) (λ y goes_on. inr goes_on) (turn_done g n) (act_steps g (first at.todo) at)

-- the resume adds none

abbrev SameEffects : List EffectView → AfterStatement → Type 0
SameEffects es (goes s) = s.effects ≡ es
SameEffects es (leaves s e) = s.effects ≡ es

given_same : (place : Option NumberPlace) (rest : Code) (s : TurnStateView) (v : ℤ) → SameEffects s.effects (given place rest s v)
given_same (Some (Variable y)) rest s v = refl
given_same _ rest s v = refl

value_same : (v : Option ℤ) (s : TurnStateView) (go : ℤ → AfterStatement) → ((y : ℤ) → SameEffects s.effects (go y)) → SameEffects s.effects (with_value v s go)
value_same None s go k = refl
value_same (Some y) s go k = k y

caught_same : (g : TurnInputView) (f : Fault) (other : Option Term) (s : TurnStateView) (go : ℤ → AfterStatement) → ((y : ℤ) → SameEffects s.effects (go y)) → SameEffects s.effects (caught g f other s go)
caught_same g Turns other s go k = refl
caught_same g f None s go k = refl
caught_same g f (Some t) s go k = value_same (ev t (scene g s)) s go k

raised_same : (resume : Resume) (s : TurnStateView) → SameEffects s.effects (raised_by resume s)
raised_same (Raise f) s = refl
raised_same resume s = refl

by_same : (g : TurnInputView) (here : NextAction) (resume : Resume) (s : TurnStateView) → SameEffects s.effects (taken_by g here resume s)
by_same g (does (code.receive place other) rest) Start s = given_same place rest s _
by_same g (does (code.receive place other) rest) Go s = given_same place rest s _
by_same g (does (code.receive place other) rest) (Value v) s = given_same place rest s v
by_same g (does (code.receive place other) rest) (Raise f) s = caught_same g f other s (given place rest s) (λ y. given_same place rest s y)
by_same g here resume s = raised_same resume s

taken_same : (g : TurnInputView) (pending : Option Fault) (here : NextAction) (resume : Resume) (s : TurnStateView) → SameEffects s.effects (taken g pending here resume s)
taken_same g None here resume s = by_same g here resume s
taken_same g (Some f) here resume s = refl

on_done : (g : TurnInputView) (n : ℕ) (es : List EffectView) (next : AfterStatement) → SameEffects es next → Done g (λ at. GoesOn next (λ m. Passes g n m at)) es (on next (turn g n)).state.effects
on_done g n es (leaves s e) same before x after is = inl (after, sym same ∙ is)
on_done g n es (goes m) same before x after is = grind (arith, turn_done)

-- what is kept of a turn

left_effects : (f : Fault) (gs : List ℕ) (s : TurnStateView) → (left_by f gs s).state.effects ≡ s.effects
left_effects f [] s = refl
left_effects f (g ∷ gs) s = refl

exits_effects : (s : TurnStateView) (e : ExitView) → (exits s e).state.effects ≡ s.effects
exits_effects s (failing f) = left_effects f s.groups s
exits_effects s e = refl

abbrev OneOf : List EffectView → List EffectView → List EffectView → Type 0
OneOf xs ys zs = (zs ≡ xs) ⊎ (zs ≡ ys)

if_one : (xs ys : List EffectView) (b : Bool) (p q : Played) → OneOf xs ys p.state.effects → OneOf xs ys q.state.effects → OneOf xs ys (if b then p else q).state.effects
if_one xs ys true p q h k = h
if_one xs ys false p q h k = k

kept_one : (g : TurnInputView) (n : ℕ) (invariants : List Term) (s : TurnStateView) (resume : Resume) → OneOf s.effects (whole_turn g n s resume).state.effects (kept g n invariants s resume).state.effects
kept_one g n invariants s resume = grind (arith, if_one, exits_effects)

no_effect : (before : List EffectView) (x : EffectView) (after : List EffectView) → ◌≡◌ {A = List EffectView} [] (before ++ x ∷ after) → ⊥
no_effect before x after is = let a = ap length is in let b = length-append before (x ∷ after) in omega (arith, a, b)

kept_done : (g : TurnInputView) (n : ℕ) (invariants : List Term) (s : TurnStateView) (resume : Resume) (before : List EffectView) (x : EffectView) (after : List EffectView) → s.effects ≡ [] → (kept g n invariants s resume).state.effects ≡ before ++ x ∷ after
    → DoneAt g (λ at. GoesOn (taken g s.pending (first s.todo) resume s) (λ m. Passes g n m at)) before x
kept_done g n invariants s resume before x after none is = elim (kept_one g n invariants s resume) [
  | inl undone ↦ absurd (no_effect before x after (sym none ∙ sym undone ∙ is))
  | inr whole ↦ (elim (on_done g n s.effects (taken g s.pending (first s.todo) resume s) (taken_same g s.pending (first s.todo) resume s) before x after (sym whole ∙ is)) [
    | inl has ↦ absurd (no_effect before x has.0 (sym none ∙ has.1))
    | inr done ↦ done
  ])
]

pub handed_on : (script : ScriptView) (report : ReportView) (e i : ℕ) (r : RecordView) (before : List EffectView) (x : EffectView) (after : List EffectView)
    → IsLegal script report → IsRecord report e i r → r.effects ≡ before ++ x ∷ after → IsHandedOn script r before x
handed_on script report e i r before x after legal is parts =
    let s = at_record script report legal e i r is in
    let fields = fields_of script report.checkpoints e s.front in
    let lawful = s.stands.lawful in
    let done = kept_done (record { outer = r.outer; env = r.env }) STEPS (executor_invariants script (actor_executor script (method_actor script r.frame.method))) (state_at script r.frame fields [] r.env.room) r.resume
    before x after refl (sym lawful.effects ∙ parts) in
    record { fields = fields; lawful = lawful; at = done.at; passes = done.passes; has = done.has; adds = done.adds; hands_on = done.hands_on }
