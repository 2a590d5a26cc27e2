-- A turn that looks away plays the same in each environment with the same room, and, where it is settled, with the same flag.
use Rattle.swift_reordering.proofs.Prelude.{◌≡◌, ℕ, zero, suc, ℤ, List, [], ◌∷◌, ◌++◌, refl, ◌∙◌, ap, ap₂, subst, Bool, true, false, Option, Some, None, ◌||◌, is_some, pos, if◌then◌else◌, nat_lt, ◌^◌, neg_ℤ, AllByRecursion, Fault, Turns, Invariant, Resume, Start, Go, Value, STEPS, Priority, Env, Term, CallTarget, Wanted, Operation, Code, Scene, and_then, joined, ev, evs, in_front, is_zero, flag, within, NextAction, first, ends, does, tests, NumberPlace, Variable, Field, ScriptView, FrameView, InvocationView, EffectView, spawning, opening, ExitView, failing, TurnStateView, TurnInputView, AfterStatement, goes, leaves, Played, standing, scene, with_value, invoked, with_invocation, given, make, close_group, wait_for, perform, act, settled, at_limit, on, end_of, caught, raised_by, taken_by, whole_turn, left_by, exits, undoes, all_hold, kept_of, kept, kept_turn, invariants_at, state_at, all_append, both, term_looks_away, terms_look_away, term_if_looks_away, wanted_looks_away, operation_looks_away, code_looks_away, frame_looks_away, ends_turn, Cancelled}
use Rattle.swift_types.specs.declared.outcome.Fault.TheVariants.{Cancelled as WasCancelled}
use Rattle.swift_types.specs.declared.outcome.Resume.TheVariants.{Fault as Raise}
use Rattle.script_code.specs.Tree as code
use Rattle.swift_interpreter.specs.Turn.{turn, taken}
use Rattle.swift_interpreter.specs.Turn as Turn
use Rattle.swift_reordering.proofs.SeenEnds.{TakesNone}
use Rattle.swift_reordering.proofs.Statements.{FirstIs, first_is}
use Rattle.script_code.specs.declared.instruction.Cancelled.TheVariants as subject

-- expressions

module _ (cancelled : Bool) (variables : List ℤ) (fields : List (List ℤ)) (bindings : List (ℕ × ℤ)) (env other : Env) (told : cancelled ≡ true → env.cancelled ≡ other.cancelled) where
  abbrev here : Env → Scene
  here e = record { variables = variables; fields = fields; bindings = bindings; env = e }

  same_value : (t : Term) → term_looks_away cancelled t ≡ true → ev t (here env) ≡ ev t (here other)
  same_value code.priority away = absurd (cc away)
  same_value code.cancelled away = ap (λ (b : Bool). Some (flag b)) (told away)
  same_value (code.opposite t) away = ap (λ (o : Option ℤ). and_then o (λ x. within (neg_ℤ x))) (same_value t away)
  same_value (code.denial t) away = ap (λ (o : Option ℤ). and_then o (λ x. Some (flag (is_zero x)))) (same_value t away)
  same_value (code.binary op a b) away =
      let parts = both (term_looks_away cancelled a) (term_looks_away cancelled b) away in
      ap₂ (λ (o u : Option ℤ). and_then o (λ x. joined op x u)) (same_value a parts.0) (same_value b parts.1)
  same_value _ away = refl

  same_values : (ts : List Term) → terms_look_away cancelled ts ≡ true → evs ts (here env) ≡ evs ts (here other)
  same_values [] away = refl
  same_values (t ∷ ts) away =
      let parts = both (term_looks_away cancelled t) (terms_look_away cancelled ts) away in
      ap₂ in_front (same_value t parts.0) (same_values ts parts.1)

module _ (cancelled : Bool) where
  abbrev IsAway : Code → Type 0
  IsAway c = code_looks_away cancelled c ≡ true

  -- what is left to do looks away, and no effect so far takes the priority of the turn

  abbrev LooksAway : TurnStateView → Type 0
  LooksAway s = (IsAway s.todo) × AllByRecursion TakesNone s.effects

  abbrev GoesAway : AfterStatement → Type 0
  GoesAway (goes s) = LooksAway s
  GoesAway (leaves s e) = AllByRecursion TakesNone s.effects

  -- in both environments the same comes next, and looks away
  abbrev SameNext : AfterStatement → AfterStatement → Type 0
  SameNext x y = (x ≡ y) × GoesAway x

  same_left : (s : TurnStateView) (e : ExitView) → AllByRecursion TakesNone s.effects → SameNext (leaves s e) (leaves s e)
  same_left s e none = (refl, none)

  value_same : (o u : Option ℤ) (s : TurnStateView) (go : ℤ → AfterStatement) → o ≡ u → AllByRecursion TakesNone s.effects → ((v : ℤ) → GoesAway (go v)) → SameNext (with_value o s go) (with_value u s go)
  value_same None u s go same none next = (ap (λ (x : Option ℤ). with_value x s go) same, none)
  value_same (Some v) u s go same none next = (ap (λ (x : Option ℤ). with_value x s go) same, next v)

  invocation_same : (c : CallTarget) (o u : Option (List ℤ)) (s : TurnStateView) (go : InvocationView → AfterStatement) → o ≡ u → AllByRecursion TakesNone s.effects → ((i : InvocationView) → GoesAway (go i))
      → SameNext (with_invocation (invoked c o) s go) (with_invocation (invoked c u) s go)
  invocation_same c None u s go same none next = (ap (λ (x : Option (List ℤ)). with_invocation (invoked c x) s go) same, none)
  invocation_same c (Some vs) u s go same none next = (ap (λ (x : Option (List ℤ)). with_invocation (invoked c x) s go) same, next _)

  given_away : (place : Option NumberPlace) (rest : Code) (s : TurnStateView) (v : ℤ) → IsAway rest → AllByRecursion TakesNone s.effects → GoesAway (given place rest s v)
  given_away None rest s v away none = (away, none)
  given_away (Some (Variable x)) rest s v away none = (away, none)
  given_away (Some (Field p)) rest s v away none = (away, none)

  none_push : (es : List EffectView) (e : EffectView) → AllByRecursion TakesNone es → TakesNone e → AllByRecursion TakesNone (es ++ e ∷ [])
  none_push es e none one = all_append TakesNone es (e ∷ []) none (one, tt)

  room_away : (b : Bool) (s : TurnStateView) (made : AfterStatement) (e : ExitView) → AllByRecursion TakesNone s.effects → GoesAway made → GoesAway (if b then made else leaves s e)
  room_away true s made e none away = away
  room_away false s made e none away = none

  make_away : (e : EffectView) (h : Option ℕ) (rest : Code) (s : TurnStateView) → IsAway rest → AllByRecursion TakesNone s.effects → TakesNone e → GoesAway (make e h rest s)
  make_away e h rest s away none one =
      room_away (nat_lt 0 s.room) s _ _ none (room_away (nat_lt s.made (2 ^ 32)) s _ _ none (away, none_push s.effects e none one))

  check_away : (b : Bool) (rest : Code) (s : TurnStateView) → IsAway rest → AllByRecursion TakesNone s.effects → GoesAway (if b then leaves s (failing WasCancelled) else goes (record s { todo = rest }))
  check_away true rest s away none = none
  check_away false rest s away none = (away, none)

  close_away : (gs : List ℕ) (rest : Code) (s : TurnStateView) → IsAway rest → AllByRecursion TakesNone s.effects → GoesAway (close_group gs rest s)
  close_away [] rest s away none = (away, none)
  close_away (g ∷ gs) rest s away none = none

  spawn_none : (i : InvocationView) (p : Option Priority) (bindings : List (ℕ × ℤ)) → is_some p ≡ true → TakesNone (spawning i p bindings)
  spawn_none i None bindings is = absurd (cc is)
  spawn_none i (Some p) bindings is = refl

  cancel_none : (handles : List ℕ) (c : Cancelled) → TakesNone (Turn.cancel_of handles c)
  cancel_none handles (subject.Root r) = refl
  cancel_none handles _ = refl

  module _ (outer : List (ℕ × ℤ)) (env other : Env) (told : cancelled ≡ true → env.cancelled ≡ other.cancelled) where
    abbrev input : Env → TurnInputView
    input e = record { outer = outer; env = e }

    value_of : (t : Term) (s : TurnStateView) → term_looks_away cancelled t ≡ true → ev t (scene (input env) s) ≡ ev t (scene (input other) s)
    value_of t s away = same_value cancelled s.variables s.fields (standing (input env) s) env other told t away

    values_of : (ts : List Term) (s : TurnStateView) → terms_look_away cancelled ts ≡ true → evs ts (scene (input env) s) ≡ evs ts (scene (input other) s)
    values_of ts s away = same_values cancelled s.variables s.fields (standing (input env) s) env other told ts away

    wait_same : (w : Wanted) (rest : Code) (s : TurnStateView) → wanted_looks_away cancelled w ≡ true → AllByRecursion TakesNone s.effects → SameNext (wait_for (input env) w rest s) (wait_for (input other) w rest s)
    wait_same (code.call c) rest s away none = invocation_same c _ _ s _ (values_of c.args s away) none (λ i. none)
    wait_same _ rest s away none = same_left _ _ none

    perform_same : (d : Operation) (rest : Code) (s : TurnStateView) → operation_looks_away cancelled d ≡ true → (ends_turn d || code_looks_away cancelled rest) ≡ true → AllByRecursion TakesNone s.effects → SameNext (perform (input env) d rest s) (perform (input other) d rest s)
    perform_same (code.set_variable x t) rest s away more none = value_same _ _ s _ (value_of t s away) none (λ v. given_away (Some (Variable x)) rest s v more none)
    perform_same (code.set_field p t) rest s away more none = value_same _ _ s _ (value_of t s away) none (λ v. given_away (Some (Field p)) rest s v more none)
    perform_same (code.return t) rest s away more none = value_same _ _ s _ (value_of t s away) none (λ v. none)
    perform_same (code.throw t) rest s away more none = value_same _ _ s _ (value_of t s away) none (λ v. none)
    perform_same code.check rest s away more none = (ap (λ (b : Bool). if b then leaves s (failing WasCancelled) else goes (record s { todo = rest })) (told away), check_away env.cancelled rest s more none)
    perform_same code.yield rest s away more none = same_left _ _ none
    perform_same (code.wait w) rest s away more none = wait_same w rest s away none
    perform_same (code.receive place o) rest s away more none = (refl, given_away place rest s (pos 0) more none)
    perform_same (code.spawn c p h) rest s away more none =
        let parts = both (is_some p) (terms_look_away cancelled c.args) away in
        invocation_same c _ _ s _ (values_of c.args s parts.1) none (λ i. make_away _ h rest s more none (spawn_none i p _ parts.0))
    perform_same (code.detach c p h) rest s away more none = invocation_same c _ _ s _ (values_of c.args s away) none (λ i. make_away _ h rest s more none refl)
    perform_same (code.add h unless c p) rest s away more none =
        invocation_same c _ _ s _ (values_of c.args s away) none (λ i. room_away (nat_lt 0 s.room) s _ _ none (more, none_push s.effects _ none refl))
    perform_same (code.cancel c) rest s away more none = (refl, (more, none_push s.effects _ none (cancel_none s.handles c)))
    perform_same (code.open_group h) rest s away more none = (refl, room_away (nat_lt s.opened (2 ^ 32)) s _ _ none (more, none_push s.effects opening none refl))
    perform_same code.close_group rest s away more none = (refl, close_away s.groups rest s more none)
    perform_same (code.bind l t) rest s away more none = value_same _ _ s _ (value_of t s away) none (λ v. (more, none))
    perform_same code.unbind rest s away more none = (refl, (more, none))
    perform_same code.assume rest s away more none = (refl, (more, none))
    perform_same code.isolated rest s away more none = same_left _ _ none

    if_away : (b : Bool) (x y : Code) → IsAway x → IsAway y → IsAway (if b then x else y)
    if_away true x y one two = one
    if_away false x y one two = two

    act_same : (here : NextAction) (s : TurnStateView) → FirstIs (operation_looks_away cancelled) (term_looks_away cancelled) here → AllByRecursion TakesNone s.effects → SameNext (act (input env) here s) (act (input other) here s)
    act_same ends s away none = same_left _ _ none
    act_same (does d rest) s away none = perform_same d rest s away.0 away.1 none
    act_same (tests t held failed) s away none = value_same _ _ s _ (value_of t s away.0) none (λ v. (if_away (is_zero v) failed held away.2 away.1, none))

    -- a turn

    settled_away : (c : Code) (s : TurnStateView) → s.todo ≡ c → LooksAway s → LooksAway (settled c s)
    settled_away (code.act code.unbind rest) s is away =
        settled_away rest (record s { todo = rest; own = Turn.tail s.own }) refl (subst (λ (c : Code). IsAway c) is away.0, away.1)
    settled_away c s is away = away

    limit_none : (here : NextAction) (s : TurnStateView) → AllByRecursion TakesNone s.effects → AllByRecursion TakesNone (end_of (at_limit here s)).state.effects
    limit_none ends s none = none
    limit_none (does code.close_group rest) s none = close_none s.groups rest s none where
      close_none : (gs : List ℕ) (rest : Code) (s : TurnStateView) → AllByRecursion TakesNone s.effects → AllByRecursion TakesNone (end_of (close_group gs rest s)).state.effects
      close_none [] rest s none = none
      close_none (g ∷ gs) rest s none = none
    limit_none here s none = none

    abbrev SamePlay : Played → Played → Type 0
    SamePlay x y = (x ≡ y) × AllByRecursion TakesNone x.state.effects

    on_same : (x y : AfterStatement) (go went : TurnStateView → Played) → SameNext x y → ((s : TurnStateView) → LooksAway s → SamePlay (go s) (went s)) → SamePlay (on x go) (on y went)
    on_same (goes s) y go went same next =
        let more = next s same.1 in
        (more.0 ∙ ap (λ (z : AfterStatement). on z went) same.0, more.1)
    on_same (leaves s e) y go went same next = (ap (λ (z : AfterStatement). on z went) same.0, same.1)

    turn_same : (n : ℕ) (s : TurnStateView) → LooksAway s → SamePlay (turn (input env) n s) (turn (input other) n s)
    unfolding turn
    turn_same zero s away = (refl, limit_none _ _ (settled_away s.todo s refl away).1)
    turn_same (suc n) s away =
        let at : TurnStateView = settled s.todo s in
        let is : LooksAway at = settled_away s.todo s refl away in
        on_same (act (input env) (first at.todo) at) (act (input other) (first at.todo) at) (turn (input env) n) (turn (input other) n) (act_same (first at.todo) at (first_is (operation_looks_away cancelled) (term_looks_away cancelled) at.todo is.0) is.1) (turn_same n)

    -- its resume

    caught_same : (f : Fault) (o : Option Term) (s : TurnStateView) (go : ℤ → AfterStatement) → term_if_looks_away cancelled o ≡ true → AllByRecursion TakesNone s.effects → ((v : ℤ) → GoesAway (go v)) → SameNext (caught (input env) f o s go) (caught (input other) f o s go)
    caught_same Turns o s go away none next = same_left _ _ none
    caught_same f None s go away none next = same_left _ _ none
    caught_same f (Some t) s go away none next = value_same _ _ s go (value_of t s away) none next

    raised_away : (resume : Resume) (s : TurnStateView) → LooksAway s → GoesAway (raised_by resume s)
    raised_away (Raise f) s away = away.1
    raised_away resume s away = away

    by_same : (here : NextAction) (resume : Resume) (s : TurnStateView) → FirstIs (operation_looks_away cancelled) (term_looks_away cancelled) here → LooksAway s → SameNext (taken_by (input env) here resume s) (taken_by (input other) here resume s)
    by_same (does (code.receive place o) rest) Start s first away = (refl, given_away place rest s (pos 0) first.1 away.1)
    by_same (does (code.receive place o) rest) Go s first away = (refl, given_away place rest s (pos 0) first.1 away.1)
    by_same (does (code.receive place o) rest) (Value v) s first away = (refl, given_away place rest s v first.1 away.1)
    by_same (does (code.receive place o) rest) (Raise f) s first away = caught_same f o s (given place rest s) first.0 away.1 (λ v. given_away place rest s v first.1 away.1)
    by_same here resume s first away = (refl, raised_away resume s away)

    -- a fault is pending, or what is left to do looks away
    abbrev StartsAway : TurnStateView → Type 0
    StartsAway s = ((is_some s.pending || code_looks_away cancelled s.todo) ≡ true) × AllByRecursion TakesNone s.effects

    taken_same : (pending : Option Fault) (resume : Resume) (s : TurnStateView) → (is_some pending || code_looks_away cancelled s.todo) ≡ true → AllByRecursion TakesNone s.effects
        → SameNext (taken (input env) pending (first s.todo) resume s) (taken (input other) pending (first s.todo) resume s)
    taken_same None resume s away none = by_same (first s.todo) resume s (first_is (operation_looks_away cancelled) (term_looks_away cancelled) s.todo away) (away, none)
    taken_same (Some f) resume s away none = same_left _ _ none

    whole_same : (n : ℕ) (s : TurnStateView) (resume : Resume) → StartsAway s → SamePlay (whole_turn (input env) n s resume) (whole_turn (input other) n s resume)
    whole_same n s resume away =
        on_same (taken (input env) s.pending (first s.todo) resume s) (taken (input other) s.pending (first s.todo) resume s) (turn (input env) n) (turn (input other) n)
        (taken_same s.pending resume s away.0 away.1) (turn_same n)

    -- and what is kept of it

    left_none : (f : Fault) (gs : List ℕ) (s : TurnStateView) → AllByRecursion TakesNone s.effects → AllByRecursion TakesNone (left_by f gs s).state.effects
    left_none f [] s none = none
    left_none f (g ∷ gs) s none = none

    exits_none : (s : TurnStateView) (e : ExitView) → AllByRecursion TakesNone s.effects → AllByRecursion TakesNone (exits s e).state.effects
    exits_none s (failing f) none = left_none f s.groups s none
    exits_none s e none = none

    kept_none : (invariants : List Term) (before : TurnStateView) (after : Played) (undone good : Bool) → undoes after.exit ≡ undone → all_hold invariants after.state.fields ≡ good
        → AllByRecursion TakesNone before.effects → AllByRecursion TakesNone after.state.effects → AllByRecursion TakesNone (kept_of invariants before after).state.effects
    kept_none invariants before after true good u h was none = rw u (exits_none before after.exit was)
    kept_none invariants before after false true u h was none = rw (u, h) (exits_none after.state after.exit none)
    kept_none invariants before after false false u h was none = rw (u, h) (exits_none before (failing Invariant) was)

    kept_same : (n : ℕ) (invariants : List Term) (s : TurnStateView) (resume : Resume) → StartsAway s → SamePlay (kept (input env) n invariants s resume) (kept (input other) n invariants s resume)
    kept_same n invariants s resume away =
        let w = whole_turn (input env) n s resume in
        let same = whole_same n s resume away in
        (ap (kept_of invariants s) same.0, kept_none invariants s w (undoes w.exit) (all_hold invariants w.state.fields) refl refl away.1 same.1)

-- so the kept turn of a frame that looks away is the same in each environment with the same room, and the same flag where it looks at that,
-- and no task that it makes takes its priority
pub same_turn : (script : ScriptView) (cancelled : Bool) (p : FrameView) (outer : List (ℕ × ℤ)) (fields : List (List ℤ)) (resume : Resume) (env other : Env) → frame_looks_away script cancelled p ≡ true → env.room ≡ other.room
    → (cancelled ≡ true → env.cancelled ≡ other.cancelled)
    → (kept_turn script p outer fields resume env ≡ kept_turn script p outer fields resume other) × AllByRecursion TakesNone (kept_turn script p outer fields resume env).state.effects
same_turn script cancelled p outer fields resume env other away room told =
    let both = kept_same cancelled outer env other told STEPS (invariants_at script p) (state_at script p fields [] env.room) resume (away, tt) in
    (both.0 ∙ ap (λ (n : ℕ). kept (record { outer = outer; env = other }) STEPS (invariants_at script p) (state_at script p fields [] n) resume) room, both.1)
