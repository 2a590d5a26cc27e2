-- The turns of a method that neither waits for a root nor cancels it by its name.
use Rattle.swift_reordering.proofs.Prelude.{◌≡◌, ℕ, zero, suc, ℤ, List, [], ◌∷◌, ◌++◌, refl, subst, Bool, true, false, Option, Some, None, ◌&&◌, pos, if◌then◌else◌, nat_lt, ◌^◌, slice_get, unwrap_or, AllByRecursion, false≢true, Fault, Turns, Invariant, Resume, Start, Go, Value, STEPS, Term, CallTarget, Wanted, Operation, Code, followed, entry, stands_for, exchanged, ev, evs, is_zero, NextAction, first, ends, does, tests, NumberPlace, Variable, Field, method_code, InvocationView, EffectView, opening, ExitView, failing, TurnStateView, TurnInputView, AfterStatement, goes, leaves, Played, scene, with_value, invoked, with_invocation, given, make, close_group, wait_for, perform, act, settled, at_limit, on, end_of, caught, raised_by, taken_by, whole_turn, left_by, exits, undoes, all_hold, kept_of, invariants_at, state_at, all_append, both, wanted_spares, cancelled_spares, operation_spares, code_spares, exit_spares, EffectSpares, PlaySpares, TurnsSpare, Cancelled}
use Rattle.swift_types.specs.declared.outcome.Resume.TheVariants.{Fault as Raise}
use Rattle.script_code.specs.Tree as code
use Rattle.script_code.specs.Layout.{code_at}
use Rattle.swift_interpreter.specs.Turn.{turn, taken}
use Rattle.swift_interpreter.specs.Turn as Turn
use Rattle.script_code.specs.declared.instruction.Cancelled.TheVariants as subject

module _ (root : ℕ) where
  -- what is left to do spares the root, and so did the effects so far

  abbrev Names : TurnStateView → Type 0
  Names s = (code_spares root s.todo ≡ true) × AllByRecursion (EffectSpares root) s.effects

  abbrev GoesOn : AfterStatement → Type 0
  GoesOn (goes s) = Names s
  GoesOn (leaves s e) = AllByRecursion (EffectSpares root) s.effects × (exit_spares root e ≡ true)

  value_goes : (o : Option ℤ) (s : TurnStateView) (go : ℤ → AfterStatement) → AllByRecursion (EffectSpares root) s.effects → ((v : ℤ) → GoesOn (go v)) → GoesOn (with_value o s go)
  value_goes None s go none next = (none, refl)
  value_goes (Some v) s go none next = next v

  invocation_goes : (c : CallTarget) (o : Option (List ℤ)) (s : TurnStateView) (go : InvocationView → AfterStatement) → AllByRecursion (EffectSpares root) s.effects → ((i : InvocationView) → GoesOn (go i)) → GoesOn (with_invocation (invoked c o) s go)
  invocation_goes c None s go none next = (none, refl)
  invocation_goes c (Some vs) s go none next = next _

  given_goes : (place : Option NumberPlace) (rest : Code) (s : TurnStateView) (v : ℤ) → code_spares root rest ≡ true → AllByRecursion (EffectSpares root) s.effects → GoesOn (given place rest s v)
  given_goes None rest s v more none = (more, none)
  given_goes (Some (Variable x)) rest s v more none = (more, none)
  given_goes (Some (Field p)) rest s v more none = (more, none)

  effect_push : (es : List EffectView) (e : EffectView) → AllByRecursion (EffectSpares root) es → EffectSpares root e → AllByRecursion (EffectSpares root) (es ++ e ∷ [])
  effect_push es e none one = all_append (EffectSpares root) es (e ∷ []) none (one, tt)

  either_goes : (b : Bool) (s : TurnStateView) (made : AfterStatement) (f : Fault) → AllByRecursion (EffectSpares root) s.effects → GoesOn made → GoesOn (if b then made else leaves s (failing f))
  either_goes true s made f none goes_on = goes_on
  either_goes false s made f none goes_on = (none, refl)

  make_goes : (e : EffectView) (h : Option ℕ) (rest : Code) (s : TurnStateView) → code_spares root rest ≡ true → AllByRecursion (EffectSpares root) s.effects → EffectSpares root e → GoesOn (make e h rest s)
  make_goes e h rest s more none one =
      either_goes (nat_lt 0 s.room) s _ _ none (either_goes (nat_lt s.made (2 ^ 32)) s _ _ none (more, effect_push s.effects e none one))

  close_goes : (gs : List ℕ) (rest : Code) (s : TurnStateView) → code_spares root rest ≡ true → AllByRecursion (EffectSpares root) s.effects → GoesOn (close_group gs rest s)
  close_goes [] rest s more none = (more, none)
  close_goes (g ∷ gs) rest s more none = (none, refl)

  cancel_goes : (handles : List ℕ) (c : Cancelled) → cancelled_spares root c ≡ true → EffectSpares root (Turn.cancel_of handles c)
  cancel_goes handles (subject.Root r) is = is
  cancel_goes handles _ is = refl

  -- joined statements

  joined_true : (a b : Bool) → a ≡ true → b ≡ true → (a && b) ≡ true
  joined_true true b one two = two
  joined_true false b one two = absurd (false≢true one)

  followed_none : (a b : Code) → code_spares root a ≡ true → code_spares root b ≡ true → code_spares root (followed a b) ≡ true
  followed_none code.end b none more = more
  followed_none (code.act d rest) b none more =
      let parts = both (operation_spares root d) (code_spares root rest) none in
      joined_true _ _ parts.0 (followed_none rest b parts.1 more)
  followed_none (code.choice t x y rest) b none more =
      let parts = both (code_spares root x) _ none in
      let two = both (code_spares root y) _ parts.1 in
      joined_true _ _ parts.0 (joined_true _ _ two.0 (followed_none rest b two.1 more))
  followed_none (code.loop t x rest) b none more =
      let parts = both (code_spares root x) _ none in
      joined_true _ _ parts.0 (followed_none rest b parts.1 more)

  -- a statement

  module _ (g : TurnInputView) where
    wait_goes : (w : Wanted) (rest : Code) (s : TurnStateView) → wanted_spares root w ≡ true → AllByRecursion (EffectSpares root) s.effects → GoesOn (wait_for g w rest s)
    wait_goes (code.call c) rest s is none = invocation_goes c (evs c.args (scene g s)) s _ none (λ i. (none, refl))
    wait_goes (code.root r) rest s is none = (none, is)
    wait_goes _ rest s is none = (none, refl)

    check_goes : (b : Bool) (rest : Code) (s : TurnStateView) (f : Fault) → code_spares root rest ≡ true → AllByRecursion (EffectSpares root) s.effects → GoesOn (if b then leaves s (failing f) else goes (record s { todo = rest }))
    check_goes true rest s f more none = (none, refl)
    check_goes false rest s f more none = (more, none)

    perform_goes : (d : Operation) (rest : Code) (s : TurnStateView) → operation_spares root d ≡ true → code_spares root rest ≡ true → AllByRecursion (EffectSpares root) s.effects → GoesOn (perform g d rest s)
    perform_goes (code.set_variable x t) rest s is more none = value_goes (ev t (scene g s)) s _ none (λ v. given_goes (Some (Variable x)) rest s v more none)
    perform_goes (code.set_field p t) rest s is more none = value_goes (ev t (scene g s)) s _ none (λ v. given_goes (Some (Field p)) rest s v more none)
    perform_goes (code.return t) rest s is more none = value_goes (ev t (scene g s)) s _ none (λ v. (none, refl))
    perform_goes (code.throw t) rest s is more none = value_goes (ev t (scene g s)) s _ none (λ v. (none, refl))
    perform_goes code.check rest s is more none = check_goes g.env.cancelled rest s _ more none
    perform_goes code.yield rest s is more none = (none, refl)
    perform_goes (code.wait w) rest s is more none = wait_goes w rest s is none
    perform_goes (code.receive place o) rest s is more none = given_goes place rest s (pos 0) more none
    perform_goes (code.spawn c p h) rest s is more none = invocation_goes c (evs c.args (scene g s)) s _ none (λ i. make_goes _ h rest s more none refl)
    perform_goes (code.detach c p h) rest s is more none = invocation_goes c (evs c.args (scene g s)) s _ none (λ i. make_goes _ h rest s more none refl)
    perform_goes (code.add h unless c p) rest s is more none = invocation_goes c (evs c.args (scene g s)) s _ none (λ i. either_goes (nat_lt 0 s.room) s _ _ none (more, effect_push s.effects _ none refl))
    perform_goes (code.cancel c) rest s is more none = (more, effect_push s.effects _ none (cancel_goes s.handles c is))
    perform_goes (code.open_group h) rest s is more none = either_goes (nat_lt s.opened (2 ^ 32)) s _ _ none (more, effect_push s.effects opening none refl)
    perform_goes code.close_group rest s is more none = close_goes s.groups rest s more none
    perform_goes (code.bind l t) rest s is more none = value_goes (ev t (scene g s)) s _ none (λ v. (more, none))
    perform_goes code.unbind rest s is more none = (more, none)
    perform_goes code.assume rest s is more none = (more, none)
    perform_goes code.isolated rest s is more none = (none, refl)

    abbrev FirstSpares : NextAction → Type 0
    FirstSpares ends = Unit {0}
    FirstSpares (does d rest) = (operation_spares root d ≡ true) × (code_spares root rest ≡ true)
    FirstSpares (tests t held failed) = (code_spares root held ≡ true) × (code_spares root failed ≡ true)

    first_none : (c : Code) → code_spares root c ≡ true → FirstSpares (first c)
    first_none code.end is = tt
    first_none (code.act d rest) is = both (operation_spares root d) (code_spares root rest) is
    first_none (code.choice t a b rest) is =
        let parts = both (code_spares root a) _ is in
        let two = both (code_spares root b) _ parts.1 in
        (followed_none a rest parts.0 two.1, followed_none b rest two.0 two.1)
    first_none (code.loop t a rest) is =
        let parts = both (code_spares root a) _ is in
        (followed_none a (code.loop t a rest) parts.0 is, parts.1)

    if_none : (b : Bool) (x y : Code) → code_spares root x ≡ true → code_spares root y ≡ true → code_spares root (if b then x else y) ≡ true
    if_none true x y one two = one
    if_none false x y one two = two

    act_goes : (here : NextAction) (s : TurnStateView) → FirstSpares here → AllByRecursion (EffectSpares root) s.effects → GoesOn (act g here s)
    act_goes ends s is none = (none, refl)
    act_goes (does d rest) s is none = perform_goes d rest s is.0 is.1 none
    act_goes (tests t held failed) s is none = value_goes (ev t (scene g s)) s _ none (λ v. (if_none (is_zero v) failed held is.1 is.0, none))

    -- a turn

    settled_none : (c : Code) (s : TurnStateView) → s.todo ≡ c → Names s → Names (settled c s)
    settled_none (code.act code.unbind rest) s is names = settled_none rest (record s { todo = rest; own = Turn.tail s.own }) refl (subst (λ (c : Code). code_spares root c ≡ true) is names.0, names.1)
    settled_none c s is names = names

    limit_none : (here : NextAction) (s : TurnStateView) → FirstSpares here → AllByRecursion (EffectSpares root) s.effects → GoesOn (at_limit here s)
    limit_none (does code.close_group rest) s is none = close_goes s.groups rest s is.1 none
    limit_none _ s is none = (none, refl)

    end_none : (x : AfterStatement) → GoesOn x → PlaySpares root (end_of x)
    end_none (goes s) names = record { effects = names.1; exit = refl }
    end_none (leaves s e) names = record { effects = names.0; exit = names.1 }

    on_none : (x : AfterStatement) (go : TurnStateView → Played) → GoesOn x → ((s : TurnStateView) → Names s → PlaySpares root (go s)) → PlaySpares root (on x go)
    on_none (goes s) go names next = next s names
    on_none (leaves s e) go names next = record { effects = names.0; exit = names.1 }

    turn_none : (n : ℕ) (s : TurnStateView) → Names s → PlaySpares root (turn g n s)
    unfolding turn
    turn_none zero s names =
        let at : TurnStateView = settled s.todo s in
        let is : Names at = settled_none s.todo s refl names in
        end_none (at_limit (first at.todo) at) (limit_none (first at.todo) at (first_none at.todo is.0) is.1)
    turn_none (suc n) s names =
        let at : TurnStateView = settled s.todo s in
        let is : Names at = settled_none s.todo s refl names in
        on_none (act g (first at.todo) at) (turn g n) (act_goes (first at.todo) at (first_none at.todo is.0) is.1) (turn_none n)

    -- its resume

    caught_none : (f : Fault) (o : Option Term) (s : TurnStateView) (go : ℤ → AfterStatement) → AllByRecursion (EffectSpares root) s.effects → ((v : ℤ) → GoesOn (go v)) → GoesOn (caught g f o s go)
    caught_none Turns o s go none next = (none, refl)
    caught_none f None s go none next = (none, refl)
    caught_none f (Some t) s go none next = value_goes (ev t (scene g s)) s go none next

    raised_none : (resume : Resume) (s : TurnStateView) → Names s → GoesOn (raised_by resume s)
    raised_none (Raise f) s names = (names.1, refl)
    raised_none resume s names = names

    by_none : (here : NextAction) (resume : Resume) (s : TurnStateView) → FirstSpares here → Names s → GoesOn (taken_by g here resume s)
    by_none (does (code.receive place o) rest) Start s is names = given_goes place rest s (pos 0) is.1 names.1
    by_none (does (code.receive place o) rest) Go s is names = given_goes place rest s (pos 0) is.1 names.1
    by_none (does (code.receive place o) rest) (Value v) s is names = given_goes place rest s v is.1 names.1
    by_none (does (code.receive place o) rest) (Raise f) s is names = caught_none f o s (given place rest s) names.1 (λ v. given_goes place rest s v is.1 names.1)
    by_none here resume s is names = raised_none resume s names

    taken_none : (pending : Option Fault) (resume : Resume) (s : TurnStateView) → Names s → GoesOn (taken g pending (first s.todo) resume s)
    taken_none None resume s names = by_none (first s.todo) resume s (first_none s.todo names.0) names
    taken_none (Some f) resume s names = (names.1, refl)

    whole_none : (n : ℕ) (s : TurnStateView) (resume : Resume) → Names s → PlaySpares root (whole_turn g n s resume)
    whole_none n s resume names = on_none (taken g s.pending (first s.todo) resume s) (turn g n) (taken_none s.pending resume s names) (turn_none n)

    -- and what is kept of it

    left_none : (f : Fault) (gs : List ℕ) (s : TurnStateView) → AllByRecursion (EffectSpares root) s.effects → PlaySpares root (left_by f gs s)
    left_none f [] s none = record { effects = none; exit = refl }
    left_none f (x ∷ gs) s none = record { effects = none; exit = refl }

    exits_none : (s : TurnStateView) (e : ExitView) → AllByRecursion (EffectSpares root) s.effects → exit_spares root e ≡ true → PlaySpares root (exits s e)
    exits_none s (failing f) none is = left_none f s.groups s none
    exits_none s _ none is = record { effects = none; exit = is }

    kept_none : (invariants : List Term) (before : TurnStateView) (after : Played) (undone good : Bool) → undoes after.exit ≡ undone → all_hold invariants after.state.fields ≡ good
        → AllByRecursion (EffectSpares root) before.effects → PlaySpares root after → PlaySpares root (kept_of invariants before after)
    kept_none invariants before after true good u h was names = rw u (exits_none before after.exit was names.exit)
    kept_none invariants before after false true u h was names = rw (u, h) (exits_none after.state after.exit names.effects names.exit)
    kept_none invariants before after false false u h was names = rw (u, h) (exits_none before (failing Invariant) was refl)

  -- what is left of such a method is so

  abbrev IsNone : Code → Type 0
  IsNone c = code_spares root c ≡ true

  stands_none : (c after : Code) → IsNone c → IsNone after → AllByRecursion IsNone (stands_for c after)
  stands_none code.end after none more = tt
  stands_none (code.act d rest) after none more =
      let parts = both (operation_spares root d) (code_spares root rest) none in
      all_append IsNone (stands_for rest after) _ (stands_none rest after parts.1 more) (followed_none (code.act d rest) after none more, tt)
  stands_none (code.choice t a b rest) after none more =
      let parts = both (code_spares root a) _ none in
      let two = both (code_spares root b) _ parts.1 in
      let next : IsNone (followed rest after) = followed_none rest after two.1 more in
      all_append IsNone (stands_for rest after) _ (stands_none rest after two.1 more)
      (all_append IsNone (stands_for b (followed rest after)) _ (stands_none b (followed rest after) two.0 next)
      (all_append IsNone (stands_for a (followed rest after)) _ (stands_none a (followed rest after) parts.0 next) (followed_none (code.choice t a b rest) after none more, tt)))
  stands_none (code.loop t a rest) after none more =
      let parts = both (code_spares root a) _ none in
      let here : IsNone (code.loop t a (followed rest after)) = followed_none (code.loop t a rest) after none more in
      all_append IsNone (stands_for rest after) _ (stands_none rest after parts.1 more) (here, stands_none a (code.loop t a (followed rest after)) parts.0 here)

  one_none : (xs : List Code) (k : ℕ) → AllByRecursion IsNone xs → IsNone (unwrap_or (slice_get xs k) code.end)
  one_none [] k all = refl
  one_none (x ∷ xs) zero all = all.0
  one_none (x ∷ xs) (suc k) all = one_none xs k all.1

  rest_none : (body : Code) (k : ℕ) → IsNone body → IsNone (code_at body k)
  unfolding code_at
  rest_none body k none = one_none (code.end ∷ stands_for body code.end) (exchanged (entry body 1 0) k) (refl, stands_none body code.end none refl)

pub turns_spare : TurnsSpare
turns_spare root script p outer fields resume env none =
    let g : TurnInputView = record { outer = outer; env = env } in
    let s : TurnStateView = state_at script p fields [] env.room in
    let w : Played = whole_turn g STEPS s resume in
    kept_none root g (invariants_at script p) s w (undoes w.exit) (all_hold (invariants_at script p) w.state.fields) refl refl tt (whole_none root g STEPS s resume (rest_none root (method_code script p.method) p.instruction none, tt))
