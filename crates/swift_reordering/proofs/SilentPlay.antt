-- A silent turn plays the same on all fields and with any room, and leaves the fields.
use Rattle.swift_reordering.proofs.Prelude.{◌≡◌, ℕ, zero, suc, ℤ, List, [], ◌∷◌, refl, sym, ap, ap₂, subst, subst₂, Bool, true, false, Option, Some, None, ◌||◌, is_some, pos, if◌then◌else◌, neg_ℤ, slice_set, false≢true, Fault, Turns, Steps, Resume, Start, Go, Value, STEPS, Env, Term, CallTarget, Wanted, Operation, Code, code_at, Scene, and_then, joined, within, flag, ev, evs, in_front, is_zero, NextAction, first, ends, does, tests, NumberPlace, Variable, Field, ScriptView, method_code, FrameView, InvocationView, ExitView, failing, TurnStateView, TurnInputView, AfterStatement, goes, leaves, Played, standing, scene, with_value, invoked, with_invocation, given, close_group, wait_for, perform, act, settled, at_limit, on, end_of, caught, raised_by, taken_by, whole_turn, left_by, exits, undoes, all_hold, kept_of, kept, kept_turn, invariants_at, state_at, both, term_is_own, terms_are_own, term_if_is_own, wanted_is_own, place_is_own, operation_is_silent, code_is_silent, ends_turn}
use Rattle.swift_types.specs.declared.outcome.Resume.TheVariants.{Fault as Raise}
use Rattle.script_code.specs.Tree as code
use Rattle.swift_interpreter.specs.Turn.{turn, taken}
use Rattle.swift_interpreter.specs.Turn as Turn
use Rattle.swift_reordering.proofs.Statements.{FirstIs, first_is}

-- expressions

module _ (variables : List ℤ) (bindings : List (ℕ × ℤ)) (f g : List (List ℤ)) (env other : Env) where
  abbrev here : List (List ℤ) → Env → Scene
  here fields e = record { variables = variables; fields = fields; bindings = bindings; env = e }

  own_value : (t : Term) → term_is_own t ≡ true → ev t (here f env) ≡ ev t (here g other)
  own_value (code.field p) own = absurd (false≢true own)
  own_value code.priority own = absurd (false≢true own)
  own_value code.cancelled own = absurd (false≢true own)
  own_value (code.opposite t) own = ap (λ (o : Option ℤ). and_then o (λ x. within (neg_ℤ x))) (own_value t own)
  own_value (code.denial t) own = ap (λ (o : Option ℤ). and_then o (λ x. Some (flag (is_zero x)))) (own_value t own)
  own_value (code.binary op a b) own = (let parts = both (term_is_own a) (term_is_own b) own in ap₂ (λ (o u : Option ℤ). and_then o (λ x. joined op x u)) (own_value a parts.0) (own_value b parts.1))
  own_value _ own = refl

  own_values : (ts : List Term) → terms_are_own ts ≡ true → evs ts (here f env) ≡ evs ts (here g other)
  own_values [] own = refl
  own_values (t ∷ ts) own = (let parts = both (term_is_own t) (terms_are_own ts) own in ap₂ in_front (own_value t parts.0) (own_values ts parts.1))

-- statements

abbrev IsSilent : Code → Type 0
IsSilent c = code_is_silent c true ≡ true

abbrev FirstIsSilent : NextAction → Type 0
FirstIsSilent x = FirstIs operation_is_silent term_is_own x

first_silent : (c : Code) → IsSilent c → FirstIsSilent (first c)
first_silent c is = first_is operation_is_silent term_is_own c is

-- on other fields, and with other room

module _ (outer : List (ℕ × ℤ)) (env other : Env) (f g : List (List ℤ)) (m k : ℕ) where
  abbrev input : Env → TurnInputView
  input e = record { outer = outer; env = e }

  abbrev on_fields : List (List ℤ) → ℕ → TurnStateView → TurnStateView
  on_fields h room s = record s { fields = h; room = room }

  abbrev next_on : List (List ℤ) → ℕ → AfterStatement → AfterStatement
  next_on h room (goes s) = goes (on_fields h room s)
  next_on h room (leaves s e) = leaves (on_fields h room s) e

  abbrev GoesSilent : AfterStatement → Type 0
  GoesSilent (goes s) = IsSilent s.todo × (s.effects ≡ [])
  GoesSilent (leaves s e) = s.effects ≡ []

  -- what comes next on the one fields and on the others: a state but for the fields and the room
  record SameNext (x y : AfterStatement) : Type 0 where
    what : AfterStatement
    one : x ≡ next_on f m what
    two : y ≡ next_on g k what
    silent : GoesSilent what

  left_same : (s : TurnStateView) (e : ExitView) → s.effects ≡ [] → SameNext (leaves (on_fields f m s) e) (leaves (on_fields g k s) e)
  left_same s e none = record { what = leaves s e; one = refl; two = refl; silent = none }

  goes_same : (s : TurnStateView) → IsSilent s.todo → s.effects ≡ [] → SameNext (goes (on_fields f m s)) (goes (on_fields g k s))
  goes_same s is none = record { what = goes s; one = refl; two = refl; silent = (is, none) }

  value_same : (o u : Option ℤ) (s : TurnStateView) (go went : ℤ → AfterStatement) → o ≡ u → s.effects ≡ [] → ((v : ℤ) → SameNext (go v) (went v)) → SameNext (with_value o (on_fields f m s) go) (with_value u (on_fields g k s) went)
  value_same None u s go went same none next = subst (λ (x : Option ℤ). SameNext (with_value None (on_fields f m s) go) (with_value x (on_fields g k s) went)) same (left_same s _ none)
  value_same (Some v) u s go went same none next = subst (λ (x : Option ℤ). SameNext (go v) (with_value x (on_fields g k s) went)) same (next v)

  invocation_same : (c : CallTarget) (o u : Option (List ℤ)) (s : TurnStateView) (go went : InvocationView → AfterStatement) → o ≡ u → s.effects ≡ [] → ((i : InvocationView) → SameNext (go i) (went i))
      → SameNext (with_invocation (invoked c o) (on_fields f m s) go) (with_invocation (invoked c u) (on_fields g k s) went)
  invocation_same c None u s go went same none next = subst (λ (x : Option (List ℤ)). SameNext (with_invocation (invoked c None) (on_fields f m s) go) (with_invocation (invoked c x) (on_fields g k s) went)) same (left_same s _ none)
  invocation_same c (Some vs) u s go went same none next = subst (λ (x : Option (List ℤ)). SameNext (go (record { actor = c.actor; method = c.method; args = vs })) (with_invocation (invoked c x) (on_fields g k s) went)) same (next _)

  given_same : (place : Option NumberPlace) (rest : Code) (s : TurnStateView) (v : ℤ) → place_is_own place ≡ true → IsSilent rest → s.effects ≡ [] → SameNext (given place rest (on_fields f m s) v) (given place rest (on_fields g k s) v)
  given_same None rest s v own is none = goes_same (record s { todo = rest }) is none
  given_same (Some (Variable x)) rest s v own is none = goes_same (record s { todo = rest; variables = slice_set s.variables x v }) is none
  given_same (Some (Field p)) rest s v own is none = absurd (false≢true own)

  close_same : (gs : List ℕ) (rest : Code) (s : TurnStateView) → IsSilent rest → s.effects ≡ [] → SameNext (close_group gs rest (on_fields f m s)) (close_group gs rest (on_fields g k s))
  close_same [] rest s is none = goes_same (record s { todo = rest }) is none
  close_same (x ∷ xs) rest s is none = left_same (record s { todo = rest; groups = xs }) _ none

  value_of : (t : Term) (s : TurnStateView) → term_is_own t ≡ true → ev t (scene (input env) (on_fields f m s)) ≡ ev t (scene (input other) (on_fields g k s))
  value_of t s own = own_value s.variables (standing (input env) s) f g env other t own

  values_of : (ts : List Term) (s : TurnStateView) → terms_are_own ts ≡ true → evs ts (scene (input env) (on_fields f m s)) ≡ evs ts (scene (input other) (on_fields g k s))
  values_of ts s own = own_values s.variables (standing (input env) s) f g env other ts own

  wait_same : (w : Wanted) (rest : Code) (s : TurnStateView) → wanted_is_own w ≡ true → s.effects ≡ [] → SameNext (wait_for (input env) w rest (on_fields f m s)) (wait_for (input other) w rest (on_fields g k s))
  wait_same (code.call c) rest s own none = invocation_same c _ _ s _ _ (values_of c.args s own) none (λ i. left_same (record s { todo = rest }) _ none)
  wait_same _ rest s own none = left_same (record s { todo = rest }) _ none

  perform_same : (d : Operation) (rest : Code) (s : TurnStateView) → operation_is_silent d ≡ true → (ends_turn d || code_is_silent rest true) ≡ true → s.effects ≡ []
      → SameNext (perform (input env) d rest (on_fields f m s)) (perform (input other) d rest (on_fields g k s))
  perform_same (code.set_variable x t) rest s own more none = value_same _ _ s _ _ (value_of t s own) none (λ v. given_same (Some (Variable x)) rest s v refl more none)
  perform_same (code.return t) rest s own more none = value_same _ _ s _ _ (value_of t s own) none (λ v. left_same s _ none)
  perform_same (code.throw t) rest s own more none = value_same _ _ s _ _ (value_of t s own) none (λ v. left_same s _ none)
  perform_same code.yield rest s own more none = left_same (record s { todo = rest }) _ none
  perform_same (code.wait w) rest s own more none = wait_same w rest s own none
  perform_same (code.receive place o) rest s own more none = given_same place rest s (pos 0) (both (place_is_own place) _ own).0 more none
  perform_same code.close_group rest s own more none = close_same s.groups rest s more none
  perform_same (code.bind l t) rest s own more none = value_same _ _ s _ _ (value_of t s own) none (λ v. goes_same (record s { todo = rest; own = (l, v) ∷ s.own }) more none)
  perform_same code.unbind rest s own more none = goes_same (record s { todo = rest; own = Turn.tail s.own }) more none
  perform_same code.assume rest s own more none = goes_same (record s { todo = rest }) more none
  perform_same code.isolated rest s own more none = left_same s _ none
  perform_same _ rest s own more none = absurd (false≢true own)

  if_silent : (b : Bool) (x y : Code) → IsSilent x → IsSilent y → IsSilent (if b then x else y)
  if_silent true x y one two = one
  if_silent false x y one two = two

  act_same : (here : NextAction) (s : TurnStateView) → FirstIsSilent here → s.effects ≡ [] → SameNext (act (input env) here (on_fields f m s)) (act (input other) here (on_fields g k s))
  act_same ends s is none = left_same s _ none
  act_same (does d rest) s is none = perform_same d rest s is.0 is.1 none
  act_same (tests t held failed) s is none =
      value_same _ _ s _ _ (value_of t s is.0) none (λ v. goes_same (record s { todo = if is_zero v then failed else held }) (if_silent (is_zero v) failed held is.2 is.1) none)

  -- a turn

  settled_same : (h : List (List ℤ)) (room : ℕ) (c : Code) (s : TurnStateView) → settled c (on_fields h room s) ≡ on_fields h room (settled c s)
  settled_same h room (code.act code.unbind rest) s = settled_same h room rest (record s { todo = rest; own = Turn.tail s.own })
  settled_same h room c s = refl

  settled_silent : (c : Code) (s : TurnStateView) → s.todo ≡ c → IsSilent s.todo → s.effects ≡ [] → IsSilent (settled c s).todo × ((settled c s).effects ≡ [])
  settled_silent (code.act code.unbind rest) s is silent none = settled_silent rest (record s { todo = rest; own = Turn.tail s.own }) refl (subst IsSilent is silent) none
  settled_silent c s is silent none = (silent, none)

  -- how a turn ends, and what it leaves, but for the fields and the room
  pub record SamePlay (x y : Played) : Type 0 where
    pub state : TurnStateView
    pub exit : ExitView
    pub one : x ≡ record { state = on_fields f m state; exit = exit }
    pub two : y ≡ record { state = on_fields g k state; exit = exit }
    pub none : state.effects ≡ []

  end_same : (x y : AfterStatement) → SameNext x y → SamePlay (end_of x) (end_of y)
  end_same x y same = by_what same.what same.one same.two same.silent where
    by_what : (z : AfterStatement) → x ≡ next_on f m z → y ≡ next_on g k z → GoesSilent z → SamePlay (end_of x) (end_of y)
    by_what (goes s) one two silent = record { state = s; exit = failing Steps; one = ap end_of one; two = ap end_of two; none = silent.1 }
    by_what (leaves s e) one two silent = record { state = s; exit = e; one = ap end_of one; two = ap end_of two; none = silent }

  limit_same : (here : NextAction) (s : TurnStateView) → FirstIsSilent here → s.effects ≡ [] → SameNext (at_limit here (on_fields f m s)) (at_limit here (on_fields g k s))
  limit_same (does code.close_group rest) s is none = close_same s.groups rest s is.1 none
  limit_same _ s is none = left_same s _ none

  on_same : (x y : AfterStatement) (go went : TurnStateView → Played) → SameNext x y → ((s : TurnStateView) → IsSilent s.todo → s.effects ≡ [] → SamePlay (go (on_fields f m s)) (went (on_fields g k s))) → SamePlay (on x go) (on y went)
  on_same x y go went same next = by_what same.what same.one same.two same.silent where
    by_what : (z : AfterStatement) → x ≡ next_on f m z → y ≡ next_on g k z → GoesSilent z → SamePlay (on x go) (on y went)
    by_what (goes s) one two silent = subst₂ SamePlay (ap (λ (a : AfterStatement). on a go) (sym one)) (ap (λ (a : AfterStatement). on a went) (sym two)) (next s silent.0 silent.1)
    by_what (leaves s e) one two silent = record { state = s; exit = e; one = ap (λ (a : AfterStatement). on a go) one; two = ap (λ (a : AfterStatement). on a went) two; none = silent }

  turn_same : (n : ℕ) (s : TurnStateView) → IsSilent s.todo → s.effects ≡ [] → SamePlay (turn (input env) n (on_fields f m s)) (turn (input other) n (on_fields g k s))
  unfolding turn
  turn_same zero s is none =
      let at : TurnStateView = settled s.todo s in
      let silent = settled_silent s.todo s refl is none in
      subst₂ (λ (a b : TurnStateView). SamePlay (end_of (at_limit (first a.todo) a)) (end_of (at_limit (first b.todo) b))) (sym (settled_same f m s.todo s)) (sym (settled_same g k s.todo s))
      (end_same _ _ (limit_same (first at.todo) at (first_silent at.todo silent.0) silent.1))
  turn_same (suc n) s is none =
      let at : TurnStateView = settled s.todo s in
      let silent = settled_silent s.todo s refl is none in
      subst₂ (λ (a b : TurnStateView). SamePlay (on (act (input env) (first a.todo) a) (turn (input env) n)) (on (act (input other) (first b.todo) b) (turn (input other) n)))
      (sym (settled_same f m s.todo s)) (sym (settled_same g k s.todo s))
      (on_same _ _ (turn (input env) n) (turn (input other) n) (act_same (first at.todo) at (first_silent at.todo silent.0) silent.1) (turn_same n))

  -- its resume

  caught_same : (x : Fault) (o : Option Term) (s : TurnStateView) (go went : ℤ → AfterStatement) → term_if_is_own o ≡ true → s.effects ≡ [] → ((v : ℤ) → SameNext (go v) (went v))
      → SameNext (caught (input env) x o (on_fields f m s) go) (caught (input other) x o (on_fields g k s) went)
  caught_same Turns o s go went own none next = left_same s _ none
  caught_same x None s go went own none next = left_same s _ none
  caught_same x (Some t) s go went own none next = value_same _ _ s go went (value_of t s own) none next

  raised_same : (resume : Resume) (s : TurnStateView) → IsSilent s.todo → s.effects ≡ [] → SameNext (raised_by resume (on_fields f m s)) (raised_by resume (on_fields g k s))
  raised_same (Raise x) s is none = left_same s _ none
  raised_same resume s is none = goes_same s is none

  by_same : (here : NextAction) (resume : Resume) (s : TurnStateView) → FirstIsSilent here → IsSilent s.todo → s.effects ≡ [] → SameNext (taken_by (input env) here resume (on_fields f m s)) (taken_by (input other) here resume (on_fields g k s))
  by_same (does (code.receive place o) rest) Start s first is none = given_same place rest s (pos 0) (both (place_is_own place) _ first.0).0 first.1 none
  by_same (does (code.receive place o) rest) Go s first is none = given_same place rest s (pos 0) (both (place_is_own place) _ first.0).0 first.1 none
  by_same (does (code.receive place o) rest) (Value v) s first is none = given_same place rest s v (both (place_is_own place) _ first.0).0 first.1 none
  by_same (does (code.receive place o) rest) (Raise x) s first is none =
      let own = both (place_is_own place) (term_if_is_own o) first.0 in
      caught_same x o s (given place rest (on_fields f m s)) (given place rest (on_fields g k s)) own.1 none (λ v. given_same place rest s v own.0 first.1 none)
  by_same here resume s first is none = raised_same resume s is none

  taken_same : (pending : Option Fault) (resume : Resume) (s : TurnStateView) → (is_some pending || code_is_silent s.todo true) ≡ true → s.effects ≡ []
      → SameNext (taken (input env) pending (first s.todo) resume (on_fields f m s)) (taken (input other) pending (first s.todo) resume (on_fields g k s))
  taken_same None resume s is none = by_same (first s.todo) resume s (first_silent s.todo is) is none
  taken_same (Some x) resume s is none = left_same s _ none

  whole_same : (n : ℕ) (s : TurnStateView) (resume : Resume) → (is_some s.pending || code_is_silent s.todo true) ≡ true → s.effects ≡ [] → SamePlay (whole_turn (input env) n (on_fields f m s) resume) (whole_turn (input other) n (on_fields g k s) resume)
  whole_same n s resume is none =
      on_same (taken (input env) s.pending (first s.todo) resume (on_fields f m s)) (taken (input other) s.pending (first s.todo) resume (on_fields g k s)) (turn (input env) n) (turn (input other) n)
      (taken_same s.pending resume s is none) (turn_same n)

  -- and what is kept of it, where the invariants hold of both

  left_by_same : (x : Fault) (gs : List ℕ) (s : TurnStateView) → s.effects ≡ [] → SamePlay (left_by x gs (on_fields f m s)) (left_by x gs (on_fields g k s))
  left_by_same x [] s none = record { state = (left_by x [] s).state; exit = (left_by x [] s).exit; one = refl; two = refl; none = none }
  left_by_same x (y ∷ ys) s none = record { state = (left_by x (y ∷ ys) s).state; exit = (left_by x (y ∷ ys) s).exit; one = refl; two = refl; none = none }

  exits_same : (s : TurnStateView) (e : ExitView) → s.effects ≡ [] → SamePlay (exits (on_fields f m s) e) (exits (on_fields g k s) e)
  exits_same s (failing x) none = left_by_same x s.groups s none
  exits_same s e none = record { state = s; exit = e; one = refl; two = refl; none = none }

  kept_by : (invariants : List Term) (s at : TurnStateView) (e : ExitView) (undone : Bool) → undoes e ≡ undone → all_hold invariants f ≡ true → all_hold invariants g ≡ true → s.effects ≡ [] → at.effects ≡ []
      → SamePlay (kept_of invariants (on_fields f m s) (record { state = on_fields f m at; exit = e })) (kept_of invariants (on_fields g k s) (record { state = on_fields g k at; exit = e }))
  kept_by invariants s at e true u hold also none more = rw u (exits_same s e none)
  kept_by invariants s at e false u hold also none more = rw (u, hold, also) (exits_same at e more)

  kept_same : (n : ℕ) (invariants : List Term) (s : TurnStateView) (resume : Resume) → all_hold invariants f ≡ true → all_hold invariants g ≡ true → (is_some s.pending || code_is_silent s.todo true) ≡ true → s.effects ≡ []
      → SamePlay (kept (input env) n invariants (on_fields f m s) resume) (kept (input other) n invariants (on_fields g k s) resume)
  kept_same n invariants s resume hold also is none =
      let w = whole_same n s resume is none in
      subst₂ (λ (a b : Played). SamePlay (kept_of invariants (on_fields f m s) a) (kept_of invariants (on_fields g k s) b)) (sym w.one) (sym w.two)
      (kept_by invariants s w.state w.exit (undoes w.exit) refl hold also none w.none)

-- So the kept turn of a frame ends alike on all fields of which the invariants hold, in all environments, leaves the fields, and has no
-- effects.
pub silent_turn : (script : ScriptView) (p : FrameView) (outer : List (ℕ × ℤ)) (f g : List (List ℤ)) (resume : Resume) (env other : Env) → (is_some p.pending || code_is_silent (code_at (method_code script p.method) p.instruction) true) ≡ true
    → all_hold (invariants_at script p) f ≡ true → all_hold (invariants_at script p) g ≡ true
    → SamePlay outer env other f g env.room other.room (kept_turn script p outer f resume env) (kept_turn script p outer g resume other)
silent_turn script p outer f g resume env other is hold also = kept_same outer env other f g env.room other.room STEPS (invariants_at script p) (state_at script p f [] env.room) resume hold also is refl
