-- In each history the turns of a task are counted: its next turn, whether its job was made or it waits, has for its number how
-- many turns of it were applied.
use Rattle.swift_laws.proofs.Prelude.{◌≡◌, ◌≢◌, ℕ, ◌+◌, ◌<◌, ◌≤◌, List, [], ◌∷◌, ◌++◌, length, zero, suc, refl, sym, ◌∙◌, ap, arith, Bool, true, false, inl, inr, subst, ◌⊎◌, Option, Some, None, IfSome, if◌then◌else◌, slice_index_or, cons_option, range_with_len, cases_eq, false≢true, true≢false, eq-eqb, ne_eqb, none-some, length-append, filter_map-append, Env, Event, Root, Begin, Apply, Free, Child, Wait, Next, Close, Give, Life, Origin, LastJob, JobStage, task_of, is_made, tasks_of, later, life_of, lived, origin_in, given_in, stage_in, life_of-push_same, life_of-push_other, origin-push, tasks_of-push_made, tasks_of-push_other, filter_map-push_none, is_under_way, task, JobFacts, WaitingTaskView, turn_in, turns_of}
use Rattle.swift_events.specs.declared.life.JobStage.TheVariants as stage
use Rattle.swift_laws.proofs.HistoriesWritten.{IsWritten}
use Rattle.swift_laws.proofs.OpenLogs.{cases_of}

-- how many turns of a task were applied
abbrev pub applied : ℕ → List Event → ℕ
applied t log = length (turns_of t log)

abbrev pub held_at : List (Option WaitingTaskView) → ℕ → Option WaitingTaskView
held_at held t = slice_index_or held t None

-- the last job is of this number
abbrev pub HasNumber : Option LastJob → ℕ → Type 0
HasNumber None n = ⊥
HasNumber (Some g) n = g.number ≡ n

-- A task, by where it comes from, its last job, its stage, how many turns of it were applied, and what is held of it. Before it
-- is made it has none of them. A turn under way has the next number, and so has one that waits; never both.
pub record IsCounted (o : Option Origin) (g : Option LastJob) (s : Option JobStage) (turns : ℕ) (h : Option WaitingTaskView) : Type 0 where
  pub unmade : o ≡ None → (turns ≡ 0) × (g ≡ None) × (h ≡ None)
  pub current : is_under_way s ≡ true → HasNumber g turns × (h ≡ None)
  pub waits : IfSome h (λ x. x.number ≡ turns)

abbrev pub Counts : List Event → List (Option WaitingTaskView) → ℕ → Type 0
Counts log held t = IsCounted (life_of t log).origin (life_of t log).given (life_of t log).stage (applied t log) (held_at held t)

abbrev pub Beyond : ℕ → List Event → Type 0
Beyond roots log = (t : ℕ) → tasks_of roots log ≤ t → (life_of t log).origin ≡ None

pub record AreCounted (roots : ℕ) (log : List Event) (held : List (Option WaitingTaskView)) : Type 0 where
  pub each : (t : ℕ) → Counts log held t
  pub beyond : Beyond roots log
  pub numbered : (t : ℕ) → turns_of t log ≡ range_with_len 0 (applied t log)

-- an event by which no job is made, begins or is applied
abbrev pub starts : Event → Bool
starts (Begin t n env) = true
starts (Apply t n) = true
starts (Give t n resume) = true
starts _ = false

pub idle_turn : (t : ℕ) (e : Event) → starts e ≡ false → turn_in t e ≡ None
idle_turn t (Apply u n) h = absurd (true≢false h)
idle_turn t _ h = refl

pub idle_applied : (t : ℕ) (log : List Event) (e : Event) → turn_in t e ≡ None → applied t (log ++ e ∷ []) ≡ applied t log
idle_applied t log e none = ap length (filter_map-push_none (turn_in t) log e none)

-- of one task

-- before it is made, no turn of it is under way
pub unbegun : {o : Option Origin} {g : Option LastJob} {s : Option JobStage} {n : ℕ} {h : Option WaitingTaskView} → IsCounted o g s n h → o ≡ None → is_under_way s ≡ false
unbegun {s = s} {n = n} c none = elim (cases_of (is_under_way s)) [
  | inl under ↦ absurd (subst (λ (x : Option LastJob). HasNumber x n) (c.unmade none).1 (c.current under).0)
  | inr rest ↦ rest
]

-- nor where it waits
pub held_rests : {o : Option Origin} {g : Option LastJob} {s : Option JobStage} {n : ℕ} {h : Option WaitingTaskView} (x : WaitingTaskView) → h ≡ Some x → IsCounted o g s n h → is_under_way s ≡ false
held_rests {s = s} x is c = elim (cases_of (is_under_way s)) [
  | inl under ↦ absurd (none-some x (sym (c.current under).1 ∙ is))
  | inr rest ↦ rest
]

is_made_now : {o : Option Origin} {g : Option LastJob} {s : Option JobStage} {n : ℕ} {h : Option WaitingTaskView} (x : Origin) → IsCounted o g s n h → IsCounted (Some x) g s n h
is_made_now x c = record { unmade = λ (none : Some x ≡ None). cc; current = c.current; waits = c.waits }

rests_now : {o : Option Origin} {g : Option LastJob} {s : Option JobStage} {n : ℕ} {h : Option WaitingTaskView} (x : Option JobStage) → is_under_way x ≡ false → IsCounted o g s n h → IsCounted o g x n h
rests_now x rest c = record { unmade = c.unmade; current = λ is. absurd (true≢false (sym is ∙ rest)); waits = c.waits }

pub idle_counted : {o : Option Origin} {g : Option LastJob} {s : Option JobStage} {n : ℕ} {h : Option WaitingTaskView} (e : Event) → starts e ≡ false → IsCounted o g s n h
    → IsCounted (later (origin_in e) o) (later (given_in e) g) (later (stage_in e) s) n h
idle_counted (Begin u n env) h c = absurd (true≢false h)
idle_counted (Apply u n) h c = absurd (true≢false h)
idle_counted (Give u n resume) h c = absurd (true≢false h)
idle_counted (Root u p) h c = is_made_now _ c
idle_counted (Free u by p true) h c = is_made_now _ c
idle_counted (Free u by p false) h c = is_made_now _ c
idle_counted (Child u o g p) h c = is_made_now _ c
idle_counted (Wait u awaited) h c = rests_now _ refl c
idle_counted (Next o g) h c = rests_now _ refl c
idle_counted (Close o g) h c = rests_now _ refl c
idle_counted _ h c = c

-- what is held of a task is taken, or held
pub none_held : {o : Option Origin} {g : Option LastJob} {s : Option JobStage} {n : ℕ} {h : Option WaitingTaskView} → IsCounted o g s n h → IsCounted o g s n None
none_held c = record { unmade = λ none. ((c.unmade none).0, (c.unmade none).1, refl); current = λ is. ((c.current is).0, refl); waits = tt }

pub some_held : {o : Option Origin} {g : Option LastJob} {s : Option JobStage} {n : ℕ} {h : Option WaitingTaskView} (x : WaitingTaskView) → o ≢ None → is_under_way s ≡ false → x.number ≡ n → IsCounted o g s n h → IsCounted o g s n (Some x)
some_held x made rest number c = record { unmade = λ none. absurd (made none); current = λ is. absurd (true≢false (sym is ∙ rest)); waits = number }

-- one more event, of all tasks

counts_push : (log : List Event) (held : List (Option WaitingTaskView)) (e : Event) (t : ℕ)
    → (task_of e ≡ t → IsCounted (later (origin_in e) (life_of t log).origin) (later (given_in e) (life_of t log).given) (later (stage_in e) (life_of t log).stage) (applied t (log ++ e ∷ [])) (held_at held t))
    → (task_of e ≢ t → applied t (log ++ e ∷ []) ≡ applied t log) → Counts log held t → Counts (log ++ e ∷ []) held t
counts_push log held e t own none is = grind (arith, cases_eq, life_of-push_same, life_of-push_other)

pub tasks-grow : (roots : ℕ) (log : List Event) (e : Event) → tasks_of roots log ≤ tasks_of roots (log ++ e ∷ [])
tasks-grow roots log e = by (is_made e) refl
  where
    by : (b : Bool) → is_made e ≡ b → tasks_of roots log ≤ tasks_of roots (log ++ e ∷ [])
    by true is = (let more = tasks_of-push_made roots log e is in omega (arith, more))
    by false is = (let same = tasks_of-push_other roots log e is in omega (arith, same))

-- an event makes no task, or one of a number that is taken then
abbrev pub MakesWithin : ℕ → List Event → Event → Type 0
MakesWithin roots log e = (origin_in e ≡ None) ⊎ (task_of e < tasks_of roots (log ++ e ∷ []))

pub beyond_push : (roots : ℕ) (log : List Event) (e : Event) → MakesWithin roots log e → Beyond roots log → Beyond roots (log ++ e ∷ [])
beyond_push roots log e within beyond t le =
    let was : tasks_of roots log ≤ t = omega (arith, tasks-grow roots log e, le) in
    elim within [
      | inl none ↦ origin-push t log e none ∙ beyond t was
      | inr less ↦ (let ne : task_of e ≢ t = omega (arith, less, le) in ap (λ (l : Life). l.origin) (life_of-push_other t log e ne) ∙ beyond t was)
    ]

numbered_idle : (t : ℕ) (log : List Event) (e : Event) → turn_in t e ≡ None → turns_of t log ≡ range_with_len 0 (applied t log) → turns_of t (log ++ e ∷ []) ≡ range_with_len 0 (applied t (log ++ e ∷ []))
numbered_idle t log e none is = filter_map-push_none (turn_in t) log e none ∙ is ∙ ap (range_with_len 0) (sym (idle_applied t log e none))

pub idle_push : (roots : ℕ) (log : List Event) (held : List (Option WaitingTaskView)) (e : Event) → starts e ≡ false → MakesWithin roots log e → AreCounted roots log held → AreCounted roots (log ++ e ∷ []) held
idle_push roots log held e idle within are = record {
  each = λ t. counts_push log held e t
      (λ same. subst (λ (n : ℕ). IsCounted (later (origin_in e) (life_of t log).origin) (later (given_in e) (life_of t log).given) (later (stage_in e) (life_of t log).stage) n (held_at held t)) (sym (idle_applied t log e (idle_turn t e idle))) (idle_counted e idle (are.each t)))
      (λ other. idle_applied t log e (idle_turn t e idle)) (are.each t);
  beyond = beyond_push roots log e within are.beyond;
  numbered = λ t. numbered_idle t log e (idle_turn t e idle) (are.numbered t);
}

-- what the turn of a task writes is so
pub written_idle : (roots t : ℕ) (log : List Event) (e : Event) → IsWritten roots t log e → starts e ≡ false
written_idle roots t log (Begin u n env) w = absurd w
written_idle roots t log (Apply u n) w = absurd w
written_idle roots t log (Give u n resume) w = absurd w
written_idle roots t log _ w = refl

taken_then : (roots : ℕ) (log : List Event) (e : Event) → is_made e ≡ true → task_of e ≡ tasks_of roots log → task_of e < tasks_of roots (log ++ e ∷ [])
taken_then roots log e made at = let more = tasks_of-push_made roots log e made in omega (arith, more, at)

pub written_within : (roots t : ℕ) (log : List Event) (e : Event) → IsWritten roots t log e → MakesWithin roots log e
written_within roots t log (Begin u n env) w = absurd w
written_within roots t log (Apply u n) w = absurd w
written_within roots t log (Give u n resume) w = absurd w
written_within roots t log (Root u p) w = absurd w
written_within roots t log (Free u by p detached) w = inr (taken_then roots log (Free u by p detached) refl w.0)
written_within roots t log (Child u o g p) w = inr (taken_then roots log (Child u o g p) refl w.0)
written_within roots t log _ w = inl refl

-- a turn is applied

range_suc : (a n : ℕ) → range_with_len a n ++ (a + n) ∷ [] ≡ range_with_len a (suc n)
range_suc a zero = ap (λ k. k ∷ []) (let e : a + 0 ≡ a = omega arith in e)
range_suc a (suc n) = ap (λ ks. a ∷ ks) (ap (λ k. range_with_len (a + 1) n ++ k ∷ []) (let e : a + suc n ≡ a + 1 + n = omega arith in e) ∙ range_suc (a + 1) n)

range_next : (n k : ℕ) → k ≡ n + 1 → range_with_len 0 n ++ n ∷ [] ≡ range_with_len 0 k
range_next n k is = ap (λ (m : ℕ). range_with_len 0 n ++ m ∷ []) (let e : n ≡ 0 + n = omega arith in e) ∙ range_suc 0 n ∙ ap (range_with_len 0) (let e : suc n ≡ k = omega (arith, is) in e)

length_push : {A : Type 0} (xs : List A) (x : A) → length (xs ++ x ∷ []) ≡ length xs + 1
length_push xs x = length-append xs (x ∷ [])

turn_here : (t n : ℕ) → turn_in t (Apply (task t) n) ≡ Some n
turn_here t n = ap (λ (b : Bool). if b then Some n else None) (eq-eqb t t refl)

turn_elsewhere : (u t n : ℕ) → t ≢ u → turn_in u (Apply (task t) n) ≡ None
turn_elsewhere u t n ne = ap (λ (b : Bool). if b then Some n else None) (ne_eqb t u ne)

pub turns_push : (t n : ℕ) (log : List Event) → turns_of t (log ++ Apply (task t) n ∷ []) ≡ turns_of t log ++ n ∷ []
turns_push t n log = filter_map-append (turn_in t) log (Apply (task t) n ∷ []) ∙ ap (λ (o : Option ℕ). turns_of t log ++ cons_option o []) (turn_here t n)

pub applied_push : (t n : ℕ) (log : List Event) → applied t (log ++ Apply (task t) n ∷ []) ≡ applied t log + 1
applied_push t n log = ap length (turns_push t n log) ∙ length_push (turns_of t log) n

pub applied_other : (u t n : ℕ) (log : List Event) → t ≢ u → applied u (log ++ Apply (task t) n ∷ []) ≡ applied u log
applied_other u t n log ne = idle_applied u log (Apply (task t) n) (turn_elsewhere u t n ne)

number_is : {o : Option Origin} {g : Option LastJob} {s : Option JobStage} {turns : ℕ} {h : Option WaitingTaskView} (n : ℕ) → HasNumber g n → is_under_way s ≡ true → IsCounted o g s turns h → n ≡ turns
number_is {g = None} n has is c = absurd has
number_is {g = Some x} n has is c = sym has ∙ (c.current is).0

has_origin : {o : Option Origin} {g : Option LastJob} {s : Option JobStage} {turns : ℕ} {h : Option WaitingTaskView} (n : ℕ) → HasNumber g n → IsCounted o g s turns h → o ≢ None
has_origin {g = None} n has c none = has
has_origin {g = Some x} n has c none = (let e : Some x ≡ None = (c.unmade none).1 in cc)

applied_now : {o : Option Origin} {g : Option LastJob} {h : Option WaitingTaskView} (k : ℕ) → o ≢ None → h ≡ None → IsCounted o g (Some stage.Applied) k h
applied_now {h = h} k made free = record { unmade = λ none. absurd (made none); current = λ is. absurd (false≢true is); waits = subst (λ (x : Option WaitingTaskView). IfSome x (λ y. y.number ≡ k)) (sym free) tt }

-- A turn of a task was applied, and its next one has no job yet and doesn't wait.
pub record Rests (log : List Event) (held : List (Option WaitingTaskView)) (t n : ℕ) : Type 0 where
  pub made : (life_of t log).origin ≢ None
  pub rest : is_under_way (life_of t log).stage ≡ false
  pub turns : applied t log ≡ n + 1
  pub free : held_at held t ≡ None

pub counted_number : (roots : ℕ) (log : List Event) (held : List (Option WaitingTaskView)) (t n : ℕ) → AreCounted roots log held → HasNumber (life_of t log).given n → is_under_way (life_of t log).stage ≡ true → n ≡ applied t log
counted_number roots log held t n are has is = number_is n has is (are.each t)

pub apply_push : (roots : ℕ) (log : List Event) (held : List (Option WaitingTaskView)) (t n : ℕ) → HasNumber (life_of t log).given n → is_under_way (life_of t log).stage ≡ true → AreCounted roots log held
    → AreCounted roots (log ++ Apply (task t) n ∷ []) held × Rests (log ++ Apply (task t) n ∷ []) held t n
apply_push roots log held t n has is are =
    let e : Event = Apply (task t) n in
    let number = counted_number roots log held t n are has is in
    let made = has_origin n has (are.each t) in
    let free : held_at held t ≡ None = ((are.each t).current is).1 in
    let after : Life = lived (life_of t log) e in
    let life : life_of t (log ++ e ∷ []) ≡ after = life_of-push_same t log e refl in (
      record {
        each = λ u. counts_push log held e u
            (λ same. subst (λ (k : ℕ). IsCounted (life_of k log).origin (life_of k log).given (Some stage.Applied) (applied k (log ++ e ∷ [])) (held_at held k)) same
            (applied_now (applied t (log ++ e ∷ [])) made free))
            (λ other. applied_other u t n log other) (are.each u);
        beyond = beyond_push roots log e (inl refl) are.beyond;
        numbered = λ u. elim (cases_eq t u) [
          | inl same ↦ subst (λ (k : ℕ). turns_of k (log ++ e ∷ []) ≡ range_with_len 0 (applied k (log ++ e ∷ []))) same
              (turns_push t n log ∙ ap (λ (xs : List ℕ). xs ++ n ∷ []) (are.numbered t) ∙ ap (λ (k : ℕ). range_with_len 0 (applied t log) ++ k ∷ []) number ∙ range_next (applied t log) (applied t (log ++ e ∷ [])) (applied_push t n log))
          | inr other ↦ numbered_idle u log e (turn_elsewhere u t n other) (are.numbered u)
        ];
      },
      record {
        made = λ none. made (sym (ap (λ (l : Life). l.origin) life) ∙ none);
        rest = ap (λ (l : Life). is_under_way l.stage) life;
        turns = applied_push t n log ∙ ap (λ (k : ℕ). k + 1) (sym number);
        free = free;
      },
    )

-- the task rests as more is written

later_made : {A : Type 0} (x y : Option A) → y ≢ None → later x y ≢ None
later_made (Some x) y made none = (let e : Some x ≡ None = none in cc)
later_made None y made none = made none

pub made_push : (t : ℕ) (log : List Event) (e : Event) → (life_of t log).origin ≢ None → (life_of t (log ++ e ∷ [])).origin ≢ None
made_push t log e made = grind (arith, cases_eq, life_of-push_same, later_made, life_of-push_other)

pub idle_stage : (e : Event) (s : Option JobStage) → starts e ≡ false → is_under_way s ≡ false → is_under_way (later (stage_in e) s) ≡ false
idle_stage (Begin u n env) s h is = absurd (true≢false h)
idle_stage (Apply u n) s h is = absurd (true≢false h)
idle_stage (Give u n resume) s h is = absurd (true≢false h)
idle_stage (Wait u awaited) s h is = refl
idle_stage (Next o g) s h is = refl
idle_stage (Close o g) s h is = refl
idle_stage _ s h is = is

pub rest_push : (t : ℕ) (log : List Event) (e : Event) → starts e ≡ false → is_under_way (life_of t log).stage ≡ false → is_under_way (life_of t (log ++ e ∷ [])).stage ≡ false
rest_push t log e idle rest = grind (arith, cases_eq, life_of-push_same, idle_stage, life_of-push_other)

pub rests_push : (log : List Event) (held : List (Option WaitingTaskView)) (t n : ℕ) (e : Event) → starts e ≡ false → Rests log held t n → Rests (log ++ e ∷ []) held t n
rests_push log held t n e idle r = record {
  made = made_push t log e r.made;
  rest = rest_push t log e idle r.rest;
  turns = idle_applied t log e (idle_turn t e idle) ∙ r.turns;
  free = r.free;
}

-- jobs that are made, and not logged yet

pub record JobFits (log : List Event) (held : List (Option WaitingTaskView)) (j : JobFacts) : Type 0 where
  pub made : (life_of j.task log).origin ≢ None
  pub number : j.number ≡ applied j.task log
  pub free : held_at held j.task ≡ None

pub fits_push : (log : List Event) (held : List (Option WaitingTaskView)) (j : JobFacts) (e : Event) → turn_in j.task e ≡ None → JobFits log held j → JobFits (log ++ e ∷ []) held j
fits_push log held j e none f = record { made = made_push j.task log e f.made; number = f.number ∙ sym (idle_applied j.task log e none); free = f.free }

given_now : {o : Option Origin} {h : Option WaitingTaskView} (g : LastJob) (k : ℕ) → g.number ≡ k → o ≢ None → h ≡ None → IsCounted o (Some g) (Some stage.Given) k h
given_now {h = h} g k number made free = record { unmade = λ none. absurd (made none); current = λ is. (number, free); waits = subst (λ (x : Option WaitingTaskView). IfSome x (λ y. y.number ≡ k)) (sym free) tt }

pub give_push : (roots : ℕ) (log : List Event) (held : List (Option WaitingTaskView)) (j : JobFacts) → JobFits log held j → AreCounted roots log held → AreCounted roots (log ++ Give (task j.task) j.number j.resume ∷ []) held
give_push roots log held j f are =
    let e : Event = Give (task j.task) j.number j.resume in
    record {
      each = λ u. counts_push log held e u
          (λ same. subst (λ (k : ℕ). IsCounted (life_of k log).origin (Some (record { number = j.number; resume = j.resume })) (Some stage.Given) (applied k (log ++ e ∷ [])) (held_at held k)) same
          (given_now (record { number = j.number; resume = j.resume }) (applied j.task (log ++ e ∷ [])) (f.number ∙ sym (idle_applied j.task log e refl)) f.made f.free))
          (λ other. idle_applied u log e refl) (are.each u);
      beyond = beyond_push roots log e (inl refl) are.beyond;
      numbered = λ u. numbered_idle u log e refl (are.numbered u);
    }

-- a turn begins

begun_now : {o : Option Origin} {g : Option LastJob} {s : Option JobStage} {n : ℕ} {h : Option WaitingTaskView} (env : Env) → is_under_way s ≡ true → IsCounted o g s n h → IsCounted o g (Some (stage.Begun env)) n h
begun_now env is c = record { unmade = c.unmade; current = λ _. c.current is; waits = c.waits }

pub begin_push : (roots : ℕ) (log : List Event) (held : List (Option WaitingTaskView)) (t n : ℕ) (env : Env) → is_under_way (life_of t log).stage ≡ true → AreCounted roots log held → AreCounted roots (log ++ Begin (task t) n env ∷ []) held
begin_push roots log held t n env is are =
    let e : Event = Begin (task t) n env in
    record {
      each = λ u. counts_push log held e u
          (λ same. subst (λ (k : ℕ). IsCounted (life_of k log).origin (life_of k log).given (Some (stage.Begun env)) (applied k (log ++ e ∷ [])) (held_at held k)) same
          (subst (λ (k : ℕ). IsCounted (life_of t log).origin (life_of t log).given (Some (stage.Begun env)) k (held_at held t)) (sym (idle_applied t log e refl)) (begun_now env is (are.each t))))
          (λ other. idle_applied u log e refl) (are.each u);
      beyond = beyond_push roots log e (inl refl) are.beyond;
      numbered = λ u. numbered_idle u log e refl (are.numbered u);
    }
