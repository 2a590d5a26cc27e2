-- What each point of a legal log keeps: who has ended, who waits for whom, and which groups are closed.
use Rattle.swift_laws.proofs.Prelude.{◌≡◌, inl, inr, ℕ, ◌+◌, ◌<◌, ◌≤◌, zero, suc, Bool, true, false, List, [], ◌∷◌, ◌++◌, refl, sym, subst, ap, ◌∙◌, arith, append_assoc, cond, Option, Some, None, is_some, Contains, ◌==◌, ◌||◌, ◌&&◌, count_by, cases_eq, false≢true, nat_tests, append-nil, sum_by-append, TaskId, Priority, Event, Child, Wait, Close, JobStage, Life, task_of, is_made, tasks_of, later, life_of, lived, unborn, origin_in, given_in, stage_in, ending_in, opens, opened_by, closes, is_closed, life_of-push_same, life_of-push_other, unborn_without, is_closed-push, HasEnded}
use Rattle.std.proofs.Common.{◌⊎◌}
use Rattle.swift_events.specs.declared.life.JobStage.TheVariants as stage

-- an element of a list
abbrev pub In : {A : Type 0} → List A → A → Type 0
In [] x = ⊥
In (y ∷ ys) x = (y ≡ x) ⊎ In ys x

pub in_push : {A : Type 0} (xs : List A) (y x : A) → In (xs ++ y ∷ []) x → In xs x ⊎ (y ≡ x)
in_push [] y x (inl e) = inr e
in_push [] y x (inr h) = absurd h
in_push (z ∷ zs) y x (inl e) = inl (inl e)
in_push (z ∷ zs) y x (inr h) = elim (in_push zs y x h) [ inl a ↦ inl (inr a) | inr e ↦ inr e ]

pub in_contains : {A : Type 0} (xs : List A) (x : A) → Contains xs x → In xs x
in_contains [] x is = absurd (omega (arith, is.1))
in_contains (y ∷ ys) x (zero, below, same) = inl same
in_contains (y ∷ ys) x (suc k, below, same) = inr (in_contains ys x (k, omega arith, same))

-- tests

pub not_both : {X : Type 0} (b : Bool) → b ≡ true → b ≡ false → X
not_both b so not_so = absurd (false≢true (sym not_so ∙ so))

pub cases_of : (b : Bool) → (b ≡ true) ⊎ (b ≡ false)
cases_of true = inl refl
cases_of false = inr refl

pub none_some : {A X : Type 0} (o : Option A) → o ≡ None → is_some o ≡ true → X
none_some o none some = not_both (is_some o) some (ap is_some none)

or_cases : (a b : Bool) → (a || b) ≡ true → (a ≡ true) ⊎ (b ≡ true)
or_cases true b h = inl refl
or_cases false b h = inr h

-- what one more event changes of a task's life

later_cases : {A : Type 0} (x y : Option A) → (later x y ≡ y) ⊎ ((later x y ≡ x) × (is_some x ≡ true))
later_cases (Some a) y = inr (refl, refl)
later_cases None y = inl refl

later_now : {A : Type 0} (x y : Option A) → is_some x ≡ true → later x y ≡ x
later_now (Some a) y h = refl
later_now None y h = absurd (false≢true h)

-- one of the things that are known of a life, and what an event says of it
abbrev Says : {A : Type 0} → (Life → Option A) → (Event → Option A) → Type 0
Says f says = (l : Life) (e : Event) → f (lived l e) ≡ later (says e) (f l)

pub field_cases : {A : Type 0} (f : Life → Option A) (says : Event → Option A) → Says f says → (t : ℕ) (log : List Event) (e : Event)
    → (f (life_of t (log ++ e ∷ [])) ≡ f (life_of t log)) ⊎ ((task_of e ≡ t) × (f (life_of t (log ++ e ∷ [])) ≡ says e) × (is_some (says e) ≡ true))
field_cases f says law t log e = grind (arith, cases_eq, life_of-push_same, later_cases, life_of-push_other)

field_now : {A : Type 0} (f : Life → Option A) (says : Event → Option A) → Says f says → (t : ℕ) (log : List Event) (e : Event) → task_of e ≡ t → is_some (says e) ≡ true → f (life_of t (log ++ e ∷ [])) ≡ says e
field_now f says law t log e same some = ap f (life_of-push_same t log e same) ∙ law (life_of t log) e ∙ later_now (says e) (f (life_of t log)) some

field_stays : {A : Type 0} (f : Life → Option A) (says : Event → Option A) → Says f says → (t : ℕ) (log : List Event) (e : Event) → is_some (f (life_of t log)) ≡ true → is_some (f (life_of t (log ++ e ∷ []))) ≡ true
field_stays f says law t log e h = elim (field_cases f says law t log e) [ inl same ↦ ap is_some same ∙ h | inr new ↦ ap is_some new.1 ∙ new.2 ]

field_came : {A : Type 0} (f : Life → Option A) (says : Event → Option A) → Says f says → (t : ℕ) (log : List Event) (e : Event) → is_some (f (life_of t (log ++ e ∷ []))) ≡ true
    → (is_some (f (life_of t log)) ≡ true) ⊎ ((task_of e ≡ t) × (is_some (says e) ≡ true))
field_came f says law t log e h = elim (field_cases f says law t log e) [ inl same ↦ inl (sym (ap is_some same) ∙ h) | inr new ↦ inr (new.0, new.2) ]

field_same : {A : Type 0} (f : Life → Option A) (says : Event → Option A) → Says f says → (t : ℕ) (log : List Event) (e : Event) → says e ≡ None → f (life_of t (log ++ e ∷ [])) ≡ f (life_of t log)
field_same f says law t log e none = elim (field_cases f says law t log e) [ inl same ↦ same | inr new ↦ none_some (says e) none new.2 ]

abbrev pub has_origin : ℕ → List Event → Bool
has_origin t log = is_some (life_of t log).origin

abbrev pub was_given : ℕ → List Event → Bool
was_given t log = is_some (life_of t log).given

abbrev pub stage_at : ℕ → List Event → Option JobStage
stage_at t log = (life_of t log).stage

pub origin_stays : (t : ℕ) (log : List Event) (e : Event) → has_origin t log ≡ true → has_origin t (log ++ e ∷ []) ≡ true
origin_stays = field_stays (λ (l : Life). l.origin) origin_in (λ l e. refl)

origin_came : (t : ℕ) (log : List Event) (e : Event) → has_origin t (log ++ e ∷ []) ≡ true → (has_origin t log ≡ true) ⊎ ((task_of e ≡ t) × (is_some (origin_in e) ≡ true))
origin_came = field_came (λ (l : Life). l.origin) origin_in (λ l e. refl)

pub origin_now : (t : ℕ) (log : List Event) (e : Event) → task_of e ≡ t → is_some (origin_in e) ≡ true → (life_of t (log ++ e ∷ [])).origin ≡ origin_in e
origin_now = field_now (λ (l : Life). l.origin) origin_in (λ l e. refl)

pub given_stays : (t : ℕ) (log : List Event) (e : Event) → was_given t log ≡ true → was_given t (log ++ e ∷ []) ≡ true
given_stays = field_stays (λ (l : Life). l.given) given_in (λ l e. refl)

given_came : (t : ℕ) (log : List Event) (e : Event) → was_given t (log ++ e ∷ []) ≡ true → (was_given t log ≡ true) ⊎ ((task_of e ≡ t) × (is_some (given_in e) ≡ true))
given_came = field_came (λ (l : Life). l.given) given_in (λ l e. refl)

pub given_same : (t : ℕ) (log : List Event) (e : Event) → given_in e ≡ None → (life_of t (log ++ e ∷ [])).given ≡ (life_of t log).given
given_same = field_same (λ (l : Life). l.given) given_in (λ l e. refl)

pub given_now : (t : ℕ) (log : List Event) (e : Event) → task_of e ≡ t → is_some (given_in e) ≡ true → (life_of t (log ++ e ∷ [])).given ≡ given_in e
given_now = field_now (λ (l : Life). l.given) given_in (λ l e. refl)

stage_cases : (t : ℕ) (log : List Event) (e : Event) → (stage_at t (log ++ e ∷ []) ≡ stage_at t log) ⊎ ((task_of e ≡ t) × (stage_at t (log ++ e ∷ []) ≡ stage_in e) × (is_some (stage_in e) ≡ true))
stage_cases = field_cases (λ (l : Life). l.stage) stage_in (λ l e. refl)

stage_came : (t : ℕ) (log : List Event) (e : Event) → is_some (stage_at t (log ++ e ∷ [])) ≡ true → (is_some (stage_at t log) ≡ true) ⊎ ((task_of e ≡ t) × (is_some (stage_in e) ≡ true))
stage_came = field_came (λ (l : Life). l.stage) stage_in (λ l e. refl)

pub stage_same : (t : ℕ) (log : List Event) (e : Event) → stage_in e ≡ None → stage_at t (log ++ e ∷ []) ≡ stage_at t log
stage_same = field_same (λ (l : Life). l.stage) stage_in (λ l e. refl)

pub stage_now : (t : ℕ) (log : List Event) (e : Event) → task_of e ≡ t → is_some (stage_in e) ≡ true → stage_at t (log ++ e ∷ []) ≡ stage_in e
stage_now = field_now (λ (l : Life). l.stage) stage_in (λ l e. refl)

pub ended_stays : (t : ℕ) (log : List Event) (e : Event) → HasEnded t log → HasEnded t (log ++ e ∷ [])
ended_stays = field_stays (λ (l : Life). l.ending) ending_in (λ l e. refl)

pub ended_came : (t : ℕ) (log : List Event) (e : Event) → HasEnded t (log ++ e ∷ []) → HasEnded t log ⊎ ((task_of e ≡ t) × (is_some (ending_in e) ≡ true))
ended_came = field_came (λ (l : Life). l.ending) ending_in (λ l e. refl)

pub ending_same : (t : ℕ) (log : List Event) (e : Event) → ending_in e ≡ None → (life_of t (log ++ e ∷ [])).ending ≡ (life_of t log).ending
ending_same = field_same (λ (l : Life). l.ending) ending_in (λ l e. refl)

pub ended_now : (t : ℕ) (log : List Event) (e : Event) → task_of e ≡ t → is_some (ending_in e) ≡ true → HasEnded t (log ++ e ∷ [])
ended_now t log e same some = ap is_some (field_now (λ (l : Life). l.ending) ending_in (λ l x. refl) t log e same some) ∙ some

-- numbers and groups

count_grows : (p : Event → Bool) (log es : List Event) → count_by p log ≤ count_by p (log ++ es)
count_grows p log es = let sum : count_by p (log ++ es) ≡ count_by p log + count_by p es = sum_by-append (λ (x : Event). cond (p x) 1 0) log es in omega (arith, sum)

pub tasks_grow : (roots : ℕ) (log es : List Event) → tasks_of roots log ≤ tasks_of roots (log ++ es)
tasks_grow roots log es = let more = count_grows is_made log es in omega (arith, more)

pub opened_grow : (t : ℕ) (log es : List Event) → opened_by t log ≤ opened_by t (log ++ es)
opened_grow t log es = count_grows (opens t) log es

pub closed_cases : (t g : ℕ) (log : List Event) (e : Event) → is_closed t g (log ++ e ∷ []) ≡ true → (is_closed t g log ≡ true) ⊎ (closes t g e ≡ true)
closed_cases t g log e h = or_cases (is_closed t g log) (closes t g e) (sym (is_closed-push t g log e) ∙ h)

and_both : (a b : Bool) → (a && b) ≡ true → (a ≡ true) × (b ≡ true)
and_both true true h = (refl, refl)
and_both _ _ h = absurd (false≢true h)

pub equal_of : (a b : ℕ) → (a == b) ≡ true → a ≡ b
equal_of a b h = grind (arith, nat_tests)

-- an event that closes a group is one of its owner, and says so
pub closes_says : (o g : ℕ) (e : Event) → closes o g e ≡ true → (task_of e ≡ o) × (stage_in e ≡ Some (stage.Closes g))
closes_says o g (Close owner group) h = grind (arith, and_both, equal_of)
closes_says o g e h = absurd (false≢true h)

-- Nothing holds the task: what it has waited for has ended, and so has each child of a group that it has closed.
pub record IsFree (t : ℕ) (log : List Event) : Type 0 where
  pub waits : (w u : TaskId) → w.0 ≡ t → In log (Wait w u) → HasEnded u.0 log
  pub children : (u o : TaskId) (g : ℕ) (p : Priority) → o.0 ≡ t → In log (Child u o g p) → is_closed o.0 g log ≡ true → HasEnded u.0 log

-- What a log keeps.
pub record Sound (roots : ℕ) (log : List Event) : Type 0 where
  pub born : (t : ℕ) → was_given t log ≡ true → has_origin t log ≡ true
  pub low : (t : ℕ) → has_origin t log ≡ true → t < tasks_of roots log
  pub staged : (t : ℕ) → is_some (stage_at t log) ≡ true → was_given t log ≡ true
  pub rests : (t : ℕ) → HasEnded t log → (was_given t log ≡ true) × (stage_at t log ≡ Some stage.Applied)
  pub waits : (t u : TaskId) → In log (Wait t u) → (was_given t.0 log ≡ true) × (HasEnded u.0 log ⊎ (stage_at t.0 log ≡ Some (stage.Waits u)))
  pub children : (u o : TaskId) (g : ℕ) (p : Priority) → In log (Child u o g p)
      → (was_given o.0 log ≡ true) × (g < opened_by o.0 log) × (is_closed o.0 g log ≡ true → HasEnded u.0 log ⊎ (stage_at o.0 log ≡ Some (stage.Closes g)))

-- an event by which a task may end
pub record MayEnd (log : List Event) (e : Event) : Type 0 where
  pub still : stage_in e ≡ None
  pub given : was_given (task_of e) log ≡ true
  pub applied : stage_at (task_of e) log ≡ Some stage.Applied

-- an event that may stand after a log
pub record May (roots : ℕ) (log : List Event) (e : Event) : Type 0 where
  pub low : is_some (origin_in e) ≡ true → task_of e < tasks_of roots (log ++ e ∷ [])
  pub born : is_some (given_in e) ≡ true → has_origin (task_of e) log ≡ true
  pub given : is_some (stage_in e) ≡ true → was_given (task_of e) (log ++ e ∷ []) ≡ true
  pub moves : is_some (stage_in e) ≡ true → IsFree (task_of e) log
  pub alive : is_some (stage_in e) ≡ true → HasEnded (task_of e) log → ⊥
  pub ends : is_some (ending_in e) ≡ true → MayEnd log e
  pub child : (u o : TaskId) (g : ℕ) (p : Priority) → e ≡ Child u o g p → (was_given o.0 log ≡ true) × (g < opened_by o.0 log) × (is_closed o.0 g log ≡ false)

module _ (roots : ℕ) (log : List Event) (e : Event) (s : Sound roots log) (m : May roots log e) where
  next_born : (t : ℕ) → was_given t (log ++ e ∷ []) ≡ true → has_origin t (log ++ e ∷ []) ≡ true
  next_born t h = grind (arith, given_came, origin_stays, has_origin)

  next_low : (t : ℕ) → has_origin t (log ++ e ∷ []) ≡ true → t < tasks_of roots (log ++ e ∷ [])
  next_low t h = elim (origin_came t log e h) [
    | inl old ↦ (let lt = s.low t old in let grow = tasks_grow roots log (e ∷ []) in omega (arith, lt, grow))
    | inr new ↦ subst (λ (k : ℕ). k < tasks_of roots (log ++ e ∷ [])) new.0 (m.low new.1)
  ]

  next_staged : (t : ℕ) → is_some (stage_at t (log ++ e ∷ [])) ≡ true → was_given t (log ++ e ∷ []) ≡ true
  next_staged t h = grind (arith, stage_came, given_stays)

  next_rests : (t : ℕ) → HasEnded t (log ++ e ∷ []) → (was_given t (log ++ e ∷ []) ≡ true) × (stage_at t (log ++ e ∷ []) ≡ Some stage.Applied)
  next_rests t h = grind (arith, ended_came, given_stays, stage_cases, stage_same)

  next_waits : (t u : TaskId) → In (log ++ e ∷ []) (Wait t u) → (was_given t.0 (log ++ e ∷ []) ≡ true) × (HasEnded u.0 (log ++ e ∷ []) ⊎ (stage_at t.0 (log ++ e ∷ []) ≡ Some (stage.Waits u)))
  next_waits t u h = grind (arith, in_push, given_stays, ended_stays, stage_cases, stage_now)

  next_child : (u o : TaskId) (g : ℕ) (p : Priority) → In log (Child u o g p) → is_closed o.0 g (log ++ e ∷ []) ≡ true → HasEnded u.0 (log ++ e ∷ []) ⊎ (stage_at o.0 (log ++ e ∷ []) ≡ Some (stage.Closes g))
  next_child u o g p old closed = elim (closed_cases o.0 g log e closed) [
    | inl was ↦ elim ((s.children u o g p old).2 was) [
      | inl ended ↦ inl (ended_stays u.0 log e ended)
      | inr at ↦ elim (stage_cases o.0 log e) [
        | inl same ↦ inr (same ∙ at)
        | inr moved ↦ inl (ended_stays u.0 log e ((m.moves moved.2).children u o g p (sym moved.0) old was))
      ]
    ]
    | inr now ↦ (let says = closes_says o.0 g e now in inr (stage_now o.0 log e says.0 (ap is_some says.1) ∙ says.1))
  ]

  next_children : (u o : TaskId) (g : ℕ) (p : Priority) → In (log ++ e ∷ []) (Child u o g p)
      → (was_given o.0 (log ++ e ∷ []) ≡ true) × (g < opened_by o.0 (log ++ e ∷ [])) × (is_closed o.0 g (log ++ e ∷ []) ≡ true → HasEnded u.0 (log ++ e ∷ []) ⊎ (stage_at o.0 (log ++ e ∷ []) ≡ Some (stage.Closes g)))
  next_children u o g p h = elim (in_push log e (Child u o g p) h) [
    | inl old ↦ (let c = s.children u o g p old in let grow = opened_grow o.0 log (e ∷ []) in
        (given_stays o.0 log e c.0, (let lt = c.1 in omega (arith, lt, grow)), next_child u o g p old))
    | inr q ↦ (let c = m.child u o g p q in let grow = opened_grow o.0 log (e ∷ []) in (
      given_stays o.0 log e c.0,
      (let lt = c.1 in omega (arith, lt, grow)),
      λ closed. elim (closed_cases o.0 g log e closed) [
        | inl was ↦ not_both (is_closed o.0 g log) was c.2
        | inr now ↦ not_both (closes o.0 g e) now (ap (closes o.0 g) q)
      ],
    ))
  ]

  pub sound_push : Sound roots (log ++ e ∷ [])
  sound_push = record { born = next_born; low = next_low; staged = next_staged; rests = next_rests; waits = next_waits; children = next_children }

-- events that may stand after a log, one after the other
abbrev pub AllMay : ℕ → List Event → List Event → Type 0
AllMay roots log [] = Unit {0}
AllMay roots log (e ∷ es) = May roots log e × AllMay roots (log ++ e ∷ []) es

pub sound_all : (roots : ℕ) (log es : List Event) → Sound roots log → AllMay roots log es → Sound roots (log ++ es)
sound_all roots log [] s all = subst (Sound roots) (sym (append-nil log)) s
sound_all roots log (e ∷ es) s all = subst (Sound roots) (append_assoc log (e ∷ []) es) (sound_all roots (log ++ e ∷ []) es (sound_push roots log e s all.0) all.1)

all_append : (roots : ℕ) (log es fs : List Event) → AllMay roots log es → AllMay roots (log ++ es) fs → AllMay roots log (es ++ fs)
all_append roots log [] fs a b = subst (λ (l : List Event). AllMay roots l fs) (append-nil log) b
all_append roots log (e ∷ es) fs a b = (a.0, all_append roots (log ++ e ∷ []) es fs a.1 (subst (λ (l : List Event). AllMay roots l fs) (sym (append_assoc log (e ∷ []) es)) b))

all_front : (roots : ℕ) (log es fs : List Event) → AllMay roots log (es ++ fs) → AllMay roots log es
all_front roots log [] fs all = tt
all_front roots log (e ∷ es) fs all = (all.0, all_front roots (log ++ e ∷ []) es fs all.1)

all_back : (roots : ℕ) (log es fs : List Event) → AllMay roots log (es ++ fs) → AllMay roots (log ++ es) fs
all_back roots log [] fs all = subst (λ (l : List Event). AllMay roots l fs) (sym (append-nil log)) all
all_back roots log (e ∷ es) fs all = subst (λ (l : List Event). AllMay roots l fs) (append_assoc log (e ∷ []) es) (all_back roots (log ++ e ∷ []) es fs all.1)

-- a task that has ended closes no group
closed_before : (roots : ℕ) (t g : ℕ) (log es : List Event) → AllMay roots log es → HasEnded t log → is_closed t g (log ++ es) ≡ true → is_closed t g log ≡ true
closed_before roots t g log [] all ended closed = subst (λ (l : List Event). is_closed t g l ≡ true) (append-nil log) closed
closed_before roots t g log (e ∷ es) all ended closed =
    let next : is_closed t g ((log ++ e ∷ []) ++ es) ≡ true = subst (λ (l : List Event). is_closed t g l ≡ true) (sym (append_assoc log (e ∷ []) es)) closed in
    elim (closed_cases t g log e (closed_before roots t g (log ++ e ∷ []) es all.1 (ended_stays t log e ended) next)) [
      | inl was ↦ was
      | inr now ↦ (let says = closes_says t g e now in absurd (all.0.alive (ap is_some says.1) (subst (λ (k : ℕ). HasEnded k log) (sym says.0) ended)))
    ]

-- the empty log

known_none : (t : ℕ) {X : Type 0} (f : Life → Bool) → f unborn ≡ false → f (life_of t []) ≡ true → X
known_none t f none some = not_both (f (life_of t [])) some (ap f (unborn_without t [] refl) ∙ none)

sound_nil : (roots : ℕ) → Sound roots []
sound_nil roots = record {
  born = λ t h. known_none t (λ (l : Life). is_some l.given) refl h;
  low = λ t h. known_none t (λ (l : Life). is_some l.origin) refl h;
  staged = λ t h. known_none t (λ (l : Life). is_some l.stage) refl h;
  rests = λ t h. known_none t (λ (l : Life). is_some l.ending) refl h;
  waits = λ t u h. absurd h;
  children = λ u o g p h. absurd h;
}

-- one log leads to another by events each of which may stand where it stands
abbrev pub Leads : ℕ → List Event → List Event → Type 0
Leads roots log log' = (es : List Event) × (log' ≡ log ++ es) × AllMay roots log es

pub stays : (roots : ℕ) (log : List Event) → Leads roots log log
stays roots log = ([], sym (append-nil log), tt)

pub leads_by : (roots : ℕ) (log : List Event) (e : Event) → May roots log e → Leads roots log (log ++ e ∷ [])
leads_by roots log e m = (e ∷ [], refl, (m, tt))

pub leads_on : (roots : ℕ) (a b c : List Event) → Leads roots a b → Leads roots b c → Leads roots a c
leads_on roots a b c p q =
    (p.0 ++ q.0, q.1 ∙ ap (λ (l : List Event). l ++ q.0) p.1 ∙ append_assoc a p.0 q.0, all_append roots a p.0 q.0 p.2 (subst (λ (l : List Event). AllMay roots l q.0) p.1 q.2))

pub sound_leads : (roots : ℕ) (a b : List Event) → Sound roots a → Leads roots a b → Sound roots b
sound_leads roots a b s p = subst (Sound roots) (sym p.1) (sound_all roots a p.0 s p.2)

pub sound_from : (roots : ℕ) (log : List Event) → Leads roots [] log → Sound roots log
sound_from roots log p = sound_leads roots [] log (sound_nil roots) p

-- each front of such a log is sound
pub sound_front : (roots : ℕ) (log front back : List Event) → Leads roots [] log → log ≡ front ++ back → Sound roots front
sound_front roots log front back p is =
    let whole : AllMay roots [] (front ++ back) = subst (AllMay roots []) (sym p.1 ∙ is) p.2 in
    sound_all roots [] front (sound_nil roots) (all_front roots [] front back whole)

-- a group that is closed at last was closed wherever its owner had ended
pub closed_front : (roots : ℕ) (t g : ℕ) (log front back : List Event) → Leads roots [] log → log ≡ front ++ back → HasEnded t front → is_closed t g log ≡ true → is_closed t g front ≡ true
closed_front roots t g log front back p is ended closed =
    let whole : AllMay roots [] (front ++ back) = subst (AllMay roots []) (sym p.1 ∙ is) p.2 in
    closed_before roots t g front back (all_back roots [] front back whole) ended (subst (λ (l : List Event). is_closed t g l ≡ true) is closed)

-- the stages in which a task is held by a wait, or by a group that it closes
abbrev pub holds_at : Option JobStage → Bool
holds_at (Some (stage.Waits awaited)) = true
holds_at (Some (stage.Closes g)) = true
holds_at _ = false

-- in any other stage it is free
pub free_at : (roots : ℕ) (t : ℕ) (log : List Event) → Sound roots log → holds_at (stage_at t log) ≡ false → IsFree t log
free_at roots t log s loose = grind (arith, not_both, holds_at)

-- a task that has ended is free
pub free_ended : (roots : ℕ) (t : ℕ) (log : List Event) → Sound roots log → HasEnded t log → IsFree t log
free_ended roots t log s ended = free_at roots t log s (ap holds_at (s.rests t ended).1)
