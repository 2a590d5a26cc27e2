-- What a log says of the children of a group and of those who wait, by its events.
use Rattle.swift_laws.proofs.Prelude.{◌≡◌, inl, inr, ℕ, Bool, true, false, List, [], ◌∷◌, refl, sym, subst, ap, ◌∙◌, arith, Option, Some, None, is_some, ◌==◌, ◌||◌, not, unwrap_or, filter, filter_map, list_any, cons_option, false≢true, nat_tests, none-some, TaskId, Ending, Priority, close_among, close_of, Event, Child, Wait, End, task_of, events_of, later, last_of, ending_in, child_in, children_of, ending_among, endings_of, group_of, waiters_of, HasEnded}
use Rattle.std.proofs.Common.{◌⊎◌, if◌then◌else◌}
use Rattle.swift_groups.specs.declared.answer.Close.TheVariants as closing
use Rattle.swift_groups.specs.Groups.{has_ended, is_among, unfinished_of}
use Rattle.swift_events.specs.Lives.{life}
use Rattle.swift_laws.proofs.OpenLogs.{In, cases_of, equal_of}

-- lists

in_cons : {A : Type 0} (o : Option A) (xs : List A) (y : A) → In xs y → In (cons_option o xs) y
in_cons None xs y h = h
in_cons (Some x) xs y h = inr h

in_here : {A : Type 0} (o : Option A) (xs : List A) (y : A) → o ≡ Some y → In (cons_option o xs) y
in_here o xs y is = subst (λ p. In (cons_option p xs) y) (sym is) (inl refl)

pub in_filter_map : {A B : Type 0} (h : A → Option B) (xs : List A) (x : A) (y : B) → In xs x → h x ≡ Some y → In (filter_map h xs) y
in_filter_map h [] x y i is = absurd i
in_filter_map h (z ∷ zs) x y (inl q) is = in_here (h z) (filter_map h zs) y (ap h q ∙ is)
in_filter_map h (z ∷ zs) x y (inr i) is = in_cons (h z) (filter_map h zs) y (in_filter_map h zs x y i is)

out_cons : {A B : Type 0} (h : A → Option B) (z : A) (zs : List A) (y : B) (o : Option B) → h z ≡ o → (In (filter_map h zs) y → (x : A) × In zs x × (h x ≡ Some y)) → In (cons_option o (filter_map h zs)) y → (x : A) × In (z ∷ zs) x × (h x ≡ Some y)
out_cons h z zs y None is rest i = let f = rest i in (f.0, inr f.1, f.2)
out_cons h z zs y (Some w) is rest (inl q) = (z, inl refl, is ∙ ap Some q)
out_cons h z zs y (Some w) is rest (inr i) = let f = rest i in (f.0, inr f.1, f.2)

pub from_filter_map : {A B : Type 0} (h : A → Option B) (xs : List A) (y : B) → In (filter_map h xs) y → (x : A) × In xs x × (h x ≡ Some y)
from_filter_map h [] y i = absurd i
from_filter_map h (z ∷ zs) y i = out_cons h z zs y (h z) refl (from_filter_map h zs y) i

same_some : {A : Type 0} (x y : A) → Some x ≡ Some y → x ≡ y
same_some x y is = ap (λ o. unwrap_or o x) is

or_cases : (a b : Bool) → (a || b) ≡ true → (a ≡ true) ⊎ (b ≡ true)
or_cases true b h = inl refl
or_cases false b h = inr h

record Found {A B : Type 0} (p : B → Bool) (h : A → Option B) (xs : List A) : Type 0 where
  x : A
  y : B
  among : In xs x
  gives : h x ≡ Some y
  passes : p y ≡ true

found_in : {A B : Type 0} (p : B → Bool) (h : A → Option B) (z : A) (zs : List A) → Found p h zs → Found p h (z ∷ zs)
found_in p h z zs f = record { x = f.x; y = f.y; among = inr f.among; gives = f.gives; passes = f.passes }

mutual_found : {A B : Type 0} (p : B → Bool) (h : A → Option B) (z : A) (zs : List A) (o : Option B) → h z ≡ o → (list_any p (filter_map h zs) ≡ true → Found p h zs) → list_any p (cons_option o (filter_map h zs)) ≡ true → Found p h (z ∷ zs)
mutual_found p h z zs None is rest any = found_in p h z zs (rest any)
mutual_found p h z zs (Some y) is rest any = elim (or_cases (p y) (list_any p (filter_map h zs)) any) [
  | inl now ↦ record { x = z; y = y; among = inl refl; gives = is; passes = now }
  | inr later_on ↦ found_in p h z zs (rest later_on)
]

any_found : {A B : Type 0} (p : B → Bool) (h : A → Option B) (xs : List A) → list_any p (filter_map h xs) ≡ true → Found p h xs
any_found p h [] any = absurd (false≢true any)
any_found p h (z ∷ zs) any = mutual_found p h z zs (h z) refl (any_found p h zs) any

in_filter : {A : Type 0} (p : A → Bool) (xs : List A) (x : A) → In xs x → p x ≡ true → In (filter p xs) x
in_filter p [] x i is = absurd i
in_filter p (z ∷ zs) x (inl q) is = let so : p z ≡ true = ap p q ∙ is in rw so (inl q)
in_filter p (z ∷ zs) x (inr i) is = elim (cases_of (p z)) [
  | inl so ↦ rw so (inr (in_filter p zs x i is))
  | inr not_so ↦ rw not_so (in_filter p zs x i is)
]

nil_in : {A : Type 0} (xs : List A) (x : A) → xs ≡ [] → In xs x → ⊥
nil_in xs x is i = subst (λ ys. In ys x) is i

-- endings

last_in : {A : Type 0} (says : Event → Option A) (es : List Event) (e : Event) → In es e → is_some (says e) ≡ true → is_some (last_of says es) ≡ true
last_in says [] e i some = absurd i
last_in says (x ∷ xs) e (inl q) some = either (last_of says xs) (says x) (ap (λ y. is_some (says y)) q ∙ some)
  where
    either : {A : Type 0} (a b : Option A) → is_some b ≡ true → is_some (later a b) ≡ true
    either (Some y) b h = refl
    either None b h = h
last_in says (x ∷ xs) e (inr i) some = first (last_of says xs) (says x) (last_in says xs e i some)
  where
    first : {A : Type 0} (a b : Option A) → is_some a ≡ true → is_some (later a b) ≡ true
    first (Some y) b h = refl
    first None b h = absurd (false≢true h)

is_equal : (a b : ℕ) → a ≡ b → (a == b) ≡ true
is_equal a b is = grind (arith, nat_tests)

ended_in : (k : ℕ) (log : List Event) (e : Event) → In log e → task_of e ≡ k → is_some (ending_in e) ≡ true → HasEnded k log
unfolding life
ended_in k log e i of some = last_in ending_in (events_of k log) e (in_filter (λ x. task_of x == k) log e i (is_equal (task_of e) k of)) some

ending_if : (b : Bool) (t : TaskId) (ending : Ending) (y : TaskId × Ending) → (if b then Some (t, ending) else None) ≡ Some y → t ≡ y.0
ending_if true t ending y is = ap (λ (z : TaskId × Ending). z.0) (same_some (t, ending) y is)
ending_if false t ending y is = absurd (none-some y is)

ending_says : (children : List TaskId) (e : Event) (y : TaskId × Ending) → ending_among children e ≡ Some y → (task_of e ≡ y.0.0) × (is_some (ending_in e) ≡ true)
ending_says children (End t ending) y is = (ap (λ (x : TaskId). x.0) (ending_if (is_among children t) t ending y is), refl)
ending_says children e y is = absurd (none-some y is)

has_ended_in : (children : List TaskId) (log : List Event) (u : TaskId) → has_ended (filter_map (ending_among children) log) u ≡ true → HasEnded u.0 log
has_ended_in children log u any =
    let f = any_found (λ e. e.0.0 == u.0) (ending_among children) log any in
    let says = ending_says children f.x f.y f.gives in
    ended_in u.0 log f.x f.among (says.0 ∙ equal_of f.y.0.0 u.0 f.passes) says.1

-- children

close_nil : (ts : List TaskId) → close_among ts ≡ closing.Done → ts ≡ []
close_nil [] is = refl
close_nil (t ∷ ts) is = absurd (cc)

child_is : (u o : TaskId) (g : ℕ) (p : Priority) (k : ℕ) → o.0 ≡ k → child_in k g (Child u o g p) ≡ Some u
child_is u o g p k is = let a = is_equal o.0 k is in let b = is_equal g g refl in rw (a, b) refl

-- where the close of a group is done, each child of it has ended
pub closed_done : (o g : ℕ) (log : List Event) → close_of (group_of o g log) ≡ closing.Done → (u owner : TaskId) (p : Priority) → owner.0 ≡ o → In log (Child u owner g p) → HasEnded u.0 log
closed_done o g log done u owner p of i =
    let added = children_of o g log in
    let none : unfinished_of added (endings_of o g log) ≡ [] = close_nil (unfinished_of added (endings_of o g log)) done in
    let child : In added u = in_filter_map (child_in o g) log (Child u owner g p) u i (child_is u owner g p o of) in
    elim (cases_of (has_ended (endings_of o g log) u)) [
      | inl ended ↦ has_ended_in added log u ended
      | inr unended ↦ absurd (nil_in (unfinished_of added (endings_of o g log)) u none (in_filter (λ t. not (has_ended (endings_of o g log) t)) added u child (ap not unended)))
    ]

-- waiters

abbrev pub EachTask : (ℕ → Type 0) → List TaskId → Type 0
EachTask P [] = Unit {0}
EachTask P (u ∷ us) = P u.0 × EachTask P us

waiter_if : (P : ℕ → Type 0) (w : TaskId) (us : List TaskId) (b : Bool) → (b ≡ true → P w.0) → EachTask P us → EachTask P (cons_option (if b then Some w else None) us)
waiter_if P w us true h rest = (h refl, rest)
waiter_if P w us false h rest = rest

pub each_waiter : (P : ℕ → Type 0) (t : ℕ) (log : List Event) → ((w a : TaskId) → In log (Wait w a) → a.0 ≡ t → P w.0) → EachTask P (waiters_of t log)
each_waiter P t [] f = tt
each_waiter P t (Wait w a ∷ es) f = waiter_if P w (waiters_of t es) (a.0 == t) (λ so. f w a (inl refl) (equal_of a.0 t so)) (each_waiter P t es (λ v b i. f v b (inr i)))
each_waiter P t (e ∷ es) f = each_waiter P t es (λ v b i. f v b (inr i))
