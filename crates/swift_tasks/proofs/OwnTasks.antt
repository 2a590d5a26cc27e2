-- How many tasks a task can have spawned and detached.
use Rattle.swift_tasks.proofs.Prelude.{◌≡◌, ℕ, ◌+◌, ◌≤◌, List, [], ◌∷◌, length, refl, arith, Bool, true, false, cond, Option, Some, None, is_some, count_by, cons_option, filter_map, false≢true, Event, Root, Begin, Apply, Free, Open, Child, Skip, CancelTask, CancelGroup, Wait, Next, Close, End, Give, is_made, tasks_of, own_in, own_tasks}
use Rattle.std.proofs.lemmas.List.Sums.{sum_by-cons}

one_more : {Y : Type 0} (o : Option Y) (b : Bool) (ys : List Y) (n : ℕ) → (is_some o ≡ true → b ≡ true) → length ys ≤ n → length (cons_option o ys) ≤ cond b 1 0 + n
one_more None true ys n h le = omega (arith, le)
one_more None false ys n h le = omega (arith, le)
one_more (Some y) true ys n h le = omega (arith, le)
one_more (Some y) false ys n h le = absurd (false≢true (h refl))

-- what a list gives, where each that gives something passes
few_among : {X Y : Type 0} (f : X → Option Y) (p : X → Bool) → ((x : X) → is_some (f x) ≡ true → p x ≡ true) → (xs : List X) → length (filter_map f xs) ≤ count_by p xs
few_among f p h [] = omega arith
few_among f p h (x ∷ xs) = let more = one_more (f x) (p x) (filter_map f xs) (count_by p xs) (h x) (few_among f p h xs) in omega (arith, more, sum_by-cons (λ y. cond (p y) 1 0) x xs)

makes : (t : ℕ) (e : Event) → is_some (own_in t e) ≡ true → is_made e ≡ true
makes t (Free made by p detached) h = refl
makes t (Child a o g p) h = refl
makes t (Root a p) h = absurd (false≢true h)
makes t (Begin a n env) h = absurd (false≢true h)
makes t (Apply a n) h = absurd (false≢true h)
makes t (Open a g) h = absurd (false≢true h)
makes t (Skip a g) h = absurd (false≢true h)
makes t (CancelTask a) h = absurd (false≢true h)
makes t (CancelGroup a g) h = absurd (false≢true h)
makes t (Wait a b) h = absurd (false≢true h)
makes t (Next a g) h = absurd (false≢true h)
makes t (Close a g) h = absurd (false≢true h)
makes t (End a ending) h = absurd (false≢true h)
makes t (Give a n resume) h = absurd (false≢true h)

-- no more than there are
pub own_tasks_few : (roots t : ℕ) (log : List Event) → length (own_tasks t log) ≤ tasks_of roots log
own_tasks_few roots t log = let h = few_among (own_in t) is_made (makes t) log in omega (arith, h)
