-- Events that change no card of a task, or of a group.
use Rattle.swift_explorer.proofs.Prelude.{◌≡◌, ℕ, ◌+◌, ℤ, Bool, true, false, List, [], ◌++◌, refl, sym, ◌∙◌, ap, append-nil, add-zero, if◌then◌else◌, ◌==◌, ◌||◌, Option, Some, None, ne_eqb, cons_option, Event, Root, Begin, Apply, Free, Open, Child, Skip, CancelTask, CancelGroup, Wait, Next, Close, End, Give, task_of, link_in, one_if, some_numbers, other_of, IsPast}

pub unequal : (a b : ℕ) → (a ≡ b → ⊥) → (a == b) ≡ false
unequal a b ne = ne_eqb a b ne

none_if : {A : Type 0} (b : Bool) (x : A) → b ≡ false → (if b then Some x else None) ≡ None
none_if true x is = cc
none_if false x is = refl

link_past : {A : Type 0} (b : Bool) (x : Option A) → b ≡ false → (if b then x else None) ≡ None
link_past true x is = cc
link_past false x is = refl

-- an event that names a task neither first nor second says nothing of it
pub past : (t : ℕ) (e : Event) → (task_of e == t) ≡ false → (other_of e == t) ≡ false → IsPast t e
past t (Root u p) first second = record { task = first; link = link_past (u.0 == t) (link_in (Root u p)) first; own = refl; waiter = refl; named = refl; opens = refl }
past t (Begin u n env) first second = record { task = first; link = link_past (u.0 == t) (link_in (Begin u n env)) first; own = refl; waiter = refl; named = refl; opens = refl }
past t (Apply u n) first second = record { task = first; link = link_past (u.0 == t) (link_in (Apply u n)) first; own = refl; waiter = refl; named = refl; opens = refl }
past t (Free u by p detached) first second = record { task = first; link = link_past (u.0 == t) (link_in (Free u by p detached)) first; own = none_if (by.0 == t) u second; waiter = refl; named = refl; opens = refl }
past t (Open o g) first second = record { task = first; link = link_past (o.0 == t) (link_in (Open o g)) first; own = refl; waiter = refl; named = refl; opens = first }
past t (Child u o g p) first second = record { task = first; link = link_past (u.0 == t) (link_in (Child u o g p)) first; own = refl; waiter = refl; named = refl; opens = refl }
past t (Skip o g) first second = record { task = first; link = link_past (o.0 == t) (link_in (Skip o g)) first; own = refl; waiter = refl; named = refl; opens = refl }
past t (CancelTask u) first second = record { task = first; link = link_past (u.0 == t) (link_in (CancelTask u)) first; own = refl; waiter = refl; named = first; opens = refl }
past t (CancelGroup o g) first second = record { task = first; link = link_past (o.0 == t) (link_in (CancelGroup o g)) first; own = refl; waiter = refl; named = refl; opens = refl }
past t (Wait u awaited) first second = record { task = first; link = link_past (u.0 == t) (link_in (Wait u awaited)) first; own = refl; waiter = none_if (awaited.0 == t) u second; named = refl; opens = refl }
past t (Next o g) first second = record { task = first; link = link_past (o.0 == t) (link_in (Next o g)) first; own = refl; waiter = refl; named = refl; opens = refl }
past t (Close o g) first second = record { task = first; link = link_past (o.0 == t) (link_in (Close o g)) first; own = refl; waiter = refl; named = refl; opens = refl }
past t (End u ending) first second = record { task = first; link = link_past (u.0 == t) (link_in (End u ending)) first; own = refl; waiter = refl; named = refl; opens = refl }
past t (Give u n resume) first second = record { task = first; link = link_past (u.0 == t) (link_in (Give u n resume)) first; own = refl; waiter = refl; named = refl; opens = refl }

-- what stays where nothing is said

pub numbers_stay : {A : Type 0} (f : A → List ℤ) (numbers : List ℤ) (said : Option A) → said ≡ None → numbers ≡ numbers ++ some_numbers f (cons_option said [])
numbers_stay f numbers said none = sym (append-nil numbers) ∙ ap (λ (o : Option _). numbers ++ some_numbers f (cons_option o [])) (sym none)

pub items_stay : {A : Type 0} (items : List A) (said : Option A) → said ≡ None → items ≡ items ++ cons_option said []
items_stay items said none = sym (append-nil items) ∙ ap (λ (o : Option _). items ++ cons_option o []) (sym none)

pub flag_stays : (flag said : Bool) → said ≡ false → flag ≡ (flag || said)
flag_stays true said is = refl
flag_stays false said is = sym is

pub count_stays : (n : ℕ) (said : Bool) → said ≡ false → n ≡ n + one_if said
count_stays n said is = sym (add-zero n) ∙ ap (λ (b : Bool). n + one_if b) (sym is)

pub stays_unless : {A : Type 0} (none x y : A) (over : Bool) → over ≡ false → x ≡ y → x ≡ (if over then none else y)
stays_unless none x y true is same = absurd (cc is)
stays_unless none x y false is same = same
