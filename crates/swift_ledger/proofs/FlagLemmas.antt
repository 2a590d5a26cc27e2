-- The marks of cancelled tasks once one more event is written.
use Rattle.swift_ledger.proofs.Prelude.{◌≡◌, ◌≢◌, ◌⊎◌, ℕ, ◌+◌, ◌<◌, ◌≤◌, List, [], ◌∷◌, ◌++◌, length, get_or, set, refl, sym, ◌∙◌, ap, arith, true, false, Bool, inl, inr, subst, get_or-set_same, get_or-set_other, length-set, replicate, Option, Some, None, ◌==◌, cons_option, cases_eq, cases_lt, cases_Bool, false≢true, eqb-true, eq-eqb, cond-true, and_from, and_parts, and_cases, or_left, or_right, not-false, get_or_past, length-replicate, get_or-replicate, TaskId, Priority, Event, Free, Child, CancelTask, CancelGroup, Life, Origin, task_of, events_of, last_of, later, is_made, tasks_of, life_of, unborn, origin_in, child_in, children_of, names_group, is_named_group, names_task, parent_by, parent_of, of_parent, is_cancelled, is_cancelled_group, lives_of, unborn_without, get_or-lives_of, origin_of, tasks_of-push_made, tasks_of-push_other, of_parent_same, unnamed_without, cancelled_no_child, NamesNothingNew, cancelled_push, cancelled_same, cancelled_before_child, cancelled_child, CanNote, IsWellFormed, is_named_in, HasNoChildren, is_new_cancel, is_born_cancelled, is_reached, AreMarked}
use Rattle.std.specs.Prelude.{not, ◌&&◌, ◌||◌}
use Rattle.std.proofs.lemmas.List.FromFn.{fill_by_all, get_or-map-range_with_len, length-map-range_with_len, map-range_with_len_more}
use Rattle.swift_ledger.specs.FlagsInside.{flags_of}
use Rattle.swift_ledger.proofs.FormLemmas.{unmade_beyond, is_child, same_parents, makes_new, owner_older}

-- the marks of a log, by place

pub length-flags_of : (n : ℕ) (log : List Event) → length (flags_of n log) ≡ n
unfolding flags_of
length-flags_of n log = length-map-range_with_len (λ t. is_cancelled t log) 0 n

pub get_or-flags_of : (n : ℕ) (log : List Event) (k : ℕ) → k < n → get_or (flags_of n log) k false ≡ is_cancelled k log
unfolding flags_of
get_or-flags_of n log k h = get_or-map-range_with_len (λ t. is_cancelled t log) 0 n k k false h (omega arith)

pub are_flags_of : (n : ℕ) (log : List Event) (xs : List Bool) → length xs ≡ n → ((k : ℕ) → k < n → get_or xs k false ≡ is_cancelled k log) → xs ≡ flags_of n log
unfolding flags_of
are_flags_of n log xs long each = fill_by_all (λ t. is_cancelled t log) xs n false long each

flags_of_more : (n : ℕ) (log : List Event) → flags_of (n + 1) log ≡ flags_of n log ++ is_cancelled n log ∷ []
unfolding flags_of
flags_of_more n log = map-range_with_len_more (λ t. is_cancelled t log) 0 n n (omega arith)

-- a number that is not taken is not cancelled
pub uncancelled_beyond : (roots : ℕ) (log : List Event) (t : ℕ) → IsWellFormed roots log → tasks_of roots log ≤ t → is_cancelled t log ≡ false
uncancelled_beyond roots log t form le =
    cancelled_no_child t log (ap (λ (l : Life). parent_by l.origin) (unmade_beyond roots log t form le)) ∙ unnamed_without t log (form.beyond t le)

pub flag_of : (roots : ℕ) (log : List Event) (t : ℕ) → IsWellFormed roots log → get_or (flags_of (tasks_of roots log) log) t false ≡ is_cancelled t log
flag_of roots log t form = elim (cases_lt t (tasks_of roots log)) [
  | inl less ↦ get_or-flags_of (tasks_of roots log) log t less
  | inr le ↦ (let past : length (flags_of (tasks_of roots log) log) ≤ t = rw (length-flags_of (tasks_of roots log) log) le in
      get_or_past (flags_of (tasks_of roots log) log) t false past ∙ sym (uncancelled_beyond roots log t form le))
]

no_flags_of : (n : ℕ) → replicate n false ≡ flags_of n []
no_flags_of n = are_flags_of n [] (replicate n false) (length-replicate n false)
    (λ k h. get_or-replicate n k false false h ∙ sym (cancelled_no_child k [] (ap (λ (l : Life). parent_by l.origin) (unborn_without k [] refl))))

pub no_flags : (roots : ℕ) → replicate roots false ≡ flags_of (tasks_of roots []) []
no_flags roots = let same : roots ≡ tasks_of roots [] = omega arith in no_flags_of roots ∙ ap (λ n. flags_of n []) same

-- a group that a task is a child of has children

nonempty_rest : (x : Option TaskId) (rest : List TaskId) → cons_option x rest ≡ [] → (x ≡ None) × (rest ≡ [])
nonempty_rest None rest none = (refl, none)
nonempty_rest (Some t) rest none = absurd (cc)

unlisted : (x : ℕ × ℕ) (e : Event) → child_in x.0 x.1 e ≡ None → parent_by (origin_in e) ≢ Some x
unlisted x (Child t o g p) none is =
    let pair : (o.0, g) ≡ x = cc in
    let owner : x.0 ≡ o.0 = sym (ap (λ (y : ℕ × ℕ). y.0) pair) in
    let group : x.1 ≡ g = sym (ap (λ (y : ℕ × ℕ). y.1) pair) in
    let own : ((o.0 == x.0) && (g == x.1)) ≡ true = and_from (o.0 == x.0) (g == x.1) (eq-eqb o.0 x.0 (sym owner)) (eq-eqb g x.1 (sym group)) in
    let listed : Some t ≡ None = sym (cond-true ((o.0 == x.0) && (g == x.1)) (Some t) None own) ∙ none in
    cc
unlisted x (Free t by p true) none is = cc
unlisted x (Free t by p false) none is = cc
unlisted x _ none is = cc

parent_later : (a b : Option Origin) (x : ℕ × ℕ) → parent_by (later a b) ≡ Some x → (parent_by a ≡ Some x) ⊎ (parent_by b ≡ Some x)
parent_later (Some o) b x is = inl is
parent_later None b x is = inr is

childless : (t : ℕ) (x : ℕ × ℕ) (log : List Event) → children_of x.0 x.1 log ≡ [] → parent_by (last_of origin_in (events_of t log)) ≢ Some x
childless t x [] none is = cc
childless t x (e ∷ es) none is =
    let parts = nonempty_rest (child_in x.0 x.1 e) (children_of x.0 x.1 es) none in
    elim (cases_Bool (task_of e == t)) [
      | inl own ↦ (let split : parent_by (later (last_of origin_in (events_of t es)) (origin_in e)) ≡ Some x = rw own at is in
          elim (parent_later (last_of origin_in (events_of t es)) (origin_in e) x split) [
            | inl before ↦ childless t x es parts.1 before
            | inr here ↦ unlisted x e parts.0 here
          ])
      | inr other ↦ (let rest : parent_by (last_of origin_in (events_of t es)) ≡ Some x = rw other at is in childless t x es parts.1 rest)
    ]

pub no_child_of : (t : ℕ) (x : ℕ × ℕ) (log : List Event) → children_of x.0 x.1 log ≡ [] → parent_of t log ≢ Some x
no_child_of t x log none is = childless t x log none (sym (ap parent_by (origin_of t log)) ∙ is)

-- an event that cancels nothing new

pub nothing_new : (roots : ℕ) (log : List Event) (e : Event) (named children : Bool) (flags : List Bool) → IsWellFormed roots log → flags ≡ flags_of (tasks_of roots log) log → named ≡ is_named_in log e → (children ≡ false → HasNoChildren log e) → is_new_cancel e named children flags ≡ false → NamesNothingNew log e
nothing_new roots log (CancelTask t) named children flags form is of none old = record {
  tasks = λ k h. (let same : t.0 ≡ k = eqb-true t.0 k h in
      subst (λ (i : ℕ). is_cancelled i log ≡ true) same (sym (flag_of roots log t.0 form) ∙ sym (ap (λ (xs : List Bool). get_or xs t.0 false) is) ∙ not-false (get_or flags t.0 false) old));
  groups = λ k x parent h. absurd (false≢true h);
}
nothing_new roots log (CancelGroup o g) named children flags form is of none old = record {
  tasks = λ k h. absurd (false≢true h);
  groups = λ k x parent h. (let both = and_parts (o.0 == x.0) (g == x.1) h in
      let owner : o.0 ≡ x.0 = eqb-true o.0 x.0 both.0 in
      let group : g ≡ x.1 = eqb-true g x.1 both.1 in
      let here : is_cancelled_group o.0 g log ≡ true = elim (and_cases children (not named && not (get_or flags o.0 false)) old) [
        | inl empty ↦ (let no : children_of x.0 x.1 log ≡ [] = subst (λ (i : ℕ). children_of i x.1 log ≡ []) owner (subst (λ (j : ℕ). children_of o.0 j log ≡ []) group (none empty)) in
            absurd (no_child_of k x log no parent))
        | inr rest ↦ elim (and_cases (not named) (not (get_or flags o.0 false)) rest) [
          | inl by_name ↦ or_left (is_named_group o.0 g log) (is_cancelled o.0 log) (sym of ∙ not-false named by_name)
          | inr by_owner ↦ or_right (is_named_group o.0 g log) (is_cancelled o.0 log) (sym (flag_of roots log o.0 form) ∙ sym (ap (λ (xs : List Bool). get_or xs o.0 false) is) ∙ not-false (get_or flags o.0 false) by_owner)
        ]
      ] in
      subst (λ (i : ℕ). is_cancelled_group i x.1 log ≡ true) owner (subst (λ (j : ℕ). is_cancelled_group o.0 j log ≡ true) group here));
}
nothing_new roots log _ named children flags form is of none old = record {
  tasks = λ k h. absurd (false≢true h);
  groups = λ k x parent h. absurd (false≢true h);
}

no_child : (e : Event) → is_made e ≡ false → is_child e ≡ false
no_child (Child t o g p) known = absurd (false≢true (sym known))
no_child _ known = refl

pub flags_same : (roots : ℕ) (log : List Event) (e : Event) (flags : List Bool) → IsWellFormed roots log → CanNote roots log e → is_made e ≡ false → NamesNothingNew log e → flags ≡ flags_of (tasks_of roots log) log → flags ≡ flags_of (tasks_of roots (log ++ e ∷ [])) (log ++ e ∷ [])
flags_same roots log e flags form can known nothing is =
    let same = same_parents roots log e form can (no_child e known) in
    are_flags_of (tasks_of roots (log ++ e ∷ [])) (log ++ e ∷ []) flags
    (ap length is ∙ length-flags_of (tasks_of roots log) log ∙ sym (tasks_of-push_other roots log e known))
    (λ k h. ap (λ (xs : List Bool). get_or xs k false) is ∙ flag_of roots log k form ∙ sym (cancelled_same k log e form.older same (makes_new roots log e form can) nothing))

-- a task is made

made_beyond : (roots : ℕ) (log : List Event) (t : ℕ) → IsWellFormed roots log → t ≡ tasks_of roots log → events_of t log ≡ []
made_beyond roots log t form at = form.beyond t (omega (arith, at))

free_same : (roots : ℕ) (log : List Event) (t by : TaskId) (p : Priority) (d : Bool) (k : ℕ) → IsWellFormed roots log → CanNote roots log (Free t by p d) → is_cancelled k (log ++ Free t by p d ∷ []) ≡ is_cancelled k log
free_same roots log t by p d k form can =
    cancelled_same k log (Free t by p d) form.older (same_parents roots log (Free t by p d) form can refl) (makes_new roots log (Free t by p d) form can) (record { tasks = λ i h. absurd (false≢true h); groups = λ i x parent h. absurd (false≢true h) })

born : (roots : ℕ) (log : List Event) (e : Event) (named : Bool) (flags : List Bool) → IsWellFormed roots log → CanNote roots log e → is_made e ≡ true → named ≡ is_named_in log e → flags ≡ flags_of (tasks_of roots log) log → is_cancelled (tasks_of roots log) (log ++ e ∷ []) ≡ is_born_cancelled e named flags
born roots log (Child t o g p) named flags form can made of is =
    ap (λ (k : ℕ). is_cancelled k (log ++ Child t o g p ∷ [])) (sym can.0)
    ∙ cancelled_child t o g p log form.older (owner_older roots log t o g p form can) (made_beyond roots log t.0 form can.0)
    ∙ ap (λ b. b || is_cancelled o.0 log) (sym of)
    ∙ ap (λ b. named || b) (sym (flag_of roots log o.0 form) ∙ sym (ap (λ (xs : List Bool). get_or xs o.0 false) is))
born roots log (Free t by p d) named flags form can made of is = free_same roots log t by p d (tasks_of roots log) form can ∙ uncancelled_beyond roots log (tasks_of roots log) form (omega arith)
born roots log _ named flags form can made of is = absurd (false≢true made)

older_stay : (roots : ℕ) (log : List Event) (e : Event) (k : ℕ) → IsWellFormed roots log → CanNote roots log e → is_made e ≡ true → k < tasks_of roots log → is_cancelled k (log ++ e ∷ []) ≡ is_cancelled k log
older_stay roots log (Child t o g p) k form can made less = let at = can.0 in cancelled_before_child k t o g p log form.older (omega (arith, at, less))
older_stay roots log (Free t by p d) k form can made less = free_same roots log t by p d k form can
older_stay roots log _ k form can made less = absurd (false≢true made)

pub flags_made : (roots : ℕ) (log : List Event) (e : Event) (named : Bool) (flags : List Bool) (b : Bool) → IsWellFormed roots log → CanNote roots log e → is_made e ≡ true → named ≡ is_named_in log e → flags ≡ flags_of (tasks_of roots log) log → b ≡ is_born_cancelled e named flags → flags ++ b ∷ [] ≡ flags_of (tasks_of roots (log ++ e ∷ [])) (log ++ e ∷ [])
flags_made roots log e named flags b form can made of is at =
    let more : List Event = log ++ e ∷ [] in
    let old : flags ≡ flags_of (tasks_of roots log) more = are_flags_of (tasks_of roots log) more flags (ap length is ∙ length-flags_of (tasks_of roots log) log)
    (λ k h. ap (λ (xs : List Bool). get_or xs k false) is ∙ get_or-flags_of (tasks_of roots log) log k h ∙ sym (older_stay roots log e k form can made h)) in
    ap (λ (xs : List Bool). xs ++ b ∷ []) old
    ∙ ap (λ (c : Bool). flags_of (tasks_of roots log) more ++ c ∷ []) (at ∙ sym (born roots log e named flags form can made of is))
    ∙ sym (flags_of_more (tasks_of roots log) more)
    ∙ ap (λ n. flags_of n more) (sym (tasks_of-push_made roots log e made))

-- a pass over the tasks

pub marked_first : (n : ℕ) (log : List Event) (e : Event) (flags : List Bool) → flags ≡ flags_of n log → AreMarked flags 0 n log e
marked_first n log e flags is = record {
  all = ap length is ∙ length-flags_of n log;
  done = λ k h. absurd (omega (arith, h));
  rest = λ k _ h. ap (λ (xs : List Bool). get_or xs k false) is ∙ get_or-flags_of n log k h;
}

reached_is : (roots : ℕ) (log : List Event) (e : Event) (flags : List Bool) (lives : List Life) (i : ℕ) → IsWellFormed roots log → CanNote roots log e → is_made e ≡ false → lives ≡ lives_of (tasks_of roots log) log → AreMarked flags i (tasks_of roots log) log e → i < tasks_of roots log → is_reached e flags lives i ≡ is_cancelled i (log ++ e ∷ [])
reached_is roots log e flags lives i form can known is marked less =
    let more : List Event = log ++ e ∷ [] in
    let life : get_or lives i unborn ≡ life_of i log = ap (λ (xs : List Life). get_or xs i unborn) is ∙ get_or-lives_of (tasks_of roots log) log i unborn less in
    ap (λ b. b || (names_task i e || of_parent (parent_by (get_or lives i unborn).origin) (λ o g. names_group o g e || get_or flags o false))) (marked.rest i (omega arith) less)
    ∙ ap (λ (l : Life). is_cancelled i log || (names_task i e || of_parent (parent_by l.origin) (λ o g. names_group o g e || get_or flags o false))) life
    ∙ ap (λ b. is_cancelled i log || (names_task i e || b))
    (of_parent_same (parent_of i log) (λ o g. names_group o g e || get_or flags o false) (λ o g. names_group o g e || is_cancelled o more)
    (λ x parent. ap (λ b. names_group x.0 x.1 e || b) (marked.done x.0 (form.older i x parent))))
    ∙ sym (cancelled_push i log e form.older (same_parents roots log e form can (no_child e known)) (makes_new roots log e form can))

pub marked_more : (roots : ℕ) (log : List Event) (e : Event) (flags : List Bool) (lives : List Life) (i : ℕ) (b : Bool) → IsWellFormed roots log → CanNote roots log e → is_made e ≡ false → lives ≡ lives_of (tasks_of roots log) log → AreMarked flags i (tasks_of roots log) log e → i < tasks_of roots log → b ≡ is_reached e flags lives i → AreMarked (set flags i b) (i + 1) (tasks_of roots log) log e
marked_more roots log e flags lives i b form can known is marked less reached =
    let here : i < length flags = omega (arith, marked.all, less) in
    record {
      all = length-set flags i b ∙ marked.all;
      done = λ k h. elim (cases_eq k i) [
        | inl same ↦ rw same (get_or-set_same flags i b false here ∙ reached ∙ reached_is roots log e flags lives i form can known is marked less)
        | inr other ↦ get_or-set_other flags i k b false other ∙ marked.done k (let below : k < i = omega (arith, h, other) in below)
      ];
      rest = λ k le h. (let other : k ≢ i = omega (arith, le) in get_or-set_other flags i k b false other ∙ marked.rest k (omega (arith, le)) h);
    }

pub marked_all : (roots : ℕ) (log : List Event) (e : Event) (flags : List Bool) (i : ℕ) → is_made e ≡ false → tasks_of roots log ≤ i → AreMarked flags i (tasks_of roots log) log e → flags ≡ flags_of (tasks_of roots (log ++ e ∷ [])) (log ++ e ∷ [])
marked_all roots log e flags i known end marked =
    are_flags_of (tasks_of roots log) (log ++ e ∷ []) flags marked.all (λ k h. marked.done k (omega (arith, h, end)))
    ∙ ap (λ n. flags_of n (log ++ e ∷ [])) (sym (tasks_of-push_other roots log e known))
