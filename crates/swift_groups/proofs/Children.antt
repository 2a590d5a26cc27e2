-- Children of a group after one more, and after one more ended.
use Rattle.swift_groups.proofs.Prelude.{◌≡◌, ℕ, suc, ◌+◌, ◌≤◌, List, Option, None, Some, [], ◌∷◌, ◌++◌, length, Bool, true, false, not, ◌||◌, ◌&&◌, cond, eqb, refl, ap, sym, ◌∙◌, inl, inr, arith, cases_eq, cases_Bool, cond-true, cond-false, eq-eqb, ne_eqb, or_parts, or_left, true≢false, length_push, list_any, count_by, TaskId, Ending, Child, is_among, has_ended, unfinished_of, added_of, mark_of, unended}
use Rattle.std.proofs.lemmas.List.Folds.{list_any-append}
use Rattle.std.proofs.lemmas.List.Elements.{filter-append}
use Rattle.std.proofs.lemmas.Grind.{common_steps}

added_same : (c : Child) (cs : List Child) (i : ℕ) → c.group ≡ i → added_of (c ∷ cs) i ≡ c.task ∷ added_of cs i
added_same c cs i h = cond-true (eqb c.group i) (c.task ∷ added_of cs i) (added_of cs i) (eq-eqb c.group i h)

added_other : (c : Child) (cs : List Child) (i : ℕ) → (c.group ≡ i → ⊥) → added_of (c ∷ cs) i ≡ added_of cs i
added_other c cs i h = cond-false (eqb c.group i) (c.task ∷ added_of cs i) (added_of cs i) (ne_eqb c.group i h)

pub added_push_same : (cs : List Child) (c : Child) (i : ℕ) → c.group ≡ i → added_of (cs ++ c ∷ []) i ≡ added_of cs i ++ c.task ∷ []
added_push_same [] c i h = added_same c [] i h
added_push_same (x ∷ xs) c i h = elim (cases_eq x.group i) [
  | inl s ↦ added_same x (xs ++ c ∷ []) i s ∙ ap (λ (l : List TaskId). x.task ∷ l) (added_push_same xs c i h) ∙ ap (λ (l : List TaskId). l ++ c.task ∷ []) (sym (added_same x xs i s))
  | inr o ↦ added_other x (xs ++ c ∷ []) i o ∙ added_push_same xs c i h ∙ ap (λ (l : List TaskId). l ++ c.task ∷ []) (sym (added_other x xs i o))
]

pub added_push_other : (cs : List Child) (c : Child) (i : ℕ) → (c.group ≡ i → ⊥) → added_of (cs ++ c ∷ []) i ≡ added_of cs i
added_push_other [] c i h = added_other c [] i h
added_push_other (x ∷ xs) c i h = elim (cases_eq x.group i) [
  | inl s ↦ added_same x (xs ++ c ∷ []) i s ∙ ap (λ (l : List TaskId). x.task ∷ l) (added_push_other xs c i h) ∙ sym (added_same x xs i s)
  | inr o ↦ added_other x (xs ++ c ∷ []) i o ∙ added_push_other xs c i h ∙ sym (added_other x xs i o)
]

-- tests see a task by its number
ended_by : (e : List (TaskId × Ending)) (t u : TaskId) → t.0 ≡ u.0 → has_ended e t ≡ has_ended e u
ended_by e t u h = ap (λ (n : ℕ). list_any (λ x. eqb x.0.0 n) e) h

among_by : (a : List TaskId) (t u : TaskId) → t.0 ≡ u.0 → is_among a t ≡ is_among a u
among_by a t u h = ap (λ (n : ℕ). list_any (λ x. eqb x.0 n) a) h

or_false : (b : Bool) → b || false ≡ b
or_false true = refl
or_false false = refl

or_true : (b : Bool) → b || true ≡ true
or_true true = refl
or_true false = refl

among_push : (a : List TaskId) (t u : TaskId) → is_among (a ++ t ∷ []) u ≡ is_among a u || eqb t.0 u.0
among_push a t u = list_any-append (λ x. eqb x.0 u.0) a (t ∷ []) ∙ ap (λ (b : Bool). is_among a u || b) (or_false (eqb t.0 u.0))

ended_push : (e : List (TaskId × Ending)) (t u : TaskId) (x : Ending) → has_ended (e ++ (t, x) ∷ []) u ≡ has_ended e u || eqb t.0 u.0
ended_push e t u x = list_any-append (λ y. eqb y.0.0 u.0) e ((t, x) ∷ []) ∙ ap (λ (b : Bool). has_ended e u || b) (or_false (eqb t.0 u.0))

-- marks
pub mark_none : (a : List TaskId) (e : List (TaskId × Ending)) (t : TaskId) → mark_of a e t ≡ None → (has_ended e t ≡ false) × (is_among a t ≡ false)
mark_none a e t h = elim (cases_Bool (has_ended e t)) [
  | inl y ↦ absurd (cc (h, cond-true (has_ended e t) (Some true) (cond (is_among a t) (Some false) None) y))
  | inr n ↦ let rest = cond-false (has_ended e t) (Some true) (cond (is_among a t) (Some false) None) n in elim (cases_Bool (is_among a t)) [
    | inl y ↦ absurd (cc (h, rest, cond-true {A = Option Bool} (is_among a t) (Some false) None y))
    | inr m ↦ (n, m)
  ]
]

pub mark_false : (a : List TaskId) (e : List (TaskId × Ending)) (t : TaskId) → mark_of a e t ≡ Some false → (has_ended e t ≡ false) × (is_among a t ≡ true)
mark_false a e t h = elim (cases_Bool (has_ended e t)) [
  | inl y ↦ absurd (true≢false (cc (h, cond-true (has_ended e t) (Some true) (cond (is_among a t) (Some false) None) y)))
  | inr n ↦ let rest = cond-false (has_ended e t) (Some true) (cond (is_among a t) (Some false) None) n in elim (cases_Bool (is_among a t)) [
    | inl y ↦ (n, y)
    | inr m ↦ absurd (cc (h, rest, cond-false {A = Option Bool} (is_among a t) (Some false) None m))
  ]
]

pub mark_true : (a : List TaskId) (e : List (TaskId × Ending)) (t : TaskId) → mark_of a e t ≡ Some true → has_ended e t ≡ true
mark_true a e t h = elim (cases_Bool (has_ended e t)) [
  | inl y ↦ y
  | inr n ↦ let rest = cond-false (has_ended e t) (Some true) (cond (is_among a t) (Some false) None) n in elim (cases_Bool (is_among a t)) [
    | inl y ↦ absurd (true≢false (cc (h, rest, cond-true {A = Option Bool} (is_among a t) (Some false) None y)))
    | inr m ↦ absurd (cc (h, rest, cond-false {A = Option Bool} (is_among a t) (Some false) None m))
  ]
]

pub mark_added : (a : List TaskId) (e : List (TaskId × Ending)) (t u : TaskId) → mark_of a e t ≡ None → mark_of (a ++ t ∷ []) e u ≡ cond (eqb t.0 u.0) (Some false) (mark_of a e u)
mark_added a e t u h = let new = mark_none a e t h in elim (cases_eq t.0 u.0) [
  | inl s ↦ let test = eq-eqb t.0 u.0 s in
      cond-false (has_ended e u) (Some true) (cond (is_among (a ++ t ∷ []) u) (Some false) None) (sym (ended_by e t u s) ∙ new.0)
      ∙ cond-true {A = Option Bool} (is_among (a ++ t ∷ []) u) (Some false) None (among_push a t u ∙ ap (λ (b : Bool). is_among a u || b) test ∙ or_true (is_among a u))
      ∙ sym (cond-true (eqb t.0 u.0) (Some false) (mark_of a e u) test)
  | inr o ↦ let test = ne_eqb t.0 u.0 o in
      ap (λ (b : Bool). cond (has_ended e u) (Some true) (cond b (Some false) None)) (among_push a t u ∙ ap (λ (b : Bool). is_among a u || b) test ∙ or_false (is_among a u))
      ∙ sym (cond-false (eqb t.0 u.0) (Some false) (mark_of a e u) test)
]

pub mark_ended : (a : List TaskId) (e : List (TaskId × Ending)) (t u : TaskId) (x : Ending) → mark_of a (e ++ (t, x) ∷ []) u ≡ cond (eqb t.0 u.0) (Some true) (mark_of a e u)
mark_ended a e t u x = elim (cases_eq t.0 u.0) [
  | inl s ↦ let test = eq-eqb t.0 u.0 s in
      cond-true (has_ended (e ++ (t, x) ∷ []) u) (Some true) (cond (is_among a u) (Some false) None) (ended_push e t u x ∙ ap (λ (b : Bool). has_ended e u || b) test ∙ or_true (has_ended e u))
      ∙ sym (cond-true (eqb t.0 u.0) (Some true) (mark_of a e u) test)
  | inr o ↦ let test = ne_eqb t.0 u.0 o in
      ap (λ (b : Bool). cond b (Some true) (cond (is_among a u) (Some false) None)) (ended_push e t u x ∙ ap (λ (b : Bool). has_ended e u || b) test ∙ or_false (has_ended e u))
      ∙ sym (cond-false (eqb t.0 u.0) (Some true) (mark_of a e u) test)
]

-- those that ended are children
pub among_added : (a : List TaskId) (t u : TaskId) → is_among a u ≡ true → is_among (a ++ t ∷ []) u ≡ true
among_added a t u h = among_push a t u ∙ or_left (is_among a u) (eqb t.0 u.0) h

pub known_ended : (a : List TaskId) (e : List (TaskId × Ending)) (t u : TaskId) (x : Ending) → ((v : TaskId) → has_ended e v ≡ true → is_among a v ≡ true) → is_among a t ≡ true
    → has_ended (e ++ (t, x) ∷ []) u ≡ true → is_among a u ≡ true
known_ended a e t u x known here h = elim (cases_eq t.0 u.0) [
  | inl s ↦ sym (among_by a t u s) ∙ here
  | inr o ↦ known u (sym (ended_push e t u x ∙ ap (λ (b : Bool). has_ended e u || b) (ne_eqb t.0 u.0 o) ∙ or_false (has_ended e u)) ∙ h)
]

pub mark_some : (a : List TaskId) (e : List (TaskId × Ending)) (t : TaskId) (b : Bool) → ((v : TaskId) → has_ended e v ≡ true → is_among a v ≡ true) → mark_of a e t ≡ Some b → is_among a t ≡ true
mark_some a e t true known h = known t (mark_true a e t h)
mark_some a e t false known h = (mark_false a e t h).1

-- unfinished children
unfinished_skip : (u : TaskId) (us : List TaskId) (e : List (TaskId × Ending)) → has_ended e u ≡ true → unfinished_of (u ∷ us) e ≡ unfinished_of us e
unfinished_skip u us e h = cond-false (not (has_ended e u)) (u ∷ unfinished_of us e) (unfinished_of us e) (ap not h)

unfinished_keep : (u : TaskId) (us : List TaskId) (e : List (TaskId × Ending)) → has_ended e u ≡ false → unfinished_of (u ∷ us) e ≡ u ∷ unfinished_of us e
unfinished_keep u us e h = cond-true (not (has_ended e u)) (u ∷ unfinished_of us e) (unfinished_of us e) (ap not h)

pub length_unfinished_added : (a : List TaskId) (e : List (TaskId × Ending)) (t : TaskId) → has_ended e t ≡ false → length (unfinished_of (a ++ t ∷ []) e) ≡ length (unfinished_of a e) + 1
length_unfinished_added a e t h =
    ap length (filter-append (λ u. not (has_ended e u)) a (t ∷ []) ∙ ap (λ (s : List TaskId). unfinished_of a e ++ s) (unfinished_keep t [] e h)) ∙ length_push (unfinished_of a e) t

pub among_unfinished_ended : (a : List TaskId) (e : List (TaskId × Ending)) (t : TaskId) → has_ended e t ≡ true → is_among (unfinished_of a e) t ≡ false
among_unfinished_ended [] e t h = refl
among_unfinished_ended (u ∷ us) e t h = elim (cases_Bool (has_ended e u)) [
  | inl y ↦ ap (λ (s : List TaskId). is_among s t) (unfinished_skip u us e y) ∙ among_unfinished_ended us e t h
  | inr n ↦ ap (λ (s : List TaskId). is_among s t) (unfinished_keep u us e n)
      ∙ ap (λ (b : Bool). b || is_among (unfinished_of us e) t) (ne_eqb u.0 t.0 (λ (q : u.0 ≡ t.0). true≢false (sym h ∙ sym (ended_by e u t q) ∙ n)))
      ∙ among_unfinished_ended us e t h
]

pub among_unfinished : (a : List TaskId) (e : List (TaskId × Ending)) (t : TaskId) → has_ended e t ≡ false → is_among (unfinished_of a e) t ≡ is_among a t
among_unfinished [] e t h = refl
among_unfinished (u ∷ us) e t h = elim (cases_Bool (has_ended e u)) [
  | inl y ↦ ap (λ (s : List TaskId). is_among s t) (unfinished_skip u us e y) ∙ among_unfinished us e t h
      ∙ sym (ap (λ (b : Bool). b || is_among us t) (ne_eqb u.0 t.0 (λ (q : u.0 ≡ t.0). true≢false (sym y ∙ ended_by e u t q ∙ h))))
  | inr n ↦ ap (λ (s : List TaskId). is_among s t) (unfinished_keep u us e n) ∙ ap (λ (b : Bool). eqb u.0 t.0 || b) (among_unfinished us e t h)
]

-- how often a task is among the children
abbrev pub times : TaskId → List TaskId → ℕ
times t a = count_by (λ u. eqb u.0 t.0) a

times_same : (u t : TaskId) (us : List TaskId) → u.0 ≡ t.0 → times t (u ∷ us) ≡ suc (times t us)
times_same u t us h = let test = eq-eqb u.0 t.0 h in grind (arith, common_steps)

times_other : (u t : TaskId) (us : List TaskId) → (u.0 ≡ t.0 → ⊥) → times t (u ∷ us) ≡ times t us
times_other u t us h = let test = ne_eqb u.0 t.0 h in grind (arith, common_steps)

pub times_none : (a : List TaskId) (t : TaskId) → is_among a t ≡ false → times t a ≡ 0
times_none [] t h = refl
times_none (u ∷ us) t h = let parts = or_parts (eqb u.0 t.0) (is_among us t) h in elim (cases_eq u.0 t.0) [
  | inl s ↦ absurd (true≢false (sym (eq-eqb u.0 t.0 s) ∙ parts.0))
  | inr o ↦ times_other u t us o ∙ times_none us t parts.1
]

pub times_some : (a : List TaskId) (t : TaskId) → is_among a t ≡ true → 1 ≤ times t a
times_some [] t h = absurd (true≢false (sym h))
times_some (u ∷ us) t h = elim (cases_eq u.0 t.0) [
  | inl s ↦ let n = times_same u t us s in omega (arith, n)
  | inr o ↦ let n = times_other u t us o in let m = times_some us t (sym (ap (λ (b : Bool). b || is_among us t) (ne_eqb u.0 t.0 o)) ∙ h) in omega (arith, n, m)
]

times_push : (a : List TaskId) (t u : TaskId) → times u (a ++ t ∷ []) ≡ times u a + times u (t ∷ [])
times_push [] t u = omega arith
times_push (x ∷ xs) t u = let rest = times_push xs t u in elim (cases_eq x.0 u.0) [
  | inl s ↦ let n = times_same x u (xs ++ t ∷ []) s in let m = times_same x u xs s in omega (arith, n, m, rest)
  | inr o ↦ let n = times_other x u (xs ++ t ∷ []) o in let m = times_other x u xs o in omega (arith, n, m, rest)
]

pub once_added : (a : List TaskId) (t u : TaskId) → is_among a t ≡ false → times u a ≤ 1 → times u (a ++ t ∷ []) ≤ 1
once_added a t u new h = let sum = times_push a t u in elim (cases_eq t.0 u.0) [
  | inl s ↦ let one = times_same t u [] s in let none = times_none a u (sym (among_by a t u s) ∙ new) in omega (arith, sum, one, none)
  | inr o ↦ let one = times_other t u [] o in omega (arith, sum, one, h)
]

pub length_unfinished_ended : (a : List TaskId) (e : List (TaskId × Ending)) (t : TaskId) (x : Ending) → has_ended e t ≡ false → length (unfinished_of a (e ++ (t, x) ∷ [])) + times t a ≡ length (unfinished_of a e)
length_unfinished_ended [] e t x h = refl
length_unfinished_ended (u ∷ us) e t x h =
    let rest = length_unfinished_ended us e t x h in
    let e' : List (TaskId × Ending) = e ++ (t, x) ∷ [] in
    elim (cases_eq u.0 t.0) [
      | inl s ↦ let n = times_same u t us s in
          let skip = ap length (unfinished_skip u us e' (ended_push e t u x ∙ ap (λ (b : Bool). has_ended e u || b) (eq-eqb t.0 u.0 (sym s)) ∙ or_true (has_ended e u))) in
          let keep = ap length (unfinished_keep u us e (ended_by e u t s ∙ h)) in omega (arith, n, skip, keep, rest)
      | inr o ↦ let n = times_other u t us o in
          let same : has_ended e' u ≡ has_ended e u = ended_push e t u x ∙ ap (λ (b : Bool). has_ended e u || b) (ne_eqb t.0 u.0 (λ (q : t.0 ≡ u.0). o (sym q))) ∙ or_false (has_ended e u) in
          elim (cases_Bool (has_ended e u)) [
            | inl y ↦ let skip = ap length (unfinished_skip u us e' (same ∙ y)) in let skip' = ap length (unfinished_skip u us e y) in omega (arith, n, skip, skip', rest)
            | inr m ↦ let keep = ap length (unfinished_keep u us e' (same ∙ m)) in let keep' = ap length (unfinished_keep u us e m) in omega (arith, n, keep, keep', rest)
          ]
    ]

-- marks and unfinished children
pub mark_unended : (a : List TaskId) (e : List (TaskId × Ending)) (t : TaskId) → unended (mark_of a e t) ≡ is_among (unfinished_of a e) t
mark_unended a e t = elim (cases_Bool (has_ended e t)) [
  | inl y ↦ ap unended (cond-true (has_ended e t) (Some true) (cond (is_among a t) (Some false) None) y) ∙ sym (among_unfinished_ended a e t y)
  | inr n ↦ ap unended (cond-false (has_ended e t) (Some true) (cond (is_among a t) (Some false) None) n) ∙ elim (cases_Bool (is_among a t)) [
    | inl y ↦ ap unended (cond-true {A = Option Bool} (is_among a t) (Some false) None y) ∙ sym (among_unfinished a e t n ∙ y)
    | inr m ↦ ap unended (cond-false {A = Option Bool} (is_among a t) (Some false) None m) ∙ sym (among_unfinished a e t n ∙ m)
  ]
]

pub unended_mark : (o : Option Bool) → unended o ≡ true → o ≡ Some false
unended_mark None h = absurd (true≢false (sym h))
unended_mark (Some true) h = absurd (true≢false (sym h))
unended_mark (Some false) h = refl

pub mark_fresh : (a : List TaskId) (e : List (TaskId × Ending)) (t : TaskId) → ((v : TaskId) → has_ended e v ≡ true → is_among a v ≡ true) → is_among a t ≡ false → mark_of a e t ≡ None
mark_fresh a e t known h = elim (cases_Bool (has_ended e t)) [
  | inl y ↦ absurd (true≢false (sym (known t y) ∙ h))
  | inr n ↦ cond-false (has_ended e t) (Some true) (cond (is_among a t) (Some false) None) n ∙ cond-false {A = Option Bool} (is_among a t) (Some false) None h
]

-- one entry was written
pub mark_written : (a b : Bool) (x y : Option Bool) → cond (a && b) x y ≡ cond a (cond b x y) y
mark_written true b x y = refl
mark_written false b x y = refl
