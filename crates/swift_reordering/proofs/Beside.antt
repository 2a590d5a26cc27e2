-- Logs that are one but for which job one task has, where it waits for nothing, and whether and how it has ended, where nobody looks.
use Rattle.swift_reordering.proofs.Prelude.{◌≡◌, ◌≢◌, ℕ, ◌+◌, List, [], ◌∷◌, ◌++◌, refl, sym, ◌∙◌, ap, ap₂, subst, Bool, true, false, inl, inr, append-nil, arith, Option, Some, None, ◌==◌, ◌&&◌, ◌||◌, if◌then◌else◌, AllByRecursion, cons_option, cases_eq, eq-eqb, false≢true, ne_eqb, Event, Begin, Apply, End, Give, Life, JobStage, Given, Begun, Applied, Waits, Asks, Closes, task_of, later, is_made, life_of, lived, stage_in, ending_in, is_among, TaskId, Ending, Card, GroupCard, Digest, digest_of, noted, card_noted, group_noted, one_if, open_ending, digest_of-push, bare, bare_remembered, current_in_digest, remembered, remembered_is, AreInPlace, is_current, Resume, life_of_is, stage_at, IsApart, IsOther}
use Rattle.swift_escalation.specs.declared.waits.PriorityEvent.{PriorityEvent as Link}
use Rattle.swift_reordering.proofs.Sights.{waited, IsSight, seen, AreSeen, seen_life}

-- what is seen of lives where the job of task `t` is not, nor, where `ends` says so, its ending

abbrev rested : Bool → Life → Life
rested ends l = record l { given = None; stage = waited l.stage; ending = if ends then None else l.ending }

abbrev pub besides : Bool → ℕ → ℕ → Life → Life
besides ends t u l = if u == t then rested ends l else l

waited_twice : (s : Option JobStage) → waited s ≡ waited (waited s)
waited_twice None = refl
waited_twice (Some (Begun env)) = refl
waited_twice (Some Given) = refl
waited_twice (Some Applied) = refl
waited_twice (Some (Waits t)) = refl
waited_twice (Some (Asks g)) = refl
waited_twice (Some (Closes g)) = refl

waited_later : (x s : Option JobStage) → waited (later x s) ≡ waited (later x (waited s))
waited_later None s = waited_twice s
waited_later (Some x) s = refl

hidden_twice : (ends : Bool) (o : Option Ending) → (if ends then None else o) ≡ (if ends then None else (if ends then None else o))
hidden_twice true o = refl
hidden_twice false o = refl

hidden_later : (ends : Bool) (x o : Option Ending) → (if ends then None else later x o) ≡ (if ends then None else later x (if ends then None else o))
hidden_later true x o = refl
hidden_later false x o = refl

pub again_if : (ends b : Bool) (l : Life) → (if b then rested ends l else l) ≡ (if b then rested ends (if b then rested ends l else l) else (if b then rested ends l else l))
again_if ends true l = ap₂ (λ (s : Option JobStage) (o : Option Ending). record l { given = None; stage = s; ending = o }) (waited_twice l.stage) (hidden_twice ends l.ending)
again_if ends false l = refl

rested_remembered : (ends : Bool) (l : Life) → rested ends (remembered l) ≡ rested ends l
rested_remembered ends l = ap (rested ends) (bare_remembered l)

pub on_if : (ends b : Bool) (l : Life) (e : Event) → (if b then rested ends (remembered (lived l e)) else remembered (lived l e)) ≡ (if b then rested ends (remembered (lived (if b then rested ends l else l) e)) else remembered (lived (if b then rested ends l else l) e))
on_if ends true l e =
    rested_remembered ends (lived l e)
    ∙ ap₂ (λ (s : Option JobStage) (o : Option Ending). record (lived l e) { given = None; stage = s; ending = o }) (waited_later (stage_in e) l.stage) (hidden_later ends (ending_in e) l.ending)
    ∙ sym (rested_remembered ends (lived (rested ends l) e))
on_if ends false l e = refl

pub origin_if : (ends b : Bool) (l : Life) → (if b then rested ends l else l).origin ≡ l.origin
origin_if ends true l = refl
origin_if ends false l = refl

pub ending_if : (ends b : Bool) (l : Life) → (ends && b) ≡ false → (if b then rested ends l else l).ending ≡ l.ending
ending_if ends false l shown = refl
ending_if false true l shown = refl
ending_if true true l shown = absurd (false≢true (sym shown))

pub waits_if : (ends b : Bool) (l : Life) → waited (if b then rested ends l else l).stage ≡ waited l.stage
waits_if ends true l = sym (waited_twice l.stage)
waits_if ends false l = refl

abbrev pub besides_sight : (ends : Bool) (t : ℕ) → IsSight (besides ends t)
besides_sight ends t = record {
  hides = λ u. ends && (u == t);
  again = λ u l. again_if ends (u == t) l;
  on = λ u l e. on_if ends (u == t) l e;
  origin = λ u l. origin_if ends (u == t) l;
  ending = λ u l shown. ending_if ends (u == t) l shown;
  waits = λ u l. waits_if ends (u == t) l;
}

-- the lives of other tasks are seen whole

other_card : (ends : Bool) (t : ℕ) (a b : List Event) → AreSeen (besides ends t) a b → (u : ℕ) → u ≢ t → ((digest_of a).cards u).life ≡ ((digest_of b).cards u).life
other_card ends t a b same u ne =
    let whole : (l : Life) → besides ends t u l ≡ l = λ l. ap (λ (x : Bool). if x then rested ends l else l) (ne_eqb u t ne) in
    sym (whole ((digest_of a).cards u).life) ∙ seen_life (besides ends t) (besides_sight ends t) a b same u ∙ whole ((digest_of b).cards u).life

pub other_life : (ends : Bool) (t : ℕ) (a b : List Event) → AreSeen (besides ends t) a b → (u : ℕ) → u ≢ t → bare (life_of u a) ≡ bare (life_of u b)
other_life ends t a b same u ne = life_of_is u a ∙ ap bare (other_card ends t a b same u ne) ∙ sym (life_of_is u b)

pub other_current : (ends : Bool) (t : ℕ) (a b : List Event) → AreSeen (besides ends t) a b → AreInPlace a → AreInPlace b → (u n : ℕ) (resume : Resume) → u ≢ t → is_current (life_of u a) n resume ≡ is_current (life_of u b) n resume
other_current ends t a b same new_a new_b u n resume ne =
    current_in_digest u a n resume new_a ∙ ap (λ (l : Life). is_current l n resume) (other_card ends t a b same u ne) ∙ sym (current_in_digest u b n resume new_b)

-- events of a task's own job, and, where `ends` says so, its end

abbrev pub IsOfJob : Bool → ℕ → Event → Type 0
IsOfJob ends t (Begin u n env) = u.0 ≡ t
IsOfJob ends t (Apply u n) = u.0 ≡ t
IsOfJob ends t (Give u n resume) = u.0 ≡ t
IsOfJob ends t (End u ending) = (u.0 ≡ t) × (ends ≡ true)
IsOfJob ends t _ = ⊥

or_none : (b : Bool) → (b || false) ≡ b
or_none true = refl
or_none false = refl

none_more : (n : ℕ) → n + 0 ≡ n
none_more n = omega arith

abbrev none_said : Option Link
none_said = None

no_link : (b : Bool) → cons_option (if b then none_said else none_said) [] ≡ []
no_link true = refl
no_link false = refl

card_local : (ends : Bool) (t u : ℕ) (c : Card) (e : Event) → IsOfJob ends t e → card_noted u c e ≡ record c { life = if task_of e == u then remembered (lived c.life e) else c.life }
card_local ends t u c (Begin v n env) is = λ k. record {
  life = if v.0 == u then remembered (lived c.life (Begin v n env)) else c.life;
  links = (ap (λ (l : List Link). c.links ++ l) (no_link (v.0 == u)) ∙ append-nil c.links) k;
  own = append-nil c.own k;
  waiters = append-nil c.waiters k;
  named = or_none c.named k;
  opened = none_more c.opened k;
}
card_local ends t u c (Apply v n) is = λ k. record {
  life = if v.0 == u then remembered (lived c.life (Apply v n)) else c.life;
  links = (ap (λ (l : List Link). c.links ++ l) (no_link (v.0 == u)) ∙ append-nil c.links) k;
  own = append-nil c.own k;
  waiters = append-nil c.waiters k;
  named = or_none c.named k;
  opened = none_more c.opened k;
}
card_local ends t u c (Give v n r) is = λ k. record {
  life = if v.0 == u then remembered (lived c.life (Give v n r)) else c.life;
  links = (ap (λ (l : List Link). c.links ++ l) (no_link (v.0 == u)) ∙ append-nil c.links) k;
  own = append-nil c.own k;
  waiters = append-nil c.waiters k;
  named = or_none c.named k;
  opened = none_more c.opened k;
}
card_local ends t u c (End v ending) is = λ k. record {
  life = if v.0 == u then remembered (lived c.life (End v ending)) else c.life;
  links = (ap (λ (l : List Link). c.links ++ l) (no_link (v.0 == u)) ∙ append-nil c.links) k;
  own = append-nil c.own k;
  waiters = append-nil c.waiters k;
  named = or_none c.named k;
  opened = none_more c.opened k;
}
card_local ends t u c e is = absurd is

not_among : (t : ℕ) (us : List TaskId) (v : TaskId) → v.0 ≡ t → AllByRecursion (IsOther t) us → is_among us v ≡ false
not_among t [] v is all = refl
not_among t (u ∷ us) v is all = ap (λ (b : Bool). b || is_among us v) (ne_eqb u.0 v.0 (λ same. all.0 (same ∙ is))) ∙ not_among t us v is all.1

no_end : (t : ℕ) (closed : Bool) (us : List TaskId) (v : TaskId) (x : Ending) → v.0 ≡ t → AllByRecursion (IsOther t) us → cons_option (open_ending closed us (End v x)) [] ≡ []
no_end t true us v x is all = refl
no_end t false us v x is all = ap (λ (b : Bool). cons_option (if b then Some (v, x) else None) []) (not_among t us v is all)

-- where the task is no child
group_local : (ends : Bool) (t o g : ℕ) (c : GroupCard) (e : Event) → IsOfJob ends t e → (ends ≡ true → AllByRecursion (IsOther t) c.children) → group_noted o g c e ≡ c
group_local ends t o g c (Begin v n env) is none = λ k. record { children = append-nil c.children k; ended = append-nil c.ended k; asked = none_more c.asked k; closed = or_none c.closed k; named = or_none c.named k }
group_local ends t o g c (Apply v n) is none = λ k. record { children = append-nil c.children k; ended = append-nil c.ended k; asked = none_more c.asked k; closed = or_none c.closed k; named = or_none c.named k }
group_local ends t o g c (Give v n r) is none = λ k. record { children = append-nil c.children k; ended = append-nil c.ended k; asked = none_more c.asked k; closed = or_none c.closed k; named = or_none c.named k }
group_local ends t o g c (End v x) is none = λ k. record {
  children = append-nil c.children k;
  ended = (ap (λ (l : List (TaskId × Ending)). c.ended ++ l) (no_end t c.closed c.children v x is.0 (none is.1)) ∙ append-nil c.ended) k;
  asked = none_more c.asked k;
  closed = or_none c.closed k;
  named = or_none c.named k;
}
group_local ends t o g c e is none = absurd is

made_local : (ends : Bool) (t m : ℕ) (e : Event) → IsOfJob ends t e → m + one_if (is_made e) ≡ m
made_local ends t m (Begin v n env) is = none_more m
made_local ends t m (Apply v n) is = none_more m
made_local ends t m (Give v n r) is = none_more m
made_local ends t m (End v x) is = none_more m
made_local ends t m e is = absurd is

-- such an event waits for nothing, and does not say where the task comes from, nor how it ended, where that is seen
rested_local : (ends : Bool) (t : ℕ) (l : Life) (e : Event) → IsOfJob ends t e → waited l.stage ≡ None → rested ends (lived l e) ≡ rested ends l
rested_local ends t l (Begin v n env) is none = ap (λ (s : Option JobStage). record l { given = None; stage = s; ending = if ends then None else l.ending }) (sym none)
rested_local ends t l (Apply v n) is none = ap (λ (s : Option JobStage). record l { given = None; stage = s; ending = if ends then None else l.ending }) (sym none)
rested_local ends t l (Give v n r) is none = ap (λ (s : Option JobStage). record l { given = None; stage = s; ending = if ends then None else l.ending }) (sym none)
rested_local ends t l (End v x) is none =
    ap (λ (b : Bool). record l { given = None; stage = waited l.stage; ending = if b then None else Some x }) is.1
    ∙ ap (λ (b : Bool). record l { given = None; stage = waited l.stage; ending = if b then None else l.ending }) (sym is.1)
rested_local ends t l e is none = absurd is

of_task : (ends : Bool) (t : ℕ) (e : Event) → IsOfJob ends t e → task_of e ≡ t
of_task ends t (Begin v n env) is = is
of_task ends t (Apply v n) is = is
of_task ends t (Give v n r) is = is
of_task ends t (End v x) is = is.0
of_task ends t e is = absurd is

life_local : (ends : Bool) (t u : ℕ) (l : Life) (e : Event) → IsOfJob ends t e → (u ≡ t → waited l.stage ≡ None) → besides ends t u (if task_of e == u then remembered (lived l e) else l) ≡ besides ends t u l
life_local ends t u l e is none = elim (cases_eq u t) [
  | inl same ↦
      let here : (task_of e == u) ≡ true = eq-eqb (task_of e) u (of_task ends t e is ∙ sym same) in
      let there : (u == t) ≡ true = eq-eqb u t same in
      rw (here, there) (rested_remembered ends (lived l e) ∙ rested_local ends t l e is (none same))
  | inr ne ↦ (let other : (task_of e == u) ≡ false = ne_eqb (task_of e) u (λ q. ne (sym q ∙ of_task ends t e is)) in rw other refl)
]

pub seen_local : (ends : Bool) (t : ℕ) (log : List Event) (e : Event) → IsOfJob ends t e → waited (stage_at log t) ≡ None → (ends ≡ true → IsApart t (digest_of log)) → AreSeen (besides ends t) (log ++ e ∷ []) log
seen_local ends t log e is none apart =
    ap (seen (besides ends t)) (digest_of-push log e) ∙ by_parts (digest_of log) (ap (λ (l : Life). waited l.stage) (sym (life_of_is t log)) ∙ none) apart
  where
    card_part : (d : Digest) (u : ℕ) → waited (d.cards t).life.stage ≡ None → record (card_noted u (d.cards u) e) { life = besides ends t u (card_noted u (d.cards u) e).life } ≡ record (d.cards u) { life = besides ends t u (d.cards u).life }
    card_part d u none =
        ap (λ (c : Card). record c { life = besides ends t u c.life }) (card_local ends t u (d.cards u) e is)
        ∙ ap (λ (l : Life). record (d.cards u) { life = l }) (life_local ends t u (d.cards u).life e is (λ same. ap (λ (v : ℕ). waited (d.cards v).life.stage) same ∙ none))

    by_parts : (d : Digest) → waited (d.cards t).life.stage ≡ None → (ends ≡ true → IsApart t d) → seen (besides ends t) (noted d e) ≡ seen (besides ends t) d
    by_parts d none apart = λ k. record { made = made_local ends t d.made e is k; cards = λ u. card_part d u none k; groups = λ o g. group_local ends t o g (d.groups o g) e is (λ over. (apart over).children o g) k }

-- logs that are one but for the life of a task, and have that too, have one digest
pub one_digest : (ends : Bool) (t : ℕ) (a b : List Event) → AreSeen (besides ends t) a b → AreInPlace a → AreInPlace b → life_of t a ≡ life_of t b → digest_of a ≡ digest_of b
one_digest ends t a b same new_a new_b life =
    let each : (u : ℕ) → ((digest_of a).cards u).life ≡ ((digest_of b).cards u).life = λ u. elim (cases_eq u t) [
      | inl one ↦ subst (λ (v : ℕ). ((digest_of a).cards v).life ≡ ((digest_of b).cards v).life) (sym one) (remembered_is t a new_a ∙ ap remembered life ∙ sym (remembered_is t b new_b))
      | inr ne ↦ other_card ends t a b same u ne
    ] in
    let card : (u : ℕ) → (digest_of a).cards u ≡ (digest_of b).cards u = λ u.
    ap₂ (λ (d : Digest) (l : Life). record (d.cards u) { life = l }) same (each u) in
    λ k. record { made = ap (λ (d : Digest). d.made) same k; cards = λ u. card u k; groups = λ o g. ap (λ (d : Digest). d.groups o g) same k }
