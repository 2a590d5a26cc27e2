-- Digests that are one as far as one looks at lives: which parts of a life count may depend on the task.
use Rattle.swift_reordering.proofs.Prelude.{◌≡◌, inl, inr, ℕ, zero, suc, ◌+◌, List, [], ◌∷◌, ◌++◌, refl, sym, ◌∙◌, ap, ap₂, subst, Bool, true, false, Option, Some, None, ◌==◌, ◌||◌, is_some, not, if◌then◌else◌, AllByRecursion, filter, TaskId, Ending, GroupView, next_of, Event, Life, JobStage, Waits, Asks, Closes, task_of, tasks_of, is_made, life_of, lived, own_tasks, waiters_of, opened_by, is_closed, group_of, parent_by, parent_of, of_parent, is_cancelled, is_cancelled_group, links_of, of_parent_same, next_events, Digest, digest_of, remembered, all_noted, noted, card_noted, group_noted, one_if, AreInPlace, HasLink, parent_in, group_in, close_in, cancelled_in, is_cancelled_in, is_cancelled_group_in, digest_of-append, tasks_of_is, life_of_is, own_tasks_is, opened_by_is, waiters_of_is, is_closed_is, group_of_is, close_of_is, is_cancelled_is, is_cancelled_group_is, AreWithin, link_in_digest, link_in_log, asked_open, new_prefix}
use Rattle.swift_groups.specs.Close.{close_among, close_of}

-- of how far a job is, only what its task waits for
abbrev pub waited : Option JobStage → Option JobStage
waited (Some (Waits t)) = Some (Waits t)
waited (Some (Asks g)) = Some (Asks g)
waited (Some (Closes g)) = Some (Closes g)
waited _ = None

-- What is seen of lives goes on by events, and shows where a task comes from, what it waits for, and, unless that is hidden, how it ended.
pub record IsSight (sees : ℕ → Life → Life) : Type 0 where
  pub hides : ℕ → Bool
  pub again : (u : ℕ) (l : Life) → sees u l ≡ sees u (sees u l)
  pub on : (u : ℕ) (l : Life) (e : Event) → sees u (remembered (lived l e)) ≡ sees u (remembered (lived (sees u l) e))
  pub origin : (u : ℕ) (l : Life) → (sees u l).origin ≡ l.origin
  pub ending : (u : ℕ) (l : Life) → hides u ≡ false → (sees u l).ending ≡ l.ending
  pub waits : (u : ℕ) (l : Life) → waited (sees u l).stage ≡ waited l.stage

-- a digest with lives so seen, and logs of which that is one
abbrev pub seen : (ℕ → Life → Life) → Digest → Digest
seen sees d = record d { cards = λ t. record (d.cards t) { life = sees t (d.cards t).life } }

abbrev pub AreSeen : (ℕ → Life → Life) → List Event → List Event → Type 0
AreSeen sees a b = seen sees (digest_of a) ≡ seen sees (digest_of b)

-- each child of a group shows how it has ended

abbrev pub IsShown : (ℕ → Bool) → TaskId → Type 0
IsShown hides u = hides u.0 ≡ false

abbrev pub ChildrenShown : (ℕ → Bool) → List Event → Type 0
ChildrenShown hides log = (o g : ℕ) → AllByRecursion (IsShown hides) ((digest_of log).groups o g).children

module _ (sees : ℕ → Life → Life) (sight : IsSight sees) where
  life_seen : (u : ℕ) (b : Bool) (l : Life) (e : Event) → sees u (if b then remembered (lived l e) else l) ≡ sees u (if b then remembered (lived (sees u l) e) else sees u l)
  life_seen u true l e = sight.on u l e
  life_seen u false l e = sight.again u l

  noted_seen : (d : Digest) (e : Event) → seen sees (noted d e) ≡ seen sees (noted (seen sees d) e)
  noted_seen d e = λ k. record {
    made = d.made + one_if (is_made e);
    cards = λ t. record (card_noted t (d.cards t) e) { life = life_seen t (task_of e == t) (d.cards t).life e k };
    groups = λ o g. group_noted o g (d.groups o g) e;
  }

  seen_note : (c d : Digest) (e : Event) → seen sees c ≡ seen sees d → seen sees (noted c e) ≡ seen sees (noted d e)
  seen_note c d e same = noted_seen c e ∙ ap (λ (x : Digest). seen sees (noted x e)) same ∙ sym (noted_seen d e)

  seen_all : (es : List Event) (c d : Digest) → seen sees c ≡ seen sees d → seen sees (all_noted c es) ≡ seen sees (all_noted d es)
  seen_all [] c d same = same
  seen_all (e ∷ es) c d same = seen_all es (noted c e) (noted d e) (seen_note c d e same)

  -- they stay so where the same events are written
  pub seen_on : (a b es fs : List Event) → AreSeen sees a b → es ≡ fs → AreSeen sees (a ++ es) (b ++ fs)
  seen_on a b es fs same is =
      ap (seen sees) (digest_of-append a es) ∙ seen_all es (digest_of a) (digest_of b) same ∙ ap (λ (xs : List Event). seen sees (all_noted (digest_of b) xs)) is ∙ ap (seen sees) (sym (digest_of-append b fs))

  -- what such logs have in common

  parent_seen : (d : Digest) (t : ℕ) → parent_in d t ≡ parent_in (seen sees d) t
  parent_seen d t = ap parent_by (sym (sight.origin t (d.cards t).life))

  cancelled_seen : (n : ℕ) (d : Digest) (t : ℕ) → cancelled_in d n t ≡ cancelled_in (seen sees d) n t
  cancelled_seen zero d t = refl
  cancelled_seen (suc n) d t =
      ap (λ (b : Bool). (d.cards t).named || b)
      (of_parent_same (parent_in d t) (λ o g. (d.groups o g).named || cancelled_in d n o) (λ o g. (d.groups o g).named || cancelled_in (seen sees d) n o)
      (λ x _. ap (λ (b : Bool). (d.groups x.0 x.1).named || b) (cancelled_seen n d x.0))
      ∙ ap (λ (p : Option (ℕ × ℕ)). of_parent p (λ o g. (d.groups o g).named || cancelled_in (seen sees d) n o)) (parent_seen d t))

  filter_seen : (d : Digest) (us : List TaskId) → AllByRecursion (IsShown sight.hides) us
      → filter (λ (u : TaskId). not (is_some (d.cards u.0).life.ending)) us ≡ filter (λ (u : TaskId). not (is_some ((seen sees d).cards u.0).life.ending)) us
  filter_seen d [] all = refl
  filter_seen d (u ∷ us) all =
      ap₂ (λ (b : Bool) (l : List TaskId). if b then u ∷ l else l) (ap (λ (x : Option Ending). not (is_some x)) (sym (sight.ending u.0 (d.cards u.0).life all.0))) (filter_seen d us all.1)

  close_seen : (d : Digest) (o g : ℕ) → AllByRecursion (IsShown sight.hides) (d.groups o g).children → close_in d o g ≡ close_in (seen sees d) o g
  close_seen d o g all = ap close_among (filter_seen d (d.groups o g).children all)

  module _ (a b : List Event) (same : AreSeen sees a b) where
    pub seen_tasks : (roots : ℕ) → tasks_of roots a ≡ tasks_of roots b
    seen_tasks roots = tasks_of_is roots a ∙ ap (λ (d : Digest). roots + d.made) same ∙ sym (tasks_of_is roots b)

    abbrev card_a : ℕ → Life
    card_a t = ((digest_of a).cards t).life

    abbrev card_b : ℕ → Life
    card_b t = ((digest_of b).cards t).life

    pub seen_life : (t : ℕ) → sees t (card_a t) ≡ sees t (card_b t)
    seen_life t = ap (λ (d : Digest). (d.cards t).life) same

    pub seen_origin : (t : ℕ) → (life_of t a).origin ≡ (life_of t b).origin
    seen_origin t =
        ap (λ (l : Life). l.origin) (life_of_is t a) ∙ sym (sight.origin t (card_a t)) ∙ ap (λ (l : Life). l.origin) (seen_life t)
        ∙ sight.origin t (card_b t) ∙ ap (λ (l : Life). l.origin) (sym (life_of_is t b))

    pub seen_ending : (t : ℕ) → sight.hides t ≡ false → (life_of t a).ending ≡ (life_of t b).ending
    seen_ending t shown =
        ap (λ (l : Life). l.ending) (life_of_is t a) ∙ sym (sight.ending t (card_a t) shown) ∙ ap (λ (l : Life). l.ending) (seen_life t)
        ∙ sight.ending t (card_b t) shown ∙ ap (λ (l : Life). l.ending) (sym (life_of_is t b))

    pub seen_waits : (t : ℕ) → waited (life_of t a).stage ≡ waited (life_of t b).stage
    seen_waits t =
        ap (λ (l : Life). waited l.stage) (life_of_is t a) ∙ sym (sight.waits t (card_a t)) ∙ ap (λ (l : Life). waited l.stage) (seen_life t)
        ∙ sight.waits t (card_b t) ∙ ap (λ (l : Life). waited l.stage) (sym (life_of_is t b))

    pub seen_parent : (t : ℕ) → parent_of t a ≡ parent_of t b
    seen_parent t = ap parent_by (seen_origin t)

    pub seen_own : (t : ℕ) → own_tasks t a ≡ own_tasks t b
    seen_own t = own_tasks_is t a ∙ ap (λ (d : Digest). (d.cards t).own) same ∙ sym (own_tasks_is t b)

    pub seen_opened : (t : ℕ) → opened_by t a ≡ opened_by t b
    seen_opened t = opened_by_is t a ∙ ap (λ (d : Digest). (d.cards t).opened) same ∙ sym (opened_by_is t b)

    pub seen_waiters : (t : ℕ) → waiters_of t a ≡ waiters_of t b
    seen_waiters t = waiters_of_is t a ∙ ap (λ (d : Digest). (d.cards t).waiters) same ∙ sym (waiters_of_is t b)

    pub seen_closed : (o g : ℕ) → is_closed o g a ≡ is_closed o g b
    seen_closed o g = is_closed_is o g a ∙ ap (λ (d : Digest). (d.groups o g).closed) same ∙ sym (is_closed_is o g b)

    seen_group : (o g : ℕ) → AreInPlace a → AreInPlace b → is_closed o g a ≡ false → group_of o g a ≡ group_of o g b
    seen_group o g new_a new_b open_a =
        group_of_is o g a new_a open_a ∙ ap (λ (d : Digest). group_in d o g) same ∙ sym (group_of_is o g b new_b (sym (seen_closed o g) ∙ open_a))

    pub seen_next : (o g : ℕ) → AreInPlace (a ++ next_events o g (next_of (group_of o g a))) → AreInPlace (b ++ next_events o g (next_of (group_of o g b))) → next_of (group_of o g a) ≡ next_of (group_of o g b)
    seen_next o g new_a new_b =
        let here_a = new_prefix a _ new_a in
        let here_b = new_prefix b _ new_b in
        elim (asked_open a o g (next_of (group_of o g a)) new_a) [
          | inl open_a ↦ ap (λ (x : GroupView). next_of x) (seen_group o g here_a here_b open_a)
          | inr empty_a ↦ elim (asked_open b o g (next_of (group_of o g b)) new_b) [
            | inl open_b ↦ ap (λ (x : GroupView). next_of x) (seen_group o g here_a here_b (seen_closed o g ∙ open_b))
            | inr empty_b ↦ empty_a ∙ sym empty_b
          ]
        ]

    pub seen_close : (o g : ℕ) → ChildrenShown sight.hides a → close_of (group_of o g a) ≡ close_of (group_of o g b)
    seen_close o g shown =
        let also : AllByRecursion (IsShown sight.hides) ((digest_of b).groups o g).children = subst (AllByRecursion (IsShown sight.hides)) (ap (λ (d : Digest). (d.groups o g).children) same) (shown o g) in
        close_of_is o g a ∙ close_seen (digest_of a) o g (shown o g) ∙ ap (λ (d : Digest). close_in d o g) same ∙ sym (close_seen (digest_of b) o g also) ∙ sym (close_of_is o g b)

    pub seen_cancelled : (t : ℕ) → is_cancelled t a ≡ is_cancelled t b
    seen_cancelled t =
        is_cancelled_is t a ∙ cancelled_seen (suc t) (digest_of a) t ∙ ap (λ (d : Digest). is_cancelled_in d t) same
        ∙ sym (cancelled_seen (suc t) (digest_of b) t) ∙ sym (is_cancelled_is t b)

    pub seen_cancelled_group : (o g : ℕ) → is_cancelled_group o g a ≡ is_cancelled_group o g b
    seen_cancelled_group o g =
        is_cancelled_group_is o g a ∙ ap (λ (x : Bool). ((digest_of a).groups o g).named || x) (cancelled_seen (suc o) (digest_of a) o)
        ∙ ap (λ (d : Digest). is_cancelled_group_in d o g) same
        ∙ ap (λ (x : Bool). ((digest_of b).groups o g).named || x) (sym (cancelled_seen (suc o) (digest_of b) o)) ∙ sym (is_cancelled_group_is o g b)

    pub seen_links : AreWithin (links_of a) (links_of b)
    seen_links x h = link_in_log b x (subst (λ (d : Digest). HasLink d x) same (link_in_digest a x h))
