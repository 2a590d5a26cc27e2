-- Digests that are one but for which turns under way have begun, and in which environments.
use Rattle.swift_reordering.proofs.Prelude.{◌≡◌, ℕ, ◌+◌, List, [], ◌∷◌, ◌++◌, refl, sym, ◌∙◌, ap, ap₂, subst, Bool, true, false, append-nil, arith, Option, Some, None, ◌==◌, ◌||◌, ◌&&◌, ◌-◌, ◌^◌, nat_lt, if◌then◌else◌, eqb-true, Env, Resume, Event, Begin, Life, LastJob, JobStage, Given, Begun, Applied, Waits, Asks, Closes, later, tasks_of, life_of, lived, stage_in, opened_by, is_closed, is_cancelled, links_of, is_under_way, is_current, was_given, task, Card, GroupCard, Digest, digest_of, noted, card_noted, group_noted, digest_of-push, bare, current_in_digest, remembered, AreInPlace, life_of_is, blurred_stage, blurred_life, blurred, AreNear, AreWithin, cons_option}
use Rattle.swift_escalation.specs.declared.waits.PriorityEvent.{PriorityEvent as Link}
use Rattle.swift_reordering.proofs.Sights.{waited, IsSight, seen_on, seen_tasks, seen_life, seen_origin, seen_ending, seen_opened, seen_closed, seen_cancelled, seen_links}

-- where a turn that has begun counts as one that was given, enough is seen

abbrev pub blurs : ℕ → Life → Life
blurs u l = blurred_life l

pub blurred_twice : (s : Option JobStage) → blurred_stage s ≡ blurred_stage (blurred_stage s)
blurred_twice None = refl
blurred_twice (Some (Begun env)) = refl
blurred_twice (Some Given) = refl
blurred_twice (Some Applied) = refl
blurred_twice (Some (Waits t)) = refl
blurred_twice (Some (Asks g)) = refl
blurred_twice (Some (Closes g)) = refl

pub later_blurred : (x s : Option JobStage) → blurred_stage (later x s) ≡ blurred_stage (later x (blurred_stage s))
later_blurred None s = blurred_twice s
later_blurred (Some x) s = refl

pub waits_blurred : (s : Option JobStage) → waited (blurred_stage s) ≡ waited s
waits_blurred None = refl
waits_blurred (Some (Begun env)) = refl
waits_blurred (Some Given) = refl
waits_blurred (Some Applied) = refl
waits_blurred (Some (Waits t)) = refl
waits_blurred (Some (Asks g)) = refl
waits_blurred (Some (Closes g)) = refl

under_way_blurred : (s : Option JobStage) → is_under_way s ≡ is_under_way (blurred_stage s)
under_way_blurred None = refl
under_way_blurred (Some (Begun env)) = refl
under_way_blurred (Some Given) = refl
under_way_blurred (Some Applied) = refl
under_way_blurred (Some (Waits t)) = refl
under_way_blurred (Some (Asks g)) = refl
under_way_blurred (Some (Closes g)) = refl

blurred_if : (b : Bool) (l : Life) → blurred_life (if b then l else bare l) ≡ (if b then blurred_life l else bare (blurred_life l))
blurred_if true l = refl
blurred_if false l = refl

blurred_remembered : (l : Life) → blurred_life (remembered l) ≡ remembered (blurred_life l)
blurred_remembered l = blurred_if (is_under_way l.stage) l ∙ ap (λ (b : Bool). if b then blurred_life l else bare (blurred_life l)) (under_way_blurred l.stage)

pub blurred_on : (l : Life) (e : Event) → blurred_life (remembered (lived l e)) ≡ blurred_life (remembered (lived (blurred_life l) e))
blurred_on l e =
    blurred_remembered (lived l e) ∙ ap (λ (s : Option JobStage). remembered (record (lived l e) { stage = s })) (later_blurred (stage_in e) l.stage)
    ∙ sym (blurred_remembered (lived (blurred_life l) e))

abbrev pub blurs_sight : IsSight blurs
blurs_sight = record {
  hides = λ u. false;
  again = λ u l. ap (λ (s : Option JobStage). record l { stage = s }) (blurred_twice l.stage);
  on = λ u l e. blurred_on l e;
  origin = λ u l. refl;
  ending = λ u l shown. refl;
  waits = λ u l. waits_blurred l.stage;
}

pub near_on : (a b es fs : List Event) → AreNear a b → es ≡ fs → AreNear (a ++ es) (b ++ fs)
near_on = seen_on blurs blurs_sight

module _ (a b : List Event) (same : AreNear a b) where
  pub near_tasks : (roots : ℕ) → tasks_of roots a ≡ tasks_of roots b
  near_tasks = seen_tasks blurs blurs_sight a b same

  pub near_origin : (t : ℕ) → (life_of t a).origin ≡ (life_of t b).origin
  near_origin = seen_origin blurs blurs_sight a b same

  pub near_ending : (t : ℕ) → (life_of t a).ending ≡ (life_of t b).ending
  near_ending t = seen_ending blurs blurs_sight a b same t refl

  near_card : (t : ℕ) → blurred_life ((digest_of a).cards t).life ≡ blurred_life ((digest_of b).cards t).life
  near_card t = seen_life blurs blurs_sight a b same t

  pub near_stage : (t : ℕ) → blurred_stage (life_of t a).stage ≡ blurred_stage (life_of t b).stage
  near_stage t = ap (λ (l : Life). blurred_stage l.stage) (life_of_is t a) ∙ ap (λ (l : Life). l.stage) (near_card t) ∙ ap (λ (l : Life). blurred_stage l.stage) (sym (life_of_is t b))

  pub near_opened : (t : ℕ) → opened_by t a ≡ opened_by t b
  near_opened = seen_opened blurs blurs_sight a b same

  pub near_closed : (o g : ℕ) → is_closed o g a ≡ is_closed o g b
  near_closed = seen_closed blurs blurs_sight a b same

  pub near_cancelled : (t : ℕ) → is_cancelled t a ≡ is_cancelled t b
  near_cancelled = seen_cancelled blurs blurs_sight a b same

  pub near_links : AreWithin (links_of a) (links_of b)
  near_links = seen_links blurs blurs_sight a b same

-- a begin is not seen

abbrev none_said : Option Link
none_said = None

or_none : (b : Bool) → (b || false) ≡ b
or_none true = refl
or_none false = refl

none_more : (n : ℕ) → n + 0 ≡ n
none_more n = omega arith

no_link : (b : Bool) → cons_option (if b then none_said else none_said) [] ≡ []
no_link true = refl
no_link false = refl

under_blurred : (s : Option JobStage) → is_under_way s ≡ true → blurred_stage s ≡ Some Given
under_blurred (Some (Begun env)) under = refl
under_blurred (Some Given) under = refl
under_blurred _ under = absurd (cc under)

life_begun : (l : Life) (t n : ℕ) (env : Env) → is_under_way l.stage ≡ true → blurred_life (lived l (Begin (task t) n env)) ≡ blurred_life l
life_begun l t n env under = ap (λ (s : Option JobStage). record l { stage = s }) (sym (under_blurred l.stage under))

life_if : (b : Bool) (l : Life) (t n : ℕ) (env : Env) → (b ≡ true → is_under_way l.stage ≡ true) → blurred_life (if b then remembered (lived l (Begin (task t) n env)) else l) ≡ blurred_life l
life_if true l t n env under = life_begun l t n env (under refl)
life_if false l t n env under = refl

card_begun : (c : Card) (u t n : ℕ) (env : Env) → ((t == u) ≡ true → is_under_way c.life.stage ≡ true)
    → record (card_noted u c (Begin (task t) n env)) { life = blurred_life (card_noted u c (Begin (task t) n env)).life } ≡ record c { life = blurred_life c.life }
card_begun c u t n env under = λ k. record {
  life = life_if (t == u) c.life t n env under k;
  links = (ap (λ (l : List Link). c.links ++ l) (no_link (t == u)) ∙ append-nil c.links) k;
  own = append-nil c.own k;
  waiters = append-nil c.waiters k;
  named = or_none c.named k;
  opened = none_more c.opened k;
}

group_begun : (c : GroupCard) (o g t n : ℕ) (env : Env) → group_noted o g c (Begin (task t) n env) ≡ c
group_begun c o g t n env = λ k. record {
  children = append-nil c.children k;
  ended = append-nil c.ended k;
  asked = none_more c.asked k;
  closed = or_none c.closed k;
  named = or_none c.named k;
}

digest_begun : (d : Digest) (t n : ℕ) (env : Env) → is_under_way (d.cards t).life.stage ≡ true → blurred (noted d (Begin (task t) n env)) ≡ blurred d
digest_begun d t n env under = λ k. record {
  made = none_more d.made k;
  cards = λ u. card_begun (d.cards u) u t n env (λ same. subst (λ (v : ℕ). is_under_way (d.cards v).life.stage ≡ true) (eqb-true t u same) under) k;
  groups = λ o g. group_begun (d.groups o g) o g t n env k;
}

pub near_begin : (log : List Event) (t n : ℕ) (env : Env) → is_under_way (life_of t log).stage ≡ true → AreNear (log ++ Begin (task t) n env ∷ []) log
near_begin log t n env under =
    ap blurred (digest_of-push log (Begin (task t) n env)) ∙ digest_begun (digest_of log) t n env (ap (λ (l : Life). is_under_way l.stage) (sym (life_of_is t log)) ∙ under)

-- whether a turn is under way, and current, is seen

pub near_current : (a b : List Event) → AreNear a b → AreInPlace a → AreInPlace b → (t n : ℕ) (resume : Resume) → is_current (life_of t a) n resume ≡ is_current (life_of t b) n resume
near_current a b same new_a new_b t n resume =
    let one : Life = ((digest_of a).cards t).life in
    let other : Life = ((digest_of b).cards t).life in
    let card = near_card a b same t in
    let under : is_under_way one.stage ≡ is_under_way other.stage = under_way_blurred one.stage ∙ ap (λ (l : Life). is_under_way l.stage) card ∙ sym (under_way_blurred other.stage) in
    current_in_digest t a n resume new_a
    ∙ ap₂ (λ (g : Option LastJob) (x : Bool). was_given g n resume && (nat_lt n (2 ^ 32 - 1) && x)) (ap (λ (l : Life). l.given) card) under
    ∙ sym (current_in_digest t b n resume new_b)
