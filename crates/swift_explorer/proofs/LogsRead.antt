-- The digest of a log is kept event by event.
use Rattle.swift_explorer.proofs.Prelude.{◌≡◌, ℕ, zero, suc, ◌+◌, ◌<◌, ◌≤◌, ◌^◌, List, [], ◌∷◌, ◌++◌, length, take, get_or, set, refl, sym, ◌∙◌, ap, subst, subst₂, arith, inl, inr, Some, AllZip, none-some, same_Some, slice_get, slice_get-get_or, slice_get_within, length_push, TaskId, Event, is_made, task_of, asks, closes, Digest, digest_of, no_group, noted, group_noted, group_numbers, group_of_parts, one_if, IsWithin, other_of, group_end, group_in, AreCards, AreMoreCards, AreNoted, IsCard, IsKeyGroup, IsSameCard, IsSameKeyGroup, OpenAtMost, AreGroups, AreGroupsNoted, AskedAtMost, IsGroupNoted, IsNamedAt, IsNamedIn, IsRead, IsReadOf, IsSameGroup, KeyCard, KeyGroup, LogDigest, NamedGroup}
use Rattle.std.proofs.Math.Seq.{take-append_seam}
use Rattle.std.proofs.lemmas.List.{length-append}
use Rattle.std.proofs.lemmas.List.Elements.{length_all_zip}
use Rattle.swift_digest.specs.Digests.{Card as CardView, GroupCard as GroupView}
use Rattle.swift_digest.proofs.Cards.{digest_of-none, digest_of-push}
use Rattle.swift_groups.proofs.Lists.{slice_get_new, slice_get_push, slice_get_set, slice_get_set_other}
use Rattle.swift_explorer.proofs.CardSteps.{blank_is, fewer_unless, group_more, group_written, one_at_most}
use Rattle.swift_explorer.proofs.CardsNoted.{cards_more, open_more}
use Rattle.swift_explorer.proofs.Ended.{lt_or}
use Rattle.swift_explorer.proofs.Within.{blank_unnamed, within_more, within_none, within_wider}

-- nothing was read

pub read_none : (r : LogDigest) → r.events ≡ 0 → r.made ≡ 0 → r.bound ≡ 0 → r.cards.items ≡ [] → r.groups.items ≡ [] → IsRead r []
read_none r events made bound cards groups =
    let many : length r.cards.items ≡ 0 = ap length cards in
    record {
      count = events;
      made = made ∙ sym (ap (λ (d : Digest). d.made) digest_of-none);
      few = omega (arith, made, events);
      cards = record { count = refl; cards = λ t c at. absurd (none-some c (sym (ap (λ (cs : List KeyCard). slice_get cs t) cards) ∙ at)) };
      opened = λ t c at. absurd (none-some c (sym (ap (λ (cs : List KeyCard). slice_get cs t) cards) ∙ at));
      within = subst₂ (λ (n m : ℕ). IsWithin n m (digest_of [])) (sym many) (sym bound) (subst (IsWithin 0 0) (sym digest_of-none) within_none);
      groups = record {
        cards = λ i x at. absurd (none-some x (sym (ap (λ (gs : List NamedGroup). slice_get gs i) groups) ∙ at));
        others = λ o g none. ap (λ (d : Digest). d.groups o g) digest_of-none;
      };
      asked = λ i x at. absurd (none-some x (sym (ap (λ (gs : List NamedGroup). slice_get gs i) groups) ∙ at));
      tasks = omega (arith, many);
      bound = omega (arith, bound);
    }

-- of copies

-- what stands at a place of a copy is a copy of what stands there
zip_back : {A : Type 0} (R : A → A → Type 0) (xs ys : List A) (i : ℕ) (y : A) → AllZip R xs ys → slice_get ys i ≡ Some y → (x : A) × (slice_get xs i ≡ Some x) × R x y
zip_back R [] [] i y all at = absurd (none-some y at)
zip_back R [] (z ∷ ys) i y all at = absurd all
zip_back R (x ∷ xs) [] i y all at = absurd all
zip_back R (x ∷ xs) (z ∷ ys) zero y all at = (x, refl, subst (R x) (same_Some z y at) all.0)
zip_back R (x ∷ xs) (z ∷ ys) (suc i) y all at = zip_back R xs ys i y all.1 at

zip_on : {A : Type 0} (R : A → A → Type 0) (xs ys : List A) (i : ℕ) (x : A) → AllZip R xs ys → slice_get xs i ≡ Some x → (y : A) × (slice_get ys i ≡ Some y) × R x y
zip_on R [] [] i x all at = absurd (none-some x at)
zip_on R [] (z ∷ ys) i x all at = absurd all
zip_on R (y ∷ xs) [] i x all at = absurd all
zip_on R (y ∷ xs) (z ∷ ys) zero x all at = (z, refl, subst (λ k. R k z) (same_Some y x at) all.0)
zip_on R (y ∷ xs) (z ∷ ys) (suc i) x all at = zip_on R xs ys i x all.1 at

card_same : (c n : KeyCard) (d : CardView) → IsSameCard c n → IsCard c d → IsCard n d
card_same c n d same is = record {
  life = same.life ∙ is.life;
  links = same.links ∙ is.links;
  own = same.own ∙ is.own;
  waiters = same.waiters ∙ is.waiters;
  named = same.named ∙ is.named;
  opened = same.opened ∙ is.opened;
}

group_same : (c n : KeyGroup) (d : GroupView) → IsSameKeyGroup c n → IsKeyGroup c d → IsKeyGroup n d
group_same c n d same is = record {
  children = same.children ∙ is.children;
  added = same.added ∙ is.added;
  ended = same.ended ∙ is.ended;
  asked = same.asked ∙ is.asked;
  closed = same.closed ∙ is.closed;
  named = same.named ∙ is.named;
}

pub read_same : (r z : LogDigest) (log : List Event) → z.events ≡ r.events → z.made ≡ r.made → z.bound ≡ r.bound → AllZip IsSameCard r.cards.items z.cards.items → AllZip IsSameGroup r.groups.items z.groups.items → IsRead r log → IsRead z log
read_same r z log events made bound cards groups is =
    let cs = r.cards.items in
    let gs = r.groups.items in
    let few = is.few in
    let tasks = is.tasks in
    let high = is.bound in
    let many : length z.cards.items ≡ length cs = sym (length_all_zip IsSameCard cs z.cards.items cards) in
    record {
      count = events ∙ is.count;
      made = made ∙ is.made;
      few = omega (arith, few, events, made);
      cards = record { count = refl; cards = λ t c at. (let one = zip_back IsSameCard cs z.cards.items t c cards at in card_same one.0 c ((digest_of log).cards t) one.2 (is.cards.cards t one.0 one.1)) };
      opened = λ t c at.
          (let one = zip_back IsSameCard cs z.cards.items t c cards at in
          let was : one.0.opened ≤ r.events = is.opened t one.0 one.1 in
          let same = one.2.opened in
          omega (arith, was, same, events));
      within = subst₂ (λ (n m : ℕ). IsWithin n m (digest_of log)) (sym many) (sym bound) is.within;
      groups = record {
        cards = λ i x at.
            (let one = zip_back IsSameGroup gs z.groups.items i x groups at in
            group_same one.0.card x.card ((digest_of log).groups x.owner.0 x.group) one.2.card
            (subst₂ (λ (o : TaskId) (g : ℕ). IsKeyGroup one.0.card ((digest_of log).groups o.0 g)) (sym one.2.owner) (sym one.2.group) (is.groups.cards i one.0 one.1)));
        others = λ o g none. is.groups.others o g (λ was.
            (let x = was.1 in
            let one = zip_on IsSameGroup gs z.groups.items was.0 x.0 groups x.1 in
            none (was.0, (one.0, one.1, ap (λ (t : TaskId). t.0) one.2.owner ∙ x.2, one.2.group ∙ x.3))));
      };
      asked = λ i x at.
          (let one = zip_back IsSameGroup gs z.groups.items i x groups at in
          let was : one.0.card.asked ≤ r.events = is.asked i one.0 one.1 in
          let same = one.2.card.asked in
          omega (arith, was, same, events));
      tasks = omega (arith, many, tasks);
      bound = omega (arith, bound, high);
    }

-- one more event

covered_cards : (cs ns : List KeyCard) (m : ℕ) (d : Digest) → AreMoreCards cs ns → IsWithin (length cs) m d → AreCards cs (length cs) d → AreCards ns (length ns) d
covered_cards cs ns m d more within are = record {
  count = refl;
  cards = λ t c at. elim (more.each t c at) [
    | inl old ↦ are.cards t c old
    | inr new ↦ subst (IsCard c) (sym (within.cards t new.0)) (blank_is c new.1)
  ];
}

pub covered_open : (m : ℕ) (cs ns : List KeyCard) → AreMoreCards cs ns → OpenAtMost m cs → OpenAtMost m ns
covered_open m cs ns more few t c at = elim (more.each t c at) [
  | inl old ↦ few t c old
  | inr new ↦ (let none = new.1.opened in omega (arith, none))
]

-- a group that was there is there still
named_on : (e : Event) (xs ys : List NamedGroup) (o g : ℕ) → AreGroupsNoted e xs ys → IsNamedIn xs o g → IsNamedIn ys o g
named_on e xs ys o g all was =
    let i = was.0 in
    let x = was.1 in
    let lt = slice_get_within xs i x.0 x.1 in
    let many = all.count in
    let y : NamedGroup = get_or ys i x.0 in
    let at = slice_get-get_or ys i x.0 (omega (arith, lt, many)) in
    let one = all.each i y at in
    let same : one.0 ≡ x.0 = same_Some one.0 x.0 (sym one.1 ∙ x.1) in
    (i, (y, at, ap (λ (t : TaskId). t.0) (one.2.owner ∙ ap (λ (z : NamedGroup). z.owner) same) ∙ x.2, one.2.group ∙ ap (λ (z : NamedGroup). z.group) same ∙ x.3))

groups_more : (log : List Event) (e : Event) (xs ys : List NamedGroup) → AreGroups xs (digest_of log) → ((o : TaskId) (g : ℕ) → group_in e ≡ Some (o, g) → IsNamedIn xs o.0 g) → AreGroupsNoted e xs ys → AreGroups ys (digest_of (log ++ e ∷ []))
groups_more log e xs ys are named all = subst (AreGroups ys) (sym (digest_of-push log e)) (record {
  cards = λ i y at.
      (let one = all.each i y at in
      let k = one.2.card in
      subst₂ (λ (o : TaskId) (g : ℕ). IsKeyGroup y.card ((noted (digest_of log) e).groups o.0 g)) (sym one.2.owner) (sym one.2.group)
      (group_more one.0.owner.0 one.0.group ((digest_of log).groups one.0.owner.0 one.0.group) e one.0.card y.card (are.cards i one.0 one.1) k.children k.added k.ended k.asked k.closed k.named));
  others = λ o g none.
      ap (λ (c : GroupView). group_noted o g c e) (are.others o g (λ was. none (named_on e xs ys o g all was)))
      ∙ blank_unnamed o g e (λ p is same. none (named_on e xs ys o g all (subst (λ (u : ℕ). IsNamedIn xs u g) same (named p g is))));
})

asked_more : (m : ℕ) (e : Event) (xs ys : List NamedGroup) → AskedAtMost m xs → AreGroupsNoted e xs ys → AskedAtMost (m + 1) ys
asked_more m e xs ys few all i y at =
    let one = all.each i y at in
    let was : one.0.card.asked ≤ m = few i one.0 one.1 in
    let asked = one.2.card.asked in
    let step = one_at_most (asks one.0.owner.0 one.0.group e) in
    let fewer = fewer_unless (closes one.0.owner.0 one.0.group e) (one.0.card.asked + one_if (asks one.0.owner.0 one.0.group e)) in
    omega (arith, was, asked, step, fewer)

pub read_more : (log : List Event) (e : Event) (r z : LogDigest) (cs ds : List KeyCard) (gs : List NamedGroup) → AreMoreCards r.cards.items cs → AreMoreCards cs ds → task_of e < length ds → other_of e < length ds → AreNoted e ds z.cards.items
    → ((d : Digest) → AreGroups r.groups.items d → AreGroups gs d) → ((m : ℕ) → AskedAtMost m r.groups.items → AskedAtMost m gs) → ((o : TaskId) (g : ℕ) → group_in e ≡ Some (o, g) → IsNamedIn gs o.0 g) → AreGroupsNoted e gs z.groups.items
    → z.made ≡ r.made + one_if (is_made e) → r.bound ≤ z.bound → group_end e ≤ z.bound → z.events ≡ r.events + 1 → length ds ≤ 2 ^ 32 → z.bound ≤ 2 ^ 32 → IsRead r log → IsRead z (log ++ e ∷ [])
read_more log e r z cs ds gs one two task other all groups asked named gs_noted made over group events low short is =
    let d = digest_of log in
    let m = r.bound in
    let up = one.more in
    let up' = two.more in
    let few = is.few in
    let most = one_at_most (is_made e) in
    let first : AreCards cs (length cs) d = covered_cards r.cards.items cs m d one is.within is.cards in
    let within : IsWithin (length cs) m d = within_wider (length r.cards.items) (length cs) m m d up (omega arith) is.within in
    let second : AreCards ds (length ds) d = covered_cards cs ds m d two within first in
    let wider : IsWithin (length ds) m d = within_wider (length cs) (length ds) m m d up' (omega arith) within in
    let count : length z.cards.items ≡ length ds = all.count in
    record {
      count = events ∙ ap (λ (n : ℕ). n + 1) is.count ∙ sym (length_push log e);
      made = made ∙ ap (λ (n : ℕ). n + one_if (is_made e)) is.made ∙ sym (ap (λ (x : Digest). x.made) (digest_of-push log e));
      few = omega (arith, few, made, most, events);
      cards = subst (λ (n : ℕ). AreCards z.cards.items n (digest_of (log ++ e ∷ []))) (sym count) (cards_more log (length ds) e ds z.cards.items second all);
      opened = subst (λ (n : ℕ). OpenAtMost n z.cards.items) (sym events) (open_more r.events e ds z.cards.items (covered_open r.events cs ds two (covered_open r.events r.cards.items cs one is.opened)) all);
      within = subst (λ (n : ℕ). IsWithin n z.bound (digest_of (log ++ e ∷ []))) (sym count) (subst (IsWithin (length ds) z.bound) (sym (digest_of-push log e)) (within_more (length ds) m (length ds) z.bound d e wider (omega arith) over task other group));
      groups = groups_more log e gs z.groups.items (groups d is.groups) named gs_noted;
      asked = subst (λ (n : ℕ). AskedAtMost n z.groups.items) (sym events) (asked_more r.events e gs z.groups.items (asked r.events is.asked) gs_noted);
      tasks = omega (arith, count, low);
      bound = short;
    }

-- groups that are named

pub find_more : (gs : List NamedGroup) (p o g : ℕ) (v : NamedGroup) → slice_get gs p ≡ Some v → (v.owner.0 ≡ o → v.group ≡ g → ⊥) → ((i : ℕ) → i < p → IsNamedAt gs i o g → ⊥) → (i : ℕ) → i < p + 1 → IsNamedAt gs i o g → ⊥
find_more gs p o g v here differs before i lt named = elim (lt_or i p lt) [
  | inl old ↦ before i old named
  | inr new ↦
      let same : v ≡ named.0 = same_Some v named.0 (sym here ∙ ap (slice_get gs) (sym new) ∙ named.1) in
      differs (ap (λ (x : NamedGroup). x.owner.0) same ∙ named.2) (ap (λ (x : NamedGroup). x.group) same ∙ named.3)
]

pub found_none : (gs : List NamedGroup) (p o g : ℕ) → length gs ≤ p → ((i : ℕ) → i < p → IsNamedAt gs i o g → ⊥) → IsNamedIn gs o g → ⊥
found_none gs p o g le before named =
    let lt = slice_get_within gs named.0 named.1.0 named.1.1 in
    before named.0 (omega (arith, lt, le)) named.1

-- what stands in a list stands there still where others come after it
there_left : (gs hs : List NamedGroup) (i : ℕ) (x : NamedGroup) → slice_get gs i ≡ Some x → slice_get (gs ++ hs) i ≡ Some x
there_left [] hs i x at = absurd (none-some x at)
there_left (y ∷ gs) hs zero x at = at
there_left (y ∷ gs) hs (suc i) x at = there_left gs hs i x at

-- a blank group is put to the others
module _ (gs ns : List NamedGroup) (x : NamedGroup) (more : ns ≡ gs ++ x ∷ []) (blank : IsKeyGroup x.card no_group) where
  pub groups_put : (IsNamedIn gs x.owner.0 x.group → ⊥) → (d : Digest) → AreGroups gs d → AreGroups ns d
  groups_put none d are = subst (λ (l : List NamedGroup). AreGroups l d) (sym more) (record {
    cards = λ i y at. elim (slice_get_push gs x i y at) [
      | inl old ↦ are.cards i y old
      | inr new ↦ subst (λ (z : NamedGroup). IsKeyGroup z.card (d.groups z.owner.0 z.group)) new.1 (subst (IsKeyGroup x.card) (sym (are.others x.owner.0 x.group none)) blank)
    ];
    others = λ o g no. are.others o g (λ was. (let y = was.1 in no (was.0, (y.0, there_left gs (x ∷ []) was.0 y.0 y.1, y.2, y.3))));
  })

  pub asked_put : (m : ℕ) → AskedAtMost m gs → AskedAtMost m ns
  asked_put m few i y at = elim (slice_get_push gs x i y (subst (λ (l : List NamedGroup). slice_get l i ≡ Some y) more at)) [
    | inl old ↦ few i y old
    | inr new ↦
        let none : x.card.asked ≡ 0 = blank.asked in
        let same = ap (λ (z : NamedGroup). z.card.asked) new.1 in
        omega (arith, none, same)
  ]

  pub named_put : (o : TaskId) (g : ℕ) → x.owner ≡ o → x.group ≡ g → IsNamedIn ns o.0 g
  named_put o g owner group = (length gs, (x, ap (λ (l : List NamedGroup). slice_get l (length gs)) more ∙ slice_get_new gs x, ap (λ (t : TaskId). t.0) owner, group))

-- each of some groups is noted, one after the other
pub noted_none : (e : Event) (xs : List NamedGroup) (i : ℕ) (y : NamedGroup) → i < 0 → slice_get xs i ≡ Some y → (x : NamedGroup) × (slice_get xs i ≡ Some x) × IsGroupNoted e x y
noted_none e xs i y lt at = absurd (omega (arith, lt))

pub noted_done : (e : Event) (xs ls : List NamedGroup) (p : ℕ) (v w : NamedGroup) → p < length ls → slice_get ls p ≡ Some v → IsGroupNoted e v w
    → ((i : ℕ) (y : NamedGroup) → i < p → slice_get ls i ≡ Some y → (x : NamedGroup) × (slice_get xs i ≡ Some x) × IsGroupNoted e x y) → ((i : ℕ) → p ≤ i → slice_get ls i ≡ slice_get xs i)
    → (i : ℕ) (y : NamedGroup) → i < p + 1 → slice_get (set ls p w) i ≡ Some y → (x : NamedGroup) × (slice_get xs i ≡ Some x) × IsGroupNoted e x y
noted_done e xs ls p v w within here noted before rest i y lt at = elim (lt_or i p lt) [
  | inl old ↦ before i y old (sym (slice_get_set_other ls p i w (λ is. absurd (omega (arith, is, old)))) ∙ at)
  | inr new ↦
      let same : w ≡ y = same_Some w y (sym (slice_get_set ls p w within) ∙ ap (slice_get (set ls p w)) (sym new) ∙ at) in
      (v, ap (slice_get xs) new ∙ sym (rest p (omega arith)) ∙ here, subst (IsGroupNoted e v) same noted)
]

pub noted_rest : (xs ls : List NamedGroup) (p : ℕ) (w : NamedGroup) → ((i : ℕ) → p ≤ i → slice_get ls i ≡ slice_get xs i) → (i : ℕ) → p + 1 ≤ i → slice_get (set ls p w) i ≡ slice_get xs i
noted_rest xs ls p w rest i le = slice_get_set_other ls p i w (λ is. absurd (omega (arith, is, le))) ∙ rest i (omega (arith, le))

pub noted_all : (e : Event) (xs ls : List NamedGroup) (p : ℕ) → length ls ≤ p → length ls ≡ length xs → ((i : ℕ) (y : NamedGroup) → i < p → slice_get ls i ≡ Some y → (x : NamedGroup) × (slice_get xs i ≡ Some x) × IsGroupNoted e x y)
    → AreGroupsNoted e xs ls
noted_all e xs ls p le count done = record { count = count; each = λ i y at. (let lt = slice_get_within ls i y at in done i y (omega (arith, lt, le)) at) }

-- a group's card, where it is named, and where it is not

pub group_here : (gs : List NamedGroup) (d : Digest) (o g i : ℕ) (x : NamedGroup) → AreGroups gs d → IsNamedAt gs i o g → slice_get gs i ≡ Some x → group_of_parts x.card.added.items x.card.ended.items x.card.asked x.card.closed x.card.named ≡ group_numbers (d.groups o g)
group_here gs d o g i x are named at =
    let same : x ≡ named.0 = same_Some x named.0 (sym at ∙ named.1) in
    let owner : x.owner.0 ≡ o = ap (λ (y : NamedGroup). y.owner.0) same ∙ named.2 in
    let group : x.group ≡ g = ap (λ (y : NamedGroup). y.group) same ∙ named.3 in
    group_written x.card (d.groups o g) (subst₂ (λ (u v : ℕ). IsKeyGroup x.card (d.groups u v)) owner group (are.cards i x at))

pub asked_fewer : (m k : ℕ) (gs : List NamedGroup) → m ≤ k → AskedAtMost m gs → AskedAtMost k gs
asked_fewer m k gs le few i x at = (let was : x.card.asked ≤ m = few i x at in omega (arith, le, was))

-- what was read of a log stands first in it
pub read_first : (r : LogDigest) (log : List Event) → IsReadOf r log → IsRead r (take r.events log) × (r.events ≤ length log)
read_first r log of =
    let count = of.3.count in
    let first : take r.events log ≡ of.0 = ap (λ (n : ℕ). take n log) count ∙ ap (take (length of.0)) of.2 ∙ take-append_seam of.0 of.1 in
    let many = ap length of.2 ∙ length-append of.0 of.1 in
    (subst (IsRead r) (sym first) of.3, omega (arith, count, many))
