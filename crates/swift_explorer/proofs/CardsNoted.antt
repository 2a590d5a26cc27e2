-- Cards of tasks after one more event.
use Rattle.swift_explorer.proofs.Prelude.{◌≡◌, ℕ, ◌+◌, ◌<◌, ◌≤◌, List, [], ◌∷◌, ◌++◌, length, set, get_or, refl, sym, ◌∙◌, ap, subst, arith, inl, inr, if◌then◌else◌, Option, Some, slice_get, unwrap_or, cases_eq, slice_get-get_or, slice_get_within, length_push, Event, task_of, lived, names_task, opens, own_in, waiter_in, Digest, digest_of, own_link, link_numbers, task_numbers, other_of, AreCards, AreMoreCards, AreNoted, IsBlank, IsCard, IsNotedAt, IsPast, OpenAtMost, KeyCard}
use Rattle.std.proofs.lemmas.List.{length-set}
use Rattle.swift_digest.specs.Digests.{remembered}
use Rattle.swift_groups.proofs.Lists.{slice_get_push, slice_get_set, slice_get_set_other}
use Rattle.swift_explorer.specs.CardsInside.{IsNoted}
use Rattle.swift_digest.proofs.Cards.{digest_of-push}
use Rattle.swift_explorer.proofs.CardSteps.{card_more, one_at_most}
use Rattle.swift_explorer.proofs.Past.{count_stays, flag_stays, numbers_stay, past, unequal}

-- a card of which an event says nothing
noted_past : (t : ℕ) (e : Event) (c : KeyCard) → IsPast t e → IsNoted t e c c
noted_past t e c is = record {
  life = sym (ap (λ b. if b then remembered (lived c.life e) else c.life) is.task);
  links = numbers_stay link_numbers c.links.items (own_link t e) is.link;
  own = numbers_stay task_numbers c.own.items (own_in t e) is.own;
  waiters = numbers_stay task_numbers c.waiters.items (waiter_in t e) is.waiter;
  named = flag_stays c.named (names_task t e) is.named;
  opened = count_stays c.opened (opens t e) is.opens;
}

past_both : (t : ℕ) (e : Event) (c : KeyCard) → (t ≡ task_of e → ⊥) → (t ≡ other_of e → ⊥) → IsNoted t e c c
past_both t e c first second = noted_past t e c (past t e (unequal (task_of e) t (λ q. first (sym q))) (unequal (other_of e) t (λ q. second (sym q))))

-- what is noted at place `t`
abbrev NotedFrom : Event → List KeyCard → KeyCard → ℕ → Type 0
NotedFrom e cs n t = (c : KeyCard) × (slice_get cs t ≡ Some c) × IsNoted t e c n

-- an event that names one task says nothing of the others
pub one_noted : (e : Event) (cs ns : List KeyCard) → IsNotedAt (task_of e) e cs ns → other_of e ≡ task_of e → AreNoted e cs ns
one_noted e cs ns at same = record {
  count = at.count;
  each = λ t n there. elim (cases_eq t (task_of e)) [
    | inl is ↦ subst (NotedFrom e cs n) (sym is) (at.here n (subst (λ (u : ℕ). slice_get ns u ≡ Some n) is there))
    | inr ne ↦ (n, sym (at.other t ne) ∙ there, past_both t e n ne (λ q. ne (q ∙ same)))
  ];
}

-- one that names two says nothing of the others
pub two_noted : (e : Event) (cs ms ns : List KeyCard) → IsNotedAt (task_of e) e cs ms → IsNotedAt (other_of e) e ms ns → (other_of e ≡ task_of e → ⊥) → AreNoted e cs ns
two_noted e cs ms ns first second differ = record {
  count = second.count ∙ first.count;
  each = λ t n there. elim (cases_eq t (other_of e)) [
    | inl is ↦
        let two : NotedFrom e ms n (other_of e) = second.here n (subst (λ (u : ℕ). slice_get ns u ≡ Some n) is there) in
        (two.0, ap (slice_get cs) is ∙ sym (first.other (other_of e) differ) ∙ two.1, subst (λ (u : ℕ). IsNoted u e two.0 n) (sym is) two.2)
    | inr ne ↦
        let mid : slice_get ms t ≡ Some n = sym (second.other t ne) ∙ there in
        elim (cases_eq t (task_of e)) [
          | inl is ↦ subst (NotedFrom e cs n) (sym is) (first.here n (subst (λ (u : ℕ). slice_get ms u ≡ Some n) is mid))
          | inr other ↦ (n, sym (first.other t other) ∙ mid, past_both t e n other ne)
        ]
  ];
}

-- one of them is noted
pub noted_set : (t : ℕ) (e : Event) (cs : List KeyCard) (c y : KeyCard) → t < length cs → slice_get cs t ≡ Some c → IsNoted t e c y → IsNotedAt t e cs (set cs t y)
noted_set t e cs c y lt there noted = record {
  count = length-set cs t y;
  other = λ u ne. slice_get_set_other cs t u y ne;
  here = λ n at. (c, there, subst (IsNoted t e c) (ap (λ (o : Option KeyCard). unwrap_or o y) (sym (slice_get_set cs t y lt) ∙ at)) noted);
}

-- or there is none
pub noted_none : (t : ℕ) (e : Event) (cs : List KeyCard) → length cs ≤ t → IsNotedAt t e cs cs
noted_none t e cs past = record {
  count = refl;
  other = λ u ne. refl;
  here = λ n at. (let lt = slice_get_within cs t n at in absurd (omega (arith, past, lt)));
}

-- how many groups were opened then

pub open_at : (m t : ℕ) (e : Event) (cs ns : List KeyCard) → OpenAtMost m cs → IsNotedAt t e cs ns → OpenAtMost (m + 1) ns
open_at m t e cs ns few at u c there = elim (cases_eq u t) [
  | inl is ↦
      let one = at.here c (subst (λ (v : ℕ). slice_get ns v ≡ Some c) is there) in
      let was : one.0.opened ≤ m = few t one.0 one.1 in
      let opened = one.2.opened in
      let step = one_at_most (opens t e) in
      omega (arith, was, opened, step)
  | inr ne ↦ let was : c.opened ≤ m = few u c (sym (at.other u ne) ∙ there) in omega (arith, was)
]

pub open_more : (m : ℕ) (e : Event) (cs ns : List KeyCard) → OpenAtMost m cs → AreNoted e cs ns → OpenAtMost (m + 1) ns
open_more m e cs ns few noted t c there =
    let one = noted.each t c there in
    let was : one.0.opened ≤ m = few t one.0 one.1 in
    let opened = one.2.opened in
    let step = one_at_most (opens t e) in
    omega (arith, was, opened, step)

pub open_fewer : (m k : ℕ) (cs : List KeyCard) → m ≤ k → OpenAtMost m cs → OpenAtMost k cs
open_fewer m k cs le few t c there = (let was : c.opened ≤ m = few t c there in omega (arith, le, was))

-- the card at a place
pub card_at : (cs : List KeyCard) (n i : ℕ) (c : KeyCard) (d : Digest) → AreCards cs n d → i < length cs → IsCard (get_or cs i c) (d.cards i)
card_at cs n i c d are lt = are.cards i (get_or cs i c) (slice_get-get_or cs i c lt)

-- the cards after one more event
pub cards_more : (log : List Event) (n : ℕ) (e : Event) (cs ns : List KeyCard) → AreCards cs n (digest_of log) → AreNoted e cs ns → AreCards ns n (digest_of (log ++ e ∷ []))
cards_more log n e cs ns was noted = record {
  count = noted.count ∙ was.count;
  cards = λ t c there.
      (let one = noted.each t c there in
      let k = one.2 in
      subst (λ (d : Digest). IsCard c (d.cards t)) (sym (digest_of-push log e)) (card_more t ((digest_of log).cards t) e one.0 c (was.cards t one.0 one.1) k.life k.links k.own k.waiters k.named k.opened));
}

-- blank cards after these

pub more_none : (cs : List KeyCard) → AreMoreCards cs cs
more_none cs = record { more = omega arith; each = λ t n at. inl at }

pub more_push : (cs ms ns : List KeyCard) (x : KeyCard) → AreMoreCards cs ms → ns ≡ ms ++ x ∷ [] → IsBlank x → AreMoreCards cs ns
more_push cs ms ns x was is blank =
    let many = ap length is ∙ length_push ms x in
    let more = was.more in
    record {
      more = omega (arith, more, many);
      each = λ t n at. elim (slice_get_push ms x t n (subst (λ (l : List KeyCard). slice_get l t ≡ Some n) is at)) [
        | inl old ↦ was.each t n old
        | inr new ↦ (let here = new.0 in inr (omega (arith, more, here), subst IsBlank new.1 blank))
      ];
    }
