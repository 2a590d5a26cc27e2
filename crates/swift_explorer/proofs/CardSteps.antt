-- Cards after one more event, and as numbers.
use Rattle.swift_explorer.proofs.Prelude.{◌≡◌, ℕ, ◌+◌, ◌≤◌, ℤ, Bool, true, false, List, [], ◌++◌, refl, sym, ◌∙◌, ap, arith, if◌then◌else◌, ◌==◌, ◌||◌, cons_option, TaskId, Event, Life, task_of, lived, own_in, waiter_in, names_task, opens, child_in, asks, closes, names_group, no_card, card_noted, group_noted, one_if, open_ending, own_link, said, some_numbers, task_numbers, link_numbers, ended_numbers, card_numbers, group_numbers, IsBlank, IsCard, IsKeyGroup, card_of_parts, group_of_parts, KeyCard, KeyGroup}
use Rattle.swift_digest.specs.Digests.{Card as CardView, GroupCard as GroupView, remembered}
use Rattle.swift_explorer.proofs.Steps.{some-append}

pub one_at_most : (b : Bool) → one_if b ≤ 1
one_at_most true = omega arith
one_at_most false = omega arith

pub fewer_unless : (over : Bool) (n : ℕ) → (if over then 0 else n) ≤ n
fewer_unless true n = omega arith
fewer_unless false n = omega arith

-- a blank card is that of a task of which nothing is said
pub blank_is : (c : KeyCard) → IsBlank c → IsCard c no_card
blank_is c b = record { life = b.life; links = b.links; own = b.own; waiters = b.waiters; named = b.named; opened = b.opened }

pub card_more : (t : ℕ) (d : CardView) (e : Event) (c n : KeyCard) → IsCard c d
    → n.life ≡ (if task_of e == t then remembered (lived c.life e) else c.life)
    → n.links.items ≡ c.links.items ++ some_numbers link_numbers (cons_option (own_link t e) [])
    → n.own.items ≡ c.own.items ++ some_numbers task_numbers (cons_option (own_in t e) [])
    → n.waiters.items ≡ c.waiters.items ++ some_numbers task_numbers (cons_option (waiter_in t e) [])
    → n.named ≡ (c.named || names_task t e)
    → n.opened ≡ c.opened + one_if (opens t e)
    → IsCard n (card_noted t d e)
card_more t d e c n was life links own waiters named opened = record {
  life = life ∙ ap (λ (l : Life). if task_of e == t then remembered (lived l e) else l) was.life;
  links = links ∙ ap (λ l. l ++ some_numbers link_numbers (said (own_link t) e)) was.links ∙ sym (some-append link_numbers d.links (said (own_link t) e));
  own = own ∙ ap (λ l. l ++ some_numbers task_numbers (said (own_in t) e)) was.own ∙ sym (some-append task_numbers d.own (said (own_in t) e));
  waiters = waiters ∙ ap (λ l. l ++ some_numbers task_numbers (said (waiter_in t) e)) was.waiters ∙ sym (some-append task_numbers d.waiters (said (waiter_in t) e));
  named = named ∙ ap (λ b. b || names_task t e) was.named;
  opened = opened ∙ ap (λ k. k + one_if (opens t e)) was.opened;
}

unless_append : {A : Type 0} (f : A → List ℤ) (xs ys : List A) (over : Bool) → (if over then [] else some_numbers f xs ++ some_numbers f ys) ≡ some_numbers f (if over then [] else xs ++ ys)
unless_append f xs ys true = refl
unless_append f xs ys false = sym (some-append f xs ys)

pub group_more : (o g : ℕ) (d : GroupView) (e : Event) (c n : KeyGroup) → IsKeyGroup c d
    → n.children.items ≡ c.children.items ++ cons_option (child_in o g e) []
    → n.added.items ≡ c.added.items ++ some_numbers task_numbers (cons_option (child_in o g e) [])
    → n.ended.items ≡ (if closes o g e then [] else c.ended.items ++ some_numbers ended_numbers (cons_option (open_ending c.closed c.children.items e) []))
    → n.asked ≡ (if closes o g e then 0 else c.asked + one_if (asks o g e))
    → n.closed ≡ (c.closed || closes o g e)
    → n.named ≡ (c.named || names_group o g e)
    → IsKeyGroup n (group_noted o g d e)
group_more o g d e c n was children added ended asked closed named = record {
  children = children ∙ ap (λ l. l ++ said (child_in o g) e) was.children;
  added = added ∙ ap (λ l. l ++ some_numbers task_numbers (said (child_in o g) e)) was.added ∙ sym (some-append task_numbers d.children (said (child_in o g) e));
  ended = ended
      ∙ ap (λ (b : Bool). if closes o g e then [] else c.ended.items ++ some_numbers ended_numbers (said (open_ending b c.children.items) e)) was.closed
      ∙ ap (λ (l : List TaskId). if closes o g e then [] else c.ended.items ++ some_numbers ended_numbers (said (open_ending d.closed l) e)) was.children
      ∙ ap (λ (l : List ℤ). if closes o g e then [] else l ++ some_numbers ended_numbers (said (open_ending d.closed d.children) e)) was.ended
      ∙ unless_append ended_numbers d.ended (said (open_ending d.closed d.children) e) (closes o g e);
  asked = asked ∙ ap (λ (k : ℕ). if closes o g e then 0 else k + one_if (asks o g e)) was.asked;
  closed = closed ∙ ap (λ b. b || closes o g e) was.closed;
  named = named ∙ ap (λ b. b || names_group o g e) was.named;
}

pub card_written : (c : KeyCard) (d : CardView) → IsCard c d → card_of_parts c.life c.links.items c.own.items c.waiters.items c.named c.opened ≡ card_numbers d
card_written c d is =
    ap (λ (x : Life). card_of_parts x c.links.items c.own.items c.waiters.items c.named c.opened) is.life
    ∙ ap (λ (x : List ℤ). card_of_parts d.life x c.own.items c.waiters.items c.named c.opened) is.links
    ∙ ap (λ (x : List ℤ). card_of_parts d.life (some_numbers link_numbers d.links) x c.waiters.items c.named c.opened) is.own
    ∙ ap (λ (x : List ℤ). card_of_parts d.life (some_numbers link_numbers d.links) (some_numbers task_numbers d.own) x c.named c.opened) is.waiters
    ∙ ap (λ (x : Bool). card_of_parts d.life (some_numbers link_numbers d.links) (some_numbers task_numbers d.own) (some_numbers task_numbers d.waiters) x c.opened) is.named
    ∙ ap (λ (x : ℕ). card_of_parts d.life (some_numbers link_numbers d.links) (some_numbers task_numbers d.own) (some_numbers task_numbers d.waiters) d.named x) is.opened

pub group_written : (c : KeyGroup) (d : GroupView) → IsKeyGroup c d → group_of_parts c.added.items c.ended.items c.asked c.closed c.named ≡ group_numbers d
group_written c d is =
    ap (λ (x : List ℤ). group_of_parts x c.ended.items c.asked c.closed c.named) is.added
    ∙ ap (λ (x : List ℤ). group_of_parts (some_numbers task_numbers d.children) x c.asked c.closed c.named) is.ended
    ∙ ap (λ (x : ℕ). group_of_parts (some_numbers task_numbers d.children) (some_numbers ended_numbers d.ended) x c.closed c.named) is.asked
    ∙ ap (λ (x : Bool). group_of_parts (some_numbers task_numbers d.children) (some_numbers ended_numbers d.ended) d.asked x c.named) is.closed
    ∙ ap (λ (x : Bool). group_of_parts (some_numbers task_numbers d.children) (some_numbers ended_numbers d.ended) d.asked d.closed x) is.named
