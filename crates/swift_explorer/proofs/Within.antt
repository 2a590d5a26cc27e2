-- Past the tasks and groups that a log names all cards are blank.
use Rattle.swift_explorer.proofs.Prelude.{◌≡◌, ℕ, ◌<◌, ◌≤◌, Bool, true, false, refl, ◌∙◌, ap, arith, inl, inr, Some, cases_eq, TaskId, ◌==◌, ◌&&◌, ne_eqb, Event, Root, Begin, Apply, Free, Open, Child, Skip, CancelTask, CancelGroup, Wait, Next, Close, End, Give, task_of, Card, GroupCard, Digest, no_card, no_group, no_digest, card_noted, group_noted, noted, IsWithin, other_of, group_end, group_in}

-- an event that does not name a task leaves its card blank
blank_card : (t : ℕ) (e : Event) → (task_of e ≡ t → ⊥) → (other_of e ≡ t → ⊥) → card_noted t no_card e ≡ no_card
blank_card t (Root u p) a b = rw (ne_eqb u.0 t a)
blank_card t (Begin u n env) a b = rw (ne_eqb u.0 t a)
blank_card t (Apply u n) a b = rw (ne_eqb u.0 t a)
blank_card t (Free u by p d) a b = rw (ne_eqb u.0 t a, ne_eqb by.0 t b)
blank_card t (Open o g) a b = rw (ne_eqb o.0 t a)
blank_card t (Child u o g p) a b = rw (ne_eqb u.0 t a)
blank_card t (Skip o g) a b = rw (ne_eqb o.0 t a)
blank_card t (CancelTask u) a b = rw (ne_eqb u.0 t a)
blank_card t (CancelGroup o g) a b = rw (ne_eqb o.0 t a)
blank_card t (Wait u w) a b = rw (ne_eqb u.0 t a, ne_eqb w.0 t b)
blank_card t (Next o g) a b = rw (ne_eqb o.0 t a)
blank_card t (Close o g) a b = rw (ne_eqb o.0 t a)
blank_card t (End u x) a b = rw (ne_eqb u.0 t a)
blank_card t (Give u n x) a b = rw (ne_eqb u.0 t a)

-- the same of a group's card, where the event does not name the owner
blank_owner : (o g : ℕ) (e : Event) → (task_of e ≡ o → ⊥) → (other_of e ≡ o → ⊥) → group_noted o g no_group e ≡ no_group
blank_owner o g (Child u w h p) a b = rw (ne_eqb w.0 o b)
blank_owner o g (CancelGroup w h) a b = rw (ne_eqb w.0 o a)
blank_owner o g (Next w h) a b = rw (ne_eqb w.0 o a)
blank_owner o g (Close w h) a b = rw (ne_eqb w.0 o a)
blank_owner o g _ a b = refl

and_false : (x : Bool) → x && false ≡ false
and_false true = refl
and_false false = refl

-- and where it is of a group with a smaller number
blank_group : (o g : ℕ) (e : Event) → group_end e ≤ g → group_noted o g no_group e ≡ no_group
blank_group o g (Child u w h p) low = rw (ne_eqb h g (λ q. absurd (omega arith)), and_false (w.0 == o))
blank_group o g (CancelGroup w h) low = rw (ne_eqb h g (λ q. absurd (omega arith)), and_false (w.0 == o))
blank_group o g (Next w h) low = rw (ne_eqb h g (λ q. absurd (omega arith)), and_false (w.0 == o))
blank_group o g (Close w h) low = rw (ne_eqb h g (λ q. absurd (omega arith)), and_false (w.0 == o))
blank_group o g _ low = refl

pub within_none : IsWithin 0 0 no_digest
within_none = record { cards = λ t h. refl; tasks = λ o g h. refl; groups = λ o g h. refl }

pub within_more : (n m k l : ℕ) (d : Digest) (e : Event) → IsWithin n m d → n ≤ k → m ≤ l → task_of e < k → other_of e < k → group_end e ≤ l → IsWithin k l (noted d e)
within_more n m k l d e was up_n up_m task other group = record {
  cards = λ t high. ap (λ (c : Card). card_noted t c e) (was.cards t (omega arith)) ∙ blank_card t e (λ q. absurd (omega arith)) (λ q. absurd (omega arith));
  tasks = λ o g high. ap (λ (c : GroupCard). group_noted o g c e) (was.tasks o g (omega arith)) ∙ blank_owner o g e (λ q. absurd (omega arith)) (λ q. absurd (omega arith));
  groups = λ o g high. ap (λ (c : GroupCard). group_noted o g c e) (was.groups o g (omega arith)) ∙ blank_group o g e (omega arith);
}

-- an event of another group leaves a group's card blank

other_group : (w h o g : ℕ) → (w ≡ o → h ≡ g → ⊥) → (w == o) && (h == g) ≡ false
other_group w h o g differ = elim (cases_eq w o) [
  | inl is ↦ elim (cases_eq h g) [
    | inl same ↦ absurd (differ is same)
    | inr ne ↦ rw (ne_eqb h g ne, and_false (w == o))
  ]
  | inr ne ↦ rw (ne_eqb w o ne)
]

pub blank_unnamed : (o g : ℕ) (e : Event) → ((p : TaskId) → group_in e ≡ Some (p, g) → p.0 ≡ o → ⊥) → group_noted o g no_group e ≡ no_group
blank_unnamed o g (Child u w h p) none = rw (other_group w.0 h o g (λ is same. none w (ap (λ (k : ℕ). Some (w, k)) same) is))
blank_unnamed o g (CancelGroup w h) none = rw (other_group w.0 h o g (λ is same. none w (ap (λ (k : ℕ). Some (w, k)) same) is))
blank_unnamed o g (Next w h) none = rw (other_group w.0 h o g (λ is same. none w (ap (λ (k : ℕ). Some (w, k)) same) is))
blank_unnamed o g (Close w h) none = rw (other_group w.0 h o g (λ is same. none w (ap (λ (k : ℕ). Some (w, k)) same) is))
blank_unnamed o g _ none = refl

-- and past more of them, too
pub within_wider : (n k m l : ℕ) (d : Digest) → n ≤ k → m ≤ l → IsWithin n m d → IsWithin k l d
within_wider n k m l d up over is = record {
  cards = λ t high. is.cards t (omega (arith, up, high));
  tasks = λ o g high. is.tasks o g (omega (arith, up, high));
  groups = λ o g high. is.groups o g (omega (arith, over, high));
}
