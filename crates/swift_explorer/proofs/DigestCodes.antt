-- A digest that was written as numbers can be read again.
use Rattle.swift_explorer.proofs.Prelude.{◌≡◌, ℕ, ◌<◌, ◌≤◌, ℤ, List, [], ◌∷◌, ◌++◌, Bool, sym, ◌∙◌, ap, subst, arith, append_assoc, inl, inr, cases_lt, TaskId, Ending, Life, Card, GroupCard, Digest, no_card, no_group, list_numbers, each_numbers, wide_numbers, flag_numbers, task_numbers, ending_numbers, life_numbers, link_numbers, card_numbers, ended_numbers, group_numbers, groups_numbers, head_numbers, digest_numbers, IsWithin, IsWritten}
use Rattle.std.proofs.Math.Path.{fun_ext}
use Rattle.swift_escalation.specs.declared.waits.PriorityEvent.{PriorityEvent as Link}
use Rattle.swift_explorer.proofs.Codes.{IsCode, IsCodeTo, AgreeBelow, peel, pair_code, list_code, each_code, wide_code, flag_code, task_code, ending_code, life_code, link_code}

abbrev card_by : Life → List Link → List TaskId → List TaskId → Bool → ℕ → Card
card_by x0 x1 x2 x3 x4 x5 = record { life = x0; links = x1; own = x2; waiters = x3; named = x4; opened = x5 }

pub card_code : IsCode card_numbers
card_code = record {
  read = λ a b r s e.
      let p0 = peel life_numbers life_code a.life b.life ((list_numbers link_numbers) a.links ++ ((list_numbers task_numbers) a.own ++ ((list_numbers task_numbers) a.waiters ++ (flag_numbers a.named ++ wide_numbers a.opened)))) ((list_numbers link_numbers) b.links ++ ((list_numbers task_numbers) b.own ++ ((list_numbers task_numbers) b.waiters ++ (flag_numbers b.named ++ wide_numbers b.opened)))) r s e in
      let p1 = peel (list_numbers link_numbers) (list_code link_numbers link_code) a.links b.links ((list_numbers task_numbers) a.own ++ ((list_numbers task_numbers) a.waiters ++ (flag_numbers a.named ++ wide_numbers a.opened))) ((list_numbers task_numbers) b.own ++ ((list_numbers task_numbers) b.waiters ++ (flag_numbers b.named ++ wide_numbers b.opened))) r s p0.1 in
      let p2 = peel (list_numbers task_numbers) (list_code task_numbers task_code) a.own b.own ((list_numbers task_numbers) a.waiters ++ (flag_numbers a.named ++ wide_numbers a.opened)) ((list_numbers task_numbers) b.waiters ++ (flag_numbers b.named ++ wide_numbers b.opened)) r s p1.1 in
      let p3 = peel (list_numbers task_numbers) (list_code task_numbers task_code) a.waiters b.waiters (flag_numbers a.named ++ wide_numbers a.opened) (flag_numbers b.named ++ wide_numbers b.opened) r s p2.1 in
      let p4 = peel flag_numbers flag_code a.named b.named (wide_numbers a.opened) (wide_numbers b.opened) r s p3.1 in
      let p5 = wide_code.read a.opened b.opened r s p4.1 in
      let all : card_by a.life a.links a.own a.waiters a.named a.opened ≡ card_by b.life b.links b.own b.waiters b.named b.opened =
      ap (λ (x : Life). card_by x a.links a.own a.waiters a.named a.opened) p0.0
      ∙ ap (λ (x : List Link). card_by b.life x a.own a.waiters a.named a.opened) p1.0
      ∙ ap (λ (x : List TaskId). card_by b.life b.links x a.waiters a.named a.opened) p2.0
      ∙ ap (λ (x : List TaskId). card_by b.life b.links b.own x a.named a.opened) p3.0
      ∙ ap (λ (x : Bool). card_by b.life b.links b.own b.waiters x a.opened) p4.0
      ∙ ap (λ (x : ℕ). card_by b.life b.links b.own b.waiters b.named x) p5.0 in
      (all, p5.1);
}

ended_code : IsCode ended_numbers
ended_code = pair_code task_numbers ending_numbers task_code ending_code

abbrev group_by : List TaskId → List (TaskId × Ending) → ℕ → Bool → Bool → GroupCard
group_by x0 x1 x2 x3 x4 = record { children = x0; ended = x1; asked = x2; closed = x3; named = x4 }

pub group_code : IsCode group_numbers
group_code = record {
  read = λ a b r s e.
      let p0 = peel (list_numbers task_numbers) (list_code task_numbers task_code) a.children b.children ((list_numbers ended_numbers) a.ended ++ (wide_numbers a.asked ++ (flag_numbers a.closed ++ flag_numbers a.named))) ((list_numbers ended_numbers) b.ended ++ (wide_numbers b.asked ++ (flag_numbers b.closed ++ flag_numbers b.named))) r s e in
      let p1 = peel (list_numbers ended_numbers) (list_code ended_numbers ended_code) a.ended b.ended (wide_numbers a.asked ++ (flag_numbers a.closed ++ flag_numbers a.named)) (wide_numbers b.asked ++ (flag_numbers b.closed ++ flag_numbers b.named)) r s p0.1 in
      let p2 = peel wide_numbers wide_code a.asked b.asked (flag_numbers a.closed ++ flag_numbers a.named) (flag_numbers b.closed ++ flag_numbers b.named) r s p1.1 in
      let p3 = peel flag_numbers flag_code a.closed b.closed (flag_numbers a.named) (flag_numbers b.named) r s p2.1 in
      let p4 = flag_code.read a.named b.named r s p3.1 in
      let all : group_by a.children a.ended a.asked a.closed a.named ≡ group_by b.children b.ended b.asked b.closed b.named =
      ap (λ (x : List TaskId). group_by x a.ended a.asked a.closed a.named) p0.0
      ∙ ap (λ (x : List (TaskId × Ending)). group_by b.children x a.asked a.closed a.named) p1.0
      ∙ ap (λ (x : ℕ). group_by b.children b.ended x a.closed a.named) p2.0
      ∙ ap (λ (x : Bool). group_by b.children b.ended b.asked x a.named) p3.0
      ∙ ap (λ (x : Bool). group_by b.children b.ended b.asked b.closed x) p4.0 in
      (all, p4.1);
}

-- digests with equal parts
abbrev digest_by : ℕ → (ℕ → Card) → (ℕ → ℕ → GroupCard) → Digest
digest_by n c g = record { made = n; cards = c; groups = g }

same_digest : (a b : Digest) → a.made ≡ b.made → ((t : ℕ) → a.cards t ≡ b.cards t) → ((o g : ℕ) → a.groups o g ≡ b.groups o g) → a ≡ b
same_digest a b made cards groups =
    let c : a.cards ≡ b.cards = fun_ext cards in
    let g : a.groups ≡ b.groups = fun_ext (λ o. fun_ext (groups o)) in
    let all : digest_by a.made a.cards a.groups ≡ digest_by b.made b.cards b.groups =
    ap (λ (x : ℕ). digest_by x a.cards a.groups) made ∙ ap (λ (x : ℕ → Card). digest_by b.made x a.groups) c ∙ ap (λ (x : ℕ → ℕ → GroupCard). digest_by b.made b.cards x) g in
    all

-- tables that agree below a number, and are blank from there on
all_places : {A : Type 0} (blank : A) (n : ℕ) (x y : ℕ → A) → ((i : ℕ) → i < n → x i ≡ y i) → ((i : ℕ) → n ≤ i → x i ≡ blank) → ((i : ℕ) → n ≤ i → y i ≡ blank) → (i : ℕ) → x i ≡ y i
all_places blank n x y below first second i = elim (cases_lt i n) [
  | inl low ↦ below i low
  | inr high ↦ first i (omega arith) ∙ sym (second i (omega arith))
]

pub digest_read : (a b : Digest) (n m k l : ℕ) (r s : List ℤ) → IsWithin n m a → IsWithin k l b → digest_numbers n m a ++ r ≡ digest_numbers k l b ++ s → (a ≡ b) × (r ≡ s)
digest_read a b n m k l r s in_a in_b e =
    let body_a = each_numbers card_numbers a.cards n ++ each_numbers (groups_numbers m) a.groups n in
    let body_b = each_numbers card_numbers b.cards k ++ each_numbers (groups_numbers l) b.groups k in
    let cut = sym (append_assoc (head_numbers n m a.made) body_a r) ∙ e ∙ append_assoc (head_numbers k l b.made) body_b s in
    let p0 = peel wide_numbers wide_code n k (wide_numbers m ++ wide_numbers a.made) (wide_numbers l ++ wide_numbers b.made) (body_a ++ r) (body_b ++ s) cut in
    let p1 = peel wide_numbers wide_code m l (wide_numbers a.made) (wide_numbers b.made) (body_a ++ r) (body_b ++ s) p0.1 in
    let first = wide_code.read a.made b.made (body_a ++ r) (body_b ++ s) p1.1 in
    let same_n : n ≡ k = p0.0 in
    let same_m : m ≡ l = p1.0 in
    let made : a.made ≡ b.made = first.0 in
    let in_k : IsWithin k m b = subst (λ (x : ℕ). IsWithin k x b) (sym same_m) in_b in
    let in_n : IsWithin n m b = subst (λ (x : ℕ). IsWithin x m b) (sym same_n) in_k in
    let body_k : body_b ≡ each_numbers card_numbers b.cards n ++ each_numbers (groups_numbers m) b.groups n =
    ap (λ (x : ℕ). each_numbers card_numbers b.cards x ++ each_numbers (groups_numbers l) b.groups x) (sym same_n)
    ∙ ap (λ (x : ℕ). each_numbers card_numbers b.cards n ++ each_numbers (groups_numbers x) b.groups n) (sym same_m) in
    let cards_a = each_numbers card_numbers a.cards n in
    let cards_b = each_numbers card_numbers b.cards n in
    let groups_a = each_numbers (groups_numbers m) a.groups n in
    let groups_b = each_numbers (groups_numbers m) b.groups n in
    let rest : cards_a ++ (groups_a ++ r) ≡ cards_b ++ (groups_b ++ s) =
    sym (append_assoc cards_a groups_a r) ∙ first.1 ∙ ap (λ (x : List ℤ). x ++ s) body_k ∙ append_assoc cards_b groups_b s in
    let cards = (each_code (λ (x y : Card). x ≡ y) card_numbers card_code n).read a.cards b.cards (groups_a ++ r) (groups_b ++ s) rest in
    let inner : IsCodeTo (AgreeBelow (λ (x y : GroupCard). x ≡ y) m) (groups_numbers m) = each_code (λ (x y : GroupCard). x ≡ y) group_numbers group_code m in
    let groups = (each_code (AgreeBelow (λ (x y : GroupCard). x ≡ y) m) (groups_numbers m) inner n).read a.groups b.groups r s cards.1 in
    let all_cards = all_places no_card n a.cards b.cards cards.0 in_a.cards in_n.cards in
    let all_groups : (o g : ℕ) → a.groups o g ≡ b.groups o g = λ o g. elim (cases_lt o n) [
      | inl low ↦ all_places no_group m (a.groups o) (b.groups o) (groups.0 o low) (in_a.groups o) (in_n.groups o) g
      | inr high ↦ in_a.tasks o g (omega arith) ∙ sym (in_n.tasks o g (omega arith))
    ] in
    (same_digest a b made all_cards all_groups, groups.1)

same_front : (start x y : List ℤ) → start ++ x ≡ start ++ y → x ≡ y
same_front [] x y e = e
same_front (z ∷ zs) x y e = let rest : zs ++ x ≡ zs ++ y = cc in same_front zs x y rest

pub written_read : (a b : Digest) (start x y r s : List ℤ) → IsWritten a start x → IsWritten b start y → x ++ r ≡ y ++ s → (a ≡ b) × (r ≡ s)
written_read a b start x y r s in_a in_b e =
    let left = digest_numbers in_a.tasks in_a.groups a in
    let right = digest_numbers in_b.tasks in_b.groups b in
    let all : start ++ (left ++ r) ≡ start ++ (right ++ s) =
    sym (append_assoc start left r) ∙ ap (λ (l : List ℤ). l ++ r) (sym in_a.numbers) ∙ e ∙ ap (λ (l : List ℤ). l ++ s) in_b.numbers ∙ append_assoc start right s in
    digest_read a b in_a.tasks in_a.groups in_b.tasks in_b.groups r s in_a.within in_b.within (same_front start (left ++ r) (right ++ s) all)
