use Rattle.swift_explorer.proofs.Prelude.{◌≡◌, ℕ, List, sym, subst, ◌∙◌, ap, same_Some, TaskId, IsNamedIn, NamedGroup}
use Rattle.swift_explorer.proofs.LogsRead.{asked_put, groups_put, named_put}
use Rattle.swift_explorer.proofs.keys.log_digest.cover_group.Goals as goal

pub returns-then-is_there-clause-named : goal.returns-then-is_there-clause-named
returns-then-is_there-clause-named c = λ o g is.
    (let gs : List NamedGroup = c.args.groups.now.items in
    let x : TaskId × ℕ = c.in-Some.named in
    let same : x ≡ (o, g) = same_Some x (o, g) (sym c.in-Some.is ∙ c.group_in.ensures ∙ is) in
    subst (λ (y : TaskId × ℕ). IsNamedIn gs y.0.0 y.1) same (subst (λ (l : List NamedGroup). IsNamedIn l x.0.0 x.1) c.deref.ensures.value (c.is_there.ensures.there c.if-is_there.true)))

pub returns-clause-groups : goal.returns-clause-groups
returns-clause-groups c =
    let gs : List NamedGroup = c.args.groups.now.items in
    let named = c.in-Some.named in
    let x : NamedGroup = record { owner = named.0; group = named.1; card = c.blank_group-card.result } in
    groups_put gs c.push.new.self.items x c.in_ok-push.ensures.items c.blank_group-card.ensures (subst (λ (l : List NamedGroup). IsNamedIn l named.0.0 named.1 → ⊥) c.deref.ensures.value (c.is_there.ensures.none c.if-is_there.false))

pub returns-clause-asked : goal.returns-clause-asked
returns-clause-asked c =
    let named = c.in-Some.named in
    let x : NamedGroup = record { owner = named.0; group = named.1; card = c.blank_group-card.result } in
    asked_put c.args.groups.now.items c.push.new.self.items x c.in_ok-push.ensures.items c.blank_group-card.ensures

pub returns-clause-named : goal.returns-clause-named
returns-clause-named c = λ o g is.
    (let named : TaskId × ℕ = c.in-Some.named in
    let x : NamedGroup = record { owner = named.0; group = named.1; card = c.blank_group-card.result } in
    let same : named ≡ (o, g) = same_Some named (o, g) (sym c.in-Some.is ∙ c.group_in.ensures ∙ is) in
    named_put c.args.groups.now.items c.push.new.self.items x c.in_ok-push.ensures.items c.blank_group-card.ensures o g (ap (λ (y : TaskId × ℕ). y.0) same) (ap (λ (y : TaskId × ℕ). y.1) same))
