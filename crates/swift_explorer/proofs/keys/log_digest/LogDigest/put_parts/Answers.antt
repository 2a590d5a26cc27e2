use Rattle.swift_explorer.proofs.Prelude.{◌≡◌, ◌++◌, ℕ, ℤ, List, length, ap, sym, subst, ◌∙◌, arith, Digest, digest_of, each_numbers, card_numbers, groups_numbers, head_numbers, AreCards, AreGroups, IsWithin, KeyCard, NamedGroup}
use Rattle.swift_explorer.proofs.Steps.{two_writes}
use Rattle.swift_explorer.proofs.keys.log_digest.LogDigest.put_parts.Goals as goal

pub put_groups-requires : goal.put_groups-requires
put_groups-requires c =
    let is = c.requires.some.1 in
    let tasks = is.tasks in
    let count = c.requires.tasks in
    record { tasks = omega (arith, tasks, count); bound = is.bound }

pub returns : goal.returns
returns c = λ log is.
    (let d : Digest = digest_of log in
    let r = c.args.self.now in
    let n = c.args.tasks in
    let start : List ℤ = c.args.key.now.items in
    let count : n ≡ length r.cards.items = c.requires.tasks in
    let head : List ℤ = c.put_head.new.key.items in
    let cards : List ℤ = each_numbers card_numbers d.cards n in
    let groups : List ℤ = each_numbers (groups_numbers r.bound) d.groups n in
    record {
      tasks = n;
      groups = r.bound;
      within = subst (λ (k : ℕ). IsWithin k r.bound d) (sym count) is.within;
      numbers = two_writes start head c.put_groups.new.key.items (head_numbers n r.bound d.made) (cards ++ groups)
          (c.in_ok-put_head.ensures ∙ ap (λ (m : ℕ). start ++ head_numbers n r.bound m) is.made)
          (two_writes head c.put_cards.new.key.items c.put_groups.new.key.items cards groups
          (c.in_ok-put_cards.ensures d (subst (λ (cs : List KeyCard). AreCards cs (length cs) d) (sym c.deref.ensures.value) is.cards)
          ∙ ap (λ (k : ℕ). head ++ each_numbers card_numbers d.cards k) (ap length c.deref.ensures.value ∙ sym count))
          (c.in_ok-put_groups.ensures d (subst (λ (gs : List NamedGroup). AreGroups gs d) (sym c.deref-2.ensures.value) is.groups)));
    })
