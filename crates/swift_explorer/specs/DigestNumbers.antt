-- A digest as numbers (our own). How many tasks and groups have cards comes first: past these all cards are blank.
use Rattle.std.specs.Prelude.{◌≡◌, ℕ, suc, ◌≤◌, ℤ, Option, Some, None, List, ◌++◌}
use Rattle.swift_types.specs.declared.id.TaskId.{TaskId}
use Rattle.swift_types.specs.declared.outcome.Ending.{Ending}
use Rattle.swift_events.specs.declared.event.Event.{Event}
use Rattle.swift_events.specs.declared.event.Event.TheVariants.{Free, Child, Wait, Next, Close, CancelGroup}
use Rattle.swift_events.specs.Events.{task_of}
use Rattle.swift_digest.specs.Digests.{Card, GroupCard, Digest, no_card, no_group}
use Rattle.swift_explorer.specs.Numbers.{pair_numbers, list_numbers, each_numbers, wide_numbers, flag_numbers, task_numbers, ending_numbers, life_numbers, link_numbers}

-- a card as numbers: its life, its links, its own waits, who waits for it, whether it was named, and how many groups it opened
abbrev pub card_numbers : Card → List ℤ
card_numbers c =
    pair_numbers life_numbers (pair_numbers (list_numbers link_numbers) (pair_numbers (list_numbers task_numbers) (pair_numbers (list_numbers task_numbers) (pair_numbers flag_numbers wide_numbers))))
    (c.life, (c.links, (c.own, (c.waiters, (c.named, c.opened)))))

-- a child that has ended, and how
abbrev pub ended_numbers : TaskId × Ending → List ℤ
ended_numbers = pair_numbers task_numbers ending_numbers

-- a card of a group as numbers: its children, those that ended, how many results were asked for, whether it is closed, and whether it was named
abbrev pub group_numbers : GroupCard → List ℤ
group_numbers c =
    pair_numbers (list_numbers task_numbers) (pair_numbers (list_numbers ended_numbers) (pair_numbers wide_numbers (pair_numbers flag_numbers flag_numbers)))
    (c.children, (c.ended, (c.asked, (c.closed, c.named))))

-- of the first groups of a task
abbrev pub groups_numbers : ℕ → (ℕ → GroupCard) → List ℤ
groups_numbers m at = each_numbers group_numbers at m

-- of how many tasks and groups there are, and how many tasks were made
abbrev pub head_numbers : ℕ → ℕ → ℕ → List ℤ
head_numbers n m made = pair_numbers wide_numbers (pair_numbers wide_numbers wide_numbers) (n, (m, made))

-- a digest as numbers: its first `n` tasks, each with its first `m` groups
abbrev pub digest_numbers : ℕ → ℕ → Digest → List ℤ
digest_numbers n m d =
    head_numbers n m d.made ++ (each_numbers card_numbers d.cards n ++ each_numbers (groups_numbers m) d.groups n)

-- all cards past these are blank
pub record IsWithin (n m : ℕ) (d : Digest) : Type 0 where
  pub cards : (t : ℕ) → n ≤ t → d.cards t ≡ no_card
  pub tasks : (o g : ℕ) → n ≤ o → d.groups o g ≡ no_group
  pub groups : (o g : ℕ) → m ≤ g → d.groups o g ≡ no_group

-- The numbers of a digest stand after those before. Both counts may be greater than they need be.
pub record IsWritten (d : Digest) (before after : List ℤ) : Type 0 where
  pub tasks : ℕ
  pub groups : ℕ
  pub within : IsWithin tasks groups d
  pub numbers : after ≡ before ++ digest_numbers tasks groups d

-- a second task that an event names, or the same
abbrev pub other_of : Event → ℕ
other_of (Free t by p detached) = by.0
other_of (Child t o g p) = o.0
other_of (Wait t awaited) = awaited.0
other_of e = task_of e

-- one more than the number of the group that an event is of, or 0
abbrev pub group_end : Event → ℕ
group_end (Child t o g p) = suc g
group_end (Next o g) = suc g
group_end (Close o g) = suc g
group_end (CancelGroup o g) = suc g
group_end e = 0

-- the group that an event is of, with its owner; an ending may count for its task's group, too
abbrev pub group_in : Event → Option (TaskId × ℕ)
group_in (Child t o g p) = Some (o, g)
group_in (Next o g) = Some (o, g)
group_in (Close o g) = Some (o, g)
group_in (CancelGroup o g) = Some (o, g)
group_in e = None
