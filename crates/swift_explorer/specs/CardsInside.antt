-- Cards while a log is read. No public clause names these.
use Rattle.std.specs.Prelude.{◌≡◌, ◌≤◌, ◌⊎◌, ◌+◌, ℕ, ℤ, pos, Bool, false, ◌==◌, ◌||◌, if◌then◌else◌, None, Some, List, [], ◌∷◌, ◌++◌, length, slice_get}
use Rattle.std.specs.List.{cons_option}
use Rattle.swift_types.specs.declared.id.TaskId.{TaskId}
use Rattle.swift_events.specs.declared.event.Event.{Event}
use Rattle.swift_events.specs.Events.{task_of}
use Rattle.swift_events.specs.Relations.{asks, child_in, closes, names_group, names_task, opens, own_in, waiter_in}
use Rattle.swift_events.specs.declared.life.Life.{Life}
use Rattle.swift_events.specs.Lives.{lived, unborn}
use Rattle.swift_explorer.specs.Numbers.{some_numbers, task_numbers, link_numbers, flag_numbers, wide_numbers, life_numbers}
use Rattle.swift_explorer.specs.DigestNumbers.{ended_numbers}
use Rattle.swift_digest.specs.Digests.{Card as CardView, Digest, GroupCard as GroupView, one_if, open_ending, own_link, remembered}
use Rattle.swift_explorer.specs.declared.keys.digest.KeyCard.{KeyCard}
use Rattle.swift_explorer.specs.declared.keys.digest.KeyGroup.{KeyGroup}

-- what was read of a task is its card
pub record IsCard (c : KeyCard) (d : CardView) : Type 0 where
  pub life : c.life ≡ d.life
  pub links : c.links.items ≡ some_numbers link_numbers d.links
  pub own : c.own.items ≡ some_numbers task_numbers d.own
  pub waiters : c.waiters.items ≡ some_numbers task_numbers d.waiters
  pub named : c.named ≡ d.named
  pub opened : c.opened ≡ d.opened

-- nothing was read of a task
pub record IsBlank (c : KeyCard) : Type 0 where
  pub life : c.life ≡ unborn
  pub links : c.links.items ≡ []
  pub own : c.own.items ≡ []
  pub waiters : c.waiters.items ≡ []
  pub named : c.named ≡ false
  pub opened : c.opened ≡ 0

-- what was read of the first `n` tasks are their cards
pub record AreCards (cs : List KeyCard) (n : ℕ) (d : Digest) : Type 0 where
  pub count : length cs ≡ n
  pub cards : (t : ℕ) (c : KeyCard) → slice_get cs t ≡ Some c → IsCard c (d.cards t)

-- a copy of what was read of a task
pub record IsSameCard (c n : KeyCard) : Type 0 where
  pub life : n.life ≡ c.life
  pub links : n.links.items ≡ c.links.items
  pub own : n.own.items ≡ c.own.items
  pub waiters : n.waiters.items ≡ c.waiters.items
  pub named : n.named ≡ c.named
  pub opened : n.opened ≡ c.opened

-- these cards, and blank ones after them
pub record AreMoreCards (cs ns : List KeyCard) : Type 0 where
  pub more : length cs ≤ length ns
  pub each : (t : ℕ) (n : KeyCard) → slice_get ns t ≡ Some n → (slice_get cs t ≡ Some n) ⊎ ((length cs ≤ t) × IsBlank n)

-- each of these tasks has opened `most` groups at most
abbrev pub OpenAtMost : ℕ → List KeyCard → Type 0
OpenAtMost most cs = (t : ℕ) (c : KeyCard) → slice_get cs t ≡ Some c → c.opened ≤ most

-- card `n` of task `t` is card `c` after one more event
pub record IsNoted (t : ℕ) (e : Event) (c n : KeyCard) : Type 0 where
  pub life : n.life ≡ (if task_of e == t then remembered (lived c.life e) else c.life)
  pub links : n.links.items ≡ c.links.items ++ some_numbers link_numbers (cons_option (own_link t e) [])
  pub own : n.own.items ≡ c.own.items ++ some_numbers task_numbers (cons_option (own_in t e) [])
  pub waiters : n.waiters.items ≡ c.waiters.items ++ some_numbers task_numbers (cons_option (waiter_in t e) [])
  pub named : n.named ≡ (c.named || names_task t e)
  pub opened : n.opened ≡ c.opened + one_if (opens t e)

-- of these cards that of task `t` is noted so, where there is one, and the others stay
pub record IsNotedAt (t : ℕ) (e : Event) (cs ns : List KeyCard) : Type 0 where
  pub count : length ns ≡ length cs
  pub other : (u : ℕ) → (u ≡ t → ⊥) → slice_get ns u ≡ slice_get cs u
  pub here : (n : KeyCard) → slice_get ns t ≡ Some n → (c : KeyCard) × (slice_get cs t ≡ Some c) × IsNoted t e c n

-- each of these cards is noted so
pub record AreNoted (e : Event) (cs ns : List KeyCard) : Type 0 where
  pub count : length ns ≡ length cs
  pub each : (t : ℕ) (n : KeyCard) → slice_get ns t ≡ Some n → (c : KeyCard) × (slice_get cs t ≡ Some c) × IsNoted t e c n

-- what was read of a group is its card
pub record IsKeyGroup (c : KeyGroup) (d : GroupView) : Type 0 where
  pub children : c.children.items ≡ d.children
  pub added : c.added.items ≡ some_numbers task_numbers d.children
  pub ended : c.ended.items ≡ some_numbers ended_numbers d.ended
  pub asked : c.asked ≡ d.asked
  pub closed : c.closed ≡ d.closed
  pub named : c.named ≡ d.named

-- a copy of what was read of a group
pub record IsSameKeyGroup (c n : KeyGroup) : Type 0 where
  pub children : n.children.items ≡ c.children.items
  pub added : n.added.items ≡ c.added.items
  pub ended : n.ended.items ≡ c.ended.items
  pub asked : n.asked ≡ c.asked
  pub closed : n.closed ≡ c.closed
  pub named : n.named ≡ c.named

-- an event that says nothing for the card of task `t`
pub record IsPast (t : ℕ) (e : Event) : Type 0 where
  pub task : (task_of e == t) ≡ false
  pub link : own_link t e ≡ None
  pub own : own_in t e ≡ None
  pub waiter : waiter_in t e ≡ None
  pub named : names_task t e ≡ false
  pub opens : opens t e ≡ false

-- an event that says no more for the card of task `t` than how far the task is
pub record IsOfLife (t : ℕ) (e : Event) : Type 0 where
  pub link : own_link t e ≡ None
  pub own : own_in t e ≡ None
  pub waiter : waiter_in t e ≡ None
  pub named : names_task t e ≡ false
  pub opens : opens t e ≡ false

-- an event that says nothing for the card of group `g` of task `o`, which is closed or not and has these children
pub record IsPastGroup (o g : ℕ) (closed : Bool) (children : List TaskId) (e : Event) : Type 0 where
  pub child : child_in o g e ≡ None
  pub ended : open_ending closed children e ≡ None
  pub asks : asks o g e ≡ false
  pub closes : closes o g e ≡ false
  pub named : names_group o g e ≡ false

abbrev pub closed : List ℤ → List ℤ
closed numbers = numbers ++ pos 0 ∷ []

-- a card and a group's card with these parts
abbrev pub card_of_parts : Life → List ℤ → List ℤ → List ℤ → Bool → ℕ → List ℤ
card_of_parts life links own waiters named opened = life_numbers life ++ (closed links ++ (closed own ++ (closed waiters ++ (flag_numbers named ++ wide_numbers opened))))

abbrev pub group_of_parts : List ℤ → List ℤ → ℕ → Bool → Bool → List ℤ
group_of_parts added ended asked shut named = closed added ++ (closed ended ++ (wide_numbers asked ++ (flag_numbers shut ++ flag_numbers named)))
