-- The digest of a log, while that is read. No public clause names these.
use Rattle.std.specs.Prelude.{◌≡◌, ◌≤◌, ◌+◌, ◌^◌, ◌||◌, ℕ, if◌then◌else◌, Some, List, [], ◌++◌, length, slice_get}
use Rattle.std.specs.List.{cons_option}
use Rattle.swift_events.specs.declared.event.Event.{Event}
use Rattle.swift_events.specs.Relations.{asks, child_in, closes, names_group}
use Rattle.swift_digest.specs.Digests.{Digest, digest_of, no_group, one_if, open_ending}
use Rattle.swift_explorer.specs.Numbers.{some_numbers, task_numbers}
use Rattle.swift_explorer.specs.DigestNumbers.{IsWithin, ended_numbers}
use Rattle.swift_explorer.specs.CardsInside.{AreCards, IsKeyGroup, IsSameKeyGroup, OpenAtMost}
use Rattle.swift_explorer.specs.declared.keys.digest.KeyGroup.{KeyGroup}
use Rattle.swift_explorer.specs.declared.keys.log_digest.NamedGroup.{NamedGroup}
use Rattle.swift_explorer.specs.declared.keys.log_digest.LogDigest.{LogDigest}

-- at place `i` stands group `g` of task `o`
abbrev pub IsNamedAt : List NamedGroup → ℕ → ℕ → ℕ → Type 0
IsNamedAt gs i o g = (x : NamedGroup) × (slice_get gs i ≡ Some x) × (x.owner.0 ≡ o) × (x.group ≡ g)

-- group `g` of task `o` is one of these
abbrev pub IsNamedIn : List NamedGroup → ℕ → ℕ → Type 0
IsNamedIn gs o g = (i : ℕ) × IsNamedAt gs i o g

-- what was read of these groups are their cards, and those of all others are blank
pub record AreGroups (gs : List NamedGroup) (d : Digest) : Type 0 where
  pub cards : (i : ℕ) (x : NamedGroup) → slice_get gs i ≡ Some x → IsKeyGroup x.card (d.groups x.owner.0 x.group)
  pub others : (o g : ℕ) → (IsNamedIn gs o g → ⊥) → d.groups o g ≡ no_group

-- of each of these `most` results were asked for at most
abbrev pub AskedAtMost : ℕ → List NamedGroup → Type 0
AskedAtMost most gs = (i : ℕ) (x : NamedGroup) → slice_get gs i ≡ Some x → x.card.asked ≤ most

-- card `n` of group `g` of task `o` is card `c` after one more event
pub record IsKeyNoted (o g : ℕ) (e : Event) (c n : KeyGroup) : Type 0 where
  pub children : n.children.items ≡ c.children.items ++ cons_option (child_in o g e) []
  pub added : n.added.items ≡ c.added.items ++ some_numbers task_numbers (cons_option (child_in o g e) [])
  pub ended : n.ended.items ≡ (if closes o g e then [] else c.ended.items ++ some_numbers ended_numbers (cons_option (open_ending c.closed c.children.items e) []))
  pub asked : n.asked ≡ (if closes o g e then 0 else c.asked + one_if (asks o g e))
  pub closed : n.closed ≡ (c.closed || closes o g e)
  pub named : n.named ≡ (c.named || names_group o g e)

-- a group after one more event
pub record IsGroupNoted (e : Event) (x y : NamedGroup) : Type 0 where
  pub owner : y.owner ≡ x.owner
  pub group : y.group ≡ x.group
  pub card : IsKeyNoted x.owner.0 x.group e x.card y.card

-- each of these after one more event
pub record AreGroupsNoted (e : Event) (xs ys : List NamedGroup) : Type 0 where
  pub count : length ys ≡ length xs
  pub each : (i : ℕ) (y : NamedGroup) → slice_get ys i ≡ Some y → (x : NamedGroup) × (slice_get xs i ≡ Some x) × IsGroupNoted e x y

-- a copy of a group
pub record IsSameGroup (x y : NamedGroup) : Type 0 where
  pub owner : y.owner ≡ x.owner
  pub group : y.group ≡ x.group
  pub card : IsSameKeyGroup x.card y.card

-- this log was read
pub record IsRead (r : LogDigest) (log : List Event) : Type 0 where
  pub count : r.events ≡ length log
  pub made : r.made ≡ (digest_of log).made
  pub few : r.made ≤ r.events
  pub cards : AreCards r.cards.items (length r.cards.items) (digest_of log)
  pub opened : OpenAtMost r.events r.cards.items
  pub within : IsWithin (length r.cards.items) r.bound (digest_of log)
  pub groups : AreGroups r.groups.items (digest_of log)
  pub asked : AskedAtMost r.events r.groups.items
  pub tasks : length r.cards.items ≤ 2 ^ 32
  pub bound : r.bound ≤ 2 ^ 32

-- some log was
abbrev pub IsReadSome : LogDigest → Type 0
IsReadSome r = (log : List Event) × IsRead r log

-- what stands first in this log was
abbrev pub IsReadOf : LogDigest → List Event → Type 0
IsReadOf r log = (seen : List Event) × (rest : List Event) × (log ≡ seen ++ rest) × IsRead r seen
