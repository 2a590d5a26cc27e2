use Rattle.swift_explorer.proofs.Prelude.{◌≡◌, ◌<◌, ◌≤◌, ℕ, Some, length, slice_get, IsGroupNoted, NamedGroup}
use Rattle.swift_explorer.proofs.keys.log_digest.note_groups.Given as goal

-- those before are noted, and the others are as they were
abbrev pub invariant-loop-place : goal.invariant-loop-place
invariant-loop-place l = record {
  count : length l.groups.items ≡ length l.initial.groups.items;
  done : (i : ℕ) (y : NamedGroup) → i < l.place → slice_get l.groups.items i ≡ Some y → (x : NamedGroup) × (slice_get l.initial.groups.items i ≡ Some x) × IsGroupNoted l.event x y;
  rest : (i : ℕ) → l.place ≤ i → slice_get l.groups.items i ≡ slice_get l.initial.groups.items i;
}
