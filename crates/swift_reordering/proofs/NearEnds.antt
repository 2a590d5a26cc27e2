-- The end of a turn on two logs that differ only in which turns under way have begun, and in which environments.
use Rattle.swift_reordering.proofs.Prelude.{◌≡◌, ◌⊎◌, ℕ, List, ◌++◌, false, refl, Option, AllByRecursion, Priority, ScriptView, root_count, EffectView, ExitView, Advanced, Event, WaitingTaskView, TurnEnd, turn_end, AreInPlace, AreNear}
use Rattle.swift_reordering.proofs.Near.{blurs, blurs_sight}
use Rattle.swift_reordering.proofs.SeenEnds as seen

abbrev pub AreJoint : List Event → List Event → List Event → List Event → Type 0
AreJoint = seen.AreJoint blurs blurs_sight

pub joint_first : (a b : List Event) → AreNear a b → AreJoint a b a b
joint_first = seen.joint_first blurs blurs_sight

pub joint_on : (first other a b es fs : List Event) → AreJoint first other a b → es ≡ fs → AreJoint first other (a ++ es) (b ++ fs)
joint_on = seen.joint_on blurs blurs_sight

abbrev pub EndNear : List Event → List Event → TurnEnd → TurnEnd → Type 0
EndNear = seen.EndSeen blurs blurs_sight

pub near_end : (a b : List Event) → AreNear a b → (script : ScriptView) (held : List (Option WaitingTaskView)) (t n : ℕ) (own other : Priority) (effects : List EffectView) (exit : ExitView) (adv : Advanced)
    → (own ≡ other) ⊎ AllByRecursion seen.TakesNone effects → AreInPlace (turn_end script a held t n own effects exit adv).log → AreInPlace (turn_end script b held t n other effects exit adv).log
    → EndNear a b (turn_end script a held t n own effects exit adv) (turn_end script b held t n other effects exit adv)
near_end a b same script held t n own other effects exit adv free =
    seen.seen_end blurs blurs_sight a b same script held t n own other effects exit adv free (seen.all_shown (λ u. false) (λ u. refl) (root_count script) t n own a effects exit)
