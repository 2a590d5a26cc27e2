-- A search sees more.
use Rattle.swift_explorer.proofs.Prelude.{◌≡◌, ◌∙◌, ℕ, List, refl, sym, subst, ap, All, Contains, arc_value, ScriptView, RunOutcome, Search, EachOnce, IsOutcomeOf, AreKeyed, HasGoneOn, HasSeen, IsNoted, IsSound}
use Rattle.swift_explorer.proofs.Growing.{gone_still, grown_none, grown_on}
use Rattle.swift_explorer.proofs.Noting.{sound_noted}

pub seen_none : (x : Search) → IsSound (arc_value x.script) x → HasSeen x x
seen_none x sound = record { grown = grown_none x; sound = sound; nodes = refl; met = refl; complete = refl }

pub seen_on : (x y z : Search) → HasSeen x y → HasSeen y z → HasSeen x z
seen_on x y z one two = record {
  grown = grown_on x y z one.grown two.grown;
  sound = subst (λ (s : ScriptView). IsSound s z) (ap arc_value one.grown.script) two.sound;
  nodes = two.nodes ∙ one.nodes;
  met = two.met ∙ one.met;
  complete = two.complete ∙ one.complete;
}

-- the search is sound after it, by the script that it had before
pub seen_sound : (x y : Search) → HasSeen x y → IsSound (arc_value y.script) y
seen_sound x y seen = subst (λ (s : ScriptView). IsSound s y) (sym (ap arc_value seen.grown.script)) seen.sound

pub gone_seen : (script : ScriptView) (x y : Search) (next : ℕ) → HasGoneOn script x next → HasSeen x y → HasGoneOn script y next
gone_seen script x y next gone seen = gone_still script x y next gone seen.grown (subst (λ (s : ScriptView). IsSound s y) gone.sound.script_is seen.sound)

-- an outcome
pub seen_noted : (x y : Search) → IsSound (arc_value x.script) x → y ≡ record x { outcomes = y.outcomes; ends = y.ends } → ((o : RunOutcome) → Contains x.outcomes.items o → Contains y.outcomes.items o)
    → All (IsOutcomeOf (arc_value x.script)) y.outcomes.items → ((k : List ℕ) → Contains y.ends k → IsNoted y.outcomes.items k) → AreKeyed y.outcomes.items y.ends → EachOnce y.outcomes.items → HasSeen x y
seen_noted x y sound rest kept outcomes noted keyed once = subst (HasSeen x) (sym rest) (record {
  grown = record { script = refl; limit = refl; paths = λ i path at. at; outcomes = kept; broken = λ none. none; complete = λ is. is };
  sound = sound_noted (arc_value x.script) x y.outcomes y.ends sound outcomes noted keyed once;
  nodes = refl;
  met = refl;
  complete = refl;
})
