-- What a search has found stays so.
use Rattle.swift_explorer.proofs.Prelude.{◌≡◌, ℕ, List, [], ◌∷◌, ◌++◌, Vec, length, sym, subst, ap, ◌∙◌, arith, All, Contains, IfSome, IsTrue, None, Option, nat_eq, slice_get, arc_value, Global, All-nil, All-push, none-some, Move, KeptHistory, KeyCode, NodeView, Search, StartsHold, AreTold, HaveSilentMarks, IsSound, ScriptView, RunOutcome, EachOnce, IsBrokenAfter, IsOutcomeOf}
use Rattle.std.specs.Map.{lookup}

pub listed_push : (script : ScriptView) (os ps : List RunOutcome) (o : RunOutcome) → ps ≡ os ++ o ∷ [] → All (IsOutcomeOf script) os → IsOutcomeOf script o → All (IsOutcomeOf script) ps
listed_push script os ps o more all is = subst (All (IsOutcomeOf script)) (sym more) (All-push (IsOutcomeOf script) os o all is)

nothing : {A : Type 0} (x : A) → Contains [] x → ⊥
nothing x has = let lt = has.1 in omega (arith, lt)

-- a search that has kept and found nothing yet
pub sound_none : (script : ScriptView) (x : Search) → arc_value x.script ≡ script → x.nodes ≡ [] → x.keys.keys ≡ [] → x.outcomes.items ≡ [] → x.ends ≡ [] → x.broken ≡ None → AreTold script x.away → HaveSilentMarks script x.marks.items → StartsHold script
    → (IsTrue x.met_limit → ⊥) → (IsTrue x.ran_short → ⊥) → x.histories.entries ≡ [] → IsSound script x
sound_none script x own nodes keys outcomes ends broken told marked hold met short entries = record {
  script_is = own;
  outcomes = subst (All (IsOutcomeOf script)) (sym outcomes) (All-nil (IsOutcomeOf script));
  broken = subst (λ (o : Option (Vec Move Global)). IfSome o (λ schedule. IsBrokenAfter script schedule.items)) (sym broken) tt;
  nodes = λ i n lt at. absurd (none-some n (ap (λ (ns : List NodeView). slice_get ns i) (sym nodes) ∙ at));
  few = (let none = ap length nodes in omega (arith, none));
  keys = λ code has. absurd (nothing code (subst (λ (ks : List KeyCode). Contains ks code) keys has));
  ends = λ key has. absurd (nothing key (subst (λ (ks : List (List ℕ)). Contains ks key) ends has));
  keyed = λ o has. absurd (nothing o (subst (λ (os : List RunOutcome). Contains os o) outcomes has));
  once = subst EachOnce (sym outcomes) (λ i j d lt within. absurd (omega (arith, within)));
  met = λ is. absurd (met is);
  told = told;
  marked = marked;
  hold = hold;
  short = λ is. absurd (short is);
  histories = λ q k at. absurd (none-some k (sym (ap (λ (es : List (ℕ × KeptHistory)). lookup (nat_eq q) es) entries) ∙ at));
}
