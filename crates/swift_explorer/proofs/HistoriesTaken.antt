-- Histories that are taken from those that were kept.
use Rattle.swift_explorer.proofs.Prelude.{◌≡◌, ◌⊎◌, ℕ, Bool, true, false, List, cond, inl, inr, refl, sym, subst, ap, ◌∙◌, None, Option, Some, nat_eq, slice_get, unwrap_or, get, ScriptView, Move, KeptHistory, Search, IsPath, HasGrown, IsSound, paths_of}

-- a search of which only the kept histories have changed: none is new

pub sound_taken : (script : ScriptView) (x z : Search) → IsSound script x → ((q : ℕ) (k : KeptHistory) → get nat_eq z.histories q ≡ Some k → get nat_eq x.histories q ≡ Some k) → IsSound script (record x { histories = z.histories })
sound_taken script x z is rest = record {
  script_is = is.script_is;
  outcomes = is.outcomes;
  broken = is.broken;
  nodes = is.nodes;
  few = is.few;
  keys = is.keys;
  ends = is.ends;
  keyed = is.keyed;
  once = is.once;
  met = is.met;
  told = is.told;
  marked = is.marked;
  hold = is.hold;
  short = is.short;
  histories = λ q k at. is.histories q k (rest q k at);
}

pub grown_taken : (x z : Search) → HasGrown x (record x { histories = z.histories })
grown_taken x z = record { script = refl; limit = refl; paths = λ i path at. at; outcomes = λ o has. has; broken = λ none. none; complete = λ is. is }

-- to a history that was kept at a place the steps there lead
pub path_found : (script : ScriptView) (x : Search) → IsSound script x → (place : ℕ) (path : List Move) → slice_get (paths_of x.nodes) place ≡ Some path → (k : KeptHistory) → get nat_eq x.histories place ≡ Some k
    → IsPath script path k.history
path_found script x is place path there k at =
    let was = is.histories place k at in
    let same : was.0 ≡ path = ap (λ (o : Option (List Move)). unwrap_or o path) (sym was.1 ∙ there) in
    subst (λ (ms : List Move). IsPath script ms k.history) same was.2

-- what stands in a table after one place was emptied, and after one was filled

pub emptied : {A : Type 0} (b : Bool) (x y : Option A) → x ≡ cond b None y → (k : A) → x ≡ Some k → y ≡ Some k
emptied true x y is k at = cc
emptied false x y is k at = sym is ∙ at

pub filled : {A : Type 0} (b : Bool) (x y : Option A) (v : A) → x ≡ cond b (Some v) y → (k : A) → x ≡ Some k → (y ≡ Some k) ⊎ ((b ≡ true) × (v ≡ k))
filled true x y v is k at = inr (refl, cc)
filled false x y v is k at = inl (sym is ∙ at)
