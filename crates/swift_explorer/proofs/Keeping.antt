-- A history is kept, where none is that has its key.
use Rattle.swift_explorer.proofs.Prelude.{◌≡◌, ◌⊎◌, ◌<◌, ◌≤◌, ℕ, ℤ, true, false, List, [], ◌∷◌, ◌++◌, length, refl, sym, subst, ap, ◌∙◌, arith, inl, inr, Some, nat_eq, slice_get, Contains, get, arc_value, false≢true, length_push, ScriptView, Move, Block, SearchedHistory, NodeView, KeyCode, Search, KeptHistory, IsAsBefore, IsHistory, IsPath, IsKeyFor, IsNumbered, IsCode, GoOn, Grows, HasGrown, HasLike, IsTrue, IsKept, IsSound, Keeps, LeadsTo, MayGoOn, path_after, paths_of}
use Rattle.swift_explorer.specs.QueueInside.{AreHistories, WasThere}
use Rattle.swift_explorer.proofs.Alike.{alike_keys}
use Rattle.swift_explorer.proofs.Growing.{grown_full, grown_left, grown_none, grown_on, grown_parts, kept_grown, sound_full, sound_left, sound_parts}
use Rattle.swift_explorer.proofs.PartsKnown.{same_code}
use Rattle.swift_explorer.proofs.Nodes.{on_push, path_here, paths_grow}

-- what is followed leads to its blocks
pub path_leads : (script : ScriptView) (path : List Move) (x : SearchedHistory) (p : IsPath script path x) → LeadsTo script path p.blocks
path_leads script path x p = record { steps = p.steps; stand = p.is.followed.led.stand; orderly = p.is.orderly }

-- where it is as before, so is where it leads, and that it is kept

pub path_before : (script : ScriptView) (path : List Move) (h k : SearchedHistory) → IsAsBefore h k → IsPath script path h → IsPath script path k
path_before script path h k before p =
    let own = p.is.followed.script_is in
    record {
      blocks = p.blocks;
      steps = p.steps;
      is = subst (λ (s : ScriptView). IsHistory s p.blocks k) own (before.is p.blocks (subst (λ (s : ScriptView). IsHistory s p.blocks h) (sym own) p.is));
      roots = before.roots ∙ p.roots;
    }

pub keeps_before : (x z : Search) (h k : SearchedHistory) → arc_value h.steps.script ≡ arc_value x.script → IsAsBefore h k → Keeps x z k → Keeps x z h
keeps_before x z h k own before keeps = record {
  grown = keeps.grown;
  sound = keeps.sound;
  kept = λ is blocks of. keeps.kept is blocks (subst (λ (s : ScriptView). IsHistory s blocks k) own (before.is blocks (subst (λ (s : ScriptView). IsHistory s blocks h) (sym own) of)));
}

-- where its code was found, so is where it leads, and that it is kept

pub coded : (x y : Search) → IsSound (arc_value x.script) x → y ≡ record x { parts = y.parts; key = y.key; cuts = y.cuts } → Grows x.parts y.parts
    → (arc_value y.script ≡ arc_value x.script) × HasGrown x y × IsSound (arc_value y.script) y
coded x y sound rest grown =
    subst (λ (z : Search). (arc_value z.script ≡ arc_value x.script) × HasGrown x z × IsSound (arc_value z.script) z) (sym rest) (refl, grown_parts x y, sound_parts (arc_value x.script) x y sound grown)

pub keeps_coded : (x y z : Search) (history : SearchedHistory) → arc_value y.script ≡ arc_value x.script → HasGrown x y → Keeps y z history → Keeps x z history
keeps_coded x y z history own grown keeps = record {
  grown = grown_on x y z grown keeps.grown;
  sound = subst (λ (s : ScriptView). IsSound s z) own keeps.sound;
  kept = subst (λ (s : ScriptView). IsTrue z.is_complete → (blocks : List Block) → IsHistory s blocks history → HasLike s (paths_of z.nodes) blocks) own keeps.kept;
}

-- one that goes on alike was kept before
pub keeps_known : (x : Search) (history : SearchedHistory) (numbers : List ℤ) (code : KeyCode) → IsSound (arc_value x.script) x → IsNumbered history numbers → IsCode x.parts code numbers → Contains x.keys.keys code → Keeps x x history
keeps_known x history numbers code sound numbered is has = record {
  grown = grown_none x;
  sound = sound;
  kept = λ _ blocks of.
      (let was = sound.keys code has in
      let k = was.2 in
      let keyed : IsKeyFor (arc_value x.script) k.blocks numbers = subst (IsKeyFor (arc_value x.script) k.blocks) (same_code x.parts code was.0 numbers was.1 is) k.keyed in
      record {
        place = k.place;
        path = k.path;
        there = k.there;
        others = k.blocks;
        leads = k.leads;
        alike = alike_keys (arc_value x.script) blocks k.blocks numbers (history, of, numbered) keyed;
        back = alike_keys (arc_value x.script) k.blocks blocks numbers keyed (history, of, numbered);
      });
}

-- it is left out
pub keeps_none : (x : Search) (history : SearchedHistory) → IsSound (arc_value x.script) x → Keeps x (record x { is_complete = false }) history
keeps_none x history sound = record { grown = grown_left x; sound = sound_left (arc_value x.script) x sound; kept = λ is. absurd (false≢true is) }

-- as many are kept as may be
pub keeps_full : (x : Search) (history : SearchedHistory) → IsSound (arc_value x.script) x → x.limit ≤ length x.nodes → Keeps x (record x { is_complete = false; met_limit = true }) history
keeps_full x history sound past =
    let few = sound.few in
    record { grown = grown_full x; sound = sound_full (arc_value x.script) x sound (omega (arith, few, past)); kept = λ is. absurd (false≢true is) }

below_not : (limit n : ℕ) → n ≡ limit → n < limit → ⊥
below_not limit n is lt = omega (arith, is, lt)

-- it is kept
module _ (x : Search) (history : SearchedHistory) (numbers : List ℤ) (code : KeyCode) (n : NodeView) (nodes : List NodeView) (sound : IsSound (arc_value x.script) x) (numbered : IsNumbered history numbers)
    (is_code : IsCode x.parts code numbers) (may : MayGoOn (paths_of x.nodes) n.before) (p : IsPath (arc_value x.script) (path_after (paths_of x.nodes) n.before n.moves) history)
    (nodes_are : nodes ≡ x.nodes ++ n ∷ []) (room : length x.nodes < x.limit)
    (z : Search) (place : ℕ) (keys_are : (c : KeyCode) → Contains z.keys.keys c → Contains x.keys.keys c ⊎ (code ≡ c)) (place_is : place ≡ length x.nodes)
    (there : (q : ℕ) (k : KeptHistory) → get nat_eq z.histories q ≡ Some k → WasThere (get nat_eq x.histories) place (record { history = history }) q k) where
  abbrev script : ScriptView
  script = arc_value x.script

  abbrev y : Search
  y = record x { nodes = nodes; keys = z.keys; histories = z.histories }

  abbrev path : List Move
  path = path_after (paths_of x.nodes) n.before n.moves

  grown : HasGrown x y
  grown = record {
    script = refl;
    limit = refl;
    paths = λ i q at. subst (λ (ns : List NodeView). slice_get (paths_of ns) i ≡ Some q) (sym nodes_are) (paths_grow x.nodes n i q at);
    outcomes = λ o has. has;
    broken = λ none. none;
    complete = λ is. is;
  }

  here : slice_get (paths_of y.nodes) (length x.nodes) ≡ Some path
  here = subst (λ (ns : List NodeView). slice_get (paths_of ns) (length x.nodes) ≡ Some path) (sym nodes_are) (path_here x.nodes n)

  leads : LeadsTo script path p.blocks
  leads = path_leads script path history p

  key_kept : (c : KeyCode) → Contains z.keys.keys c → (key : List ℤ) × IsCode x.parts c key × IsKept script (paths_of y.nodes) key
  key_kept c has = elim (keys_are c has) [
    | inl old ↦ (let was = sound.keys c old in (was.0, was.1, kept_grown script x y was.0 grown was.2))
    | inr same ↦ (
      numbers,
      subst (λ (c : KeyCode). IsCode x.parts c numbers) same is_code,
      record { place = length x.nodes; path = path; there = here; blocks = p.blocks; leads = leads; keyed = (history, p.is, numbered) },
    )
  ]

  all_there : AreHistories script (paths_of y.nodes) (get nat_eq z.histories)
  all_there q k is = elim (there q k is) [
    | inl old ↦ (let was = sound.histories q k old in (was.0, grown.paths q was.0 was.1, was.2))
    | inr new ↦ (
      path,
      subst (λ (i : ℕ). slice_get (paths_of y.nodes) i ≡ Some path) (sym (new.0 ∙ place_is)) here,
      subst (λ (k : KeptHistory). IsPath script path k.history) new.1 p,
    )
  ]

  pub keeps_new : Keeps x y history
  keeps_new = record {
    grown = grown;
    sound = record {
      script_is = sound.script_is;
      outcomes = sound.outcomes;
      broken = sound.broken;
      nodes = subst GoOn (sym nodes_are) (on_push x.nodes n sound.nodes may);
      few =
          let many = ap length nodes_are ∙ length_push x.nodes n in
          omega (arith, many, room);
      keys = key_kept;
      ends = sound.ends;
      keyed = sound.keyed;
      once = sound.once;
      met = λ is. absurd (below_not x.limit (length x.nodes) (sound.met is) room);
      told = sound.told;
      marked = sound.marked;
      hold = sound.hold;
      short = sound.short;
      histories = all_there;
    };
    kept = λ _ blocks of. record {
      place = length x.nodes;
      path = path;
      there = here;
      others = p.blocks;
      leads = leads;
      alike = alike_keys script blocks p.blocks numbers (history, of, numbered) (history, p.is, numbered);
      back = alike_keys script p.blocks blocks numbers (history, p.is, numbered) (history, of, numbered);
    };
  }
