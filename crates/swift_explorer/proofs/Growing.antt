-- What a search has found stays as it goes on.
use Rattle.swift_explorer.proofs.Prelude.{◌≡◌, ◌<◌, ◌≤◌, ℕ, ℤ, zero, suc, ◌+◌, true, false, List, [], ◌∷◌, ◌++◌, length, refl, sym, subst, arith, inl, inr, ◌∙◌, IsTrue, false≢true, slice_get_within, ScriptView, Block, after_turns, Move, Search, Step, Turn, HasGoneOn, Grows, HasGrown, HasLike, HasLikeAhead, IsExpandedAt, IsKept, IsSound, StepWasTried, TurnWasTried, WasTried, paths_of}
use Rattle.swift_explorer.proofs.Ended.{lt_or}
use Rattle.swift_explorer.proofs.Nodes.{path_there, paths_length}
use Rattle.swift_explorer.proofs.PartsKnown.{code_grown}

pub grown_none : (x : Search) → HasGrown x x
grown_none x = record { script = refl; limit = refl; paths = λ i path at. at; outcomes = λ o has. has; broken = λ none. none; complete = λ is. is }

pub grown_on : (x y z : Search) → HasGrown x y → HasGrown y z → HasGrown x z
grown_on x y z one two = record {
  script = two.script ∙ one.script;
  limit = two.limit ∙ one.limit;
  paths = λ i path at. two.paths i path (one.paths i path at);
  outcomes = λ o has. two.outcomes o (one.outcomes o has);
  broken = λ none. one.broken (two.broken none);
  complete = λ is. one.complete (two.complete is);
}

pub like_grown : (script : ScriptView) (x y : Search) (blocks : List Block) → HasGrown x y → HasLike script (paths_of x.nodes) blocks → HasLike script (paths_of y.nodes) blocks
like_grown script x y blocks grown like = record {
  place = like.place;
  path = like.path;
  there = grown.paths like.place like.path like.there;
  others = like.others;
  leads = like.leads;
  alike = like.alike;
  back = like.back;
}

ahead_grown : (script : ScriptView) (x y : Search) (blocks : List Block) → HasGrown x y → HasLikeAhead script (paths_of x.nodes) blocks → HasLikeAhead script (paths_of y.nodes) blocks
ahead_grown script x y blocks grown ahead = record { turns = ahead.turns; run = ahead.run; whole = ahead.whole; like = like_grown script x y (after_turns blocks ahead.turns) grown ahead.like }

pub kept_grown : (script : ScriptView) (x y : Search) (key : List ℤ) → HasGrown x y → IsKept script (paths_of x.nodes) key → IsKept script (paths_of y.nodes) key
kept_grown script x y key grown kept = record {
  place = kept.place;
  path = kept.path;
  there = grown.paths kept.place kept.path kept.there;
  blocks = kept.blocks;
  leads = kept.leads;
  keyed = kept.keyed;
}

tried_grown : (script : ScriptView) (x y : Search) (blocks : List Block) (b : Block) → HasGrown x y → WasTried script x blocks b → WasTried script y blocks b
tried_grown script x y blocks b grown was = record { kept = ahead_grown script x y (blocks ++ b ∷ []) grown was.kept; whole = λ none. was.whole (grown.broken none) }

pub step_grown : (script : ScriptView) (x y : Search) (path : List Move) (step : Step) → HasGrown x y → StepWasTried script x path step → StepWasTried script y path step
step_grown script x y path step grown was blocks b leads may does = tried_grown script x y blocks b grown (was blocks b leads may does)

turn_grown : (script : ScriptView) (x y : Search) (path : List Move) (blocks : List Block) (b : Block) → HasGrown x y → TurnWasTried script x path blocks b → TurnWasTried script y path blocks b
turn_grown script x y path blocks b grown was = record { task = was.task; does = was.does; away = was.away; tried = step_grown script x y path (Turn was.task) grown was.tried }

pub expanded_grown : (script : ScriptView) (x y : Search) (place : ℕ) → HasGrown x y → IsExpandedAt script x place → IsExpandedAt script y place
expanded_grown script x y place grown is = (
  is.0,
  grown.paths place is.0 is.1,
  record {
    ends = λ blocks leads report of. (let o = is.2.ends blocks leads report of in (o.0, grown.outcomes o.0 o.1, o.2));
    room = is.2.room;
    tried = λ blocks b leads may. elim (is.2.tried blocks b leads may) [
      | inl one ↦ inl (tried_grown script x y blocks b grown one)
      | inr turn ↦ inr (turn_grown script x y is.0 blocks b grown turn)
    ];
  },
)

-- a search loses no history that it has kept

below_grown : (x y : Search) (n : ℕ) → HasGrown x y → n ≤ length x.nodes → n ≤ length y.nodes
below_grown x y zero grown le = omega arith
below_grown x y (suc n) grown le =
    let at = path_there x.nodes n (omega (arith, le)) in
    let within = slice_get_within (paths_of y.nodes) n at.0 (grown.paths n at.0 at.1) in
    let many = paths_length y.nodes in
    omega (arith, within, many)

pub nodes_grown : (x y : Search) → HasGrown x y → length x.nodes ≤ length y.nodes
nodes_grown x y grown = below_grown x y (length x.nodes) grown (omega arith)

-- a search that has gone on from one history more
pub gone_one : (script : ScriptView) (x y : Search) (next : ℕ) → HasGoneOn script x next → next < length x.nodes → HasGrown x y → IsSound script y → (IsTrue y.is_complete → IsExpandedAt script y next)
    → HasGoneOn script y (next + 1)
gone_one script x y next gone lt grown sound expanded = record {
  sound = sound;
  first = λ is. like_grown script x y [] grown (gone.first (grown.complete is));
  within = (let more = nodes_grown x y grown in omega (arith, lt, more));
  expanded = λ is place low. elim (lt_or place next low) [
    | inl before ↦ expanded_grown script x y place grown (gone.expanded (grown.complete is) place before)
    | inr here ↦ subst (IsExpandedAt script y) (sym here) (expanded is)
  ];
}

-- a search that has gone on from no history more
pub gone_still : (script : ScriptView) (x y : Search) (next : ℕ) → HasGoneOn script x next → HasGrown x y → IsSound script y → HasGoneOn script y next
gone_still script x y next gone grown sound = record {
  sound = sound;
  first = λ is. like_grown script x y [] grown (gone.first (grown.complete is));
  within = (let old = gone.within in let more = nodes_grown x y grown in omega (arith, old, more));
  expanded = λ is place low. expanded_grown script x y place grown (gone.expanded (grown.complete is) place low);
}

-- a search that leaves a history out for the limit

pub sound_full : (script : ScriptView) (x : Search) → IsSound script x → length x.nodes ≡ x.limit → IsSound script (record x { is_complete = false; met_limit = true })
sound_full script x is full =
    record { script_is = is.script_is; outcomes = is.outcomes; broken = is.broken; nodes = is.nodes; few = is.few; keys = is.keys; ends = is.ends; keyed = is.keyed; once = is.once; met = λ _. full; told = is.told; marked = is.marked; hold = is.hold; short = is.short; histories = is.histories }

pub grown_full : (x : Search) → HasGrown x (record x { is_complete = false; met_limit = true })
grown_full x = record { script = refl; limit = refl; paths = λ i path at. at; outcomes = λ o has. has; broken = λ none. none; complete = λ is. absurd (false≢true is) }

-- a search that leaves a history out

pub sound_left : (script : ScriptView) (x : Search) → IsSound script x → IsSound script (record x { is_complete = false })
sound_left script x is = record { script_is = is.script_is; outcomes = is.outcomes; broken = is.broken; nodes = is.nodes; few = is.few; keys = is.keys; ends = is.ends; keyed = is.keyed; once = is.once; met = is.met; told = is.told; marked = is.marked; hold = is.hold; short = is.short; histories = is.histories }

pub grown_left : (x : Search) → HasGrown x (record x { is_complete = false })
grown_left x = record { script = refl; limit = refl; paths = λ i path at. at; outcomes = λ o has. has; broken = λ none. none; complete = λ is. absurd (false≢true is) }

-- a search that has noted parts of a key

pub sound_parts : (script : ScriptView) (x y : Search) → IsSound script x → Grows x.parts y.parts → IsSound script (record x { parts = y.parts; key = y.key; cuts = y.cuts })
sound_parts script x y is grown = record {
  script_is = is.script_is;
  outcomes = is.outcomes;
  broken = is.broken;
  nodes = is.nodes;
  few = is.few;
  keys = λ code has. (let was = is.keys code has in (was.0, code_grown x.parts y.parts code was.0 grown was.1, was.2));
  ends = is.ends;
  keyed = is.keyed;
  once = is.once;
  met = is.met;
  told = is.told;
  marked = is.marked;
  hold = is.hold;
  short = is.short;
  histories = is.histories;
}

pub grown_parts : (x y : Search) → HasGrown x (record x { parts = y.parts; key = y.key; cuts = y.cuts })
grown_parts x y = record { script = refl; limit = refl; paths = λ i path at. at; outcomes = λ o has. has; broken = λ none. none; complete = λ is. is }
