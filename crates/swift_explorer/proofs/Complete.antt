-- A search that has gone on from each history which it has kept has found each outcome.
use Rattle.swift_explorer.proofs.Prelude.{◌≡◌, ◌<◌, ◌≤◌, ℕ, ℤ, List, [], ◌∷◌, ◌++◌, append_assoc, length, refl, sym, subst, ap, ap₂, ◌∙◌, arith, inl, inr, IsTrue, None, Option, Some, Contains, slice_get, unwrap_or, arc_value, false≢true, slice_get_within, Env, ScriptView, ExitView, CheckpointView, FoldedView, RecordView, AllStand, Block, ReportView, added, begun, folded, ran, standing, start_of, starts, many_starts, FoldsNone, IsOutcome, StartsFresh, state_of, AreLike, IsOrderly, IsOrderlyLegal, Made, NoneFolded, made, outcome_too, all_push, turn_looks_away, OneTurn, after_turns, AllRunSilently, LeadAsOne, outcome_near, AllTried, Move, RunOutcome, SearchedHistory, Search, HasEachOutcome, NeverBreaks, Tells, AllWhole, StartsHold, AreSteps, BreaksInvariant, IsBroken, IsHistory, IsPath, HasGoneOn, HasLike, IsExpanded, IsExpandedAt, IsSound, Keeps, LeadsTo, MayFollow, TurnWasTried, WasTried, paths_of, allowed_push}
use Rattle.swift_laws.specs.Laws.{ActorsHaveExecutors}
use Rattle.swift_reordering.specs.FusedSteps.{HasRoom, MayStep}
use Rattle.swift_reordering.proofs.AheadWalk.{HasAhead, HasAll, StepsAhead, all_done, first_one, go_run, has_all}
use Rattle.swift_reordering.proofs.Priorities.{cons_cases, cons_here, none_there}
use Rattle.swift_reordering.proofs.SilentEnds.{finished}
use Rattle.swift_reordering.proofs.Walks.{course_none}
use Rattle.swift_explorer.specs.declared.moves.Move.TheVariants as step
use Rattle.swift_explorer.proofs.Ended.{starts_at}
use Rattle.swift_explorer.proofs.KnownEnds.{same_list}
use Rattle.swift_explorer.proofs.Nodes.{paths_length}
use Rattle.swift_explorer.proofs.Paths.{steps_push}

-- fresh checkpoints are those that a run starts with
fresh_starts : (script : ScriptView) (cps : List CheckpointView) → StartsFresh script cps → cps ≡ starts script
fresh_starts script cps fresh =
    same_list cps (starts script) (fresh.count ∙ sym (many_starts script)) (λ e c d at also.
    (let is = fresh.each e c at in
    let same : c ≡ start_of script e = ap₂ (λ (fields : List (List ℤ)) (folded : List FoldedView). record { fields = fields; folded = folded }) is.0 is.1 in
    same ∙ sym (starts_at script e d also)))

no_steps : (bs : List Block) → AreSteps 0 [] bs → bs ≡ []
no_steps [] is = refl
no_steps (b ∷ bs) is = absurd is

-- the history in which nothing has happened was kept
first_like : (script : ScriptView) (s z : Search) (history : SearchedHistory) → arc_value s.script ≡ script → IsPath script [] history → Keeps s z history → IsTrue z.is_complete → HasLike script (paths_of z.nodes) []
first_like script s z history own p keeps is =
    let h = subst (λ (sc : ScriptView). IsHistory sc p.blocks history) (sym own) p.is in
    let like = keeps.kept is p.blocks h in
    subst (λ (sc : ScriptView). HasLike sc (paths_of z.nodes) []) own (subst (HasLike (arc_value s.script) (paths_of z.nodes)) (no_steps p.blocks p.steps) like)

-- a search that has kept it has gone on from none
pub gone_none : (script : ScriptView) (s z : Search) (history : SearchedHistory) → arc_value s.script ≡ script → IsPath script [] history → Keeps s z history → HasGoneOn (arc_value z.script) z 0
gone_none script s z history own p keeps =
    let same : arc_value z.script ≡ script = ap arc_value keeps.grown.script ∙ own in
    subst (λ (sc : ScriptView). HasGoneOn sc z 0) (sym same) (record {
      sound = subst (λ (sc : ScriptView). IsSound sc z) own keeps.sound;
      first = first_like script s z history own p keeps;
      within = omega arith;
      expanded = λ _ place low. absurd (omega (arith, low));
    })

-- the steps to one of the nodes lead to this history
record IsNode (script : ScriptView) (x : Search) (h : List Block) : Type 0 where
  place : ℕ
  path : List Move
  there : slice_get (paths_of x.nodes) place ≡ Some path
  leads : LeadsTo script path h

one_turn : (b : Block) (e : ℕ) (r : RecordView) → Contains (b ∷ []) (ran e r) → b ≡ ran e r
one_turn b e r has = elim (cons_cases b [] (ran e r) has) [ inl here ↦ here | inr more ↦ absurd (none_there (ran e r) more) ]

turn_after : (t n : ℕ) (env : Env) (b : Block) (e : ℕ) (r : RecordView) → Contains (begun t n env ∷ b ∷ []) (ran e r) → b ≡ ran e r
turn_after t n env b e r has = elim (cons_cases (begun t n env) (b ∷ []) (ran e r) has) [ inl here ↦ absurd (cc here) | inr more ↦ one_turn b e r more ]

node_of : (script : ScriptView) (x : Search) (bs : List Block) (like : HasLike script (paths_of x.nodes) bs) → IsNode script x like.others
node_of script x bs like = record { place = like.place; path = like.path; there = like.there; leads = like.leads }

-- a turn was tried that ends so: where no turn was found that breaks an invariant, it breaks none
abbrev Ended : Search → ℕ → ExitView → Type 0
Ended x e exit = x.broken ≡ None → BreaksInvariant exit → ⊥

module _ (script : ScriptView) (x : Search) (hold : StartsHold script) (first : HasLike script (paths_of x.nodes) []) (each : (place : ℕ) → place < length x.nodes → IsExpandedAt script x place) (on : ActorsHaveExecutors script) where
  abbrev cps : List CheckpointView
  cps = starts script

  abbrev Node : List Block → Type 0
  Node h = IsNode script x h

  expanded_at : (h : List Block) (k : IsNode script x h) → (path : List Move) × LeadsTo script path h × IsExpanded script x path
  expanded_at h k =
      let within = slice_get_within (paths_of x.nodes) k.place k.path k.there in
      let is = each k.place (subst (λ (n : ℕ). k.place < n) (paths_length x.nodes) within) in
      let same : k.path ≡ is.0 = ap (λ (o : Option (List Move)). unwrap_or o k.path) (sym k.there ∙ is.1) in
      (is.0, subst (λ (path : List Move). LeadsTo script path h) same k.leads, is.2)

  stand_of : (h : List Block) → IsNode script x h → AllStand script cps [] h
  stand_of h k = k.leads.stand

  room_of : (h : List Block) → IsNode script x h → HasRoom script h
  room_of h k = (let at = expanded_at h k in at.2.room h at.1)

  abbrev Ahead : List Block → List Block → Type 0
  Ahead h step = StepsAhead script on cps hold Node (Ended x) stand_of room_of h step

  all_ended : (xs : List OneTurn) → AllWhole xs → AllTried script cps hold (Ended x) xs
  all_ended [] all = tt
  all_ended (y ∷ ys) all = (λ none breaks. all.0 breaks, all_ended ys all.1)

  stepped_by : (h : List Block) (b : Block) → WasTried script x h b → Ahead h (b ∷ [])
  stepped_by h b was =
      let ahead = was.kept in
      record {
        turns = ahead.turns;
        run = ahead.run;
        kept = ahead.like.others;
        is_kept = node_of script x (after_turns (h ++ b ∷ []) ahead.turns) ahead.like;
        lead = (ahead.like.alike, ahead.like.back);
        ends = λ e r has none breaks. was.whole none (subst IsBroken (sym (one_turn b e r has)) breaks);
        also = all_ended ahead.turns ahead.whole;
      }

  -- a block that begins no turn that looks away
  one_block : (h : List Block) (b : Block) (k : IsNode script x h) → MayFollow script h b → ((path : List Move) → TurnWasTried script x path h b → ⊥) → Ahead h (b ∷ [])
  one_block h b k may never =
      let at = expanded_at h k in
      elim (at.2.tried h b at.1 may) [ inl was ↦ stepped_by h b was | inr turn ↦ absurd (never at.0 turn) ]

  run_block : (h : List Block) (e : ℕ) (r : RecordView) (k : IsNode script x h) → MayStep script cps h (ran e r ∷ []) → Ahead h (ran e r ∷ [])
  run_block h e r k may = one_block h (ran e r) k (record { unfolded = tt; stands = may.stands.0; orderly = may.orderly.0 }) (λ path turn. turn.does)

  run_like : (e : ℕ) (r : RecordView) (k rest : List Block) → IsNode script x k → AreLike script (ran e r ∷ []) rest → MayStep script cps k rest → Ahead k rest
  run_like e r k [] node like may = absurd like
  run_like e r k (c ∷ d ∷ rest) node like may = absurd like.1
  run_like e r k (c ∷ []) node like may =
      let q : RecordView = record r { frame = like.0.0 } in
      let is : c ∷ [] ≡ ran e q ∷ [] = ap (λ (b : Block). b ∷ []) like.0.2 in
      subst (Ahead k) (sym is) (run_block k e q node (subst (MayStep script cps k) is may))

  -- a turn that looks away begins and runs

  abbrev Both : List Block → ℕ → ℕ → Env → ℕ → RecordView → Type 0
  Both h t n env e r = Ahead h (begun t n env ∷ ran e r ∷ [])

  joined : (h : List Block) (t n : ℕ) (env : Env) (e : ℕ) (r : RecordView) → (h ++ begun t n env ∷ []) ++ ran e r ∷ [] ≡ h ++ begun t n env ∷ ran e r ∷ []
  joined h t n env e r = append_assoc h (begun t n env ∷ []) (ran e r ∷ [])

  -- it was tried as it begins, and as it runs after the history that was kept then
  one_by_one : (h : List Block) (t n : ℕ) (env : Env) (e : ℕ) (r : RecordView) → AllStand script cps [] (h ++ begun t n env ∷ []) → MayFollow script (h ++ begun t n env ∷ []) (ran e r) → WasTried script x h (begun t n env) → Both h t n env e r
  one_by_one h t n env e r stand may was =
      let front : List Block = h ++ begun t n env ∷ [] in
      let ahead = was.kept in
      let begin : HasAhead script on cps hold Node (Ended x) stand_of room_of front = record {
        turns = ahead.turns;
        run = ahead.run;
        tried = all_ended ahead.turns ahead.whole;
        kept = ahead.like.others;
        is_kept = node_of script x (after_turns front ahead.turns) ahead.like;
        lead = (ahead.like.alike, ahead.like.back);
      } in
      let next = go_run script on cps hold Node (Ended x) stand_of room_of front e r (run_like e r) stand begin (may.stands, tt) (may.orderly, tt) (all_push script cps front [] (ran e r) stand may.stands) in
      let is = joined h t n env e r in
      record {
        turns = next.one.turns;
        run = subst (λ (bs : List Block). AllRunSilently script cps bs next.one.turns) is next.one.run;
        kept = next.one.kept;
        is_kept = next.one.is_kept;
        lead = subst (λ (bs : List Block). LeadAsOne script cps (after_turns bs next.one.turns) next.one.kept) is next.one.lead;
        ends = λ k q has. next.ends k q (cons_here (ran e r) [] (ran k q) (turn_after t n env (ran e r) k q has));
        also = next.one.tried;
      }

  -- it was tried as it begins and runs at once
  at_once : (h : List Block) (t n : ℕ) (env : Env) (e : ℕ) (r : RecordView) (path : List Move) → LeadsTo script path h → MayFollow script h (begun t n env) → MayFollow script (h ++ begun t n env ∷ []) (ran e r) → r.task ≡ t
      → TurnWasTried script x path h (begun t n env) → Both h t n env e r
  at_once h t n env e r path leads may then_may own turn =
      let b = begun t n env in
      let begins : LeadsTo script (path ++ step.Begin turn.task ∷ []) (h ++ b ∷ []) = record {
        steps = steps_push path 0 h (step.Begin turn.task) b leads.steps turn.does;
        stand = all_push script cps h [] b leads.stand may.stands;
        orderly = allowed_push (IsOrderly script) h b leads.orderly may.orderly;
      } in
      let was = turn.tried (h ++ b ∷ []) (ran e r) begins then_may (own ∙ turn.does) in
      let one = stepped_by (h ++ b ∷ []) (ran e r) was in
      let is = joined h t n env e r in
      record {
        turns = one.turns;
        run = subst (λ (bs : List Block). AllRunSilently script cps bs one.turns) is one.run;
        kept = one.kept;
        is_kept = one.is_kept;
        lead = subst (λ (bs : List Block). LeadAsOne script cps (after_turns bs one.turns) one.kept) is one.lead;
        ends = λ k q has. one.ends k q (cons_here (ran e r) [] (ran k q) (turn_after t n env (ran e r) k q has));
        also = one.also;
      }

  stepped : (h more : List Block) → IsNode script x h → MayStep script cps h more → Ahead h more
  stepped h [] k may = absurd may.fused
  stepped h (folded e f ∷ bs) k may = absurd may.fused
  stepped h (added r ∷ b ∷ bs) k may = absurd may.fused
  stepped h (ran e r ∷ b ∷ bs) k may = absurd may.fused
  stepped h (added r ∷ []) k may = one_block h (added r) k (record { unfolded = tt; stands = may.stands.0; orderly = may.orderly.0 }) (λ path turn. turn.does)
  stepped h (ran e r ∷ []) k may = run_block h e r k may
  stepped h (begun t n env ∷ []) k may = one_block h (begun t n env) k (record { unfolded = tt; stands = may.stands.0; orderly = may.orderly.0 })
      (λ path turn. false≢true (sym may.fused ∙ ap (turn_looks_away script (standing script h)) turn.does ∙ turn.away))
  stepped h (begun t n env ∷ ran e r ∷ []) k may =
      let b = begun t n env in
      let may_begin : MayFollow script h b = record { unfolded = tt; stands = may.stands.0; orderly = may.orderly.0 } in
      let may_run : MayFollow script (h ++ b ∷ []) (ran e r) = record { unfolded = tt; stands = may.stands.1.0; orderly = may.orderly.1.0 } in
      let at = expanded_at h k in
      elim (at.2.tried h b at.1 may_begin) [
        | inl was ↦ one_by_one h t n env e r (all_push script cps h [] b at.1.stand may.stands.0) may_run was
        | inr turn ↦ at_once h t n env e r at.0 at.1 may_begin may_run may.fused.1 turn
      ]
  stepped h (begun t n env ∷ added r ∷ bs) k may = absurd may.fused
  stepped h (begun t n env ∷ begun u m other ∷ bs) k may = absurd may.fused
  stepped h (begun t n env ∷ folded e f ∷ bs) k may = absurd may.fused
  stepped h (begun t n env ∷ ran e r ∷ b ∷ bs) k may = absurd may.fused

  module _ (report : ReportView) (orderly : IsOrderlyLegal script report) (folds : FoldsNone report) where
    made_is : Made script report orderly.legal
    made_is = made script report orderly.legal folds

    cps_are : report.checkpoints ≡ cps
    cps_are = fresh_starts script report.checkpoints made_is.fresh

    stand_is : AllStand script cps [] orderly.legal.blocks
    stand_is = subst (λ (cs : List CheckpointView). AllStand script cs [] orderly.legal.blocks) cps_are orderly.legal.stand

    none_is : NoneFolded script on cps orderly.legal.blocks
    none_is = made_is.none

    walked : HasAll script on cps hold Node (Ended x) stand_of room_of stepped [] orderly.legal.blocks
    walked = has_all script on cps hold Node (Ended x) stand_of room_of stepped orderly.legal.blocks [] (course_none script cps) stand_is orderly.orderly none_is
        (first_one script on cps hold Node (Ended x) stand_of room_of stepped first.others (node_of script x [] first) (first.alike, first.back))

    has_outcome : (o : RunOutcome) × Contains x.outcomes.items o × Tells o report
    has_outcome =
        let one = walked.one in
        let kept : List Block = one.ahead.kept in
        let at = expanded_at kept one.ahead.is_kept in
        let lead = all_done script on cps hold Node (Ended x) stand_of room_of stepped orderly.legal.blocks one (finished script report orderly.legal) in
        let of : IsOutcome script (state_of script cps orderly.legal.blocks) report = subst (λ (cs : List CheckpointView). IsOutcome script (state_of script cs orderly.legal.blocks) report) cps_are made_is.outcome in
        at.2.ends kept at.1 report
        (record { outcome = outcome_too script cps report one.others kept lead (outcome_near script cps report orderly.legal.blocks one.others one.put_off of); many = orderly.legal.executors.2 })

    breaks_none : x.broken ≡ None → (b : Block) → Contains orderly.legal.blocks b → IsBroken b → ⊥
    breaks_none whole (ran e r) has breaks = walked.tried e r has whole breaks
    breaks_none whole (added r) has breaks = breaks
    breaks_none whole (begun t n env) has breaks = breaks
    breaks_none whole (folded e f) has breaks = breaks

-- a search that has gone on from each history that it has kept, and left none out, has found all
module _ (x : Search) (next : ℕ) (gone : HasGoneOn (arc_value x.script) x next) (last : length x.nodes ≤ next) (is : IsTrue x.is_complete) where
  each_kept : (place : ℕ) → place < length x.nodes → IsExpandedAt (arc_value x.script) x place
  each_kept place low = gone.expanded is place (omega (arith, low, last))

  pub has_each : HasEachOutcome (arc_value x.script) x.outcomes.items
  has_each = λ on report orderly folds. has_outcome (arc_value x.script) x gone.sound.hold (gone.first is) each_kept on report orderly folds

  pub never_breaks : x.broken ≡ None → NeverBreaks (arc_value x.script)
  never_breaks whole = λ on report orderly folds. breaks_none (arc_value x.script) x gone.sound.hold (gone.first is) each_kept on report orderly folds whole
