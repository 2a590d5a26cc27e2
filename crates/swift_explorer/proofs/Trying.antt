-- A step is tried after others.
use Rattle.swift_explorer.proofs.Prelude.{◌≡◌, ◌⊎◌, ◌↔◌, ◌<◌, ◌≤◌, ◌+◌, ◌*◌, ◌∙◌, ℕ, List, [], ◌∷◌, ◌++◌, append_assoc, append-nil, sym, subst, ap, arith, inl, inr, All, IsTrue, None, false≢true, arc_value, All-contains, ScriptView, executor_count, root_count, Event, tasks_of, CheckpointView, AllStand, Block, ReportView, Stands, added, begun, folded, ran, standing, starts, IsNotFolded, AllAllowed, IsOrderly, LeadAlike, lead_on, orderly_too, outcome_too, unfolded_too, all_push, block_stands, OneTurn, after_turns, LeadAsOne, same_away, AllEndAs, same_back, same_on, same_push, turns_too, Move, One, Turn, SearchedHistory, Followed, Yes, Ahead, Search, IfReached, IsOutcomeOf, HasEachStep, IsChosen, IsRoomy, AllWhole, BreaksInvariant, IsBroken, GoesOn, IsHistory, IsMoveOf, IsPath, HasEnd, IsKnownEnd, IsReportAfter, GoesFrom, HasLike, HasLikeAhead, IsAhead, IsExpanded, IsFollowedAhead, IsFollowedBy, LeadsTo, MayFollow, StepWasTried, TurnWasTried, WasTried, WasTriedLast, path_after, paths_of}
use Rattle.swift_types.specs.declared.limits.TheConstants.{TASKS, MADE}
use Rattle.swift_digest.proofs.SameLogs.{same_tasks}
use Rattle.swift_explorer.specs.declared.moves.Move.TheVariants as step
use Rattle.swift_explorer.proofs.Keeping.{path_leads}
use Rattle.swift_explorer.proofs.Nodes.{path_on}
use Rattle.swift_explorer.proofs.Orderly.{before_or_past}
use Rattle.swift_explorer.proofs.SameMoves.{broken_too, move_back, move_of_step, move_too, same_move, same_path}

-- what may follow blocks, after others to which the same steps lead

pub record Other (script : ScriptView) (blocks others : List Block) (b : Block) : Type 0 where
  pub block : Block
  pub may : MayFollow script others block
  pub moves : (m : Move) → IsMoveOf m b → IsMoveOf m block
  pub back : (m : Move) → IsMoveOf m block → IsMoveOf m b
  pub breaks : IsBroken b → IsBroken block
  pub same : LeadAsOne script (starts script) (blocks ++ b ∷ []) (others ++ block ∷ [])

pub other_block : (script : ScriptView) (blocks others : List Block) (b : Block) → AllStand script (starts script) [] blocks → AllStand script (starts script) [] others → LeadAsOne script (starts script) blocks others
    → MayFollow script blocks b → Other script blocks others b
other_block script blocks others b stand also same may =
    let cps = starts script in
    let alike = same.0 in
    let o = block_stands script cps blocks others alike stand also b may.stands in
    let c : Block = o.other in
    record {
      block = c;
      may = record { unfolded = unfolded_too script cps b c o.like may.unfolded; stands = o.stands; orderly = orderly_too script cps blocks others alike b c o.like may.orderly };
      moves = λ m does. move_too script m b c o.like does;
      back = λ m does. move_back script m b c o.like does;
      breaks = broken_too script b c o.like;
      same = same_push script cps blocks others b c same o.like (all_push script cps blocks [] b stand may.stands) (all_push script cps others [] c also o.stands);
    }

other_led : (script : ScriptView) (path : List Move) (blocks others : List Block) (b : Block) → LeadsTo script path blocks → LeadsTo script path others → MayFollow script blocks b → Other script blocks others b
other_led script path blocks others b leads also may =
    other_block script blocks others b leads.stand also.stand (
      same_path script blocks others path 0 leads.stand also.stand leads.orderly also.orderly leads.steps also.steps,
      same_path script others blocks path 0 also.stand leads.stand also.orderly leads.orderly also.steps leads.steps,
    ) may

-- where one kind of block leads to what is kept, so does what leads alike
pub like_too : (script : ScriptView) (paths : List (List Move)) (blocks others : List Block) → LeadAsOne script (starts script) blocks others → HasLike script paths others → HasLike script paths blocks
like_too script paths blocks others same like = record {
  place = like.place;
  path = like.path;
  there = like.there;
  others = like.others;
  leads = like.leads;
  alike = lead_on script (starts script) blocks others like.others same.0 like.alike;
  back = lead_on script (starts script) like.others others blocks like.back same.1;
}

-- the same with silent turns after them
pub ahead_too : (script : ScriptView) (paths : List (List Move)) (blocks others : List Block) → AllStand script (starts script) [] blocks → AllStand script (starts script) [] others → LeadAsOne script (starts script) blocks others
    → HasLikeAhead script paths others → HasLikeAhead script paths blocks
ahead_too script paths blocks others stand also same ahead =
    let cps = starts script in
    let o = turns_too script cps ahead.turns others blocks also stand (same_back script cps blocks others same) ahead.run in
    record {
      turns = o.others;
      run = o.run;
      whole = whole_ends script ahead.turns o.others o.ends ahead.whole;
      like = like_too script paths (after_turns blocks o.others) (after_turns others ahead.turns) (same_back script cps (after_turns others ahead.turns) (after_turns blocks o.others) o.same) ahead.like;
    }
  where
    whole_ends : (script : ScriptView) (xs ys : List OneTurn) → AllEndAs script (starts script) xs ys → AllWhole xs → AllWhole ys
    whole_ends script [] [] ends all = tt
    whole_ends script (x ∷ xs) (y ∷ ys) ends all = (λ breaks. all.0 (subst BreaksInvariant ends.0.exit_is breaks), whole_ends script xs ys ends.1 all.1)
    whole_ends script [] (y ∷ ys) ends all = absurd ends
    whole_ends script (x ∷ xs) [] ends all = absurd ends

-- a step that was followed was tried, where its history is kept
pub step_tried : (script : ScriptView) (x : Search) (path : List Move) (m : Move) (history : SearchedHistory) (done : Followed) (before after : List Move)
    → IsFollowedAhead script path m history done before after → ((blocks : List Block) → IsHistory script blocks history → HasLike script (paths_of x.nodes) blocks) → (x.broken ≡ None → done ≡ Yes) → WasTriedLast script x path m
step_tried script x path m history done before after f kept quiet blocks b leads may does =
    let cps = starts script in
    let o = other_led script path blocks f.blocks b leads f.leads may in
    let does_o = o.moves m does in
    let one = same_move script f.blocks o.block f.last m f.leads.stand o.may.stands f.follows.stands o.may.orderly f.follows.orderly does_o f.does in
    let two = same_move script f.blocks f.last o.block m f.leads.stand f.follows.stands o.may.stands f.follows.orderly o.may.orderly f.does does_o in
    let mine : List Block = blocks ++ b ∷ [] in
    let far : List Block = f.blocks ++ f.last ∷ [] in
    let all = same_on script cps mine (f.blocks ++ o.block ∷ []) far o.same (one.0, two.0) in
    record {
      kept = ahead_too script (paths_of x.nodes) mine far (all_push script cps blocks [] b leads.stand may.stands) (all_push script cps f.blocks [] f.last f.leads.stand f.follows.stands) all
          (record { turns = f.turns; run = f.run; whole = f.quiet; like = kept (after_turns far f.turns) f.is });
      whole = λ none breaks. f.whole (quiet none) (one.1 (o.breaks breaks));
    }

-- steps that are followed

pub parted : (script : ScriptView) (cps : List CheckpointView) (bs before : List Block) (b : Block) → AllStand script cps before (bs ++ b ∷ []) → Stands script cps (before ++ bs) b
parted script cps [] before b all = subst (λ (xs : List Block). Stands script cps xs b) (sym (append-nil before)) all.0
parted script cps (x ∷ bs) before b all = subst (λ (xs : List Block). Stands script cps xs b) (append_assoc before (x ∷ []) bs) (parted script cps bs (before ++ x ∷ []) b all.1)

pub allowed_last : (Allowed : List Block → Block → Type 0) (bs before : List Block) (b : Block) → AllAllowed Allowed before (bs ++ b ∷ []) → Allowed (before ++ bs) b
allowed_last Allowed [] before b all = subst (λ (xs : List Block). Allowed xs b) (sym (append-nil before)) all.0
allowed_last Allowed (x ∷ bs) before b all = subst (λ (xs : List Block). Allowed xs b) (append_assoc before (x ∷ []) bs) (allowed_last Allowed bs (before ++ x ∷ []) b all.1)

not_folded : (m : Move) (b : Block) → IsMoveOf m b → IsNotFolded b
not_folded m (added r) does = tt
not_folded m (begun t n env) does = tt
not_folded m (ran e r) does = tt
not_folded step.Add (folded e f) does = does
not_folded (step.Begin t) (folded e f) does = does
not_folded (step.Run t) (folded e f) does = does

pub followed_by : (script : ScriptView) (path : List Move) (m : Move) (x y : SearchedHistory) (done : Followed) → arc_value x.steps.script ≡ script → GoesOn m x y done → IsPath script path x → IsFollowedBy script path m y done
followed_by script path m x y done own goes p =
    let more = goes p.blocks (subst (λ (s : ScriptView). IsHistory s p.blocks x) (sym own) p.is) in
    let h = subst (λ (s : ScriptView). IsHistory s (p.blocks ++ more.0 ∷ []) y) own more.2 in
    let does = move_of_step x.steps.roots m more.0 more.1 in
    record {
      blocks = p.blocks;
      last = more.0;
      leads = path_leads script path x p;
      follows = record { unfolded = not_folded m more.0 does; stands = parted script (starts script) p.blocks [] more.0 h.followed.led.stand; orderly = allowed_last (IsOrderly script) p.blocks [] more.0 h.orderly };
      does = does;
      is = h;
      whole = more.5;
    }

-- what comes after a path

-- as many tasks as the book has, and the room that turns may need
many_tasks : (x : SearchedHistory) (script : ScriptView) (blocks : List Block) → arc_value x.steps.script ≡ script → IsHistory script blocks x
    → tasks_of (root_count x.steps.book.script) x.steps.book.log + MADE * (executor_count (arc_value x.steps.script) + 1) ≡ tasks_of (root_count script) (standing script blocks).log + MADE * (executor_count script + 1)
many_tasks x script blocks own h =
    ap (λ (s : ScriptView). tasks_of (root_count s) x.steps.book.log + MADE * (executor_count (arc_value x.steps.script) + 1)) h.followed.book_is
    ∙ ap (λ (l : List Event). tasks_of (root_count script) l + MADE * (executor_count (arc_value x.steps.script) + 1)) h.followed.led.log_is
    ∙ ap (λ (s : ScriptView). tasks_of (root_count script) (standing script blocks).log + MADE * (executor_count s + 1)) own

few_too : (n m k : ℕ) → n ≡ m → n ≤ k → m ≤ k
few_too n m k same few = omega (arith, same, few)

over : (n m k : ℕ) → n ≡ m → (n ≤ k → ⊥) → k < m
over n m k same never = elim (before_or_past k m) [ inl lt ↦ lt | inr le ↦ absurd (never (few_too m n k (sym same) le)) ]

pub ahead_is : (script : ScriptView) (path : List Move) (a : Ahead) (x : SearchedHistory) → arc_value x.steps.script ≡ script → IsPath script path x → HasEachStep x a.steps.items → IfReached (IsOutcomeOf script) a.end
    → ((blocks : List Block) → IsHistory (arc_value x.steps.script) blocks x → IsKnownEnd (arc_value x.steps.script) blocks a.end) → (IsTrue a.has_room ↔ IsRoomy x) → IsAhead script path a
ahead_is script path a x own p each outcome ends room =
    let h : IsHistory (arc_value x.steps.script) p.blocks x = subst (λ (s : ScriptView). IsHistory s p.blocks x) (sym own) p.is in
    let many = many_tasks x script p.blocks own p.is in
    record {
      blocks = p.blocks;
      leads = path_leads script path x p;
      each = λ b may.
          (let there : MayFollow (arc_value x.steps.script) p.blocks b = subst (λ (s : ScriptView). MayFollow s p.blocks b) (sym own) may in
          subst (λ (s : ScriptView). IsChosen s a.steps.items p.blocks b) own (each p.blocks b h there.unfolded there.stands there.orderly));
      outcome = outcome;
      ends = subst (λ (s : ScriptView). IsKnownEnd s p.blocks a.end) own (ends p.blocks h);
      room = λ is. few_too _ _ TASKS many (room.0 is);
      short = λ none. record { blocks = p.blocks; stand = p.is.followed.led.stand; orderly = p.is.orderly; many = over _ _ TASKS many (λ few. false≢true (sym none ∙ room.1 few)) };
    }

report_too : (script : ScriptView) (blocks others : List Block) (report : ReportView) → LeadAlike script (starts script) blocks others → IsReportAfter script blocks report → IsReportAfter script others report
report_too script blocks others report alike is = record { outcome = outcome_too script (starts script) report blocks others alike is.outcome; many = is.many }

one_tried : (script : ScriptView) (x : Search) (path : List Move) (m : Move) → StepWasTried script x path (One m) → WasTriedLast script x path m
one_tried script x path m was = subst (λ (p : List Move). WasTriedLast script x p m) (append-nil path) was

module _ (script : ScriptView) (x : Search) (path : List Move) (a : Ahead) (ahead : IsAhead script path a) (tried : All (StepWasTried script x path) a.steps.items) where
  led_there : (blocks : List Block) → LeadsTo script path blocks → LeadAlike script (starts script) blocks ahead.blocks
  led_there blocks leads = same_path script blocks ahead.blocks path 0 leads.stand ahead.leads.stand leads.orderly ahead.leads.orderly leads.steps ahead.leads.steps

  tried_by : (blocks : List Block) (b : Block) → LeadsTo script path blocks → MayFollow script blocks b → (o : Other script blocks ahead.blocks b) → IsChosen script a.steps.items ahead.blocks o.block → WasTried script x blocks b ⊎ TurnWasTried script x path blocks b
  tried_by blocks b leads may o (inl one) =
      let b_stand = all_push script (starts script) blocks [] b leads.stand may.stands in
      let o_stand = all_push script (starts script) ahead.blocks [] o.block ahead.leads.stand o.may.stands in
      let was = one_tried script x path one.0 (All-contains (StepWasTried script x path) a.steps.items (One one.0) tried one.1) ahead.blocks o.block ahead.leads o.may one.2 in
      inl (record { kept = ahead_too script (paths_of x.nodes) (blocks ++ b ∷ []) (ahead.blocks ++ o.block ∷ []) b_stand o_stand o.same was.kept; whole = λ none breaks. was.whole none (o.breaks breaks) })
  tried_by blocks b leads may o (inr turn) = inr (record {
    task = turn.0;
    does = o.back (step.Begin turn.0) turn.2;
    away = same_away script (starts script) blocks ahead.blocks (led_there blocks leads) turn.0.0 ∙ turn.3;
    tried = All-contains (StepWasTried script x path) a.steps.items (Turn turn.0) tried turn.1;
  })

  -- a search that has tried each step after a path, and has its end, has gone on from it, where there is room
  pub expanded : ((blocks : List Block) → IsKnownEnd script blocks a.end → HasEnd script x.outcomes.items blocks) → IsTrue a.has_room → IsExpanded script x path
  expanded noted room = record {
    ends = λ blocks leads report of. noted ahead.blocks ahead.ends report (report_too script blocks ahead.blocks report (led_there blocks leads) of);
    room = λ blocks leads.
        (let same = same_tasks (standing script blocks).log (standing script ahead.blocks).log (led_there blocks leads).standing.digest (root_count script) in
        let few = ahead.room room in
        omega (arith, same, few));
    tried = λ blocks b leads may. (let o = other_led script path blocks ahead.blocks b leads ahead.leads may in tried_by blocks b leads may o (ahead.each o.block o.may));
  }

-- the path to a history that was followed after that of a node
pub kept_path : (script : ScriptView) (x : Search) (h : SearchedHistory) (path : List Move) (last : Move) (before : ℕ) (moves more : List Move) (f : Followed) → GoesFrom (paths_of x.nodes) before moves (path ++ last ∷ []) → IsFollowedAhead script path last h f moves more
    → IsPath script (path_after (paths_of x.nodes) before more) h
kept_path script x h path last before moves more f from by =
    let base : List Move = from.0 in
    let is : path_after (paths_of x.nodes) before more ≡ (path ++ last ∷ []) ++ by.moves =
    path_on (paths_of x.nodes) before more base from.1 ∙ ap (λ (ms : List Move). base ++ ms) by.after_is ∙ sym (append_assoc base moves by.moves) ∙ ap (λ (ms : List Move). ms ++ by.moves) from.2 in
    subst (λ (ms : List Move). IsPath script ms h) (sym is) by.path_is
