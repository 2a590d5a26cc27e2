-- Silent turns run ahead of a history that is followed.
use Rattle.swift_explorer.proofs.Prelude.{◌≡◌, ℕ, ℤ, List, [], ◌∷◌, ◌++◌, append_assoc, append-nil, refl, sym, subst, ap, ◌∙◌, true, false, Option, Some, None, arc_value, same_Some, false≢true, Env, TaskId, Resume, ScriptView, actor_executor, executor_invariants, method_actor, FrameView, Played, all_hold, Begin, JobStage, Given, Begun, Applied, Waits, Asks, Closes, Life, life_of, CheckpointView, RecordView, IfRunning, invariants_at, kept_turn, is_begun, is_under_way, JobFacts, task, Block, Standing, Stands, added, begun, folded, ran, at_first, after_block, fields_of, IsOrderly, standing, starts, fields_push, OneTurn, after_turn, after_turns, frame_is_silent, run_more, turns_more, Silent, frames_are, Move, NextTurn, SearchedHistory, Followed, AllWhole, AreTurns, GoesAlone, GoesOnAtOnce, IsAsBefore, IsNotLost, IsQuietAt, RanAhead, RanTurn, RunsAhead, RunsTurn, StartsHold, TurnGoesOn, any_env, given_at, given_view, RunsAt, GoesOn, IsHistory, IsPath, IsSomeHistory, IsFollowedAhead, IsFollowedBy, AreSteps, BreaksInvariant, IsStep, roots_over}
use Rattle.swift_events.proofs.LogLemmas.{life_of-push_same}
use Rattle.swift_laws.proofs.HistoriesCounted.{HasNumber}
use Rattle.swift_laws.proofs.HistoriesTurns.{after_push, current_is}
use Rattle.swift_reordering.proofs.Apart.{all_plain, always_apart, apart_first}
use Rattle.swift_reordering.proofs.Bringing.{number_one}
use Rattle.swift_reordering.proofs.Holding.{hold_always}
use Rattle.swift_reordering.proofs.SilentPlay.{silent_turn}
use Rattle.swift_explorer.specs.declared.ahead.TurnAhead.{TurnAhead}
use Rattle.swift_explorer.specs.declared.ahead.TurnAhead.TheVariants.{Lost, Ran, Stays}
use Rattle.swift_explorer.specs.declared.moves.Move.TheVariants as step
use Rattle.swift_explorer.proofs.LooksAway.{looks_there}
use Rattle.swift_explorer.proofs.First.{mapped}
use Rattle.swift_explorer.proofs.Paths.{roots_push, steps_push}
use Rattle.swift_explorer.proofs.Trying.{allowed_last, parted}

-- exits

given_stage : (o : Option JobStage) → is_under_way o ≡ true → is_begun o ≡ false → o ≡ Some Given
given_stage (Some Given) under not = refl
given_stage (Some (Begun env)) under not = absurd (false≢true (sym not))
given_stage None under not = absurd (false≢true under)
given_stage (Some Applied) under not = absurd (false≢true under)
given_stage (Some (Waits t)) under not = absurd (false≢true under)
given_stage (Some (Asks g)) under not = absurd (false≢true under)
given_stage (Some (Closes g)) under not = absurd (false≢true under)

begin_block : (t : TaskId) (r : ℕ) (b : Block) → IsStep r (step.Begin t) b → (n : ℕ) × (env : Env) × (b ≡ begun t.0 n env)
begin_block t r (begun u n env) is = (n, env, ap (λ (v : ℕ). begun v n env) is)
begin_block t r (added u) is = absurd is
begin_block t r (ran e q) is = absurd is
begin_block t r (folded e f) is = absurd is

run_block : (t : TaskId) (r : ℕ) (b : Block) → IsStep r (step.Run t) b → (e : ℕ) × (q : RecordView) × (q.task ≡ t.0) × (b ≡ ran e q)
run_block t r (ran e q) is = (e, q, is, refl)
run_block t r (added u) is = absurd is
run_block t r (begun u n env) is = absurd is
run_block t r (folded e f) is = absurd is

if_first : (fs callers : List FrameView) (p : FrameView) (P : FrameView → Type 0) → fs ≡ p ∷ callers → IfRunning fs P → P p
if_first fs callers p P is holds = subst (λ (gs : List FrameView). IfRunning gs P) is holds

-- a turn has begun and run: it is silent, and goes on alone, or ends its task unseen
module _ (blocks : List Block) (x w z : SearchedHistory) (t : TaskId) (place : ℕ) (hold : StartsHold (arc_value x.steps.script)) (h : IsHistory (arc_value x.steps.script) blocks x) (quiet : IsQuietAt x t) (at_place : RunsAt (arc_value x.steps.script) x.steps.tasks.items t place)
    (alone : GoesAlone x t place) (n : ℕ) (env : Env) (e : ℕ) (r : RecordView) (task_is : r.task ≡ t.0)
    (mid : IsHistory (arc_value x.steps.script) (blocks ++ begun t.0 n env ∷ []) w) (is : IsHistory (arc_value x.steps.script) ((blocks ++ begun t.0 n env ∷ []) ++ ran e r ∷ []) z)
    (same : z.steps.roots ≡ x.steps.roots) where
  abbrev script : ScriptView
  script = arc_value x.steps.script

  abbrev cps : List CheckpointView
  cps = starts script

  abbrev s : Standing
  s = standing script blocks

  abbrev b : Block
  b = begun t.0 n env

  abbrev front : List Block
  front = blocks ++ b ∷ []

  begins : Stands script cps blocks b
  begins = parted script cps blocks [] b mid.followed.led.stand

  orderly : IsOrderly script blocks b
  orderly = allowed_last (IsOrderly script) blocks [] b mid.orderly

  runs : Stands script cps front (ran e r)
  runs = parted script cps front [] (ran e r) is.followed.led.stand

  to_mid : standing script front ≡ after_block script s b
  to_mid = after_push script (at_first script) blocks b

  jobs : s.jobs t.0 ≡ Some runs.job
  jobs = ap (λ (a : Standing). a.jobs t.0) (sym to_mid) ∙ ap (standing script front).jobs (sym task_is) ∙ runs.stands.given

  one : (g : NextTurn) × (given_at x.steps.tasks.items t.0 ≡ Some g) × (given_view t.0 g ≡ runs.job)
  one = mapped (given_view t.0) (given_at x.steps.tasks.items t.0) runs.job (sym (h.followed.led.given t.0) ∙ jobs)

  frames : one.0.body.task.frames ≡ r.frame ∷ runs.stands.runs.0
  frames = ap (λ (j : JobFacts). j.frames.frames) one.2 ∙ runs.stands.runs.1

  own : one.0.body.script ≡ script
  own = (h.followed.scripts t.0 one.0 one.1).script_is

  seat : e ≡ place
  seat = sym runs.stands.on ∙ ap (λ (sc : ScriptView). actor_executor script (method_actor sc r.frame.method)) (sym own)
      ∙ if_first one.0.body.task.frames runs.stands.runs.0 r.frame (λ p. actor_executor script (method_actor one.0.body.script p.method) ≡ place) frames (at_place.on one.0 one.1)

  still : frame_is_silent script r.frame ≡ true
  still =
      let same : one.0 ≡ quiet.silent.0 = same_Some one.0 quiet.silent.0 (sym one.1 ∙ quiet.silent.1) in
      ap (frames_are Silent script) (sym frames) ∙ ap (λ (g : NextTurn). frames_are Silent script g.body.task.frames) same ∙ quiet.silent.2

  abbrev rows : List (List ℤ)
  rows = alone.0

  same_rows : fields_of script cps e front ≡ rows
  same_rows = fields_push script cps e blocks b ∙ ap (λ (k : ℕ). fields_of script cps k blocks) seat ∙ sym (h.followed.led.fields_are place rows alone.1)

  abbrev f : List (List ℤ)
  f = fields_of script cps e front

  holds : all_hold (invariants_at script r.frame) f ≡ true
  holds = ap (λ (k : ℕ). all_hold (executor_invariants script k) f) runs.stands.on ∙ hold_always script cps e (hold e) front mid.followed.led.stand

  exit_is : r.exit ≡ (kept_turn one.0.body.script r.frame one.0.body.task.outer rows one.0.resume any_env).exit
  exit_is =
      let p = silent_turn script r.frame r.outer f f r.resume r.env any_env still holds holds in
      let resume : r.resume ≡ one.0.resume = runs.resume ∙ ap (λ (j : JobFacts). j.resume) (sym one.2) in
      let outer : r.outer ≡ one.0.body.task.outer = runs.outer ∙ ap (λ (j : JobFacts). j.frames.outer) (sym one.2) in
      runs.lawful.exit ∙ ap (λ (k : Played). k.exit) p.one ∙ sym (ap (λ (k : Played). k.exit) p.two)
      ∙ ap (λ (o : List (ℕ × ℤ)). (kept_turn script r.frame o f r.resume any_env).exit) outer
      ∙ ap (λ (fs : List (List ℤ)). (kept_turn script r.frame one.0.body.task.outer fs r.resume any_env).exit) same_rows
      ∙ ap (λ (x : Resume). (kept_turn script r.frame one.0.body.task.outer rows x any_env).exit) resume
      ∙ ap (λ (sc : ScriptView). (kept_turn sc r.frame one.0.body.task.outer rows one.0.resume any_env).exit) (sym own)

  goes : GoesOnAtOnce script t.0 runs.stands.runs.0 r.exit
  goes = subst (GoesOnAtOnce script t.0 runs.stands.runs.0) (sym exit_is) (subst (λ (fs : List FrameView). TurnGoesOn script t.0 one.0.body.script fs one.0.body.task.outer rows one.0.resume) frames (alone.2 one.0 one.1))

  abbrev life : Life
  life = life_of t.0 s.log

  life_mid : life_of t.0 (standing script front).log ≡ record life { stage = Some (Begun env) }
  life_mid = ap (λ (a : Standing). life_of t.0 a.log) to_mid ∙ life_of-push_same t.0 s.log (Begin (task t.0) n env) refl

  before : HasNumber life.given n × (is_under_way life.stage ≡ true)
  before = current_is life n begins.0.resume begins.2

  number_is : r.number ≡ n
  number_is =
      let now = current_is (life_of r.task (standing script front).log) r.number runs.job.resume runs.stands.current in
      let here : HasNumber life.given r.number = subst (λ (l : Life). HasNumber l.given r.number) (ap (λ (u : ℕ). life_of u (standing script front).log) task_is ∙ life_mid) now.0 in
      number_one life.given r.number n here before.0

  pub ran_silently : RanTurn script blocks x z t
  ran_silently = record {
    turn = record { task = t.0; number = n; env = env; executor = e; turn = r };
    runs = record {
      silent = record {
        begins = begins;
        runs = runs;
        given = given_stage life.stage before.1 (orderly.1 t.0 refl);
        own = task_is;
        number = number_is;
        quiet = still;
        alone = goes.0;
        unnamed = goes.1;
        apart = λ is. always_apart script cps t.0 (goes.1 is) blocks [] h.followed.led.stand (all_plain blocks h.none_folded) (apart_first t.0);
      };
      away = looks_there x blocks t h quiet.away;
    };
    is = is;
    task_is = refl;
    own = task_is;
    whole = goes.2;
    roots = same;
  }

-- where it was followed step by step
pub runs_turn : (x y w z : SearchedHistory) (t : TaskId) (place : ℕ) (f g : Followed) → StartsHold (arc_value x.steps.script) → IsQuietAt x t → RunsAt (arc_value x.steps.script) x.steps.tasks.items t place → GoesAlone x t place → IsAsBefore x y
    → w.steps.script ≡ y.steps.script → GoesOn (step.Begin t) y w f → z.steps.script ≡ w.steps.script → GoesOn (step.Run t) w z g → RunsTurn x z t
runs_turn x y w z t place f g hold quiet at_place alone before same_w goes same_z runs =
    let script = arc_value x.steps.script in
    let own_y : arc_value y.steps.script ≡ script = ap arc_value before.script_is in
    let own_w : arc_value w.steps.script ≡ script = ap arc_value same_w ∙ own_y in
    record {
      script_is = same_z ∙ same_w ∙ before.script_is;
      ran = λ blocks h.
          (let h_y = subst (λ (s : ScriptView). IsHistory s blocks y) (sym own_y) (before.is blocks h) in
          let one = goes blocks h_y in
          let b = begin_block t y.steps.roots one.0 one.1 in
          let c : Block = begun t.0 b.0 b.1 in
          let mid : IsHistory script (blocks ++ c ∷ []) w = subst (λ (k : Block). IsHistory script (blocks ++ k ∷ []) w) b.2 (subst (λ (s : ScriptView). IsHistory s (blocks ++ one.0 ∷ []) w) own_y one.2) in
          let two = runs (blocks ++ c ∷ []) (subst (λ (s : ScriptView). IsHistory s (blocks ++ c ∷ []) w) (sym own_w) mid) in
          let d = run_block t w.steps.roots two.0 two.1 in
          let last : IsHistory script ((blocks ++ c ∷ []) ++ ran d.0 d.1 ∷ []) z =
          subst (λ (k : Block). IsHistory script ((blocks ++ c ∷ []) ++ k ∷ []) z) d.3 (subst (λ (s : ScriptView). IsHistory s ((blocks ++ c ∷ []) ++ two.0 ∷ []) z) own_w two.2) in
          ran_silently blocks x w z t place hold h quiet at_place alone b.0 b.1 d.0 d.1 d.2 mid last (two.3 ∙ one.3 ∙ before.roots));
    }

-- turns, one after the other

turns_push : (ms : List Move) (xs : List OneTurn) (t : TaskId) (o : OneTurn) → AreTurns ms xs → o.task ≡ t.0 → o.turn.task ≡ t.0 → AreTurns (ms ++ step.Begin t ∷ step.Run t ∷ []) (xs ++ o ∷ [])
turns_push [] [] t o are first last = (first, last, tt)
turns_push (step.Begin u ∷ step.Run v ∷ ms) (x ∷ xs) t o are first last = (are.0, are.1, turns_push ms xs t o are.2 first last)
turns_push [] (x ∷ xs) t o are first last = absurd are
turns_push (step.Begin u ∷ step.Run v ∷ ms) [] t o are first last = absurd are
turns_push (step.Add ∷ ms) xs t o are first last = absurd are
turns_push (step.Run u ∷ ms) xs t o are first last = absurd are
turns_push (step.Begin u ∷ []) xs t o are first last = absurd are
turns_push (step.Begin u ∷ step.Add ∷ ms) xs t o are first last = absurd are
turns_push (step.Begin u ∷ step.Begin v ∷ ms) xs t o are first last = absurd are

whole_push : (xs : List OneTurn) (o : OneTurn) → AllWhole xs → (BreaksInvariant o.turn.exit → ⊥) → AllWhole (xs ++ o ∷ [])
whole_push [] o all last = (last, tt)
whole_push (x ∷ xs) o all last = (all.0, whole_push xs o all.1 last)

pub ahead_none : (x : SearchedHistory) (ms : List Move) → RunsAhead x x ms ms
ahead_none x ms = record { moves = []; after_is = sym (append-nil ms); script_is = refl; ran = λ blocks h. record { turns = []; run = tt; is = h; steps = tt; whole = tt; roots = refl } }

-- a turn that stays changes nothing
pub ahead_stays : (x y z : SearchedHistory) (ms ns : List Move) → RunsAhead x y ms ns → IsAsBefore y z → RunsAhead x z ms ns
ahead_stays x y z ms ns ahead same = record {
  moves = ahead.moves;
  after_is = ahead.after_is;
  script_is = same.script_is ∙ ahead.script_is;
  ran = λ blocks h.
      (let a = ahead.ran blocks h in
      let own : arc_value y.steps.script ≡ arc_value x.steps.script = ap arc_value ahead.script_is in
      record { turns = a.turns; run = a.run; is = subst (λ (s : ScriptView). IsHistory s (after_turns blocks a.turns) z) own (same.is (after_turns blocks a.turns) (subst (λ (s : ScriptView). IsHistory s (after_turns blocks a.turns) y) (sym own) a.is)); steps = a.steps; whole = a.whole; roots = same.roots ∙ a.roots });
}

-- one turn more
pub ahead_push : (x y z : SearchedHistory) (ms ns more : List Move) (t : TaskId) → RunsAhead x y ms ns → RunsTurn y z t → more ≡ ns ++ step.Begin t ∷ step.Run t ∷ [] → RunsAhead x z ms more
ahead_push x y z ms ns more t ahead turn pushed =
    let two : List Move = step.Begin t ∷ step.Run t ∷ [] in
    record {
      moves = ahead.moves ++ two;
      after_is = pushed ∙ ap (λ (l : List Move). l ++ two) ahead.after_is ∙ append_assoc ms ahead.moves two;
      script_is = turn.script_is ∙ ahead.script_is;
      ran = λ blocks h.
          (let a = ahead.ran blocks h in
          let script = arc_value x.steps.script in
          let far : List Block = after_turns blocks a.turns in
          let own : arc_value y.steps.script ≡ script = ap arc_value ahead.script_is in
          let r : RanTurn script far y z t = subst (λ (s : ScriptView). RanTurn s far y z t) own (turn.ran far (subst (λ (s : ScriptView). IsHistory s far y) (sym own) a.is)) in
          record {
            turns = a.turns ++ r.turn ∷ [];
            run = run_more script (starts script) a.turns (r.turn ∷ []) blocks a.run (r.runs, tt);
            is = subst (λ (bs : List Block). IsHistory script bs z) (sym (turns_more a.turns (r.turn ∷ []) blocks)) r.is;
            steps = turns_push ahead.moves a.turns t r.turn a.steps r.task_is r.own;
            whole = whole_push a.turns r.turn a.whole r.whole;
            roots = r.roots ∙ a.roots;
          });
    }

pub ahead_some : (x y : SearchedHistory) (ms ns : List Move) → RunsAhead x y ms ns → IsSomeHistory x → IsSomeHistory y
ahead_some x y ms ns ahead some =
    let a = ahead.ran some.0 some.1 in
    (after_turns some.0 a.turns, subst (λ (s : ScriptView). IsHistory s (after_turns some.0 a.turns) y) (sym (ap arc_value ahead.script_is)) a.is)

-- the path to where they lead

steps_more : (ms : List Move) (xs : List OneTurn) (path : List Move) (n : ℕ) (blocks : List Block) → AreTurns ms xs → AreSteps n path blocks → AreSteps n (path ++ ms) (after_turns blocks xs)
steps_more [] [] path n blocks are steps = subst (λ (p : List Move). AreSteps n p blocks) (sym (append-nil path)) steps
steps_more (step.Begin t ∷ step.Run u ∷ ms) (x ∷ xs) path n blocks are steps =
    let one = steps_push path n blocks (step.Begin t) (begun x.task x.number x.env) steps are.0 in
    let two = steps_push (path ++ step.Begin t ∷ []) n (blocks ++ begun x.task x.number x.env ∷ []) (step.Run u) (ran x.executor x.turn) one are.1 in
    let far : ((path ++ step.Begin t ∷ []) ++ step.Run u ∷ []) ++ ms ≡ path ++ step.Begin t ∷ step.Run u ∷ ms = append_assoc (path ++ step.Begin t ∷ []) (step.Run u ∷ []) ms ∙ append_assoc path (step.Begin t ∷ []) (step.Run u ∷ ms) in
    subst (λ (p : List Move). AreSteps n p (after_turns (after_turn blocks x) xs)) far (steps_more ms xs ((path ++ step.Begin t ∷ []) ++ step.Run u ∷ []) n (after_turn blocks x) are.2 two)
steps_more [] (x ∷ xs) path n blocks are steps = absurd are
steps_more (step.Begin u ∷ step.Run v ∷ ms) [] path n blocks are steps = absurd are
steps_more (step.Add ∷ ms) xs path n blocks are steps = absurd are
steps_more (step.Run u ∷ ms) xs path n blocks are steps = absurd are
steps_more (step.Begin u ∷ []) xs path n blocks are steps = absurd are
steps_more (step.Begin u ∷ step.Add ∷ ms) xs path n blocks are steps = absurd are
steps_more (step.Begin u ∷ step.Begin v ∷ ms) xs path n blocks are steps = absurd are

roots_more : (ms : List Move) (xs : List OneTurn) (path : List Move) (n : ℕ) → AreTurns ms xs → roots_over n (path ++ ms) ≡ roots_over n path
roots_more [] [] path n are = ap (roots_over n) (append-nil path)
roots_more (step.Begin t ∷ step.Run u ∷ ms) (x ∷ xs) path n are =
    let far : ((path ++ step.Begin t ∷ []) ++ step.Run u ∷ []) ++ ms ≡ path ++ step.Begin t ∷ step.Run u ∷ ms = append_assoc (path ++ step.Begin t ∷ []) (step.Run u ∷ []) ms ∙ append_assoc path (step.Begin t ∷ []) (step.Run u ∷ ms) in
    ap (roots_over n) (sym far) ∙ roots_more ms xs ((path ++ step.Begin t ∷ []) ++ step.Run u ∷ []) n are.2 ∙ roots_push (path ++ step.Begin t ∷ []) n (step.Run u) ∙ roots_push path n (step.Begin t)
roots_more [] (x ∷ xs) path n are = absurd are
roots_more (step.Begin u ∷ step.Run v ∷ ms) [] path n are = absurd are
roots_more (step.Add ∷ ms) xs path n are = absurd are
roots_more (step.Run u ∷ ms) xs path n are = absurd are
roots_more (step.Begin u ∷ []) xs path n are = absurd are
roots_more (step.Begin u ∷ step.Add ∷ ms) xs path n are = absurd are
roots_more (step.Begin u ∷ step.Begin v ∷ ms) xs path n are = absurd are

-- the roots that were added are told by the blocks
pub path_ahead : (script : ScriptView) (path : List Move) (x y : SearchedHistory) (ms ns : List Move) → arc_value x.steps.script ≡ script → IsPath script path x → (ahead : RunsAhead x y ms ns) → IsPath script (path ++ ahead.moves) y
path_ahead script path x y ms ns own p ahead =
    let a : RanAhead script p.blocks x y ahead.moves = subst (λ (s : ScriptView). RanAhead s p.blocks x y ahead.moves) own (ahead.ran p.blocks (subst (λ (s : ScriptView). IsHistory s p.blocks x) (sym own) p.is)) in
    record {
      blocks = after_turns p.blocks a.turns;
      steps = steps_more ahead.moves a.turns path 0 p.blocks a.steps p.steps;
      is = a.is;
      roots = a.roots ∙ p.roots ∙ sym (roots_more ahead.moves a.turns path 0 a.steps);
    }

-- steps that were followed, with silent turns after them
pub followed_ahead : (script : ScriptView) (path : List Move) (m : Move) (y z : SearchedHistory) (done : Followed) (before after : List Move) → IsFollowedBy script path m y done → IsPath script (path ++ m ∷ []) y → RunsAhead y z before after
    → IsFollowedAhead script path m z done before after
followed_ahead script path m y z done before after f p ahead =
    let own : arc_value y.steps.script ≡ script = f.is.followed.script_is in
    let here : List Block = f.blocks ++ f.last ∷ [] in
    let a : RanAhead script here y z ahead.moves = subst (λ (s : ScriptView). RanAhead s here y z ahead.moves) own (ahead.ran here (subst (λ (s : ScriptView). IsHistory s here y) (sym own) f.is)) in
    record {
      blocks = f.blocks;
      last = f.last;
      leads = f.leads;
      follows = f.follows;
      does = f.does;
      whole = f.whole;
      moves = ahead.moves;
      after_is = ahead.after_is;
      path_is = path_ahead script (path ++ m ∷ []) y z before after own p ahead;
      turns = a.turns;
      run = a.run;
      is = a.is;
      quiet = a.whole;
    }

turns_join : (ms : List Move) (xs : List OneTurn) (ns : List Move) (ys : List OneTurn) → AreTurns ms xs → AreTurns ns ys → AreTurns (ms ++ ns) (xs ++ ys)
turns_join [] [] ns ys are more = more
turns_join (step.Begin u ∷ step.Run v ∷ ms) (x ∷ xs) ns ys are more = (are.0, are.1, turns_join ms xs ns ys are.2 more)
turns_join [] (x ∷ xs) ns ys are more = absurd are
turns_join (step.Begin u ∷ step.Run v ∷ ms) [] ns ys are more = absurd are
turns_join (step.Add ∷ ms) xs ns ys are more = absurd are
turns_join (step.Run u ∷ ms) xs ns ys are more = absurd are
turns_join (step.Begin u ∷ []) xs ns ys are more = absurd are
turns_join (step.Begin u ∷ step.Add ∷ ms) xs ns ys are more = absurd are
turns_join (step.Begin u ∷ step.Begin v ∷ ms) xs ns ys are more = absurd are

whole_join : (xs ys : List OneTurn) → AllWhole xs → AllWhole ys → AllWhole (xs ++ ys)
whole_join [] ys all more = more
whole_join (x ∷ xs) ys all more = (all.0, whole_join xs ys all.1 more)

-- one after the other
pub ahead_on : (x y z : SearchedHistory) (ms ns more : List Move) → RunsAhead x y ms ns → RunsAhead y z ns more → RunsAhead x z ms more
ahead_on x y z ms ns more one two = record {
  moves = one.moves ++ two.moves;
  after_is = two.after_is ∙ ap (λ (l : List Move). l ++ two.moves) one.after_is ∙ append_assoc ms one.moves two.moves;
  script_is = two.script_is ∙ one.script_is;
  ran = λ blocks h.
      (let a = one.ran blocks h in
      let script = arc_value x.steps.script in
      let far : List Block = after_turns blocks a.turns in
      let own : arc_value y.steps.script ≡ script = ap arc_value one.script_is in
      let b : RanAhead script far y z two.moves = subst (λ (s : ScriptView). RanAhead s far y z two.moves) own (two.ran far (subst (λ (s : ScriptView). IsHistory s far y) (sym own) a.is)) in
      record {
        turns = a.turns ++ b.turns;
        run = run_more script (starts script) a.turns b.turns blocks a.run b.run;
        is = subst (λ (bs : List Block). IsHistory script bs z) (sym (turns_more a.turns b.turns blocks)) b.is;
        steps = turns_join one.moves a.turns two.moves b.turns a.steps b.steps;
        whole = whole_join a.turns b.turns a.whole b.whole;
        roots = b.roots ∙ a.roots;
      });
}

pub not_lost : (a : TurnAhead) → (a ≡ Lost → ⊥) → IsNotLost a
not_lost Lost never = absurd (never refl)
not_lost Ran never = tt
not_lost Stays never = tt

pub stays_ahead : (x z : SearchedHistory) (ms : List Move) → IsAsBefore x z → RunsAhead x z ms ms
stays_ahead x z ms same = ahead_stays x x z ms ms (ahead_none x ms) same

pub ran_ahead : (x z : SearchedHistory) (ms two more : List Move) (t : TaskId) → RunsTurn x z t → two ≡ ms ++ step.Begin t ∷ [] → more ≡ two ++ step.Run t ∷ [] → RunsAhead x z ms more
ran_ahead x z ms two more t turn first last = ahead_push x x z ms ms more t (ahead_none x ms) turn (last ∙ ap (λ (l : List Move). l ++ step.Run t ∷ []) first ∙ append_assoc ms (step.Begin t ∷ []) (step.Run t ∷ []))
