-- A silent turn is brought to the front.
use Rattle.swift_reordering.proofs.Prelude.{◌≡◌, ◌≢◌, ℕ, List, [], ◌∷◌, ◌++◌, length, refl, sym, ◌∙◌, ap, ap₂, subst, subst₂, true, inl, inr, append_assoc, arith, Option, Some, None, Env, ScriptView, root_count, executor_invariants, ExitView, all_hold, RecordView, CheckpointView, LastJob, life_of, task, Block, added, begun, ran, folded, at_first, after_blocks, checkpoint_at, Stands, AllStand, AllAllowed, IsOrderly, ActorsHaveExecutors, HasNumber, current_is, AreLike, LeadAlike, determined, determined_exit, one_env, lead_on, all_push, RunsNext, BeginLate, HasExit, IsOfOther, IsSilentTurn, Commutes, OwnNext, GoesFirst, SilentTurnsMayGoFirst, turn_looks_away}
use Rattle.swift_reordering.proofs.Walks.{IsCourse, course_push}
use Rattle.swift_reordering.proofs.Priorities.{cons_cases, cons_here, cons_more}
use Rattle.swift_reordering.proofs.Carrying.{carry, late_rest, runs_like, plain_like}
use Rattle.swift_reordering.proofs.Closed.{stand_after, allowed_after, exit_too}
use Rattle.swift_reordering.proofs.Waits.{course_front}
use Rattle.swift_reordering.proofs.Diamonds.{silent_commutes}
use Rattle.swift_reordering.proofs.Holding.{hold_always}
use Rattle.swift_reordering.proofs.SilentSteps.{silent_looks}

pub like_many : (script : ScriptView) (xs ys : List Block) → AreLike script xs ys → length ys ≡ length xs
like_many script [] [] like = refl
like_many script (x ∷ xs) (y ∷ ys) like = (let rest = like_many script xs ys like.1 in omega (arith, rest))
like_many script _ _ like = absurd like

pub number_one : (g : Option LastJob) (n m : ℕ) → HasNumber g n → HasNumber g m → n ≡ m
number_one None n m one two = absurd one
number_one (Some g) n m one two = sym one ∙ two

module _ (script : ScriptView) (cps : List CheckpointView) (on : ActorsHaveExecutors script) (t n e : ℕ) (hold : all_hold (executor_invariants script e) (checkpoint_at cps e).fields ≡ true) where
  -- its own turn, which has begun in the same environment
  own_same : (before bs : List Block) (env : Env) (r : RecordView) (k : ℕ) (q : RecordView) → AllStand script cps [] before → IsSilentTurn script cps before t n env e r → AllStand script cps before (begun t n env ∷ ran k q ∷ bs)
      → AllAllowed (IsOrderly script) before (begun t n env ∷ ran k q ∷ bs) → BeginLate script before (begun t n env ∷ ran k q ∷ bs) → q.task ≡ t → GoesFirst script cps before (begun t n env ∷ ran k q ∷ bs) t n env e r
  own_same before bs env r k q stand silent all may late own =
      let mid : AllStand script cps [] (before ++ begun t n env ∷ []) = all_push script cps before [] (begun t n env) stand silent.begins in
      let is = determined script cps (before ++ begun t n env ∷ []) k e q r mid all.1.0 silent.runs (own ∙ sym silent.own) in
      let exit : q.exit ≡ r.exit = determined_exit script cps (before ++ begun t n env ∷ []) k e q r all.1.0 silent.runs (own ∙ sym silent.own) in
      let o = carry script cps bs ((before ++ begun t n env ∷ []) ++ ran k q ∷ []) ((before ++ begun t n env ∷ []) ++ ran e r ∷ [])
      (all_push script cps (before ++ begun t n env ∷ []) [] (ran k q) mid all.1.0) (all_push script cps (before ++ begun t n env ∷ []) [] (ran e r) mid silent.runs) is.1 all.1.1 may.1.1 late.1 in
      let many = like_many script bs o.rest o.like in
      let far : (d : Block) (xs : List Block) → ((before ++ begun t n env ∷ []) ++ d ∷ []) ++ xs ≡ before ++ begun t n env ∷ d ∷ xs = λ d xs. append_assoc (before ++ begun t n env ∷ []) (d ∷ []) xs ∙ append_assoc before (begun t n env ∷ []) (d ∷ xs) in
      record {
        others = o.rest;
        stand = (silent.begins, (silent.runs, o.stand));
        many = omega (arith, many);
        lead = subst₂ (LeadAlike script cps) (far (ran k q) bs) (far (ran e r) o.rest) o.lead;
        orderly = o.orderly;
        late = o.late;
        next = λ u ne runs. absurd runs;
        plain = λ all. plain_like script cps bs o.rest o.like all.1.1;
        exits = λ x p has. elim (cons_cases (begun t n env) (ran k q ∷ bs) (ran x p) has) [
          | inl no_turn ↦ absurd (cc no_turn)
          | inr more ↦ elim (cons_cases (ran k q) bs (ran x p) more) [
            | inl here ↦
                let seat : k ≡ x = cc here in
                let turn : q ≡ p = cc here in
                record { turn = r; there = cons_here (ran e r) o.rest (ran x r) (ap (λ (y : ℕ). ran y r) (sym is.0 ∙ seat)); exit_is = sym exit ∙ ap (λ (y : RecordView). y.exit) turn }
            | inr later ↦ (let y = exit_too script bs o.rest x p o.like later in record { turn = y.turn; there = cons_more (ran e r) o.rest (ran x y.turn) y.there; exit_is = y.exit_is })
          ]
        ];
      }

  -- its own begin and run come next
  own_first : (before bs : List Block) (env : Env) (r : RecordView) (m : ℕ) (other : Env) → AllStand script cps [] before → IsSilentTurn script cps before t n env e r → AllStand script cps before (begun t m other ∷ bs)
      → AllAllowed (IsOrderly script) before (begun t m other ∷ bs) → BeginLate script before (begun t m other ∷ bs) → RunsNext t bs → GoesFirst script cps before (begun t m other ∷ bs) t n env e r
  own_first before (ran k q ∷ bs) env r m other stand silent all may late next =
      let log = (after_blocks script (at_first script) before).log in
      let same_number : m ≡ n = number_one (life_of t log).given m n (current_is (life_of t log) m all.0.0.resume all.0.2).0 (current_is (life_of t log) n silent.begins.0.resume silent.begins.2).0 in
      let same_env : other ≡ env = one_env (root_count script) (task t) log other env all.0.3 silent.begins.3 in
      let same : begun t m other ≡ begun t n env = ap₂ (λ (x : ℕ) (y : Env). begun t x y) same_number same_env in
      let own_all : AllStand script cps before (begun t n env ∷ ran k q ∷ bs) = subst (λ (b : Block). AllStand script cps before (b ∷ ran k q ∷ bs)) same all in
      let own_may : AllAllowed (IsOrderly script) before (begun t n env ∷ ran k q ∷ bs) = subst (λ (b : Block). AllAllowed (IsOrderly script) before (b ∷ ran k q ∷ bs)) same may in
      let own_late : BeginLate script before (begun t n env ∷ ran k q ∷ bs) = subst (λ (b : Block). BeginLate script before (b ∷ ran k q ∷ bs)) same late in
      subst (λ (b : Block). GoesFirst script cps before (b ∷ ran k q ∷ bs) t n env e r) (sym same) (own_same before bs env r k q stand silent own_all own_may own_late next)
  own_first before [] env r m other stand silent all may late next = absurd next
  own_first before (added x ∷ bs) env r m other stand silent all may late next = absurd next
  own_first before (begun u x y ∷ bs) env r m other stand silent all may late next = absurd next
  own_first before (folded x y ∷ bs) env r m other stand silent all may late next = absurd next

  exit_past : (r : RecordView) (other : Env) (k : ℕ) (exit : ExitView) (b : Block) (xs cs : List Block) → AreLike script xs cs → HasExit (ran e (record r { env = other }) ∷ xs) k exit → HasExit (ran e r ∷ b ∷ cs) k exit
  exit_past r other k exit b xs cs like has = elim (cons_cases (ran e (record r { env = other })) xs (ran k has.turn) has.there) [
    | inl here ↦
        let seat : e ≡ k = cc here in
        let turn : record r { env = other } ≡ has.turn = cc here in
        record { turn = r; there = cons_here (ran e r) (b ∷ cs) (ran k r) (ap (λ (y : ℕ). ran y r) seat); exit_is = ap (λ (y : RecordView). y.exit) turn ∙ has.exit_is }
    | inr later ↦
        let y = exit_too script xs cs k has.turn like later in
        record { turn = y.turn; there = cons_more (ran e r) (b ∷ cs) (ran k y.turn) (cons_more b cs (ran k y.turn) y.there); exit_is = y.exit_is ∙ has.exit_is }
  ]

  -- past a block of another task
  late_past : (b : Block) (bs cs xs before after : List Block) → IsOfOther t b → ((u : ℕ) → u ≢ t → turn_looks_away script (after_blocks script (at_first script) after) u ≡ turn_looks_away script (after_blocks script (at_first script) before) u)
      → BeginLate script before (b ∷ bs) → ((u : ℕ) → u ≢ t → RunsNext u bs → RunsNext u xs) → AreLike script xs cs → BeginLate script (after ++ b ∷ []) cs → BeginLate script after (b ∷ cs)
  late_past (begun u m x) bs cs xs before after of_other looks late next like more =
      (λ away. runs_like script u xs cs like (next u of_other (late.0 (sym (looks u of_other) ∙ away))), more)
  late_past _ bs cs xs before after of_other looks late next like more = more

  next_past : (b : Block) (bs cs : List Block) (u : ℕ) → RunsNext u (b ∷ bs) → RunsNext u (b ∷ cs)
  next_past (ran k q) bs cs u is = is
  next_past _ bs cs u is = absurd is

  past : (before bs : List Block) (env : Env) (r : RecordView) (b : Block) (c : Commutes script cps before t n env e r b) → AllStand script cps [] before → IsSilentTurn script cps before t n env e r → Stands script cps before b
      → IsOrderly script before b → IsOfOther t b → BeginLate script before (b ∷ bs)
      → GoesFirst script cps (before ++ b ∷ []) bs t n c.other e (record r { env = c.other }) → GoesFirst script cps before (b ∷ bs) t n env e r
  past before bs env r b c stand silent stands_b may of_other late g =
      let x : Block = begun t n env in
      let y : Block = ran e r in
      let x2 : Block = begun t n c.other in
      let y2 : Block = ran e (record r { env = c.other }) in
      let hb : List Block = before ++ b ∷ [] in
      let hb_stand : AllStand script cps [] hb = all_push script cps before [] b stand stands_b in
      let left_stand : AllStand script cps [] ((hb ++ x2 ∷ []) ++ y2 ∷ []) = all_push script cps (hb ++ x2 ∷ []) [] y2 (all_push script cps hb [] x2 hb_stand c.later.begins) c.later.runs in
      let after_stand : AllStand script cps [] ((before ++ x ∷ []) ++ y ∷ []) = all_push script cps (before ++ x ∷ []) [] y (all_push script cps before [] x stand silent.begins) silent.runs in
      let right_stand = all_push script cps ((before ++ x ∷ []) ++ y ∷ []) [] b after_stand c.first in
      let o = carry script cps g.others ((hb ++ x2 ∷ []) ++ y2 ∷ []) (((before ++ x ∷ []) ++ y ∷ []) ++ b ∷ []) left_stand right_stand c.lead g.stand.1.1 g.orderly g.late in
      let many = like_many script g.others o.rest o.like in
      let was = g.many in
      let far : ((hb ++ x2 ∷ []) ++ y2 ∷ []) ++ g.others ≡ hb ++ x2 ∷ y2 ∷ g.others = append_assoc (hb ++ x2 ∷ []) (y2 ∷ []) g.others ∙ append_assoc hb (x2 ∷ []) (y2 ∷ g.others) in
      let near : (((before ++ x ∷ []) ++ y ∷ []) ++ b ∷ []) ++ o.rest ≡ before ++ x ∷ y ∷ b ∷ o.rest =
      append_assoc ((before ++ x ∷ []) ++ y ∷ []) (b ∷ []) o.rest ∙ append_assoc (before ++ x ∷ []) (y ∷ []) (b ∷ o.rest) ∙ append_assoc before (x ∷ []) (y ∷ b ∷ o.rest) in
      let lead = lead_on script cps (hb ++ bs) (hb ++ x2 ∷ y2 ∷ g.others) (before ++ x ∷ y ∷ b ∷ o.rest) g.lead (subst₂ (LeadAlike script cps) far near o.lead) in
      record {
        others = b ∷ o.rest;
        stand = (silent.begins, (silent.runs, (c.first, o.stand)));
        many = omega (arith, many, was);
        lead = subst (λ (xs : List Block). LeadAlike script cps xs (before ++ x ∷ y ∷ b ∷ o.rest)) (append_assoc before (b ∷ []) bs) lead;
        orderly = (c.orderly may, o.orderly);
        late = late_past b bs o.rest g.others before ((before ++ x ∷ []) ++ y ∷ []) of_other (silent_looks script cps before t n env e r silent (hold_always script cps e hold before stand)) late g.next o.like o.late;
        next = λ u ne runs. next_past b bs o.rest u runs;
        plain = λ all. (all.0, plain_like script cps g.others o.rest o.like (g.plain all.1));
        exits = λ k p has. elim (cons_cases b bs (ran k p) has) [
          | inl here ↦ record { turn = p; there = cons_more y (b ∷ o.rest) (ran k p) (cons_here b o.rest (ran k p) here); exit_is = refl }
          | inr later ↦ exit_past r c.other k p.exit b g.others o.rest o.like (g.exits k p later)
        ];
      }

  -- past the first of some blocks, where it goes before the others
  bring_past : (b : Block) (bs before : List Block) (env : Env) (r : RecordView) → IsCourse script cps before → AllStand script cps before (b ∷ bs) → AllAllowed (IsOrderly script) before (b ∷ bs)
      → BeginLate script before (b ∷ bs) → IsSilentTurn script cps before t n env e r → IsOfOther t b
      → ((other : Env) → IsSilentTurn script cps (before ++ b ∷ []) t n other e (record r { env = other }) → GoesFirst script cps (before ++ b ∷ []) bs t n other e (record r { env = other }))
      → GoesFirst script cps before (b ∷ bs) t n env e r
  bring_past b bs before env r course all may late silent of_other others =
      let c = silent_commutes script cps before t n env e r b course.stand silent hold all.0 of_other in
      past before bs env r b c course.stand silent all.0 may.0 of_other late (others c.other c.later)

  pub bring : (rest before : List Block) (env : Env) (r : RecordView) → IsCourse script cps before → AllStand script cps before rest → AllAllowed (IsOrderly script) before rest → BeginLate script before rest → IsSilentTurn script cps before t n env e r
      → OwnNext t rest → GoesFirst script cps before rest t n env e r
  bring [] before env r course all may late silent own = absurd own
  bring (added x ∷ bs) before env r course all may late silent own =
      bring_past (added x) bs before env r course all may late silent own.0
      (λ other later. bring bs (before ++ added x ∷ []) other (record r { env = other }) (course_push script cps before (added x) course all.0 may.0) all.1 may.1 (late_rest script cps _ bs before late) later own.1)
  bring (ran k q ∷ bs) before env r course all may late silent own =
      bring_past (ran k q) bs before env r course all may late silent own.0
      (λ other later. bring bs (before ++ ran k q ∷ []) other (record r { env = other }) (course_push script cps before (ran k q) course all.0 may.0) all.1 may.1 (late_rest script cps _ bs before late) later own.1)
  bring (folded k q ∷ bs) before env r course all may late silent own = absurd own.0
  bring (begun u m x ∷ bs) before env r course all may late silent (inl own) =
      let one : begun u m x ≡ begun t m x = ap (λ (v : ℕ). begun v m x) own.0 in
      subst (λ (b : Block). GoesFirst script cps before (b ∷ bs) t n env e r) (sym one)
      (own_first before bs env r m x course.stand silent (subst (λ (b : Block). AllStand script cps before (b ∷ bs)) one all) (subst (λ (b : Block). AllAllowed (IsOrderly script) before (b ∷ bs)) one may) (subst (λ (b : Block). BeginLate script before (b ∷ bs)) one late) own.1)
  bring (begun u m x ∷ bs) before env r course all may late silent (inr own) =
      bring_past (begun u m x) bs before env r course all may late silent own.0
      (λ other later. bring bs (before ++ begun u m x ∷ []) other (record r { env = other }) (course_push script cps before (begun u m x) course all.0 may.0) all.1 may.1 (late_rest script cps _ bs before late) later own.1)

pub goes_first : SilentTurnsMayGoFirst
goes_first script cps before rest t n env e r on stand orderly late silent hold own =
    bring script cps on t n e hold rest before env r (course_front script cps before rest stand orderly) (stand_after script cps before [] rest stand) (allowed_after (IsOrderly script) before [] rest orderly) late silent own
