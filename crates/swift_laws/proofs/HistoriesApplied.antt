-- Each turn that the log of a history applies is that of a block, and stands in the report.
use Rattle.swift_laws.proofs.Prelude.{◌≡◌, ◌≢◌, ℕ, ◌<◌, ◌≤◌, List, [], ◌∷◌, ◌++◌, length, take, zero, suc, refl, sym, ◌∙◌, ap, arith, Bool, inl, inr, subst, append_assoc, ◌⊎◌, Option, Some, None, if◌then◌else◌, slice_get, filter_map, cons_option, cases_eq, eq-eqb, nat_tests, none-some, same_Some, some_pair_parts, append-nil, Env, ScriptView, root_count, root_priority, executor_count, method_actor, FrameView, EffectView, ExitView, advanced, RecordView, FoldedView, CheckpointView, Event, Root, Begin, Apply, Give, life_of, task, JobFacts, exit_events, log_after, root_job, Block, added, begun, ran, folded, Standing, Stands, AllStand, TurnStands, IsLegal, ReportView, after_block, after_blocks, at_first, left_as, begun_priority, turn_applied, record_in, records_of, folded_in, folded_of, ActorsHaveExecutors, TurnPlace, in_journal, in_checkpoint, HasTurn}
use Rattle.swift_laws.proofs.HistoriesWritten.{keeps_effects, keeps_exit}
use Rattle.swift_laws.proofs.HistoriesCounted.{applied, applied_other, AreCounted, idle_applied, idle_turn, written_idle}
use Rattle.swift_laws.proofs.HistoriesTurns.{applied_is, block_keeps, first_counted, after_push, gives_applied}
use Rattle.swift_laws.proofs.HistoriesGrow.{applied_stays}
use Rattle.swift_laws.proofs.HistoriesOnce.{turn_of, block_next, has_block}
use Rattle.swift_laws.proofs.HistoriesSplit.{split_at}

-- a turn of another task changes nothing
turn_other : (script : ScriptView) (s : Standing) (e t n : ℕ) (effects : List EffectView) (exit : ExitView) (after : Option FrameView) (job : JobFacts) (env : Env) (frame : FrameView) (u : ℕ)
    → TurnStands script s e t n effects exit job env frame → t ≢ u → applied u (turn_applied script s t n effects exit after).log ≡ applied u s.log
turn_other script s e t n effects exit after job env frame u stands ne =
    let roots = root_count script in
    let own = begun_priority (life_of t s.log).stage in
    let a = advanced script (left_as frame effects after) stands.runs.0 job.frames.outer exit in
    let begun = s.log ++ Apply (task t) n ∷ [] in
    let done = log_after roots t own begun effects in
    let P : List Event → Type 0 = λ l. applied u l ≡ applied u s.log in
    let written = keeps_exit P roots t own (λ l x w is. idle_applied u l x (idle_turn u x (written_idle roots t l x w)) ∙ is) done exit a.step
    (keeps_effects P roots t own (λ l x w is. idle_applied u l x (idle_turn u x (written_idle roots t l x w)) ∙ is) begun effects (applied_other u t n s.log ne)) in
    ap (λ (z : Standing). applied u z.log) (applied_is script s t n job frame stands.runs.0 effects exit after stands.given stands.runs.1)
    ∙ gives_applied u (done ++ exit_events t done exit a.step) _ ∙ written

-- which turn of a task a block applies
data Applies (t : ℕ) (before after : List Event) (b : Block) : Type 0 where
  other : applied t after ≡ applied t before → Applies t before after b
  this : (n : ℕ) → turn_of b ≡ Some (t, n) → Applies t before after b

task_applies : (t u n : ℕ) (before after : List Event) (b : Block) → turn_of b ≡ Some (u, n) → (u ≢ t → applied t after ≡ applied t before) → Applies t before after b
task_applies t u n before after b of same = elim (cases_eq u t) [
  | inl is ↦ this n (of ∙ ap (λ (k : ℕ). Some (k, n)) is)
  | inr ne ↦ other (same ne)
]

block_applies : (script : ScriptView) (cps : List CheckpointView) (before : List Block) (b : Block) (t : ℕ) → Stands script cps before b
    → Applies t (after_blocks script (at_first script) before).log (after_block script (after_blocks script (at_first script) before) b).log b
block_applies script cps before (added r) t stands =
    let s = after_blocks script (at_first script) before in
    let e : Event = Root (task r) (root_priority script r) in
    let j = root_job script r in
    let g : Event = Give (task j.task) j.number j.resume in
    other (ap (applied t) (sym (append_assoc s.log (e ∷ []) (g ∷ []))) ∙ idle_applied t (s.log ++ e ∷ []) g refl ∙ idle_applied t s.log e refl)
block_applies script cps before (begun u n env) t stands = other (idle_applied t (after_blocks script (at_first script) before).log (Begin (task u) n env) refl)
block_applies script cps before (ran e r) t stands =
    let s = after_blocks script (at_first script) before in
    task_applies t r.task r.number s.log (after_block script s (ran e r)).log (ran e r) refl
    (λ ne. turn_other script s e r.task r.number r.effects r.exit r.after stands.job r.env r.frame t stands.stands ne)
block_applies script cps before (folded e f) t stands =
    let s = after_blocks script (at_first script) before in
    task_applies t f.task f.number s.log (after_block script s (folded e f)).log (folded e f) refl
    (λ ne. turn_other script s e f.task f.number f.effects f.exit f.after stands.0.job stands.0.env stands.0.frame t stands.0.stands ne)

-- the block of a turn that was applied
record IsRun (bs : List Block) (t n : ℕ) : Type 0 where
  place : ℕ
  block : Block
  at : slice_get bs place ≡ Some block
  is_turn : turn_of block ≡ Some (t, n)

module _ (script : ScriptView) (cps : List CheckpointView) where
  abbrev LogOf : List Block → List Event
  LogOf bs = (after_blocks script (at_first script) bs).log

  abbrev Good : List Block → Type 0
  Good bs = AreCounted (root_count script) (LogOf bs) (after_blocks script (at_first script) bs).held

  is_run_later : (c : Block) (bs : List Block) (t n : ℕ) → IsRun bs t n → IsRun (c ∷ bs) t n
  is_run_later c bs t n r = record { place = suc r.place; block = r.block; at = r.at; is_turn = r.is_turn }

  -- the first of these blocks runs the turn, or it was not run yet
  first_or_later : (before : List Block) (c : Block) (bs : List Block) (t n : ℕ) → Stands script cps before c → Good before → applied t (LogOf before) ≤ n
      → Applies t (LogOf before) (after_block script (after_blocks script (at_first script) before) c).log c → IsRun (c ∷ bs) t n ⊎ (applied t (LogOf (before ++ c ∷ [])) ≤ n)
  first_or_later before c bs t n stands good le (other same) =
      inr (omega (arith, le, same, ap (λ (z : Standing). applied t z.log) (after_push script (at_first script) before c)))
  first_or_later before c bs t n stands good le (this m of) =
      let next = block_next script cps before c t m stands of good in
      let was = next.was in
      elim (cases_eq m n) [
        | inl same ↦ inl (record { place = 0; block = c; at = refl; is_turn = of ∙ ap (λ (k : ℕ). Some (t, k)) same })
        | inr ne ↦ inr (omega (arith, le, was, next.is, ap (λ (z : Standing). applied t z.log) (after_push script (at_first script) before c), ne))
      ]

  is_run : (before bs : List Block) (t n : ℕ) → AllStand script cps before bs → Good before → applied t (LogOf before) ≤ n → n < applied t (LogOf (before ++ bs)) → IsRun bs t n
  is_run before [] t n all good le lt = absurd (let same = ap (λ (xs : List Block). applied t (LogOf xs)) (append-nil before) in omega (arith, le, lt, same))
  is_run before (c ∷ bs) t n all good le lt = elim (first_or_later before c bs t n all.0 good le (block_applies script cps before c t all.0)) [
    | inl now ↦ now
    | inr later ↦ is_run_later c bs t n (is_run (before ++ c ∷ []) bs t n all.1
        (subst (λ (z : Standing). AreCounted (root_count script) z.log z.held) (sym (after_push script (at_first script) before c)) (block_keeps script cps before c all.0 good)) later
        (subst (λ (xs : List Block). n < applied t (LogOf xs)) (sym (append_assoc before (c ∷ []) bs)) lt))
  ]

  stays_applied : (before bs : List Block) (t : ℕ) → AllStand script cps before bs → applied t (LogOf before) ≤ applied t (LogOf (before ++ bs))
  stays_applied before [] t all = let same = ap (λ (xs : List Block). applied t (LogOf xs)) (append-nil before) in omega (arith, same)
  stays_applied before (c ∷ bs) t all =
      let one = applied_stays script cps before c t all.0 in
      let now = ap (λ (z : Standing). applied t z.log) (after_push script (at_first script) before c) in
      let on = stays_applied (before ++ c ∷ []) bs t all.1 in
      omega (arith, one, now, on, ap (λ (xs : List Block). applied t (LogOf xs)) (append_assoc before (c ∷ []) bs))

  -- and a turn of a block was applied
  run_applied : (before bs : List Block) (p : ℕ) (b : Block) (t n : ℕ) → AllStand script cps before bs → Good before → slice_get bs p ≡ Some b → turn_of b ≡ Some (t, n) → n < applied t (LogOf (before ++ bs))
  run_applied before [] p b t n all good at of = absurd (none-some b at)
  run_applied before (c ∷ bs) zero b t n all good at of =
      let next = block_next script cps before c t n all.0 (ap turn_of (same_Some c b at) ∙ of) good in
      let now = ap (λ (z : Standing). applied t z.log) (after_push script (at_first script) before c) in
      let on = stays_applied (before ++ c ∷ []) bs t all.1 in
      omega (arith, next.is, now, on, ap (λ (xs : List Block). applied t (LogOf xs)) (append_assoc before (c ∷ []) bs))
  run_applied before (c ∷ bs) (suc p) b t n all good at of =
      let on = run_applied (before ++ c ∷ []) bs p b t n all.1 (subst (λ (z : Standing). AreCounted (root_count script) z.log z.held) (sym (after_push script (at_first script) before c)) (block_keeps script cps before c all.0 good)) at of in
      subst (λ (xs : List Block). n < applied t (LogOf xs)) (append_assoc before (c ∷ []) bs) on

pub standing_applied : (script : ScriptView) (report : ReportView) (t : ℕ) → IsLegal script report → (p : TurnPlace) (n : ℕ) → HasTurn report p t n → n < applied t report.log
standing_applied script report t legal p n has =
    let b = has_block script report legal p t n has in
    subst (λ (l : List Event). n < applied t l) (sym legal.log) (run_applied script report.checkpoints [] legal.blocks b.at b.block t n legal.stand (first_counted script) b.is_block b.is_turn)

-- where a block that is picked lies among those that are

found_by : {X Y : Type 0} (f : X → Option Y) (p : ℕ) (xs : List X) (y : Y) (o : Option Y) → slice_get (filter_map f xs) (length (filter_map f (take p xs))) ≡ Some y
    → slice_get (cons_option o (filter_map f xs)) (length (cons_option o (filter_map f (take p xs)))) ≡ Some y
found_by f p xs y None is = is
found_by f p xs y (Some z) is = is

found : {X Y : Type 0} (f : X → Option Y) (xs : List X) (p : ℕ) (x : X) (y : Y) → slice_get xs p ≡ Some x → f x ≡ Some y → slice_get (filter_map f xs) (length (filter_map f (take p xs))) ≡ Some y
found f [] p x y at gives = absurd (none-some x at)
found f (z ∷ xs) zero x y at gives = ap (λ o. slice_get (cons_option o (filter_map f xs)) 0) (ap f (same_Some z x at) ∙ gives)
found f (z ∷ xs) (suc p) x y at gives = found_by f p xs y (f z) (found f xs p x y at gives)

pub there : {A : Type 0} (xs : List A) (k : ℕ) → k < length xs → (x : A) × (slice_get xs k ≡ Some x)
there [] k lt = absurd (omega (arith, lt))
there (x ∷ xs) zero lt = (x, refl)
there (x ∷ xs) (suc k) lt = there xs k (omega (arith, lt))

same_turn : (a b t n : ℕ) → ◌≡◌ {A = Option (ℕ × ℕ)} (Some (a, b)) (Some (t, n)) → (a ≡ t) × (b ≡ n)
same_turn a b t n is = some_pair_parts a t b n is

-- the first block adds a root
pub some_root : (script : ScriptView) (cps : List CheckpointView) (b : Block) → Stands script cps [] b → 0 < root_count script
some_root script cps (added r) stands = let lt : r < root_count script = (let so = stands.0 in grind (arith, nat_tests)) in omega (arith, lt)
some_root script cps (begun t n env) stands = absurd (none-some stands.0 stands.1)
some_root script cps (ran e r) stands = absurd (none-some stands.job stands.stands.given)
some_root script cps (folded e f) stands = absurd (none-some stands.0.job stands.0.stands.given)

-- so where there is a block there is a root
has_root : (script : ScriptView) (cps : List CheckpointView) (bs : List Block) (p : ℕ) (b : Block) → AllStand script cps [] bs → slice_get bs p ≡ Some b → 0 < root_count script
has_root script cps [] p b stand at = absurd (none-some b at)
has_root script cps (c ∷ bs) p b stand at = some_root script cps c stand.0

stands_at : (script : ScriptView) (report : ReportView) (legal : IsLegal script report) (inside : ActorsHaveExecutors script) (p : ℕ) (b : Block) (t n : ℕ) → slice_get legal.blocks p ≡ Some b → turn_of b ≡ Some (t, n) → (q : TurnPlace) × HasTurn report q t n
stands_at script report legal inside p (added r) t n at of = absurd (none-some _ of)
stands_at script report legal inside p (begun u k env) t n at of = absurd (none-some _ of)
stands_at script report legal inside p (ran e r) t n at of =
    let s = split_at script report.checkpoints [] legal.blocks p (ran e r) legal.stand at in
    let lt : e < length report.journals = subst (λ (k : ℕ). e < k) (sym legal.executors.0) (subst (λ (k : ℕ). k < executor_count script) s.stands.stands.on (inside (has_root script report.checkpoints legal.blocks p (ran e r) legal.stand at) (method_actor script r.frame.method))) in
    let j = there report.journals e lt in
    let at_record = found (record_in e) legal.blocks p (ran e r) r at (ap (λ (c : Bool). if c then Some r else None) (eq-eqb e e refl)) in
    let parts = same_turn r.task r.number t n of in (
      in_journal e (length (records_of e (take p legal.blocks))),
      (
        r,
        record { journal = j.0; is_journal = j.1; stands = subst (λ (rs : List RecordView). slice_get rs (length (records_of e (take p legal.blocks))) ≡ Some r) (sym (legal.journals e j.0 j.1)) at_record },
        parts.0,
        parts.1,
      ),
    )
stands_at script report legal inside p (folded e f) t n at of =
    let s = split_at script report.checkpoints [] legal.blocks p (folded e f) legal.stand at in
    let lt : e < length report.checkpoints = subst (λ (k : ℕ). e < k) (sym legal.executors.1) (subst (λ (k : ℕ). k < executor_count script) s.stands.0.stands.on (inside (has_root script report.checkpoints legal.blocks p (folded e f) legal.stand at) (method_actor script s.stands.0.frame.method))) in
    let c = there report.checkpoints e lt in
    let at_folded = found (folded_in e) legal.blocks p (folded e f) f at (ap (λ (c : Bool). if c then Some f else None) (eq-eqb e e refl)) in
    let parts = same_turn f.task f.number t n of in (
      in_checkpoint e (length (folded_of e (take p legal.blocks))),
      (
        f,
        record { checkpoint = c.0; is_checkpoint = c.1; stands = subst (λ (fs : List FoldedView). slice_get fs (length (folded_of e (take p legal.blocks))) ≡ Some f) (sym (legal.folded e c.0 c.1)) at_folded },
        parts.0,
        parts.1,
      ),
    )

pub applied_stands : (script : ScriptView) (report : ReportView) (t n : ℕ) → IsLegal script report → ActorsHaveExecutors script → n < applied t report.log → (p : TurnPlace) × HasTurn report p t n
applied_stands script report t n legal inside lt =
    let r = is_run script report.checkpoints [] legal.blocks t n legal.stand (first_counted script) (omega arith) (subst (λ (l : List Event). n < applied t l) legal.log lt) in
    stands_at script report legal inside r.place r.block t n r.at r.is_turn
