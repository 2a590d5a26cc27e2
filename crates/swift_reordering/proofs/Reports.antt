-- Each report in order has one whose turns that look away begin right before they run.
use Rattle.swift_reordering.proofs.Prelude.{◌≡◌, ◌⊎◌, ℕ, zero, suc, ◌+◌, ◌<◌, List, [], ◌∷◌, ◌++◌, map, refl, sym, ◌∙◌, ap, subst, arith, inl, inr, append_assoc, append-nil, Some, slice_get, cons_option, range_with_len, none-some, same_Some, length-map-range_with_len, ScriptView, root_count, executor_count, CheckpointView, Event, tasks_of, Block, added, begun, ran, folded, Standing, at_first, after_blocks, records_of, folded_in, folded_of, roots_of, AllStand, ReportView, IsLegal, AllAllowed, IsOrderly, ActorsHaveExecutors, log_grows, tasks_grow, NoneFolded, made, none_in, not_folded, AreNear, BeginLate, EachIsFused, done_by, IsFusedStep}
use Rattle.swift_reordering.proofs.Near.{near_origin, near_ending, near_tasks, near_opened, near_closed}
use Rattle.swift_reordering.proofs.Walks.{IsCourse, course_none, course_push}
use Rattle.swift_reordering.proofs.Fusing.{ArePutOff, AnyTask, any_task, AreFew, goes_on, late_append, step_late}

-- what blocks do says which roots were added, and which turns are folded

roots_done : (bs : List Block) → roots_of bs ≡ roots_of (done_by bs)
roots_done [] = refl
roots_done (added r ∷ bs) = ap (λ (rs : List ℕ). r ∷ rs) (roots_done bs)
roots_done (begun t n env ∷ bs) = roots_done bs
roots_done (ran e r ∷ bs) = roots_done bs
roots_done (folded e f ∷ bs) = roots_done bs

folded_done : (e : ℕ) (bs : List Block) → folded_of e bs ≡ folded_of e (done_by bs)
folded_done e [] = refl
folded_done e (added r ∷ bs) = folded_done e bs
folded_done e (begun t n env ∷ bs) = folded_done e bs
folded_done e (ran x r ∷ bs) = folded_done e bs
folded_done e (folded x f ∷ bs) = ap (cons_option (folded_in e (folded x f))) (folded_done e bs)

-- a list that is made number by number
row_from : {A : Type 0} (f : ℕ → A) (n a e : ℕ) (x : A) → slice_get (map f (range_with_len a n)) e ≡ Some x → x ≡ f (a + e)
row_from f zero a e x at = absurd (none-some x at)
row_from f (suc n) a zero x at = sym (same_Some (f a) x at) ∙ ap f (omega arith)
row_from f (suc n) a (suc e) x at = row_from f n (a + 1) e x at ∙ ap f (omega arith)

row_at : {A : Type 0} (f : ℕ → A) (n e : ℕ) (x : A) → slice_get (map f (range_with_len 0 n)) e ≡ Some x → x ≡ f e
row_at f n e x at = row_from f n 0 e x at ∙ ap f (omega arith)

module _ (script : ScriptView) (cps : List CheckpointView) (on : ActorsHaveExecutors script) where
  pub few_before : (before bs : List Block) → AllStand script cps before bs → AreFew script cps (before ++ bs) → AreFew script cps before
  few_before before bs stand few =
      let grown = log_grows script cps before bs stand in
      let more = tasks_grow (root_count script) (after_blocks script (at_first script) before).log grown.0 in
      let same = ap (tasks_of (root_count script)) grown.1 in
      omega (arith, few, more, same)

  late_on : (others more : List Block) → BeginLate script [] others → (more ≡ []) ⊎ IsFusedStep script others more → BeginLate script [] (others ++ more)
  late_on others more late (inl none) = subst (BeginLate script []) (sym (append-nil others) ∙ ap (λ (xs : List Block). others ++ xs) (sym none)) late
  late_on others more late (inr step) = late_append script cps others [] more late (step_late script cps others more step)

  go_all : (bs before others : List Block) → IsCourse script cps before → AllStand script cps before bs → AllAllowed (IsOrderly script) before bs → NoneFolded script on cps bs → AreFew script cps (before ++ bs) → ArePutOff script cps AnyTask before others → BeginLate script [] others
      → (rest : List Block) × ArePutOff script cps AnyTask (before ++ bs) rest × BeginLate script [] rest
  go_all [] before others course stand may none few was late = (others, subst (λ (xs : List Block). ArePutOff script cps AnyTask xs others) (sym (append-nil before)) was, late)
  go_all (b ∷ bs) before others course stand may none few was late =
      let next = goes_on script cps AnyTask on any_task before others b course (few_before before (b ∷ bs) stand few) was (not_folded script on cps before b bs course.stand stand.0 none) stand.0 may.0 in
      let more = go_all bs (before ++ b ∷ []) (others ++ next.more) (course_push script cps before b course stand.0 may.0) stand.1 may.1 (λ e low. (none_in script on cps (folded_in e b) (folded_of e bs) (none e low)).1)
      (subst (AreFew script cps) (sym (append_assoc before (b ∷ []) bs)) few) next.put_off (late_on others next.more late next.step) in
      (more.0, subst (λ (xs : List Block). ArePutOff script cps AnyTask xs more.0) (append_assoc before (b ∷ []) bs) more.1, more.2)

  pub none_put_off : ArePutOff script cps AnyTask [] []
  none_put_off = record { course = course_none script cps; done = refl; close = record { near = refl; held = refl; jobs = refl }; fields = λ e. refl; stages = λ u. inl refl }

pub each_fused : EachIsFused
each_fused script report orderly on folds room =
    let legal = orderly.legal in
    let cps = report.checkpoints in
    let m = made script report legal folds in
    let few : AreFew script cps legal.blocks =
    (let tasks = legal.tasks in let same = ap (tasks_of (root_count script)) legal.log in omega (arith, room, tasks, same)) in
    let all = go_all script cps on legal.blocks [] [] (course_none script cps) legal.stand orderly.orderly m.none few (none_put_off script cps on) tt in
    let bs : List Block = all.0 in
    let is = all.1 in
    let late = all.2 in
    let s : Standing = after_blocks script (at_first script) legal.blocks in
    let z : Standing = after_blocks script (at_first script) bs in
    let near : AreNear report.log z.log = subst (λ (l : List Event). AreNear l z.log) (sym legal.log) is.close.near in
    let other : ReportView = record {
      journals = map (λ e. records_of e bs) (range_with_len 0 (executor_count script));
      checkpoints = cps;
      fields = report.fields;
      log = z.log;
      endings = report.endings;
    } in
    let legal_too : IsLegal script other = record {
      blocks = bs;
      stand = is.course.stand;
      roots = roots_done bs ∙ ap roots_of (sym is.done) ∙ sym (roots_done legal.blocks) ∙ legal.roots;
      log = refl;
      executors = (length-map-range_with_len (λ e. records_of e bs) 0 (executor_count script), legal.executors.1, legal.executors.2);
      journals = λ e rs at. row_at (λ k. records_of k bs) (executor_count script) e rs at;
      folded = λ e c at. legal.folded e c at ∙ folded_done e legal.blocks ∙ ap (folded_of e) is.done ∙ sym (folded_done e bs);
      start = legal.start;
      fields = λ e f at. legal.fields e f at ∙ is.fields e;
      tasks = legal.tasks ∙ near_tasks report.log z.log near (root_count script);
      endings = λ t x at. (let says = legal.endings t x at in (sym (near_origin report.log z.log near t) ∙ says.0, sym (near_ending report.log z.log near t) ∙ says.1));
      groups = λ t g low open_one. sym (near_closed report.log z.log near t g) ∙ legal.groups t g low (subst (λ (n : ℕ). g < n) (sym (near_opened report.log z.log near t)) open_one);
    } in
    record {
      other = other;
      legal = record { legal = legal_too; orderly = is.course.orderly };
      folds = folds;
      checkpoints = refl;
      endings = refl;
      fields = refl;
      done = is.done;
      late = late;
    }
