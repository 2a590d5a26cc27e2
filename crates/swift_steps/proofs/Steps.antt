-- The calls of a book lead a history on.
use Rattle.swift_steps.proofs.Prelude.{◌≡◌, ℕ, ℤ, ◌+◌, List, [], ◌∷◌, ◌++◌, Vec, length, map, sym, subst, ap, ◌∙◌, Option, Some, None, Global, arc_value, rows_of, Env, TaskId, ScriptView, root_count, Begin, IsEnv, EffectView, ExitView, CheckpointView, JobView, BodyView, Block, added, begun, job_facts, root_events, root_job, BookView, IsJobOf, refusal_of_begin, refusal_of_root, NextTurn, OpenHistory, AreOf, IsReadyOf, given_at, given_view, job_of, with_given, Applies, Begins, Follows, IsAtRest, IsFollowed, IsLed, Takes, rows_at}
use Rattle.swift_steps.proofs.Given.{of_put, of_taken}
use Rattle.swift_steps.proofs.Led.{led_begin, led_root}

-- a job whose task and rest stand apart
pub view_is : (j : JobView BodyView) (t : TaskId) (g : NextTurn) → t ≡ j.task → g ≡ record { number = j.number; resume = j.resume; body = j.body } → given_view t.0 g ≡ job_facts j
view_is j t g at is = ap (λ (x : TaskId). given_view x.0 g) at ∙ ap (λ (h : NextTurn). given_view j.task.0 h) is

-- by the script of the book
pub own_led : (script : ScriptView) (cps : List CheckpointView) (bs : List Block) (x : OpenHistory) → IsFollowed script cps bs x → IsLed x.book.script cps bs x.book.log x.book.held x.tasks.items (rows_at x) x.roots
own_led script cps bs x f = subst (λ (sc : ScriptView). IsLed sc cps bs x.book.log x.book.held x.tasks.items (rows_at x) x.roots) (sym f.book_is) f.led

pub followed_is : (script : ScriptView) (cps : List CheckpointView) (bs : List Block) (y : OpenHistory) (b : BookView) (fields : List (List (List ℤ))) (roots : ℕ)
    → arc_value y.script ≡ script → IsAtRest y → y.book ≡ b → rows_at y ≡ fields → y.roots ≡ roots → IsLed b.script cps bs b.log b.held y.tasks.items fields roots → IsFollowed script cps bs y
followed_is script cps bs y b fields roots own rest book rows many led = record {
  script_is = own;
  book_is = rest.book_is ∙ own;
  none = rest.none;
  scripts = subst (λ (sc : ScriptView). AreOf sc y.tasks.items) own rest.scripts;
  led = subst (λ (n : ℕ). IsLed script cps bs y.book.log y.book.held y.tasks.items (rows_at y) n) (sym many)
      (subst (λ (fs : List (List (List ℤ))). IsLed script cps bs y.book.log y.book.held y.tasks.items fs roots) (sym rows)
      (subst (λ (sc : ScriptView). IsLed sc cps bs y.book.log y.book.held y.tasks.items fields roots) (rest.book_is ∙ own)
      (subst (λ (c : BookView). IsLed c.script cps bs c.log c.held y.tasks.items fields roots) (sym book) led)));
}

-- what was followed is at rest
pub at_rest : (script : ScriptView) (cps : List CheckpointView) (bs : List Block) (x : OpenHistory) → IsFollowed script cps bs x → IsAtRest x
at_rest script cps bs x f = record { book_is = f.book_is ∙ sym f.script_is; none = f.none; scripts = subst (λ (sc : ScriptView). AreOf sc x.tasks.items) (sym f.script_is) f.scripts }

pub same_rows : (x y : OpenHistory) → y.fields ≡ x.fields → rows_at y ≡ rows_at x
same_rows x y same = ap (λ (fs : Vec (Vec (Vec ℤ Global) Global) Global). map (λ (rs : Vec (Vec ℤ Global) Global). rows_of rs.items) fs.items) same

pub same_many : (x y : OpenHistory) → y.fields ≡ x.fields → length y.fields.items ≡ length x.fields.items
same_many x y same = ap (λ (fs : Vec (Vec (Vec ℤ Global) Global) Global). length fs.items) same

-- at rest again, where the tasks go on with turns of the script
rest_with : (x y : OpenHistory) → IsAtRest x → y.script ≡ x.script → y.book.script ≡ x.book.script → y.jobs.items ≡ [] → AreOf (arc_value x.script) y.tasks.items → IsAtRest y
rest_with x y rest script book none of =
    let own = sym (ap arc_value script) in
    record { book_is = book ∙ rest.book_is ∙ own; none = none; scripts = subst (λ (sc : ScriptView). AreOf sc y.tasks.items) own of }

-- a root is added
pub root_step : (x y : OpenHistory) (j : JobView BodyView) (t : TaskId) (g : NextTurn)
    → IsAtRest x → y.script ≡ x.script → y.fields ≡ x.fields → y.jobs ≡ x.jobs → y.roots ≡ x.roots + 1 → y.book ≡ record x.book { log = x.book.log ++ root_events x.book.script x.roots } → refusal_of_root x.book.script x.book.log x.roots ≡ None
    → job_facts j ≡ root_job x.book.script x.roots → IsJobOf x.book.script j → t ≡ j.task → g ≡ record { number = j.number; resume = j.resume; body = j.body } → ((u : ℕ) → given_at y.tasks.items u ≡ with_given t.0 (Some g) (given_at x.tasks.items) u)
    → Follows x y (added x.roots)
root_step x y j t g rest script fields jobs roots ok may job of at made put =
    let own = arc_value x.script in
    let book = x.book.script in
    let b : BookView = record x.book { log = x.book.log ++ root_events book x.roots } in
    let rest' = rest_with x y rest script (ap (λ (c : BookView). c.script) ok) (ap (λ (js : Vec (JobView BodyView) Global). js.items) jobs ∙ rest.none)
    (of_put own x.tasks.items y.tasks.items t.0 g rest.scripts put (subst (IsReadyOf own) (sym made) (record { script_is = of.script_is ∙ rest.book_is; runs = of.runs }))) in
    record {
      script_is = script;
      many = same_many x y fields;
      roots_are = roots;
      leads = λ sc cps bs f. followed_is sc cps (bs ++ added x.roots ∷ []) y b (rows_at x) (x.roots + 1) (ap arc_value script ∙ f.script_is) rest' ok (same_rows x y fields) roots
          (led_root book cps bs x.book.log x.book.held x.tasks.items y.tasks.items (rows_at x) x.roots t g (own_led sc cps bs x f) may (view_is j t g at made ∙ job) put);
    }

-- a turn begins
pub begin_step : (x y : OpenHistory) (between : List (Option NextTurn)) (j : JobView BodyView) (t t' : TaskId) (g h : NextTurn) (env : Env)
    → IsAtRest x → given_at x.tasks.items t.0 ≡ Some g → j ≡ job_of t g → y.script ≡ x.script → y.fields ≡ x.fields → y.jobs ≡ x.jobs → y.roots ≡ x.roots
    → y.book ≡ record x.book { log = x.book.log ++ Begin j.task j.number env ∷ [] } → refusal_of_begin x.book.script x.book.log j ≡ None → IsEnv (root_count x.book.script) j.task x.book.log env
    → t' ≡ j.task → h ≡ record { number = j.number; resume = j.resume; body = j.body }
    → ((u : ℕ) → given_at between u ≡ with_given t.0 None (given_at x.tasks.items) u) → ((u : ℕ) → given_at y.tasks.items u ≡ with_given t'.0 (Some h) (given_at between) u)
    → Begins x y t
begin_step x y between j t t' g h env rest was job script fields jobs roots ok may given at made took put =
    let own = arc_value x.script in
    let book = x.book.script in
    let task = at ∙ ap (λ (k : JobView BodyView). k.task) job in
    let same : h ≡ g = made ∙ ap (λ (k : JobView BodyView). record { number = k.number; resume = k.resume; body = k.body }) job in
    let back : (u : ℕ) → given_at y.tasks.items u ≡ with_given t.0 (Some g) (given_at between) u =
    λ u. put u ∙ ap (λ (v : TaskId). with_given v.0 (Some h) (given_at between) u) task ∙ ap (λ (v : NextTurn). with_given t.0 (Some v) (given_at between) u) same in
    let may' = subst (λ (k : JobView BodyView). refusal_of_begin book x.book.log k ≡ None) job may in
    let given' = subst (λ (k : JobView BodyView). IsEnv (root_count book) k.task x.book.log env) job given in
    let b : BookView = record x.book { log = x.book.log ++ Begin t g.number env ∷ [] } in
    let ok' : y.book ≡ b = ok ∙ ap (λ (k : JobView BodyView). record x.book { log = x.book.log ++ Begin k.task k.number env ∷ [] }) job in
    let rest' = rest_with x y rest script (ap (λ (c : BookView). c.script) ok) (ap (λ (js : Vec (JobView BodyView) Global). js.items) jobs ∙ rest.none)
    (of_put own between y.tasks.items t.0 g (of_taken own x.tasks.items between t.0 rest.scripts took) back (rest.scripts t.0 g was)) in (
      g.number,
      env,
      ap (λ (c : BookView). c.log) ok',
      record {
        script_is = script;
        many = same_many x y fields;
        roots_are = roots;
        leads = λ sc cps bs f. followed_is sc cps (bs ++ begun t.0 g.number env ∷ []) y b (rows_at x) x.roots (ap arc_value script ∙ f.script_is) rest' ok' (same_rows x y fields) roots
            (led_begin book cps bs x.book.log x.book.held x.tasks.items between y.tasks.items (rows_at x) x.roots t g env (own_led sc cps bs x f) was may' given' took back);
      },
    )

-- a turn was applied
pub rest_after : (x m y : OpenHistory) (t : TaskId) (g h : NextTurn) (effects : List EffectView) (exit : ExitView) → IsAtRest x → Takes x m t g → Applies m y t h effects exit → IsAtRest y
rest_after x m y t g h effects exit rest takes a =
    let own = arc_value x.script in
    let same = ap (λ (c : BookView). c.script) takes.book_is in
    let here : m.book.script ≡ own = same ∙ rest.book_is in
    let between : AreOf own m.tasks.items = of_taken own x.tasks.items m.tasks.items t.0 rest.scripts takes.rest in
    rest_with x y rest (a.script_is ∙ takes.script_is) (a.book_is ∙ same) a.none
    (subst (λ (sc : ScriptView). AreOf sc y.tasks.items) here (a.scripts (subst (λ (sc : ScriptView). AreOf sc m.tasks.items) (sym here) between)))
