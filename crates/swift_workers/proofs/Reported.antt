-- What is left of executors and of a book is the report of a run, as the laws of runs ask for it.
use Rattle.swift_workers.proofs.Prelude.{◌≡◌, ℕ, zero, suc, ◌+◌, ◌<◌, ℤ, Some, List, [], ◌∷◌, map, length, refl, sym, subst, ap, ◌∙◌, arith, add-zero, slice_get, unwrap_or, none-some, Vec, Global, rows_of, Ending, ScriptView, executor_count, root_count, CheckpointRoomView, CheckpointView, RecordView, Event, Origin, BookFacts, BookKnown, AreAtRest, HasHistory, IsAccountedFor, IsReportOf, Knows, RunsAreOrderly, Parts, AreEndings, EachFrom, IsEnding, AreAccountedFor, AreParts}
use Rattle.swift_history.specs.Histories.{ReportView}
use Rattle.swift_history.specs.Orderly.{IsOrderlyLegal}
use Rattle.swift_course.specs.Whole.{HasWhole, RunsAreWhole}
use Rattle.swift_report.specs.declared.report.Report.{Report}
use Rattle.swift_certificate.specs.Reports.{report_view}

abbrev Rows : Type 0
Rows = Vec (Vec ℤ Global) Global

same_one : {A : Type 0} (x y : A) → Some x ≡ Some y → x ≡ y
same_one x y is = ap (λ o. unwrap_or o x) is

next_place : (e n : ℕ) → e + 1 + n ≡ e + suc n
next_place e n = omega arith

from_first : (n : ℕ) → 0 + n ≡ n
from_first n = omega arith

accounted_at : (p : ScriptView) (v : BookKnown) (e n : ℕ) (cs : List CheckpointRoomView) (js : List (List RecordView)) (fs : List Rows) (journal : List RecordView) (checkpoint : CheckpointView) (fields : List (List ℤ)) → AreAccountedFor p v e cs js fs
    → slice_get js n ≡ Some journal → slice_get (map (λ (c : CheckpointRoomView). c.view) cs) n ≡ Some checkpoint → slice_get (map (λ (rows : Rows). rows_of rows.items) fs) n ≡ Some fields → IsAccountedFor p v (e + n) journal checkpoint fields
accounted_at p v e n [] [] [] journal checkpoint fields are at_j at_c at_f = absurd (none-some journal at_j)
accounted_at p v e n [] [] (f ∷ fs) journal checkpoint fields are at_j at_c at_f = absurd are
accounted_at p v e n [] (j ∷ js) fs journal checkpoint fields are at_j at_c at_f = absurd are
accounted_at p v e n (c ∷ cs) [] fs journal checkpoint fields are at_j at_c at_f = absurd are
accounted_at p v e n (c ∷ cs) (j ∷ js) [] journal checkpoint fields are at_j at_c at_f = absurd are
accounted_at p v e zero (c ∷ cs) (j ∷ js) (f ∷ fs) journal checkpoint fields are at_j at_c at_f =
    subst (λ (i : ℕ). IsAccountedFor p v i journal checkpoint fields) (sym (add-zero e))
    (subst (λ (x : List (List ℤ)). IsAccountedFor p v e journal checkpoint x) (same_one (rows_of f.items) fields at_f)
    (subst (λ (x : CheckpointView). IsAccountedFor p v e journal x (rows_of f.items)) (same_one c.view checkpoint at_c)
    (subst (λ (x : List RecordView). IsAccountedFor p v e x c.view (rows_of f.items)) (same_one j journal at_j) are.0)))
accounted_at p v e (suc n) (c ∷ cs) (j ∷ js) (f ∷ fs) journal checkpoint fields are at_j at_c at_f =
    subst (λ (i : ℕ). IsAccountedFor p v i journal checkpoint fields) (next_place e n) (accounted_at p v (e + 1) n cs js fs journal checkpoint fields are.1 at_j at_c at_f)

each_at : {A : Type 0} (P : ℕ → A → Type 0) (e n : ℕ) (xs : List A) (x : A) → EachFrom P e xs → slice_get xs n ≡ Some x → P (e + n) x
each_at P e n [] x are at = absurd (none-some x at)
each_at P e zero (y ∷ ys) x are at = subst (λ i. P i x) (sym (add-zero e)) (subst (P e) (same_one y x at) are.0)
each_at P e (suc n) (y ∷ ys) x are at = subst (λ i. P i x) (next_place e n) (each_at P (e + 1) n ys x are.1 at)

ending_at : (roots : ℕ) (log : List Event) (endings : List (Origin × Ending)) (t : ℕ) (x : Origin × Ending) → EachFrom (IsEnding roots log) 0 endings → slice_get endings t ≡ Some x → IsEnding roots log t x
ending_at roots log endings t x each at = subst (λ n. IsEnding roots log n x) (from_first t) (each_at (IsEnding roots log) 0 t endings x each at)

some_at : {A : Type 0} (xs : List A) (n : ℕ) → n < length xs → (x : A) × (slice_get xs n ≡ Some x)
some_at [] n lt = absurd (omega (arith, lt))
some_at (y ∷ ys) zero lt = (y, refl)
some_at (y ∷ ys) (suc n) lt = some_at ys n (omega (arith, lt))

as_many : {A B : Type 0} (f : A → B) (xs : List A) → length (map f xs) ≡ length xs
as_many f [] = refl
as_many f (x ∷ xs) = ap suc (as_many f xs)

-- the parts of all executors, the log of the book and the endings are a report of it
reported : (facts : BookFacts) (v : BookKnown) (r : Report) (parts : Parts) → AreParts facts.script v (executor_count facts.script) parts → r.journals ≡ parts.journals → r.checkpoints ≡ parts.checkpoints → r.fields ≡ parts.fields
    → r.log.events ≡ facts.log → AreEndings (root_count facts.script) r.log.events r.endings.items → IsReportOf facts v (report_view r)
reported facts v r parts are js cs fs log ends =
    let p = facts.script in
    let roots = root_count p in
    let many = executor_count p in
    record {
      log_is = log;
      executors = (ap (λ x. length x.items) js ∙ are.journals, as_many _ r.checkpoints.items ∙ ap (λ x. length x.items) cs ∙ are.checkpoints, as_many _ r.fields.items ∙ ap (λ x. length x.items) fs ∙ are.fields);
      each = λ e journal checkpoint fields at_j at_c at_f.
          subst (λ (i : ℕ). IsAccountedFor p v i journal checkpoint fields) (from_first e)
          (accounted_at p v 0 e parts.checkpoints.items parts.journals.items parts.fields.items journal checkpoint fields are.accounts
          (ap (λ x. slice_get x.items e) (sym js) ∙ at_j) (ap (λ x. slice_get (map (λ (c : CheckpointRoomView). c.view) x.items) e) (sym cs) ∙ at_c) (ap (λ x. slice_get (map (λ (rows : Rows). rows_of rows.items) x.items) e) (sym fs) ∙ at_f));
      tasks = ends.many;
      endings = λ t x at. ((ending_at roots r.log.events r.endings.items t x ends.each at).origin, (ending_at roots r.log.events r.endings.items t x ends.each at).ending);
      groups = λ t g lt opened.
          (let some = some_at r.endings.items t lt in
          (ending_at roots r.log.events r.endings.items t some.0 ends.each some.1).groups g opened);
    }

-- What the laws of runs ask for, of a report of the book's own script.
record IsAskedFor (facts : BookFacts) (v : BookKnown) (report : ReportView) : Type 0 where
  known : HasHistory v facts
  maker : v.maker ≡ Some (record { executors = executor_count facts.script; roots = root_count facts.script })
  is : IsReportOf facts v report
  rest : AreAtRest (executor_count facts.script) v

module _ (facts : BookFacts) (p : ScriptView) (v : BookKnown) (r : Report) (parts : Parts) (knows : Knows v facts) (script : facts.script ≡ p) (maker : v.maker ≡ Some (record { executors = executor_count p; roots = root_count p })) where
  asked : AreParts p v (executor_count p) parts → r.journals ≡ parts.journals → r.checkpoints ≡ parts.checkpoints → r.fields ≡ parts.fields → r.log.events ≡ facts.log → AreEndings (root_count p) r.log.events r.endings.items → IsAskedFor facts v (report_view r)
  asked are js cs fs log ends =
      let back = sym script in
      let parts_of = subst (λ (x : ScriptView). AreParts x v (executor_count x) parts) back are in
      let ends_of = subst (λ (x : ScriptView). AreEndings (root_count x) r.log.events r.endings.items) back ends in
      record {
        known = knows.1;
        maker = subst (λ (x : ScriptView). v.maker ≡ Some (record { executors = executor_count x; roots = root_count x })) back maker;
        is = reported facts v r parts parts_of js cs fs log ends_of;
        rest = parts_of.rest;
      }

  -- Where all accounts are in one seat, which has added all roots, and each is at rest, the report is legal, with its blocks in order.
  pub is_orderly : RunsAreOrderly → AreParts p v (executor_count p) parts → r.journals ≡ parts.journals → r.checkpoints ≡ parts.checkpoints → r.fields ≡ parts.fields → r.log.events ≡ facts.log → AreEndings (root_count p) r.log.events r.endings.items
      → IsOrderlyLegal p (report_view r)
  is_orderly law are js cs fs log ends =
      let a = asked are js cs fs log ends in
      subst (λ (x : ScriptView). IsOrderlyLegal x (report_view r)) script (law facts v (report_view r) a.known a.maker a.is a.rest)

  -- And it is the fold of such a one that has each turn.
  pub has_whole : RunsAreWhole → AreParts p v (executor_count p) parts → r.journals ≡ parts.journals → r.checkpoints ≡ parts.checkpoints → r.fields ≡ parts.fields → r.log.events ≡ facts.log → AreEndings (root_count p) r.log.events r.endings.items
      → HasWhole p (report_view r)
  has_whole law are js cs fs log ends =
      let a = asked are js cs fs log ends in
      subst (λ (x : ScriptView). HasWhole x (report_view r)) script (law facts v (report_view r) a.known a.maker a.is a.rest)
