use Rattle.swift_steps.proofs.Prelude.{◌∙◌, List, Vec, sym, subst, ap, Global, FrameView, JobView, BodyView, HasFrames, BookView, NextTurn}
use Rattle.swift_steps.proofs.Ran.{if_yes, ran_step}
use Rattle.swift_steps.proofs.history.OpenHistory.apply_played.Goals as goal

pub apply-requires : goal.apply-requires
apply-requires c =
    let x = c.requires.0 in
    let pl = c.requires.1 in
    record {
      running = subst (λ (fs : List FrameView). HasFrames fs) (sym pl.last) tt;
      none = ap (λ (js : Vec (JobView BodyView) Global). js.items) pl.takes.jobs_are ∙ pl.rest.none;
      same = ap (λ (h : NextTurn). h.body.script) pl.goes_on ∙ (pl.rest.scripts _ pl.before pl.takes.was).script_is ∙ sym pl.rest.book_is ∙ sym (ap (λ (b : BookView). b.script) pl.takes.book_is);
    }

pub returns-clause-follows : goal.returns-clause-follows
returns-clause-follows c = if_yes c.apply.result _ _ (λ a x worker pl. ran_step x c.args.self.now c.apply.new.self c.args.turn worker pl a) c.apply.ensures.applies
