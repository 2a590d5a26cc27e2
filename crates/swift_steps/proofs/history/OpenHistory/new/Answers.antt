use Rattle.swift_steps.proofs.Prelude.{rules, ◌≡◌, ◌∙◌, List, refl, sym, ap, Option, option_map, none-some, arc_value, BookView, empty_book, NextTurn, given_at, given_view}
use Rattle.swift_steps.proofs.Steps.{followed_is}
use Rattle.swift_steps.proofs.history.OpenHistory.new.Goals as goal

pub returns-clause-first : goal.returns-clause-first
returns-clause-first c =
    let script = arc_value c.args.script.now in
    let own : arc_value c.in_ok-own.own ≡ script = search rules in
    let empty : c.in-Ok.book ≡ empty_book script = search rules in
    let none = c.new-2.ensures.items in
    record {
      roots_are = refl;
      starts = λ cps first. followed_is _ cps _ _ (empty_book script) _ 0 refl
          (record {
            book_is = ap (λ (b : BookView). b.script) empty ∙ sym own;
            none = search rules;
            scripts = λ t g is. absurd (none-some g (ap (λ (gs : List (Option NextTurn)). given_at gs t) (sym none) ∙ is));
          })
          empty refl refl
          (record {
            stand = tt;
            log_is = refl;
            held_is = refl;
            given = λ t. ap (λ (gs : List (Option NextTurn)). option_map (given_view t) (given_at gs t)) (sym none);
            fields_are = first;
            roots_are = refl;
          });
    }
