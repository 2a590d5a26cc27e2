use Rattle.nuchapay.proofs.Prelude.{List, map, sym, subst, ◌∙◌, ap, arc_value, IsAccepted, ScriptView, Expectation, IsAsked, IsKept}
use Rattle.explorer_answers.specs.SwiftAnswers.{swift_answer_of}
use Rattle.explorer_json.specs.SwiftJson.{swift_answer_json}
use Rattle.nuchapay.specs.SwiftSearches.{IsSwiftSaidOf}
use Rattle.nuchapay.proofs.explore_swift.explored_swift.Goals as goal

pub returns : goal.returns
returns c =
    let script = arc_value c.in_ok-script.script in
    let found = c.in_ok-found.found in
    let asked = c.in_ok-asked.asked.items in
    record {
      is = record {
        script = script;
        found = found;
        of = record { accepted = subst (IsAccepted c.args.heading.text.now) (sym c.in_ok-script.ensures.ok) c.in_ok-read.ensures.found; is = c.in_ok-found.ensures };
        asked = asked;
        is_asked = subst (λ (p : ScriptView). IsAsked p c.args.heading.text.now (map (λ w. w.now) c.args.words.now) c.args.without_fault asked) c.deref.ensures c.in_ok-asked.ensures;
        answered = c.in_ok-answer.ensures ∙ ap (λ (p : ScriptView). swift_answer_of p c.deref-3.result.now found) c.deref-2.ensures ∙ ap (λ (a : List Expectation). swift_answer_of script a found) c.deref-3.ensures.value;
      };
      printed = subst (λ (a : List Expectation). IsSwiftSaidOf c.args.format c.args.heading script a found c.in_ok-text.text.items) c.deref-4.ensures.value c.in_ok-text.ensures;
      saved =
          subst (λ (p : ScriptView). IsKept c.args.save (swift_answer_json c.args.heading.text.now p asked found) c.in_ok-saved.saved) c.deref-5.ensures
          (subst (λ (a : List Expectation). IsKept c.args.save (swift_answer_json c.args.heading.text.now c.deref-5.result.now a found) c.in_ok-saved.saved) c.deref-6.ensures.value c.in_ok-saved.ensures);
    }
