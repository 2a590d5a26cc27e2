use Rattle.std.proofs.Common.{ℕ, ◌∙◌, ap, subst}
use Rattle.swift_syntax.specs.Declarations.{SpellsParam}
use Rattle.swift_syntax.specs.DeclaringInside.{with_param}
use Rattle.swift_syntax.specs.Statements.{Lexed, SpellsType}
use Rattle.swift_syntax.specs.declared.tree.ParamDecl.{ParamDecl}
use Rattle.swift_syntax.specs.declared.tree.ValueType.{ValueType}
use Rattle.swift_syntax.proofs.Declaring.{puts, puts_as, puts_of, same_rows}
use Rattle.swift_syntax.proofs.Statements.{lexed_stays}
use Rattle.swift_syntax.proofs.Steps.{then, took_lexed}
use Rattle.swift_syntax.proofs.actor.param.Goals as goal

pub returns : goal.returns
returns c =
    let N : Lexed → Type 0 = λ l. (k : ℕ) (t : ValueType) → SpellsType l c.param_names-label.new.reader.at k t → SpellsParam l c.args.reader.now.at k (record { label = c.param_names-label.result.0; name = c.param_names-label.result.1; value_type = t }) in
    let T : Lexed → Type 0 = λ l. SpellsType l c.param_names-label.new.reader.at c.value_type-value_type.new.self.at c.value_type-value_type.result in
    let names = took_lexed c.args.reader.now c.param_names-label.new.reader N c.param_names-label.ensures.spelled c.param_names-label.ensures.grows in
    let type = took_lexed c.param_names-label.new.reader c.value_type-value_type.new.self T c.value_type-value_type.ensures.spelled c.value_type-value_type.ensures.grows in
    let both = then _ _ _ (lexed_stays N) names type in
    let all = puts _ _ _ (lexed_stays (λ l. N l × T l)) (puts_of _ _ both) c.put_param.ensures in
    let made : ParamDecl = record { label = c.param_names-label.result.0; name = c.param_names-label.result.1; value_type = c.value_type-value_type.result } in
    puts_as (λ a x. record {
      param = made;
      spelled = subst (λ j. SpellsParam a.lexed c.args.reader.now.at j made) x.1.0 (x.0.0 _ _ x.0.1);
      rows = x.1.1 ∙ ap (with_param made) (same_rows _ _ both.grows);
    }) all
