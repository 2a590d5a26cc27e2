use Rattle.std.proofs.Common.{◌∙◌, ap, subst}
use Rattle.swift_syntax.specs.Declarations.{SpellsField, SpellsKeeper, SpellsStart}
use Rattle.swift_syntax.specs.DeclaringInside.{with_field}
use Rattle.swift_syntax.specs.Statements.{Lexed, SpellsAnnotation}
use Rattle.swift_syntax.specs.declared.tree.FieldDecl.{FieldDecl}
use Rattle.swift_syntax.proofs.Declaring.{both_stay, field_of, named_stays, puts, puts_as, puts_of, same_rows, start_stays, took_named}
use Rattle.swift_syntax.proofs.Statements.{lexed_stays}
use Rattle.swift_syntax.proofs.Steps.{Took, then, took_call}
use Rattle.swift_syntax.proofs.actor.field.Goals as goal

pub returns : goal.returns
returns c =
    let K : Lexed → Type 0 = λ l. SpellsKeeper l c.args.reader.now.at c.keeper-is_var.new.reader.at c.keeper-is_var.result in
    let A : Lexed → Type 0 = λ l. SpellsAnnotation l c.name-name.new.self.at c.annotation-value_type.new.self.at c.annotation-value_type.result in
    let keep = took_call c.args.reader.now c.keeper-is_var.new.reader (λ l i j. SpellsKeeper l i j c.keeper-is_var.result) c.keeper-is_var.ensures.spelled c.keeper-is_var.ensures.grows in
    let name = took_named c.keeper-is_var.new.reader c.name-name.new.self c.name-name.ensures.taken c.name-name.ensures.grows in
    let type = took_call c.name-name.new.self c.annotation-value_type.new.self (λ l i j. SpellsAnnotation l i j c.annotation-value_type.result) c.annotation-value_type.ensures.spelled c.annotation-value_type.ensures.grows in
    let start : Took c.annotation-value_type.new.self c.start-start.new.reader (λ a. SpellsStart a c.annotation-value_type.new.self.at c.start-start.new.reader.at c.start-start.result) = record { grows = c.start-start.ensures.grows; holds = c.start-start.ensures.spelled } in
    let all = then _ _ _ (lexed_stays K) keep (then _ _ _ (named_stays _ _ _) name (then _ _ _ (lexed_stays A) type start)) in
    let made : FieldDecl = record { actor = c.args.actor; name = c.name-name.result; is_var = c.keeper-is_var.result; access = c.args.access; value_type = c.annotation-value_type.result; start = c.start-start.result; given = 0 } in
    puts_as (λ a x. record {
      field = made;
      spelled = subst (λ j. SpellsField a c.args.actor c.args.access c.args.reader.now.at j made) x.1.0 (field_of a x.0.1.0.1 x.0.0 x.0.1.0.0 x.0.1.1.0 x.0.1.1.1);
      rows = x.1.1 ∙ ap (with_field made) (same_rows _ _ all.grows);
    }) (puts _ _ _ (both_stay (lexed_stays K) (both_stay (named_stays _ _ _) (both_stay (lexed_stays A) (start_stays _ _ _)))) (puts_of _ _ all) c.put_field.ensures)
