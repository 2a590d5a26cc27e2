use Rattle.std.proofs.Common.{[], ◌∙◌, Some, ap, refl, sym}
use Rattle.std.proofs.lemmas.List.{append-nil}
use Rattle.std.proofs.lemmas.Option.{slice_get-get_or}
use Rattle.swift_syntax.proofs.Giving.{given_rows}
use Rattle.swift_syntax.proofs.actor.give_at.Goals as goal

pub returns-in-Some : goal.returns-in-Some
returns-in-Some c =
    let tree = c.deref_mut.ensures.value in
    let fields = c.deref_mut.result.now.fields.items in
    let found = slice_get-get_or fields c.args.place c.in-Some.field.now c.in-Some.ensures.item.3.0 ∙ ap Some (sym c.in-Some.ensures.value) in
    record {
      continues = record { refused = λ n. n; text = refl; tokens = refl; more = []; exprs = ap (λ t. t.exprs.items) tree ∙ sym (append-nil _); more_arguments = []; arguments = ap (λ t. t.arguments.items) tree ∙ sym (append-nil _) };
      adds = λ n b. record {
        more = [];
        stmts = ap (λ t. t.stmts.items) tree ∙ sym (append-nil _);
        holds = λ xs l. (refl, given_rows c.deref_mut.result.now c.args.reader.now.tree.value c.args.place c.args.value c.in-Some.field.now found tree);
      };
    }
