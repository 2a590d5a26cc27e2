use Rattle.std.proofs.Common.{[], ◌∙◌, Some, ap, refl, sym}
use Rattle.std.proofs.lemmas.List.{append-nil}
use Rattle.std.proofs.lemmas.Option.{slice_get-get_or}
use Rattle.swift_syntax.specs.Declarations.{on_executor}
use Rattle.swift_syntax.proofs.Declaring.{changed_rows}
use Rattle.swift_syntax.proofs.actor.set_executor.Goals as goal

pub returns-in-Some : goal.returns-in-Some
returns-in-Some c =
    let tree = c.deref_mut.ensures.value in
    let actors = c.deref_mut.result.now.actors.items in
    let found = slice_get-get_or actors c.args.actor c.in-Some.made.now c.in-Some.ensures.item.3.0 ∙ ap Some (sym c.in-Some.ensures.value) in
    record {
      continues = record { refused = λ n. n; text = refl; tokens = refl; more = []; exprs = ap (λ t. t.exprs.items) tree ∙ sym (append-nil _); more_arguments = []; arguments = ap (λ t. t.arguments.items) tree ∙ sym (append-nil _) };
      adds = λ n b. record {
        more = [];
        stmts = ap (λ t. t.stmts.items) tree ∙ sym (append-nil _);
        holds = λ xs l. (refl, changed_rows c.deref_mut.result.now c.args.reader.now.tree.value (on_executor c.args.name) c.args.actor c.in-Some.made.now found tree);
      };
    }
