use Rattle.std.proofs.Common.{◌≡◌, List, length, ap, refl, subst, ◌∙◌}
use Rattle.swift_syntax.specs.declared.tree.ExpectDecl.{ExpectDecl}
use Rattle.swift_syntax.specs.declared.tree.InvariantDecl.{InvariantDecl}
use Rattle.swift_syntax.specs.declared.tree.MethodDecl.{MethodDecl}
use Rattle.swift_syntax.specs.declared.tree.Tree.{Tree}
use Rattle.swift_expressions.specs.States.{State, not_begun, state_of}
use Rattle.swift_lowering.specs.Files.{AsksExpectation, AsksInvariant, BeginsMain, BeginsMethod, InOrder, LowersMethod}
use Rattle.swift_lowering.proofs.Filed.{asked_of, ordered_of}
use Rattle.swift_lowering.proofs.file.lower_all.Goals as goal

pub returns : goal.returns
returns c =
    let tree = c.args.tree.now.value in
    let methods : c.deref-methods.result.now ≡ tree.methods.items = c.deref-methods.ensures.value ∙ ap (λ (t : Tree). t.methods.items) c.deref.ensures in
    let mains : c.deref-mains.result.now ≡ tree.mains.items = c.deref-mains.ensures.value ∙ ap (λ (t : Tree). t.mains.items) c.deref-2.ensures in
    let invariants : c.deref-4.result.now ≡ tree.invariants.items = c.deref-4.ensures.value ∙ ap (λ (t : Tree). t.invariants.items) c.deref-3.ensures in
    let expectations : c.deref-6.result.now ≡ tree.expectations.items = c.deref-6.ensures.value ∙ ap (λ (t : Tree). t.expectations.items) c.deref-5.ensures in
    record {
      code = λ n.
          let n8 = c.check_whole.ensures.refused n in
          let n7 = c.lower_expectations-expectations.ensures.refused n8 in
          let n6 = c.lower_invariants-invariants.ensures.refused n7 in
          let n5 = c.lower_each-2.ensures.refused n6 in
          let n4 = c.lower_each.ensures.refused n5 in
          let n3 = c.begin_main.ensures.refused n4 in
          let n2 = c.begin_methods.ensures.refused n3 in
          let n1 = c.check_starts.ensures.refused n2 in
          let n0 = c.check_members.ensures.refused n1 in
          let start : state_of c.check_starts.new.lowering ≡ not_begun c.args.text.now c.args.tokens.now tree = c.check_starts.ensures.state n2 ∙ (c.check_members.ensures.state n1 ∙ (c.check_globals.ensures.state n0 ∙ c.new-lowering.ensures.state)) in
          record {
            a = state_of c.begin_methods.new.lowering;
            b = state_of c.begin_main.new.lowering;
            c = state_of c.lower_each.new.lowering;
            d = state_of c.lower_each-2.new.lowering;
            e = state_of c.lower_invariants-invariants.new.lowering;
            f = state_of c.lower_expectations-expectations.new.lowering;
            begins_methods = ordered_of BeginsMethod methods start (c.begin_methods.ensures.begins n3);
            begins_main = ordered_of BeginsMain mains refl (c.begin_main.ensures.begins n4);
            methods = ordered_of LowersMethod methods refl (c.lower_each.ensures.lowers n5);
            main = subst (λ (ms : List MethodDecl). InOrder MethodDecl LowersMethod (length ms) tree.mains.items (state_of c.lower_each.new.lowering) (state_of c.lower_each-2.new.lowering)) methods (ordered_of LowersMethod mains refl (c.lower_each-2.ensures.lowers n6));
            invariants = asked_of AsksInvariant invariants (c.lower_invariants-invariants.ensures.asks n7);
            expectations = asked_of AsksExpectation expectations (c.lower_expectations-expectations.ensures.asks n8);
            is_put =
                let whole = c.check_whole.ensures.state n in
                record {
                  instructions = ap (λ (s : State). s.instructions) whole;
                  values = ap (λ (s : State). s.values) whole;
                  operands = ap (λ (s : State). s.operands) whole;
                  variables = ap (λ (s : State). s.variables) whole;
                  units = ap (λ (s : State). s.units) whole;
                };
          };
    }
