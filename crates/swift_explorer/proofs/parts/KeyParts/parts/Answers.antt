use Rattle.swift_explorer.proofs.Prelude.{◌++◌, ℕ, ℤ, List, [], refl, sym, subst, ap, ◌∙◌, append_assoc, AreParts}
use Rattle.swift_explorer.proofs.PartsKnown.{grows_none, grows_on, parts_grown, parts_push}
use Rattle.swift_explorer.proofs.parts.KeyParts.parts.Goals as goal

pub loop-cut-init : goal.loop-cut-init
loop-cut-init c =
    let x = c.args.self.now in
    record { grown = grows_none x; parts = ([], subst (λ (ns : List ℕ). AreParts x ns []) (sym c.in_ok-parts.ensures.items) refl, refl) }

pub loop-cut-preserved : goal.loop-cut-preserved
loop-cut-preserved c =
    let old = c.loop-cut.invariant in
    let x = c.loop-cut.self in
    let y = c.part.new.self in
    let part = c.split_at.result.0.now in
    let done = old.parts.0 in
    let grown = c.in_ok-part.ensures.grown in
    record {
      grown = grows_on c.args.self.now x y old.grown grown;
      parts = (
        done ++ part,
        subst (λ (ns : List ℕ). AreParts y ns (done ++ part)) (sym c.in_ok-push.ensures.items)
            (parts_push y c.loop-cut.parts.items c.in_ok-part.field-0 done part (parts_grown x y c.loop-cut.parts.items done grown old.parts.1) c.in_ok-part.ensures.part),
        old.parts.2 ∙ ap (λ (rest : List ℤ). done ++ rest) c.split_at.ensures.by_index.0 ∙ sym (append_assoc done part c.split_at.result.1.now),
      );
    }

pub returns-clause-grown : goal.returns-clause-grown
returns-clause-grown c = grows_on c.args.self.now c.loop-cut.self c.part-2.new.self c.loop-cut.invariant.grown c.in_ok-part-2.ensures.grown

pub returns-clause-parts : goal.returns-clause-parts
returns-clause-parts c =
    let old = c.loop-cut.invariant in
    let x = c.loop-cut.self in
    let y = c.part-2.new.self in
    let all = parts_push y c.loop-cut.parts.items c.in_ok-part-2.field-0 old.parts.0 c.loop-cut.rest.now
    (parts_grown x y c.loop-cut.parts.items old.parts.0 c.in_ok-part-2.ensures.grown old.parts.1) c.in_ok-part-2.ensures.part in
    subst (AreParts y c.push-2.new.self.items) (sym old.parts.2)
    (subst (λ (ns : List ℕ). AreParts y ns (old.parts.0 ++ c.loop-cut.rest.now)) (sym c.in_ok-push-2.ensures.items) all)
