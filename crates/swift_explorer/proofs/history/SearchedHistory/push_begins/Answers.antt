use Rattle.swift_explorer.proofs.Prelude.{◌+◌, ◌∙◌, Vec, refl, sym, subst, ap, Contains, Global, Move, HasEach, MayBegin}
use Rattle.swift_explorer.specs.declared.moves.Move.TheVariants as step
use Rattle.swift_explorer.proofs.EachMove.{each_push, each_skip, kept_push}
use Rattle.swift_explorer.proofs.history.SearchedHistory.push_begins.Goals.{then-can_begin+in_ok-push, else-can_begin}
use Rattle.swift_explorer.proofs.history.SearchedHistory.push_begins.Goals as goal

pub loop-place-preserved : goal.loop-place-preserved
loop-place-preserved c =
    let x = c.args.self.now in
    let place = c.loop-place.place in
    let ms = c.loop-place.moves.items in
    let before = c.loop-place.invariant in
    elim c.if-can_begin.branch [
      | then-can_begin+in_ok-push w ↦
          (let is = ap (λ (v : Vec Move Global). v.items) w.moves-is ∙ w.in_ok-push.ensures.items in
          record {
            kept = kept_push c.args.moves.now.items ms c.if-can_begin.moves.items (step.Begin (record { 0 = place })) is before.kept;
            all = λ few. each_push step.Begin MayBegin x place ms c.if-can_begin.moves.items (record { 0 = place }) refl is (before.all few);
          })
      | else-can_begin w ↦ record {
        kept = λ m has. subst (λ (v : Vec Move Global). Contains v.items m) (sym w.moves-is) (before.kept m has);
        all = λ few. subst (λ (v : Vec Move Global). HasEach step.Begin MayBegin x (place + 1) v.items) (sym w.moves-is)
            (each_skip step.Begin MayBegin x place ms (c.can_begin.ensures.all w.if-can_begin.false few) (before.all few));
      }
    ]
