use Rattle.run_pictures.proofs.Prelude.{◌≡◌, ℕ, ◌-◌, ◌<◌, ◌≤◌, ℤ, List, length, take, sym, ap, ap₂, ◌∙◌, arith, rows_of, RecordView, fields_after, replay}
use Rattle.run_pictures.proofs.Answered.{if_ok}
use Rattle.run_pictures.proofs.Ranges.{range_none, replay_more}
use Rattle.run_pictures.proofs.values.turns.fields_before.Goals as goal

pub loop-earlier-init : goal.loop-earlier-init
loop-earlier-init c =
    let zero : c.args.place - 0 ≡ c.args.place = omega arith in
    record {
      fields = ap₂ (λ (f : List (List ℤ)) (k : ℕ). replay c.args.script.now f (take k c.args.journal.now)) c.in_ok-player.ensures.fields zero;
      same = c.in_ok-player.ensures.same ∙ sym c.in_ok-player.ensures.fields;
    }

pub loop-earlier-preserved : goal.loop-earlier-preserved
loop-earlier-preserved c =
    let p = c.args.script.now in
    let i = c.loop-earlier.earlier in
    let before = rows_of c.loop-earlier.player.fields.items in
    let after = rows_of c.play.new.self.fields.items in
    let within : i < c.args.place = omega (arith, c.loop-earlier-test.true) in
    let lt : i < length c.args.journal.now = omega (arith, c.loop-earlier-test.true, c.requires) in
    record {
      fields = replay_more p before after c.args.journal.now i c.args.place _ within lt (λ d. c.in_ok-play.ensures.fields ∙ ap (λ (r : RecordView). fields_after p before r) (c.in_ok-found.ensures d)) c.loop-earlier.invariant.fields;
      same = c.in_ok-play.ensures.same;
    }

pub returns : goal.returns
returns c =
    let p = c.args.script.now in
    let i = c.loop-earlier.earlier in
    let fields = rows_of c.loop-earlier.player.fields.items in
    let past : c.args.place ≤ i = omega (arith, c.loop-earlier-test.false) in
    let end = sym (ap (λ (rs : List RecordView). replay p fields rs) (range_none c.args.journal.now i c.args.place past)) ∙ c.loop-earlier.invariant.fields in
    if_ok c.copy_of.result (λ copy is. is ∙ ap rows_of c.deref.ensures.value ∙ end) c.copy_of.ensures
