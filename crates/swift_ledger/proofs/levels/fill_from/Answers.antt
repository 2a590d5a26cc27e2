use Rattle.swift_ledger.proofs.Prelude.{◌≡◌, ◌∙◌, sym, arith, length}
use Rattle.swift_ledger.proofs.LevelLemmas.{each_more}
use Rattle.swift_ledger.proofs.levels.fill_from.Goals as goal

pub fill-preserved : goal.fill-preserved
fill-preserved c =
    let long : length c.fill.levels.items ≡ c.len-in-fill.result = sym (c.len-in-fill.ensures ∙ c.fill.levels.ok.0) in
    record {
      each = each_more c.args.log.now.events c.fill.levels.items c.push_reserved.new.self.items c.len-in-fill.result c.level_of-level.result c.push_reserved.ensures.items long c.fill.invariant.each c.level_of-level.ensures;
      few = omega (arith, c.fill-test.true, c.len.ensures, c.push_reserved.ensures.len);
      room = omega (arith, c.fill.invariant.room, c.push_reserved.ensures.capacity);
    }
