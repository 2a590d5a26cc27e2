use Rattle.swift_report.proofs.Written.{written_more, still_within}
use Rattle.swift_report.proofs.output.write_all.Goals as goal

pub loop-written-preserved : goal.loop-written-preserved
loop-written-preserved g c = record {
  within = still_within c.args.text.now c.loop-written.written c.in-Ok.taken c.loop-written.invariant.within c.in-Ok.ensures.bound;
  front = written_more (g.W.Write.contents c.args.out.now) (g.W.Write.contents c.loop-written.out) (g.W.Write.contents c.write.new.self) c.args.text.now c.loop-written.written c.in-Ok.taken c.loop-written.invariant.front c.in-Ok.ensures.bytes;
}
