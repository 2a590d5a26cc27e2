use Rattle.swift_journal.proofs.Prelude.{◌≡◌, true, length, refl, rules, FrameHead}
use Rattle.swift_journal.proofs.FramesReadBack.{frame_reads_back}
use Rattle.swift_journal.proofs.frames.write_frame.Goals as goal

pub returns-clause-reads_back : goal.returns-clause-reads_back
returns-clause-reads_back c =
    let f = c.args.frame.now in
    let h : FrameHead = record {
      method = f.method;
      instruction = f.instruction;
      variables = c.in_ok-variables.variables;
      pending = c.in_ok-write_pending.field-0;
      counted = c.in_ok-counted.counted;
      stands = true;
    } in
    let size : c.in_ok-variables.variables ≡ length f.variables.items = search rules in
    let counted = c.in_ok-counted.ensures in
    frame_reads_back f h refl refl size c.in_ok-write_pending.ensures.kind counted.reads_back counted.handles counted.own counted.groups
