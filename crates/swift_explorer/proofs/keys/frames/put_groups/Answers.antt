use Rattle.swift_explorer.proofs.Prelude.{reverse-reverse}
use Rattle.swift_explorer.proofs.keys.frames.put_groups.Goals as goal

pub returns : goal.returns
returns c = rw (reverse-reverse c.args.groups.now) c.in_ok-put_ids.ensures
