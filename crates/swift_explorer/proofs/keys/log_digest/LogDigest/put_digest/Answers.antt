use Rattle.swift_explorer.proofs.Prelude.{arith}
use Rattle.swift_explorer.proofs.keys.log_digest.LogDigest.put_digest.Goals as goal

pub put_parts-requires : goal.put_parts-requires
put_parts-requires c = record { some = c.requires; tasks = omega (arith, c.len.ensures) }
