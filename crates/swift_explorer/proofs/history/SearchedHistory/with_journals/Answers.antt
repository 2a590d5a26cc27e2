use Rattle.swift_explorer.proofs.history.SearchedHistory.with_journals.Goals as goal

pub returns : goal.returns
returns c =
    let p = c.in_ok-history.ensures.first in
    record {
      first = record {
        blocks = p.blocks;
        steps = p.steps;
        is = record { orderly = p.is.orderly; none_folded = p.is.none_folded; many = p.is.many; used = p.is.used; short = p.is.short; followed = p.is.followed; read = p.is.read };
        roots = p.roots;
      };
    }
