use Rattle.swift_ledger.proofs.Prelude.{arith}
use Rattle.swift_ledger.proofs.GroupFacts.{fits-groups}
use Rattle.swift_ledger.proofs.indexes.Indexes.note.Goals as goal

pub is_named_in-is_named-requires : goal.is_named_in-is_named-requires
is_named_in-is_named-requires c = c.requires.indexes.groups

pub has_children_in-has_children-requires : goal.has_children_in-has_children-requires
has_children_in-has_children-requires c = c.requires.indexes.groups

pub parent_in-parent-requires-clause-lives : goal.parent_in-parent-requires-clause-lives
parent_in-parent-requires-clause-lives c = c.requires.indexes.lives

pub parent_in-parent-requires-clause-log : goal.parent_in-parent-requires-clause-log
parent_in-parent-requires-clause-log c = c.requires.log

pub note-requires-clause-flags : goal.note-requires-clause-flags
note-requires-clause-flags c = c.requires.indexes.flags

pub note-requires-clause-lives : goal.note-requires-clause-lives
note-requires-clause-lives c = c.lives.ensures c.args.roots c.args.log.now.events c.requires.indexes.lives

pub note-requires-clause-log : goal.note-requires-clause-log
note-requires-clause-log c = c.requires.log

pub note-requires-clause-fits : goal.note-requires-clause-fits
note-requires-clause-fits c = c.requires.fits

pub note-requires-clause-named : goal.note-requires-clause-named
note-requires-clause-named c = c.is_named_in-is_named.ensures

pub note-requires-clause-children : goal.note-requires-clause-children
note-requires-clause-children c = c.has_children_in-has_children.ensures

pub note-requires-clause-spare : goal.note-requires-clause-spare
note-requires-clause-spare c = c.requires.spare.flags

pub note-requires-2-clause-groups : goal.note-requires-2-clause-groups
note-requires-2-clause-groups c = c.requires.indexes.groups

pub note-requires-2-clause-fits : goal.note-requires-2-clause-fits
note-requires-2-clause-fits c =
    fits-groups c.args.roots c.args.log.now.events c.args.event c.requires.log c.requires.fits

pub note-requires-2-clause-parent : goal.note-requires-2-clause-parent
note-requires-2-clause-parent c = c.parent_in-parent.ensures

pub note-requires-2-clause-spare : goal.note-requires-2-clause-spare
note-requires-2-clause-spare c = c.requires.spare.groups

pub note_own-requires-clause-own : goal.note_own-requires-clause-own
note_own-requires-clause-own c = c.requires.indexes.own

pub note_own-requires-clause-log : goal.note_own-requires-clause-log
note_own-requires-clause-log c = c.requires.log

pub note_own-requires-clause-fits : goal.note_own-requires-clause-fits
note_own-requires-clause-fits c = c.requires.fits

pub note_own-requires-clause-short : goal.note_own-requires-clause-short
note_own-requires-clause-short c = c.requires.short

pub note_own-requires-clause-spare : goal.note_own-requires-clause-spare
note_own-requires-clause-spare c = c.requires.spare.own

pub note_waiter-requires-clause-waiters : goal.note_waiter-requires-clause-waiters
note_waiter-requires-clause-waiters c = c.requires.indexes.waiters

pub note_waiter-requires-clause-log : goal.note_waiter-requires-clause-log
note_waiter-requires-clause-log c = c.requires.log

pub note_waiter-requires-clause-fits : goal.note_waiter-requires-clause-fits
note_waiter-requires-clause-fits c = c.requires.fits

pub note_waiter-requires-clause-short : goal.note_waiter-requires-clause-short
note_waiter-requires-clause-short c = c.requires.short

pub note_waiter-requires-clause-spare : goal.note_waiter-requires-clause-spare
note_waiter-requires-clause-spare c = c.requires.spare.waiters

pub note_link-requires-clause-links : goal.note_link-requires-clause-links
note_link-requires-clause-links c = c.requires.indexes.links

pub note_link-requires-clause-log : goal.note_link-requires-clause-log
note_link-requires-clause-log c = c.requires.log

pub note_link-requires-clause-fits : goal.note_link-requires-clause-fits
note_link-requires-clause-fits c = c.requires.fits

pub note_link-requires-clause-spare : goal.note_link-requires-clause-spare
note_link-requires-clause-spare c = c.requires.spare.waits

pub note-requires-3-clause-lives : goal.note-requires-3-clause-lives
note-requires-3-clause-lives c = c.requires.indexes.lives

pub note-requires-3-clause-log : goal.note-requires-3-clause-log
note-requires-3-clause-log c = c.requires.log

pub note-requires-3-clause-fits : goal.note-requires-3-clause-fits
note-requires-3-clause-fits c = c.requires.fits

pub note-requires-3-clause-spare : goal.note-requires-3-clause-spare
note-requires-3-clause-spare c = c.requires.spare.lives

pub returns-clause-indexes : goal.returns-clause-indexes
returns-clause-indexes c = record {
  lives = c.note-3.ensures.lives;
  flags = c.note.ensures.flags;
  own = c.note_own.ensures.own;
  waiters = c.note_waiter.ensures.waiters;
  links = c.note_link.ensures.links;
  groups = c.note-2.ensures.groups;
}

pub returns-clause-spare : goal.returns-clause-spare
returns-clause-spare c = λ n h. record {
  lives = c.note-3.ensures.spare n h.lives;
  flags = c.note.ensures.spare n h.flags;
  own = c.note_own.ensures.spare n h.own;
  waiters = c.note_waiter.ensures.spare n h.waiters;
  waits = omega (arith, h.waits, c.note_link.ensures.spare);
  groups = omega (arith, h.groups, c.note-2.ensures.spare);
}
