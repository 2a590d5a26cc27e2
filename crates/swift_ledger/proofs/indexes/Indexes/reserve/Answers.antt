use Rattle.swift_ledger.proofs.Prelude.{arith, ◌∙◌, own_tasks, waiters_of}
use Rattle.swift_ledger.proofs.indexes.Indexes.reserve.Goals as goal

pub returns-in_err-reserve-clause-spare : goal.returns-in_err-reserve-clause-spare
returns-in_err-reserve-clause-spare c = λ n h. record {
  lives = c.reserve.ensures.spare n h.lives;
  flags = h.flags;
  own = h.own;
  waiters = h.waiters;
  groups = h.groups;
  waits = h.waits;
}

pub returns-in_err-reserve-2-clause-spare : goal.returns-in_err-reserve-2-clause-spare
returns-in_err-reserve-2-clause-spare c = λ n h. record {
  lives = c.reserve.ensures.spare n h.lives;
  flags = c.reserve-2.ensures.spare n h.flags;
  own = h.own;
  waiters = h.waiters;
  groups = h.groups;
  waits = h.waits;
}

pub returns-in_err-reserve-3-clause-spare : goal.returns-in_err-reserve-3-clause-spare
returns-in_err-reserve-3-clause-spare c = λ n h. record {
  lives = c.reserve.ensures.spare n h.lives;
  flags = c.reserve-2.ensures.spare n h.flags;
  own = c.reserve-3.ensures.spare n h.own;
  waiters = h.waiters;
  groups = h.groups;
  waits = h.waits;
}

pub returns-in_err-reserve-4-clause-spare : goal.returns-in_err-reserve-4-clause-spare
returns-in_err-reserve-4-clause-spare c = λ n h. record {
  lives = c.reserve.ensures.spare n h.lives;
  flags = c.reserve-2.ensures.spare n h.flags;
  own = c.reserve-3.ensures.spare n h.own;
  waiters = c.reserve-4.ensures.spare n h.waiters;
  groups = h.groups;
  waits = h.waits;
}

pub returns-in_err-reserve-5-clause-spare : goal.returns-in_err-reserve-5-clause-spare
returns-in_err-reserve-5-clause-spare c = λ n h. record {
  lives = c.reserve.ensures.spare n h.lives;
  flags = c.reserve-2.ensures.spare n h.flags;
  own = c.reserve-3.ensures.spare n h.own;
  waiters = c.reserve-4.ensures.spare n h.waiters;
  groups = omega (arith, h.groups, c.reserve-5.ensures.spare);
  waits = h.waits;
}

pub returns-in_err-reserve-5-clause-same : goal.returns-in_err-reserve-5-clause-same
returns-in_err-reserve-5-clause-same c = λ roots log are. record {
  lives = c.reserve.ensures.same roots log are.lives;
  flags = c.reserve-2.ensures.same roots log are.flags;
  own = c.reserve-3.ensures.same (λ t. own_tasks t log) are.own;
  waiters = c.reserve-4.ensures.same (λ t. waiters_of t log) are.waiters;
  links = are.links;
  groups = c.reserve-5.ensures.groups log are.groups;
}

pub returns-clause-same : goal.returns-clause-same
returns-clause-same c = λ roots log are. record {
  lives = c.reserve.ensures.same roots log are.lives;
  flags = c.reserve-2.ensures.same roots log are.flags;
  own = c.reserve-3.ensures.same (λ t. own_tasks t log) are.own;
  waiters = c.reserve-4.ensures.same (λ t. waiters_of t log) are.waiters;
  links = c.reserve_links.ensures.same ∙ are.links;
  groups = c.reserve-5.ensures.groups log are.groups;
}

pub returns-clause-spare : goal.returns-clause-spare
returns-clause-spare c = λ n h. record {
  lives = c.reserve.ensures.spare n h.lives;
  flags = c.reserve-2.ensures.spare n h.flags;
  own = c.reserve-3.ensures.spare n h.own;
  waiters = c.reserve-4.ensures.spare n h.waiters;
  groups = omega (arith, h.groups, c.reserve-5.ensures.spare);
  waits = omega (arith, h.waits, c.reserve_links.ensures.spare);
}
