use Rattle.swift_ledger.proofs.Prelude.{◌<◌, subst, sym, arith, LogView, IsWellFormed, AreIndexes, HasSpare, KeepsLevels, Indexes}
use Rattle.swift_ledger.proofs.FormLemmas.{form_none}
use Rattle.swift_ledger.proofs.ledger.Ledger.new.Goals as goal

-- room for no event
none_spare : (a : Indexes) → HasSpare a 0
none_spare a = record {
  lives = omega arith;
  flags = omega arith;
  own = (λ (some : 0 < 0). absurd (omega (arith, some)), omega arith);
  waiters = (λ (some : 0 < 0). absurd (omega (arith, some)), omega arith);
  waits = omega arith;
  groups = omega arith;
}

pub invariant_of-result : goal.invariant_of-result
invariant_of-result c = record {
  form = subst (λ (l : LogView). IsWellFormed c.args.roots l.events) (sym c.new.ensures) (form_none c.args.roots c.requires);
  indexes = subst (λ (l : LogView). AreIndexes c.in_ok-new.field-0 c.args.roots l.events) (sym c.new.ensures) c.in_ok-new.ensures;
  indexes_room = subst (λ (l : LogView). HasSpare c.in_ok-new.field-0 l.room) (sym c.new.ensures) (none_spare c.in_ok-new.field-0);
  levels = subst (λ (l : LogView). KeepsLevels c.in_ok-new-2.field-0 l.events) (sym c.new.ensures) c.in_ok-new-2.ensures;
}
