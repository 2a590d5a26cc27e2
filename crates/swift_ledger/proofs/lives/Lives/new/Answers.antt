use Rattle.swift_ledger.proofs.Prelude.{[], cond, refl, sym, replicate, ◌∙◌, ap, tasks_of, is_open, room_held, sum_of_none}
use Rattle.swift_ledger.proofs.LivesLemmas.{no_lives}
use Rattle.swift_ledger.proofs.lives.Lives.new.Goals as goal

pub returns : goal.returns
returns c = record {
  lives = c.in_ok-vec.ensures.items_if_clones_equal (λ y e. e) ∙ ap (replicate c.args.roots) c.unborn.ensures ∙ no_lives c.args.roots;
  open_tasks = sym (sum_of_none (λ l. cond (is_open l) 1 0) refl (tasks_of c.args.roots []));
  reserved = sym (sum_of_none room_held refl (tasks_of c.args.roots []));
}
