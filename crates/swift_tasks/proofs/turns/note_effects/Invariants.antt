use Rattle.swift_tasks.proofs.Prelude.{◌≡◌, ◌+◌, ◌≤◌, ◌++◌, vec_len, drop, map, reverse, vec_capacity, AllByRecursion, ScriptView, root_count, ExitView, effect_views, IsMade, log_after, jobs_made, CanTakeAll, AreBodiesOf, IsJobOf, job_facts}
use Rattle.swift_tasks.proofs.turns.note_effects.Given as goal

abbrev pub invariant-loop-effect : goal.invariant-loop-effect
invariant-loop-effect l = record {
  roots : l.ledger.roots ≡ l.initial.ledger.roots;
  mine : IsMade l.ledger.log l.task;
  take : (exit : ExitView) → CanTakeAll l.initial.ledger.roots l.task.0 l.initial.ledger.log (effect_views l.effects) l.fn.bodies.items exit
      → CanTakeAll l.initial.ledger.roots l.task.0 l.ledger.log (effect_views (drop l.effect-index l.effects)) (reverse l.bodies.items) exit;
  log : log_after l.initial.ledger.roots l.task.0 l.own l.ledger.log (effect_views (drop l.effect-index l.effects)) ≡ log_after l.initial.ledger.roots l.task.0 l.own l.initial.ledger.log (effect_views l.effects);
  spare : l.initial.ledger.spare ≤ l.ledger.spare + l.effect-index;
  started : (script : ScriptView) → AreBodiesOf script (effect_views l.effects) l.fn.bodies.items → AreBodiesOf script (effect_views (drop l.effect-index l.effects)) (reverse l.bodies.items);
  jobs : (script : ScriptView) → AreBodiesOf script (effect_views l.effects) l.fn.bodies.items → root_count script ≡ l.initial.ledger.roots
      → map job_facts l.jobs.items ++ jobs_made script l.task.0 l.own l.ledger.log (effect_views (drop l.effect-index l.effects)) ≡ map job_facts l.initial.jobs.items ++ jobs_made script l.task.0 l.own l.initial.ledger.log (effect_views l.effects);
  bodies : (script : ScriptView) → AreBodiesOf script (effect_views l.effects) l.fn.bodies.items → AllByRecursion (IsJobOf script) l.initial.jobs.items → AllByRecursion (IsJobOf script) l.jobs.items;
  few : vec_len l.jobs ≤ vec_len l.initial.jobs + l.effect-index;
  capacity : vec_capacity l.jobs ≡ vec_capacity l.initial.jobs;
}
