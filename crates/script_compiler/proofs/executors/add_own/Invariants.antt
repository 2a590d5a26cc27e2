use Rattle.script_compiler.proofs.Prelude.{◌≡◌, ◌++◌, map, drop, length, All, view_decl, script_in, own_executors, actor_view, executor_view, HasInvariants, executors_by}
use Rattle.script_compiler.proofs.executors.add_own.Given as goal

abbrev pub invariant-loop-decl : goal.invariant-loop-decl
invariant-loop-decl l = record {
  view : map executor_view l.all.items ++ executors_by l.plan (length l.actors) (length l.all.items) (own_executors (script_in (map view_decl (drop l.decl-index l.decls))).actors) ≡ map executor_view l.initial.all.items ++ executors_by l.plan (length l.actors) (length l.initial.all.items) (own_executors (script_in (map view_decl l.decls)).actors);
  invariants : All (HasInvariants (map actor_view l.actors)) l.all.items;
}
