use Rattle.script_compiler.proofs.Prelude.{edges_of, waits_of, root_methods}
use Rattle.script_compiler.proofs.WaitsSame.{same_as_view, same_found, same_first, same_none, ok_then}
use Rattle.script_compiler.proofs.waits.first_waiting_root.Goals as goal

pub returns-clause-found : goal.returns-clause-found
returns-clause-found c =
    let same = same_as_view c.args.compiled.now c.deref.result.now c.deref-2.result.now c.in_ok-named.named.edges.items c.deref-6.result.now c.in_ok-named.named.waits.items c.deref-7.result.now c.in_ok-roots.roots.items c.deref-8.result.now
    c.deref.ensures.value c.deref-2.ensures.value c.deref-6.ensures.value c.in_ok-named.ensures.edges c.deref-7.ensures.value c.in_ok-named.ensures.waits c.deref-8.ensures.value c.in_ok-roots.ensures in
    ok_then c.first_waiting.result _ _ c.first_waiting.ensures.found (λ first h v is. same_found c.deref-6.result.now (edges_of v) c.deref-7.result.now (waits_of v) c.deref-8.result.now (root_methods v) first (same v is) h)

pub returns-clause-first : goal.returns-clause-first
returns-clause-first c =
    let same = same_as_view c.args.compiled.now c.deref.result.now c.deref-2.result.now c.in_ok-named.named.edges.items c.deref-6.result.now c.in_ok-named.named.waits.items c.deref-7.result.now c.in_ok-roots.roots.items c.deref-8.result.now
    c.deref.ensures.value c.deref-2.ensures.value c.deref-6.ensures.value c.in_ok-named.ensures.edges c.deref-7.ensures.value c.in_ok-named.ensures.waits c.deref-8.ensures.value c.in_ok-roots.ensures in
    ok_then c.first_waiting.result _ _ c.first_waiting.ensures.first (λ first h v is. same_first c.deref-6.result.now (edges_of v) c.deref-7.result.now (waits_of v) c.deref-8.result.now (root_methods v) first (same v is) h)

pub returns-clause-none : goal.returns-clause-none
returns-clause-none c =
    let same = same_as_view c.args.compiled.now c.deref.result.now c.deref-2.result.now c.in_ok-named.named.edges.items c.deref-6.result.now c.in_ok-named.named.waits.items c.deref-7.result.now c.in_ok-roots.roots.items c.deref-8.result.now
    c.deref.ensures.value c.deref-2.ensures.value c.deref-6.ensures.value c.in_ok-named.ensures.edges c.deref-7.ensures.value c.in_ok-named.ensures.waits c.deref-8.ensures.value c.in_ok-roots.ensures in
    ok_then c.first_waiting.result _ _ c.first_waiting.ensures.none (λ first h v is. same_none c.deref-6.result.now (edges_of v) c.deref-7.result.now (waits_of v) c.deref-8.result.now (root_methods v) first (same v is) h)
