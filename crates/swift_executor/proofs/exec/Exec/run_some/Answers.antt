use Rattle.swift_executor.proofs.Prelude.{◌*◌, ◌∷◌, refl, map, ap, sym, subst, ◌∙◌, job_facts, DeskView, ExecView, IsAt, image_of, state_name, IsStateAt, InboxView, TakenView, HasStayed}
use Rattle.swift_executor.proofs.Visits.{free_at, of_book_at, state_at}
use Rattle.swift_executor.proofs.VisitsDone.{HasReady, failed, has_found, has_tried, visited}
use Rattle.swift_executor.proofs.exec.Exec.run_some.Goals as goal

pub accept_all-requires-clause-at : goal.accept_all-requires-clause-at
accept_all-requires-clause-at g c =
    let i = c.self.inside.inbox in
    let took = c.in-Run.resting in
    let free = free_at i took (c.in-Run.ensures.name ∙ c.self.invariant.0) c.into_held-held.ensures.rests in
    subst (λ (v : TakenView). IsAt i v.taker v.seat v.state) (sym (c.deref_mut.ensures.value ∙ c.into_held-held.ensures.same)) free.at

pub accept_all-requires-clause-book : goal.accept_all-requires-clause-book
accept_all-requires-clause-book g c =
    let i = c.args.self.now.inbox in
    let took = c.in-Run.resting in
    let at : IsStateAt i took = c.in-Run.ensures.name ∙ c.self.invariant.0 ∙ ap (λ (e : ExecView). state_name e.inbox.site e.inbox.id) c.self.view_is in
    of_book_at i c.args.book.now c.deref_mut.result.now c.requires.book.0 c.requires.book.1 (subst (IsStateAt i) (sym (c.deref_mut.ensures.value ∙ c.into_held-held.ensures.same)) at)

pub accept_all-requires-clause-free : goal.accept_all-requires-clause-free
accept_all-requires-clause-free g c = ap (λ (v : TakenView). v.state.chosen) (c.deref_mut.ensures.value ∙ c.into_held-held.ensures.same) ∙ c.into_held-held.ensures.rests.none

pub run_held-ran-requires-clause-at : goal.run_held-ran-requires-clause-at
run_held-ran-requires-clause-at g c =
    let ready = c.accept_all.new.held in
    state_at c.args.self.now.inbox ready (subst (λ (i : InboxView). IsAt i ready.taker ready.seat ready.state) (ap (λ (e : ExecView). e.inbox) c.self.view_is) c.accept_all.ensures.at)

pub run_held-ran-requires-clause-free : goal.run_held-ran-requires-clause-free
run_held-ran-requires-clause-free g c = c.accept_all.ensures.accepts.goes_on.1

pub returns-in-Run-clause-ran : goal.returns-in-Run-clause-ran
returns-in-Run-clause-ran g c =
    let i = c.args.self.now.inbox in
    let d = c.args.desk.now in
    let x = c.desk.inside in
    let took = c.in-Run.resting in
    let ready = c.accept_all.new.held in
    let s = c.begin.new.seat in
    let s' = c.run_held-ran.new.seat in
    let d' : DeskView = record { word = s'.word; inbox = x.pass.inbox; site = x.pass.site; sent = x.pass.pushed; finished = s'.finished; allowance = s'.allowance; found = s'.found; moved = s'.moved } in
    let r : HasReady i d.moved s took ready = record {
      moved = ap (λ s. s.moved) c.in-Run.ensures.run ∙ ap (λ (d : DeskView). image_of took ∷ d.moved) c.desk.view_is;
      free = free_at i took (c.in-Run.ensures.name ∙ c.self.invariant.0 ∙ ap (λ (e : ExecView). state_name e.inbox.site e.inbox.id) c.self.view_is) c.into_held-held.ensures.rests;
      at = subst (λ (i : InboxView). IsAt i ready.taker ready.seat ready.state) (ap (λ (e : ExecView). e.inbox) c.self.view_is) c.accept_all.ensures.at;
      accepts = subst (λ (v : TakenView). HasStayed v ready) (c.deref_mut.ensures.value ∙ c.into_held-held.ensures.same) c.accept_all.ensures.accepts;
    }
    in
    let found = ap (λ s. s.found) c.in-Run.ensures.run ∙ ap (λ (d : DeskView). 2 * c.in-Run.found ∷ d.found) c.desk.view_is in
    visited i d d' took ready s s' r refl c.args.worker c.in-Run.found (map job_facts c.args.jobs.now.jobs) (map job_facts c.run_held-ran.new.jobs.jobs) c.run_held-ran.result refl found c.run_held-ran.ensures.ran

pub returns-in-Run-clause-found : goal.returns-in-Run-clause-found
returns-in-Run-clause-found g c =
    let i = c.args.self.now.inbox in
    let d = c.args.desk.now in
    let x = c.desk.inside in
    let took = c.in-Run.resting in
    let ready = c.accept_all.new.held in
    let s = c.begin.new.seat in
    let s' = c.run_held-ran.new.seat in
    let d' : DeskView = record { word = s'.word; inbox = x.pass.inbox; site = x.pass.site; sent = x.pass.pushed; finished = s'.finished; allowance = s'.allowance; found = s'.found; moved = s'.moved } in
    let r : HasReady i d.moved s took ready = record {
      moved = ap (λ s. s.moved) c.in-Run.ensures.run ∙ ap (λ (d : DeskView). image_of took ∷ d.moved) c.desk.view_is;
      free = free_at i took (c.in-Run.ensures.name ∙ c.self.invariant.0 ∙ ap (λ (e : ExecView). state_name e.inbox.site e.inbox.id) c.self.view_is) c.into_held-held.ensures.rests;
      at = subst (λ (i : InboxView). IsAt i ready.taker ready.seat ready.state) (ap (λ (e : ExecView). e.inbox) c.self.view_is) c.accept_all.ensures.at;
      accepts = subst (λ (v : TakenView). HasStayed v ready) (c.deref_mut.ensures.value ∙ c.into_held-held.ensures.same) c.accept_all.ensures.accepts;
    }
    in
    let found = ap (λ s. s.found) c.in-Run.ensures.run ∙ ap (λ (d : DeskView). 2 * c.in-Run.found ∷ d.found) c.desk.view_is in
    has_found i d d' took ready s s' r refl c.args.worker c.in-Run.found (map job_facts c.args.jobs.now.jobs) (map job_facts c.run_held-ran.new.jobs.jobs) c.run_held-ran.result refl found c.run_held-ran.ensures.ran c.run_held-ran.ensures.left c.run_held-ran.ensures.pending

pub returns-in-Run-clause-tried : goal.returns-in-Run-clause-tried
returns-in-Run-clause-tried g c =
    let i = c.args.self.now.inbox in
    let d = c.args.desk.now in
    let x = c.desk.inside in
    let took = c.in-Run.resting in
    let ready = c.accept_all.new.held in
    let s = c.begin.new.seat in
    let s' = c.run_held-ran.new.seat in
    let d' : DeskView = record { word = s'.word; inbox = x.pass.inbox; site = x.pass.site; sent = x.pass.pushed; finished = s'.finished; allowance = s'.allowance; found = s'.found; moved = s'.moved } in
    let r : HasReady i d.moved s took ready = record {
      moved = ap (λ s. s.moved) c.in-Run.ensures.run ∙ ap (λ (d : DeskView). image_of took ∷ d.moved) c.desk.view_is;
      free = free_at i took (c.in-Run.ensures.name ∙ c.self.invariant.0 ∙ ap (λ (e : ExecView). state_name e.inbox.site e.inbox.id) c.self.view_is) c.into_held-held.ensures.rests;
      at = subst (λ (i : InboxView). IsAt i ready.taker ready.seat ready.state) (ap (λ (e : ExecView). e.inbox) c.self.view_is) c.accept_all.ensures.at;
      accepts = subst (λ (v : TakenView). HasStayed v ready) (c.deref_mut.ensures.value ∙ c.into_held-held.ensures.same) c.accept_all.ensures.accepts;
    }
    in
    let found = ap (λ s. s.found) c.in-Run.ensures.run ∙ ap (λ (d : DeskView). 2 * c.in-Run.found ∷ d.found) c.desk.view_is in
    has_tried i d d' took ready s s' r refl c.args.worker c.in-Run.found c.run_held-ran.result refl found c.run_held-ran.ensures.refused c.run_held-ran.ensures.tried

pub returns-in-Run-clause-fails : goal.returns-in-Run-clause-fails
returns-in-Run-clause-fails g c =
    let i = c.args.self.now.inbox in
    let d = c.args.desk.now in
    let x = c.desk.inside in
    let took = c.in-Run.resting in
    let ready = c.accept_all.new.held in
    let s = c.begin.new.seat in
    let s' = c.run_held-ran.new.seat in
    let d' : DeskView = record { word = s'.word; inbox = x.pass.inbox; site = x.pass.site; sent = x.pass.pushed; finished = s'.finished; allowance = s'.allowance; found = s'.found; moved = s'.moved } in
    let r : HasReady i d.moved s took ready = record {
      moved = ap (λ s. s.moved) c.in-Run.ensures.run ∙ ap (λ (d : DeskView). image_of took ∷ d.moved) c.desk.view_is;
      free = free_at i took (c.in-Run.ensures.name ∙ c.self.invariant.0 ∙ ap (λ (e : ExecView). state_name e.inbox.site e.inbox.id) c.self.view_is) c.into_held-held.ensures.rests;
      at = subst (λ (i : InboxView). IsAt i ready.taker ready.seat ready.state) (ap (λ (e : ExecView). e.inbox) c.self.view_is) c.accept_all.ensures.at;
      accepts = subst (λ (v : TakenView). HasStayed v ready) (c.deref_mut.ensures.value ∙ c.into_held-held.ensures.same) c.accept_all.ensures.accepts;
    }
    in
    failed i d d' took ready s s' r refl c.args.worker c.run_held-ran.result c.run_held-ran.ensures.refused
