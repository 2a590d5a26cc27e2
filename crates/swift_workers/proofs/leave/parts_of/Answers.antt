use Rattle.swift_workers.proofs.Prelude.{◌≡◌, ℕ, Some, length, refl, sym, subst, ap, ◌∙◌, same_Some, TableId, SiteView, site_of, ExecStateView, BookLockView, AreParts}
use Rattle.std.proofs.lemmas.Iterator.{YieldsList-from_zip}
use Rattle.std.proofs.lemmas.Iterator.Adapters.{YieldsList-from_vec}
use Rattle.std.proofs.lemmas.Iterator.Consumers.{YieldsList-at, YieldsList-end, YieldsList-turn}
use Rattle.swift_workers.proofs.Desks.{pair_at, pairs_length, place_of}
use Rattle.swift_workers.proofs.Left.{one_longer}
use Rattle.swift_workers.proofs.leave.parts_of.Goals as goal

-- a state's seat is of the book of its executor's site
same_lock : (lock : TableId) (s : ExecStateView) (b : BookLockView) (k : ℕ) → site_of lock s ≡ place_of b k → lock ≡ b.id
same_lock lock s b k is = same_Some lock b.id (ap (λ (x : SiteView). x.book) is)

own_site : (lock : TableId) (s : ExecStateView) (b : BookLockView) (k : ℕ) → site_of lock s ≡ place_of b k → site_of lock s ≡ record { script = b.script; executor = k; book = Some lock }
own_site lock s b k is = is ∙ ap (λ (l : TableId). record { script = b.script; executor = k; book = Some l }) (sym (same_lock lock s b k is))

pub close-requires : goal.close-requires
close-requires g c =
    let execs = c.args.execs.items in
    let desks = c.args.desks.items in
    let ys = c.loop-exec.yielded in
    let first = YieldsList-at c.zip-exec-items.ensures.first (YieldsList-from_vec {s = c.into_iter.result} execs c.into_iter.ensures.rest (c.into_iter.ensures.len ∙ c.args.execs.ok.0)) in
    let second = YieldsList-from_vec desks c.zip-exec-items.ensures.second.0 (c.zip-exec-items.ensures.second.1 ∙ c.args.desks.ok.0) in
    let road = YieldsList-at c.into_iter-exec-iterator.ensures.into_iter_gives (YieldsList-from_zip first second) in
    let seen = YieldsList-turn road ys c.loop-exec.exec-iterator c.loop-exec.yielded_by c.next.result c.next.new.self (c.in-Some.exec, c.in-Some.desk) c.in-Some.is c.next.ensures.steps in
    record { desk = (pair_at c.args.book.now execs desks (length ys) c.in-Some.exec c.in-Some.desk c.requires.sites c.requires.desks seen.0 seen.1).1 }

pub note_state-requires-clause-lock : goal.note_state-requires-clause-lock
note_state-requires-clause-lock g c =
    let b = c.args.book.now in
    let execs = c.args.execs.items in
    let desks = c.args.desks.items in
    let ys = c.loop-exec.yielded in
    let first = YieldsList-at c.zip-exec-items.ensures.first (YieldsList-from_vec {s = c.into_iter.result} execs c.into_iter.ensures.rest (c.into_iter.ensures.len ∙ c.args.execs.ok.0)) in
    let second = YieldsList-from_vec desks c.zip-exec-items.ensures.second.0 (c.zip-exec-items.ensures.second.1 ∙ c.args.desks.ok.0) in
    let road = YieldsList-at c.into_iter-exec-iterator.ensures.into_iter_gives (YieldsList-from_zip first second) in
    let seen = YieldsList-turn road ys c.loop-exec.exec-iterator c.loop-exec.yielded_by c.next.result c.next.new.self (c.in-Some.exec, c.in-Some.desk) c.in-Some.is c.next.ensures.steps in
    let pair = pair_at b execs desks (length ys) c.in-Some.exec c.in-Some.desk c.requires.sites c.requires.desks seen.0 seen.1 in
    same_lock c.in_ok-state.own.lock c.in_ok-state.state b (length ys) (c.in_ok-state.ensures.site ∙ pair.0)

pub loop-exec-preserved : goal.loop-exec-preserved
loop-exec-preserved g c =
    let b = c.args.book.now in
    let execs = c.args.execs.items in
    let desks = c.args.desks.items in
    let ys = c.loop-exec.yielded in
    let first = YieldsList-at c.zip-exec-items.ensures.first (YieldsList-from_vec {s = c.into_iter.result} execs c.into_iter.ensures.rest (c.into_iter.ensures.len ∙ c.args.execs.ok.0)) in
    let second = YieldsList-from_vec desks c.zip-exec-items.ensures.second.0 (c.zip-exec-items.ensures.second.1 ∙ c.args.desks.ok.0) in
    let road = YieldsList-at c.into_iter-exec-iterator.ensures.into_iter_gives (YieldsList-from_zip first second) in
    let seen = YieldsList-turn road ys c.loop-exec.exec-iterator c.loop-exec.yielded_by c.next.result c.next.new.self (c.in-Some.exec, c.in-Some.desk) c.in-Some.is c.next.ensures.steps in
    let pair = pair_at b execs desks (length ys) c.in-Some.exec c.in-Some.desk c.requires.sites c.requires.desks seen.0 seen.1 in
    let site = own_site c.in_ok-state.own.lock c.in_ok-state.state b (length ys) (c.in_ok-state.ensures.site ∙ pair.0) in
    record {
      can_next = (tt, tt);
      is_finite = tt;
      seat = c.in_ok-note_state.ensures.seat;
      maker = c.in_ok-note_state.ensures.maker ∙ c.loop-exec.invariant.maker;
      parts = subst (λ n. AreParts b.script c.note_state.new.seat.knows n c.note_state.new.parts) (sym (one_longer ys (c.in-Some.exec, c.in-Some.desk) (length ys) refl))
          (c.in_ok-note_state.ensures.parts b.script (length ys) site c.loop-exec.invariant.parts);
    }

pub returns : goal.returns
returns g c =
    let execs = c.args.execs.items in
    let desks = c.args.desks.items in
    let ys = c.loop-exec.yielded in
    let first = YieldsList-at c.zip-exec-items.ensures.first (YieldsList-from_vec {s = c.into_iter.result} execs c.into_iter.ensures.rest (c.into_iter.ensures.len ∙ c.args.execs.ok.0)) in
    let second = YieldsList-from_vec desks c.zip-exec-items.ensures.second.0 (c.zip-exec-items.ensures.second.1 ∙ c.args.desks.ok.0) in
    let road = YieldsList-at c.into_iter-exec-iterator.ensures.into_iter_gives (YieldsList-from_zip first second) in
    let seen = YieldsList-end road ys c.loop-exec.exec-iterator c.loop-exec.yielded_by c.next.result c.next.new.self c.in-None.is c.next.ensures.steps in
    record {
      seat = c.loop-exec.invariant.seat;
      maker = c.loop-exec.invariant.maker;
      parts = subst (λ n. AreParts c.args.book.now.script c.loop-exec.seat.knows n c.loop-exec.parts) (seen.1 ∙ pairs_length execs desks c.requires.desks.as_many) c.loop-exec.invariant.parts;
    }
