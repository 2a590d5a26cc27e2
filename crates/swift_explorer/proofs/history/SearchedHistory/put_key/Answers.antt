use Rattle.swift_explorer.proofs.Prelude.{◌≡◌, ◌++◌, ℤ, Bool, List, Option, Vec, map, ap, subst, ◌∙◌, Global, option_map, option_numbers, rows_of, jobs_held, digest_of, flag_numbers, list_numbers, on_ok_weaker, fields_numbers, IsWritten, NextTurn, ready_numbers, rows_at, job_left, ready_view, rest_of}
use Rattle.swift_explorer.proofs.Written.{rest_written}
use Rattle.swift_explorer.proofs.history.SearchedHistory.put_key.Goals as goal

pub put_digest-requires : goal.put_digest-requires
put_digest-requires c = (c.args.self.now.steps.book.log, c.requires)

pub returns : goal.returns
returns c =
    let x = c.args.self.now in
    let log = x.steps.book.log in
    let used = c.in_ok-put_flags.ensures ∙ ap (λ (us : List Bool). c.put_jobs.new.key.items ++ list_numbers flag_numbers us) c.deref.ensures.value in
    let fields = c.in_ok-put_fields.ensures ∙ ap (λ (l : List (Vec (Vec ℤ Global) Global)). c.put_flags.new.key.items ++ fields_numbers (map (λ (rows : Vec (Vec ℤ Global) Global). rows_of rows.items) l)) c.deref-2.ensures.value in
    let ready = c.in_ok-put_ready.ensures ∙ ap (λ (ts : List (Option NextTurn)). c.put_fields.new.key.items ++ list_numbers (option_numbers ready_numbers) (map (option_map ready_view) ts)) c.deref-3.ensures.value in
    let rest : c.put_ready.new.key.items ≡ rest_of x =
    rest_written (map job_left (jobs_held 0 x.steps.book.held)) x.used.items (rows_at x) (map (option_map ready_view) x.steps.tasks.items) _ _ _ _ _ c.clear.ensures.items c.in_ok-put_jobs.ensures used fields ready in
    on_ok_weaker c.put_digest.result (λ written. record {
      written = subst (λ (k : List ℤ). IsWritten (digest_of log) k c.put_digest.new.key.items) rest (written log c.requires);
      places = c.facts.ensures.size;
    })
    c.put_digest.ensures
