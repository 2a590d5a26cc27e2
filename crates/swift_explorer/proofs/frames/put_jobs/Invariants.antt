use Rattle.swift_explorer.proofs.Prelude.{◌≡◌, ◌++◌, map, take, some_numbers, job_left, job_numbers, jobs_held}
use Rattle.swift_explorer.proofs.frames.put_jobs.Given as goal

abbrev pub invariant-loop-place : goal.invariant-loop-place
invariant-loop-place l = l.key.items ≡ l.initial.key.items ++ some_numbers job_numbers (map job_left (jobs_held 0 (take l.place l.book.held)))
