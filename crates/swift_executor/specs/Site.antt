-- Where jobs are sent (SE-0392 for what may be enqueued on an executor).
use Rattle.std.specs.Prelude.{◌≡◌, ℕ, Option}
use Rattle.atomic_table.specs.Seated.{TableId}
use Rattle.swift_script.specs.Scripts.{ScriptView, method_actor, actor_executor}
use Rattle.swift_turn.specs.Body.{IfRunning, IsRunning}
use Rattle.swift_shared_book.specs.Tickets.{TicketedJobView}

-- an executor of a script, by its number, and the book that gives its jobs, by the book's lock; none where no book does
pub record SiteView : Type 0 where
  pub script : ScriptView
  pub executor : ℕ
  pub book : Option TableId

-- A job that may be sent there: its body is of that script and has not ended, the frame that runs is of an actor of that
-- executor, and that book gave it.
pub record CanRunAt (site : SiteView) (t : TicketedJobView) : Type 0 where
  pub script_is : t.job.body.script ≡ site.script
  pub runs : IsRunning t.job.body
  pub here : IfRunning t.job.body.task.frames (λ p. actor_executor site.script (method_actor site.script p.method) ≡ site.executor)
  pub book_is : t.book ≡ site.book
