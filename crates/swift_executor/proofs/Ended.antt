-- An executor after a turn that the book has taken, or has refused, by what lies in its fields.
use Rattle.swift_executor.proofs.Prelude.{◌≡◌, ℕ, ◌-◌, ℤ, Option, Some, None, List, length, take, ap, sym, subst, ◌∙◌, same_Some, Vec, JobFacts, effect_views, exit_view, CheckpointRoomView, CheckpointView, RecordView, InvariantsStay, LawfulGrows, JobView, ScriptView, BookView, BodyView, TaskId, Applied, HasFoldRoom, Settles, WritesRecord, Forwards, ReadyJobsView, ChosenView, ExecStateView, HasChosen, ExecInvariant, IsPlayed, Journals, chosen_at, chosen_view, stage_of, PlayedTurn, ChosenStage}
use Rattle.std.specs.declared.alloc.Global.{Global}
use Rattle.swift_executor.proofs.TurnKept.{Done, journalled, retracted}

-- A turn was played of the job in its place, and its record was written.
module _ (s : ExecStateView) (p p' : PlayedTurn) (arrival : ℕ) (stage : ChosenStage) (place place' : Option (JobView BodyView)) (job : JobView BodyView) (j1 : List RecordView)
    (at : s.chosen ≡ chosen_at p arrival stage place) (is : place ≡ Some job) (has : HasChosen s (λ c. IsPlayed c.stage)) (wrote : WritesRecord p stage job s.journal j1) where
  seen : s.chosen ≡ Some (chosen_view p arrival stage job)
  seen = at ∙ ap (chosen_at p arrival stage) is

  was : IsPlayed (stage_of p stage)
  was = subst (λ (v : ChosenView). IsPlayed v.stage) (same_Some has.0 (chosen_view p arrival stage job) (sym has.1 ∙ seen)) has.2

  -- the book has taken the turn, and what was made room for is done
  pub ended : (book book' : BookView) (jobs jobs' : List JobFacts) (task : TaskId) (j' : List RecordView) (copy : Option (Vec (Vec ℤ Global) Global)) (room room' : CheckpointRoomView) (ready' : ReadyJobsView BodyView) (fields' : List (List ℤ))
      → ((script : ScriptView) (fields : List (List ℤ)) (rs : List RecordView) (r : RecordView) → LawfulGrows script fields rs r) → InvariantsStay → ExecInvariant s
      → room.view ≡ s.checkpoint → HasFoldRoom copy room j1 p.fields.after → Settles copy j1 j' room room' → Forwards s.ready task ready' → task ≡ job.task
      → Applied book book' job (effect_views p.effects.items) (exit_view p.exit) jobs jobs' → place' ≡ None → fields' ≡ p.fields.after
      → Done book book' jobs jobs' s (record s { ready = ready'; chosen = chosen_at p' arrival stage place'; journal = j'; checkpoint = room'.view; fields = fields' }) (chosen_view p arrival stage job)
  ended book book' jobs jobs' task j' copy room room' ready' fields' grows stays keeps view folds settles forwards of_task applied gone fields =
      let d = journalled book book' jobs jobs' s p job arrival stage j1 j' copy room room' ready' grows stays keeps seen was wrote view folds settles (subst (λ (t : TaskId). Forwards s.ready t ready') of_task forwards) applied in
      let same : record s { ready = ready'; chosen = None; journal = j'; checkpoint = room'.view; fields = p.fields.after } ≡ record s { ready = ready'; chosen = chosen_at p' arrival stage place'; journal = j'; checkpoint = room'.view; fields = fields' } =
      ap (λ (rows : List (List ℤ)). record s { ready = ready'; chosen = None; journal = j'; checkpoint = room'.view; fields = rows }) (sym fields)
      ∙ ap (λ (o : Option (JobView BodyView)). record s { ready = ready'; chosen = chosen_at p' arrival stage o; journal = j'; checkpoint = room'.view; fields = fields' }) (sym gone) in
      record {
        keeps = subst (λ (v : ExecStateView). ExecInvariant v) same d.keeps;
        journals = subst (λ (v : ExecStateView). Journals book book' jobs jobs' s v (chosen_view p arrival stage job)) same d.journals;
      }

  -- the book has refused it, and its record was taken back
  pub unchanged : (j' : List RecordView) (c' : CheckpointView) → place' ≡ place → j' ≡ take (length j1 - 1) j1 → c' ≡ s.checkpoint → record s { chosen = chosen_at p arrival stage place'; journal = j'; checkpoint = c' } ≡ s
  unchanged j' c' back retracted_is view =
      let chosen : chosen_at p arrival stage place' ≡ s.chosen = ap (chosen_at p arrival stage) back ∙ sym at in
      let journal : j' ≡ s.journal = retracted_is ∙ retracted p stage job s.journal j1 was wrote in
      ap (λ (o : Option ChosenView). record s { chosen = o; journal = j'; checkpoint = c' }) chosen
      ∙ ap (λ (j : List RecordView). record s { journal = j; checkpoint = c' }) journal
      ∙ ap (λ (v : CheckpointView). record s { checkpoint = v }) view
