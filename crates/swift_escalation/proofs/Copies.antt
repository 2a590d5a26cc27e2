-- The same events, read from elsewhere.
use Rattle.swift_escalation.proofs.Prelude.{◌≡◌, ℕ, List, sym, subst, ◌∙◌, Option, TaskId, Priority, TaskEdge, PriorityEvent, GraphView, AreOf}

same_places : (events : List PriorityEvent) (place place' : TaskId → Option ℕ) (levels : List Priority) (edges : List TaskEdge) → ((t : TaskId) → place' t ≡ place t) → AreOf events place levels edges → AreOf events place' levels edges
same_places events place place' levels edges same of = record {
  count = of.count;
  found = λ t i at. of.found t i (sym (same t) ∙ at);
  kept = λ t i at. same t ∙ of.kept t i at;
  edges_stand = of.edges_stand;
  leads_stand = of.leads_stand;
  given = of.given;
  reasons = of.reasons;
}

pub copied : (events events' : List PriorityEvent) (place place' : TaskId → Option ℕ) (graph graph' : GraphView) → events' ≡ events → ((t : TaskId) → place' t ≡ place t) → graph' ≡ record graph { room = 0 }
    → AreOf events place graph.levels graph.edges → AreOf events' place' graph'.levels graph'.edges
copied events events' place place' graph graph' es ps gs of =
    subst (λ (xs : List PriorityEvent). AreOf xs place' graph'.levels graph'.edges) (sym es)
    (subst (λ (g : GraphView). AreOf events place' g.levels g.edges) (sym gs) (same_places events place place' graph.levels graph.edges ps of))
