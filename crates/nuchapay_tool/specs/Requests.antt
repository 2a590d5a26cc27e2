-- What a command line asks for (our own).
use Rattle.std.specs.Prelude.{◌≤◌}
use Rattle.swift_types.specs.declared.limits.TheConstants.{WORKERS}
use Rattle.nuchapay_tool.specs.declared.requests.Question.{Question}
use Rattle.nuchapay_tool.specs.declared.requests.Question.TheVariants.{Run, RunJson, Values, Why, Check, CheckJson, Print, Show, Scheduled, Saved, Swift, PlainSwift, Explore, ExploreBroken, Difference, SavedDifference}
use Rattle.nuchapay_tool.specs.declared.requests.Request.{Request}
use Rattle.nuchapay_tool.specs.declared.requests.Request.TheVariants.{Explain, Ask}

-- a run that is asked about is one on 1 to 8 workers
abbrev pub IsOnCrew : Question → Type 0
IsOnCrew (Run workers quiet) = (1 ≤ workers) × (workers ≤ WORKERS)
IsOnCrew (RunJson workers quiet) = (1 ≤ workers) × (workers ≤ WORKERS)
IsOnCrew (Values workers) = (1 ≤ workers) × (workers ≤ WORKERS)
IsOnCrew (Why name workers) = (1 ≤ workers) × (workers ≤ WORKERS)
IsOnCrew (Check colour) = Unit {0}
IsOnCrew CheckJson = Unit {0}
IsOnCrew (Print pretty) = Unit {0}
IsOnCrew (Show workers format) = (1 ≤ workers) × (workers ≤ WORKERS)
IsOnCrew (Scheduled schedule form) = Unit {0}
IsOnCrew (Saved place form) = Unit {0}
IsOnCrew Swift = Unit {0}
IsOnCrew PlainSwift = Unit {0}
IsOnCrew (Explore limit expected without_fault format save) = Unit {0}
IsOnCrew (ExploreBroken limit) = Unit {0}
IsOnCrew (Difference limit pair) = Unit {0}
IsOnCrew (SavedDifference path pair) = Unit {0}

-- A run is asked for on 1 to 8 workers.
abbrev pub HasCrew : Request → Type 0
HasCrew (Explain topic) = Unit {0}
HasCrew (Ask input question) = IsOnCrew question
