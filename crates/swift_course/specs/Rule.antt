-- The rule of a book's lock, over the types that stand in the code, and what the lock's calls ask of it (our own).
use Rattle.std.specs.Prelude.{◌≡◌, ℕ, List, [], ◌∷◌, ◌++◌, map, set}
use mathlib.Core.Option.{some}
use lib.ListN.{get_elem?}
use Rattle.swift_course.specs.Course.{IsCourse}
use Rattle.swift_course.specs.Reports.{Knows}
use Rattle.swift_course.specs.Seats.{MayPart, MayTakeIn}
use Rattle.swift_course.specs.Steps.{MayGive}
use Rattle.swift_course.specs.Views.{BookKnown}
use Rattle.swift_course.specs.declared.known.BookImage.{BookImage}
use Rattle.swift_course.specs.declared.known.Known.{Known}

-- what all seats know
abbrev pub views_of : List Known → List BookKnown
views_of all = map (λ k. k.view) all

-- what holds of the book and of what all seats know, between any two steps of threads
abbrev pub HoldsOf : BookImage → List Known → Type 0
HoldsOf image all = IsCourse image.facts (views_of all)

-- A seat learns of what it takes that what it knows is true.
abbrev pub SeatsLearnOf : Type 0
SeatsLearnOf = (v : Known) (image : BookImage) (all : List Known) (seat : ℕ) → HoldsOf image all → get_elem? all seat ≡ some v → Knows v.view image.facts

-- What a seat may give back for what it took, and what it knows then.
abbrev pub GivesAreKept : Type 0
GivesAreKept = (v : Known) (taken given : BookImage) (known : BookKnown) → MayGive v.view taken.facts given.facts known
    → (all : List Known) (seat : ℕ) → HoldsOf taken all → get_elem? all seat ≡ some v → (w : Known) × HoldsOf given (set all seat w) × (w.view ≡ known)

-- How a seat may be parted.
abbrev pub PartsAreKept : Type 0
PartsAreKept = (v left right : Known) → MayPart v.view left.view right.view
    → (image : BookImage) (all : List Known) (seat : ℕ) → HoldsOf image all → get_elem? all seat ≡ some v → HoldsOf image (set all seat left ++ right ∷ [])

-- How a seat may take in another.
abbrev pub JoinsAreKept : Type 0
JoinsAreKept = (v w both spent : Known) → MayTakeIn v.view w.view both.view spent.view
    → (image : BookImage) (all : List Known) (seat other : ℕ) → HoldsOf image all → get_elem? all seat ≡ some v → ¬ (other ≡ seat) → get_elem? (set all seat both) other ≡ some w
    → HoldsOf image (set (set all seat both) other spent)
