-- What a search says to what is asked (our own).
use Rattle.std.specs.Prelude.{ℕ, Bool, true, false, not, ◌&&◌, if◌then◌else◌, List}
use Rattle.std.specs.List.{list_all}
use Rattle.expectations.specs.declared.answer.Answer.{Answer}
use Rattle.expectations.specs.declared.answer.Answer.TheVariants as answer
use Rattle.expectations.specs.declared.expectation.Verdict.{Verdict}
use Rattle.expectations.specs.declared.expectation.Verdict.TheVariants as verdict

-- it is as expected
abbrev pub is_so : Verdict → Bool
is_so verdict.Holds = true
is_so verdict.IsFalse = false
is_so verdict.Overflows = false
is_so verdict.HasFault = false

-- in each outcome it is as expected
abbrev pub all_so : List (List Verdict) → Bool
all_so outcomes = list_all (list_all is_so) outcomes

-- What is answered, where a search came to its end or not, a turn that is undone was found or not, and this came of each expectation in
-- each outcome: it fails where one fails, or a turn is undone; else it holds where the search came to its end, and is undecided where not.
abbrev pub answer_in : Bool → Bool → List (List Verdict) → Answer
answer_in is_complete is_broken outcomes =
    if not is_broken && all_so outcomes then (if is_complete then answer.Holds else answer.Undecided) else answer.Fails

-- the status of a program that answers so
abbrev pub status_of : Answer → ℕ
status_of answer.Holds = 0
status_of answer.Fails = 1
status_of answer.Undecided = 5
