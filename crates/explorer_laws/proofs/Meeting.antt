-- All that is asked, text by text.
use Rattle.explorer_laws.proofs.Prelude.{◌≡◌, ◌<◌, ℕ, zero, suc, Bool, true, false, List, [], ◌∷◌, ◌++◌, map, refl, ap, subst, ◌∙◌, inl, inr, arith, All, ◌&&◌, if◌then◌else◌, list_all, Origin, Ending, ReportView, ScriptView, root_count, Verdict, is_so, first_have_values, has_value, verdict_of, AreExpected, IsAsked, IsExpected, no_fault, no_more, one_more, HasEachValue, HoldsAtEnd, MeetsAll}
use Rattle.std.proofs.lemmas.Bool.{cases_eq}
use Rattle.std.proofs.lemmas.List.Elements.{All-nil, All-cons}
use Rattle.script_code.specs.Tree.{term_of}
use Rattle.expectations.specs.declared.expectation.Expectation.{Expectation}
use Rattle.expectations.specs.declared.expectation.Expectation.TheVariants as expect
use Rattle.expectations.specs.declared.expectation.Verdict.TheVariants as verdict
use Rattle.expectations.specs.Comments.{expected}

both_true : (a b : Bool) → (a && b) ≡ true → (a ≡ true) × (b ≡ true)
both_true true true is = (refl, refl)
both_true true false is = absurd (cc is)
both_true false true is = absurd (cc is)
both_true false false is = absurd (cc is)

holds_is : (v : Verdict) → is_so v ≡ true → v ≡ verdict.Holds
holds_is verdict.Holds is = refl
holds_is verdict.IsFalse is = absurd (cc is)
holds_is verdict.Overflows is = absurd (cc is)
holds_is verdict.HasFault is = absurd (cc is)

-- what is so of each of two lists, one after the other
all_before : {X : Type 0} (f : X → Verdict) (xs ys : List X) → list_all is_so (map f (xs ++ ys)) ≡ true → list_all is_so (map f xs) ≡ true
all_before f [] ys is = refl
all_before f (x ∷ xs) ys is =
    let both = both_true (is_so (f x)) (list_all is_so (map f (xs ++ ys))) is in
    ap (λ (b : Bool). b && list_all is_so (map f xs)) both.0 ∙ all_before f xs ys both.1

all_after : {X : Type 0} (f : X → Verdict) (xs ys : List X) → list_all is_so (map f (xs ++ ys)) ≡ true → list_all is_so (map f ys) ≡ true
all_after f [] ys is = is
all_after f (x ∷ xs) ys is = all_after f xs ys (both_true (is_so (f x)) (list_all is_so (map f (xs ++ ys))) is).1

-- an expectation of a text
one_holds : (p : ScriptView) (report : ReportView) (text : List ℕ) (e : Expectation) → IsExpected p text e → verdict_of p report.endings report.fields e ≡ verdict.Holds → HoldsAtEnd p report text
one_holds p report text (expect.Test said test) is holds = record { test = term_of test; is = is.1; holds = holds }
one_holds p report text expect.NoFault is holds = absurd is

-- expectations of texts, in order
texts_hold : (p : ScriptView) (report : ReportView) (texts : List (List ℕ)) (es : List Expectation) → AreExpected p texts es
    → list_all is_so (map (verdict_of p report.endings report.fields) es) ≡ true → All (HoldsAtEnd p report) texts
texts_hold p report [] [] no_more so = All-nil (HoldsAtEnd p report)
texts_hold p report [] (e ∷ es) are so = elim are [ ]
texts_hold p report (t ∷ texts) [] are so = elim are [ ]
texts_hold p report (t ∷ texts) (e ∷ es) (one_more is rest) so =
    let f = verdict_of p report.endings report.fields in
    let both = both_true (is_so (f e)) (list_all is_so (map f es)) so in
    All-cons (HoldsAtEnd p report) t texts (one_holds p report t e is (holds_is (f e) both.0)) (texts_hold p report texts es rest both.1)

-- the first n roots have ended with a value
first_values : (endings : List (Origin × Ending)) (n : ℕ) → first_have_values endings n ≡ true → (root : ℕ) → root < n → has_value endings root ≡ true
first_values endings zero so root low = absurd (omega (arith, low))
first_values endings (suc n) so root low =
    let both = both_true (first_have_values endings n) (has_value endings n) so in
    elim (cases_eq root n) [
      | inl same ↦ ap (has_value endings) same ∙ both.1
      | inr other ↦ first_values endings n both.0 root (omega (arith, low, other))
    ]

is_value_so : (b : Bool) → is_so (if b then verdict.Holds else verdict.HasFault) ≡ true → b ≡ true
is_value_so true so = refl
is_value_so false so = absurd (cc so)

-- no root has ended with a fault, where this is asked
none_faults : (p : ScriptView) (report : ReportView) (asked : Bool) → list_all is_so (map (verdict_of p report.endings report.fields) (no_fault asked)) ≡ true → asked ≡ true → HasEachValue p report
none_faults p report false so is = absurd (cc is)
none_faults p report true so is =
    let all = first_have_values report.endings (root_count p) in
    let one = both_true (is_so (if all then verdict.Holds else verdict.HasFault)) true so in
    first_values report.endings (root_count p) (is_value_so all one.0)

-- all that is asked
pub all_meet : (p : ScriptView) (bytes : List ℕ) (words : List (List ℕ)) (without_fault : Bool) (asked : List Expectation) (report : ReportView) → IsAsked p bytes words without_fault asked
    → list_all is_so (map (verdict_of p report.endings report.fields) asked) ≡ true → MeetsAll p bytes words without_fault report
all_meet p bytes words without_fault asked report is so =
    let f = verdict_of p report.endings report.fields in
    let all = subst (λ (es : List Expectation). list_all is_so (map f es) ≡ true) is.all so in
    record {
      tests = texts_hold p report (words ++ expected bytes) is.tests is.are (all_before f is.tests (no_fault without_fault) all);
      roots = none_faults p report without_fault (all_after f is.tests (no_fault without_fault) all);
    }
