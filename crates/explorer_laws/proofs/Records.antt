-- Records of a history's blocks, and a report that has all of them.
use Rattle.explorer_laws.proofs.Prelude.{◌≡◌, ℕ, zero, suc, ◌==◌, Bool, true, false, List, [], ◌∷◌, refl, sym, ap, ap₂, ◌∙◌, arith, Option, Some, None, if◌then◌else◌, slice_get, Contains, cons_option, RecordView, Block, ReportView, added, begun, ran, folded, record_in, records_of, ScriptView}
use Rattle.std.proofs.lemmas.Bool.Decides.{nat_tests}
use Rattle.swift_journal.specs.Checkpoints.{CheckpointView}
use Rattle.swift_course.specs.Course.{starts}
use Rattle.swift_course.proofs.Starts.{none_folded_at}
use Rattle.swift_digest.specs.Explored.{FoldsNone}

if_some : (t : Bool) (p q : RecordView) → (if t then Some p else None) ≡ Some q → (t ≡ true) × (p ≡ q)
if_some true p q is = (refl, cc is)
if_some false p q is = absurd (cc is)

equal_there : (a b : ℕ) → (a == b) ≡ true → a ≡ b
equal_there a b is = grind (arith, nat_tests)

block_is : (e : ℕ) (b : Block) (q : RecordView) → record_in e b ≡ Some q → b ≡ ran e q
block_is e (ran k p) q is = let both = if_some (k == e) p q is in ap₂ (λ (n : ℕ) (r : RecordView). ran n r) (equal_there k e both.0) both.1
block_is e (added r) q is = absurd (cc is)
block_is e (begun t n env) q is = absurd (cc is)
block_is e (folded k f) q is = absurd (cc is)

later : (b c : Block) (bs : List Block) → Contains bs c → Contains (b ∷ bs) c
later b c bs there = (suc there.0, omega (arith, there.1), there.2)

in_first : (e : ℕ) (r : RecordView) (b : Block) (bs : List Block) (o : Option RecordView) → record_in e b ≡ o → (Contains (records_of e bs) r → Contains bs (ran e r))
    → Contains (cons_option o (records_of e bs)) r → Contains (b ∷ bs) (ran e r)
in_first e r b bs None is rest there = later b (ran e r) bs (rest there)
in_first e r b bs (Some q) is rest (zero, low, same) = (0, omega arith, block_is e b q is ∙ ap (λ (x : RecordView). ran e x) same)
in_first e r b bs (Some q) is rest (suc k, low, same) = later b (ran e r) bs (rest (k, omega (arith, low), same))

-- each record of an executor is in a block
pub in_blocks : (e : ℕ) (r : RecordView) (bs : List Block) → Contains (records_of e bs) r → Contains bs (ran e r)
in_blocks e r [] there = absurd (omega (arith, there.1))
in_blocks e r (b ∷ bs) there = in_first e r b bs (record_in e b) refl (in_blocks e r bs) there

-- a report with the checkpoints of a run that has not begun has folded no turn
pub folds_none : (script : ScriptView) (report : ReportView) → report.checkpoints ≡ starts script → FoldsNone report
folds_none script report is e c at = none_folded_at script e c (ap (λ (cps : List CheckpointView). slice_get cps e) (sym is) ∙ at)
