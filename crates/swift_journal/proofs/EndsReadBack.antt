-- What is written reads back: faults, resumes and exits.
use Rattle.swift_journal.proofs.Prelude.{◌≡◌, ℕ, ℤ, pos, Option, Some, None, List, ◌++◌, length, take, drop, refl, sym, ap, subst, ◌∙◌, drop-append_seam, take-append_seam, Fault, Resume, ExitView, calling, waiting, asking_next, closing, exit_view, StoredExit, fault_of, fault_kind, fault_words, fault_size, pending_of, pending_kind, pending_words, skip_pending, resume_of, resume_kind, resume_words, skip_resume, exit_of, exit_kind, exit_words, skip_exit, IsNarrowExit, ReadsBack, first_word, narrowed}
use Rattle.swift_types.specs.declared.outcome.Fault.TheVariants as fault
use Rattle.swift_types.specs.declared.outcome.Resume.TheVariants as resume
use Rattle.swift_interpreter.specs.declared.effect.TaskName.TheVariants as name
use Rattle.swift_interpreter.specs.declared.exit.Exit.{Exit}
use Rattle.swift_interpreter.specs.declared.exit.Exit.TheVariants as exit
use Rattle.swift_journal.specs.declared.stored.StoredResume.{StoredResume}

fault_reads : (f : Fault) (rest : List ℤ) → fault_of (fault_kind f) (first_word (fault_words f ++ rest)) ≡ f
fault_reads (fault.Thrown v) rest = refl
fault_reads fault.Cancelled rest = refl
fault_reads fault.Invariant rest = refl
fault_reads fault.Overflow rest = refl
fault_reads fault.Steps rest = refl
fault_reads fault.Turns rest = refl
fault_reads fault.Depth rest = refl
fault_reads fault.Tasks rest = refl
fault_reads fault.Empty rest = refl
fault_reads fault.Isolation rest = refl

fault_leaves : (f : Fault) (rest : List ℤ) → drop (fault_size (fault_kind f)) (fault_words f ++ rest) ≡ rest
fault_leaves (fault.Thrown v) rest = refl
fault_leaves fault.Cancelled rest = refl
fault_leaves fault.Invariant rest = refl
fault_leaves fault.Overflow rest = refl
fault_leaves fault.Steps rest = refl
fault_leaves fault.Turns rest = refl
fault_leaves fault.Depth rest = refl
fault_leaves fault.Tasks rest = refl
fault_leaves fault.Empty rest = refl
fault_leaves fault.Isolation rest = refl

pending_reads : (f : Fault) (rest : List ℤ) → pending_of (fault_kind f) (fault_words f ++ rest) ≡ Some f
pending_reads (fault.Thrown v) rest = refl
pending_reads fault.Cancelled rest = refl
pending_reads fault.Invariant rest = refl
pending_reads fault.Overflow rest = refl
pending_reads fault.Steps rest = refl
pending_reads fault.Turns rest = refl
pending_reads fault.Depth rest = refl
pending_reads fault.Tasks rest = refl
pending_reads fault.Empty rest = refl
pending_reads fault.Isolation rest = refl

pub pending_reads_back : (p : Option Fault) → ReadsBack (Option Fault) (pending_of (pending_kind p)) (skip_pending (pending_kind p)) (pending_words p) p
pending_reads_back None = record { reads = λ rest. refl; leaves = λ rest. refl }
pending_reads_back (Some f) = record { reads = pending_reads f; leaves = fault_leaves f }

pub resume_reads_back : (r : Resume) → ReadsBack Resume (resume_of (resume_kind r)) (skip_resume (resume_kind r)) (resume_words r) r
resume_reads_back resume.Start = record { reads = λ rest. refl; leaves = λ rest. refl }
resume_reads_back resume.Go = record { reads = λ rest. refl; leaves = λ rest. refl }
resume_reads_back (resume.Value v) = record { reads = λ rest. refl; leaves = λ rest. refl }
resume_reads_back (resume.Fault f) = record { reads = λ rest. ap resume.Fault (fault_reads f rest); leaves = fault_leaves f }

pub exit_reads_back : (e : Exit) → IsNarrowExit e → ReadsBack ExitView (exit_of (exit_kind e)) (skip_exit (exit_kind e)) (exit_words e) (exit_view e)
exit_reads_back (exit.Call i) n = record {
  reads = λ rest. let args = i.args.items in
      ap (λ (x : ℕ). calling (record { actor = x; method = narrowed (pos i.method.0); args = take (narrowed (pos (length args))) (args ++ rest) })) n.0
      ∙ ap (λ (x : ℕ). calling (record { actor = i.actor.0; method = x; args = take (narrowed (pos (length args))) (args ++ rest) })) n.1
      ∙ ap (λ (x : ℕ). calling (record { actor = i.actor.0; method = i.method.0; args = take x (args ++ rest) })) n.2
      ∙ ap (λ (s : List ℤ). calling (record { actor = i.actor.0; method = i.method.0; args = s })) (take-append_seam args rest);
  leaves = λ rest. ap (λ (x : ℕ). drop x (i.args.items ++ rest)) n.2 ∙ drop-append_seam i.args.items rest;
}
exit_reads_back (exit.Wait (name.Root r)) n = record { reads = λ rest. ap (λ (x : ℕ). waiting (name.Root (record { 0 = x }))) n; leaves = λ rest. refl }
exit_reads_back (exit.Wait (name.Own k)) n = record { reads = λ rest. ap (λ (x : ℕ). waiting (name.Own x)) n; leaves = λ rest. refl }
exit_reads_back (exit.Next g) n = record { reads = λ rest. ap asking_next n; leaves = λ rest. refl }
exit_reads_back (exit.Close g f) n = record {
  reads = λ rest. ap (λ (x : ℕ). closing x (pending_of (pending_kind f) (pending_words f ++ rest))) n ∙ ap (closing g) ((pending_reads_back f).reads rest);
  leaves = λ rest. (pending_reads_back f).leaves rest;
}
exit_reads_back exit.Yield n = record { reads = λ rest. refl; leaves = λ rest. refl }
exit_reads_back (exit.Return v) n = record { reads = λ rest. refl; leaves = λ rest. refl }
exit_reads_back (exit.Fault f) n = record { reads = λ rest. ap (λ x. exit_view (exit.Fault x)) (fault_reads f rest); leaves = fault_leaves f }

-- a resume and an exit are read back by a kind that is theirs
pub resume_reads_back_by : (r : Resume) (k : StoredResume) → k ≡ resume_kind r → ReadsBack Resume (resume_of k) (skip_resume k) (resume_words r) r
resume_reads_back_by r k e = subst (λ (x : StoredResume). ReadsBack Resume (resume_of x) (skip_resume x) (resume_words r) r) (sym e) (resume_reads_back r)

pub exit_reads_back_by : (e : Exit) (k : StoredExit) → k ≡ exit_kind e → IsNarrowExit e → ReadsBack ExitView (exit_of k) (skip_exit k) (exit_words e) (exit_view e)
exit_reads_back_by e k is n = subst (λ (x : StoredExit). ReadsBack ExitView (exit_of x) (skip_exit x) (exit_words e) (exit_view e)) (sym is) (exit_reads_back e n)
