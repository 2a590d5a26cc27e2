-- What is read of marks of instructions.
use Rattle.swift_explorer.proofs.Prelude.{◌≡◌, ◌<◌, ◌≤◌, ℕ, zero, suc, ◌+◌, List, [], ◌∷◌, ◌++◌, Vec, drop, length, get_or, replicate, refl, sym, subst, ap, ◌∙◌, arith, Bool, true, false, inl, inr, Some, ◌&&◌, slice_get, unwrap_or, Global, false≢true, drop_more, slice_get-get_or, slice_get_within, Operation, Term, term_of, terms_of, FollowsCode, code_at, Formula, Instruction, ScriptView, method_code, term_is_own, terms_are_own, HaveMarks, operation_is, term_is}
use Rattle.swift_reordering.specs.Marks.{AreMarked, is_marked, may_be_marked}
use Rattle.swift_reordering.specs.Statements.{turn_all}
use Rattle.swift_reordering.proofs.Marks.{marks_tell}
use Rattle.swift_explorer.specs.declared.marks.MarkKind.{MarkKind}
use Rattle.swift_explorer.proofs.Ended.{lt_or, push_at}

pub own_from : (xs : List Formula) (i : ℕ) (x : Formula) → i < length xs → x ≡ get_or xs i x → terms_are_own (terms_of (drop i xs)) ≡ (term_is_own (term_of x) && terms_are_own (terms_of (drop (i + 1) xs)))
own_from xs i x within is = ap (λ (ys : List Formula). terms_are_own (terms_of ys)) (drop_more xs i x within ∙ ap (λ (y : Formula). y ∷ drop (i + 1) xs) (sym is))

-- of the first instructions, those that have marks may have them
abbrev pub FirstMarked : (Operation → Bool) → (Term → Bool) → List Bool → List Instruction → ℕ → Type 0
FirstMarked op test marks lines n = (k : ℕ) (line : Instruction) → k < n → slice_get lines k ≡ Some line → is_marked marks k ≡ true → may_be_marked op test marks line ≡ true

pub first_more : (op : Operation → Bool) (test : Term → Bool) (marks : List Bool) (lines : List Instruction) (n : ℕ) (x : Instruction) → n < length lines → x ≡ get_or lines n x → FirstMarked op test marks lines n → (is_marked marks n ≡ true → may_be_marked op test marks x ≡ true) → FirstMarked op test marks lines (n + 1)
first_more op test marks lines n x within is first here k line lt there mark = elim (lt_or k n lt) [
  | inl old ↦ first k line old there mark
  | inr new ↦
      let at : slice_get lines n ≡ Some x = slice_get-get_or lines n x within ∙ ap Some (sym is) in
      let same : x ≡ line = ap (λ (o : _). unwrap_or o x) (sym at ∙ ap (slice_get lines) (sym new) ∙ there) in
      subst (λ (y : Instruction). may_be_marked op test marks y ≡ true) same (here (subst (λ (m : ℕ). is_marked marks m ≡ true) new mark))
]

pub all_first : (op : Operation → Bool) (test : Term → Bool) (marks : List Bool) (lines : List Instruction) (n : ℕ) → length lines ≤ n → FirstMarked op test marks lines n → AreMarked op test marks lines
all_first op test marks lines n many first k line there mark = (let within = slice_get_within lines k line there in first k line (omega (arith, within, many)) there mark)

no_mark : (n k : ℕ) → k < n → is_marked (replicate n false) k ≡ false
no_mark zero k lt = absurd (omega (arith, lt))
no_mark (suc n) zero lt = refl
no_mark (suc n) (suc k) lt = no_mark n k (omega (arith, lt))

-- where no instruction has a mark
pub none_marked : (op : Operation → Bool) (test : Term → Bool) (marks : List Bool) (lines : List Instruction) → marks ≡ replicate (length lines) false → AreMarked op test marks lines
none_marked op test marks lines is k line there mark =
    let within = slice_get_within lines k line there in
    absurd (false≢true (sym (no_mark (length lines) k within) ∙ ap (λ (bs : List Bool). is_marked bs k) (sym is) ∙ mark))

-- the marks of one method more
pub have_push : (kind : MarkKind) (script : ScriptView) (marks more : List (Vec Bool Global)) (own : Vec Bool Global) (lines : List Instruction) → more ≡ marks ++ own ∷ [] → HaveMarks kind script marks → AreMarked (operation_is kind) (term_is kind) own.items lines
    → FollowsCode lines (method_code script (length marks)) (code_at (method_code script (length marks))) → HaveMarks kind script more
have_push kind script marks more own lines pushed have marked follows m k other there mark =
    elim (push_at marks own other m (subst (λ (vs : List (Vec Bool Global)). slice_get vs m ≡ Some other) pushed there)) [
      | inl old ↦ have m k other old mark
      | inr new ↦
          let mine : is_marked own.items k ≡ true = subst (λ (v : Vec Bool Global). is_marked v.items k ≡ true) (sym new.1) mark in
          let is = marks_tell (operation_is kind) (term_is kind) lines (method_code script (length marks)) (code_at (method_code script (length marks))) own.items follows marked k mine in
          subst (λ (n : ℕ). turn_all (operation_is kind) (term_is kind) (code_at (method_code script n) k) true ≡ true) (sym new.0) is
    ]
