-- Texts that are written piece by piece.
use Rattle.nuchapay_runs.proofs.Prelude.{◌≡◌, ℕ, false, List, [], ◌∷◌, ◌++◌, append_assoc, append-nil, refl, sym, ap, ◌∙◌, Text, note_line, note_lines, Says}

-- one after the other
pub both : {a b c : Text} {v w : List ℕ} → Says a b v → Says b c w → Says a c (v ++ w)
both {a} {b} {c} {v} {w} first second = record {
  said = λ whole.
      let later = second.said whole in
      let sooner = first.said later.0 in
      (sooner.0, later.1 ∙ ap (λ (x : List ℕ). x ++ w) sooner.1 ∙ append_assoc a.bytes.items v w);
}

-- other words for the same
pub same : {a b : Text} {v w : List ℕ} → v ≡ w → Says a b v → Says a b w
same {a} {b} is says = record {
  said = λ whole.
      let now = says.said whole in
      (now.0, now.1 ∙ ap (λ (x : List ℕ). a.bytes.items ++ x) is);
}

-- nothing
pub nothing : (a : Text) → Says a a []
nothing a = record { said = λ whole. (whole, sym (append-nil a.bytes.items)) }

-- all of a text that was empty before
pub whole : {a b : Text} {w : List ℕ} → Says a b w → a.bytes.items ≡ [] → b.is_cut ≡ false → b.bytes.items ≡ w
whole {a} {b} {w} says empty uncut = (says.said uncut).1 ∙ ap (λ (x : List ℕ). x ++ w) empty

-- one line of notes
pub one_line : (a b : Text) (w : List ℕ) → Says a b (note_line w) → Says a b (note_lines (w ∷ []))
one_line a b w says = same (sym (append-nil (note_line w))) says

-- A text has come so far: `rest` is left of all that it goes on with, unless memory ran out.
pub record UpTo (old now : Text) (rest all : List ℕ) : Type 0 where
  pub said : now.is_cut ≡ false → (old.is_cut ≡ false) × (now.bytes.items ++ rest ≡ old.bytes.items ++ all)

pub begun : (a : Text) (all : List ℕ) → UpTo a a all all
begun a all = record { said = λ whole. (whole, refl) }

pub more : {old now next : Text} {words rest left all : List ℕ} → left ≡ words ++ rest → UpTo old now left all → Says now next words → UpTo old next rest all
more {old} {now} {next} {words} {rest} {left} {all} is before says = record {
  said = λ whole.
      let new = says.said whole in
      let past = before.said new.0 in
      (past.0, ap (λ (x : List ℕ). x ++ rest) new.1 ∙ append_assoc now.bytes.items words rest ∙ ap (λ (x : List ℕ). now.bytes.items ++ x) (sym is) ∙ past.1);
}

pub ended : {old now : Text} {left all : List ℕ} → left ≡ [] → UpTo old now left all → Says old now all
ended {old} {now} {left} {all} is upto = record {
  said = λ whole.
      let past = upto.said whole in
      (past.0, sym (append-nil now.bytes.items) ∙ ap (λ (x : List ℕ). now.bytes.items ++ x) (sym is) ∙ past.1);
}
