-- One token of a text after the other.
use Rattle.plain_laws.proofs.Prelude.{Rest, bytes_at, ◌≡◌, ℕ, ◌<◌, ◌+◌, ◌-◌, ◌^◌, suc, Bool, true, false, List, [], ◌∷◌, ◌++◌, length, take, drop, get_or, drop-cons, Some, refl, sym, ap, subst, ◌∙◌, arith, lt-ltb, length-append, length-drop, append_assoc, slice_get, after, kind_at, kind_in, or_end, Token, TokenKind}
use Rattle.std.proofs.lemmas.Option.{slice_get-get_or}
use Rattle.swift_syntax.specs.Fronts.{a_line, a_space, a_token, front_of}
use Rattle.swift_syntax.specs.Lexes.{StandAt, space_here, line_here, one_here, token_between}

-- the first token of a text, and those behind it
record First (text : List ℕ) (b : ℕ) (bs rest : List ℕ) (k : TokenKind) (line space : Bool) (ts : List Token) : Type 0 where
  pub others : List Token
  pub is : ts ≡ token_between text (b ∷ bs) rest k line space ∷ others
  pub stands : StandAt text rest false false others

-- a token stands at the front
first_token : {text bs rest : List ℕ} {b : ℕ} {k : TokenKind} {line space : Bool} {ts : List Token} → front_of (b ∷ bs) ≡ (a_token k, rest) → StandAt text (b ∷ bs) line space ts → First text b bs rest k line space ts
first_token {rest = rest} {k = k} h (space_here {rest = r} e d) =
    let x : a_token k ≡ a_space = ap (λ p. p.0) (sym h ∙ e) in
    absurd cc
first_token {rest = rest} {k = k} h (line_here {rest = r} e d) =
    let x : a_token k ≡ a_line = ap (λ p. p.0) (sym h ∙ e) in
    absurd cc
first_token {text} {bs} {rest} {b} {k} {line} {space} h (one_here {rest = r} {k = found} {ts = ts} e d) =
    let x : a_token found ≡ a_token k = ap (λ p. p.0) (sym e ∙ h) in
    let y : r ≡ rest = ap (λ p. p.1) (sym e ∙ h) in
    let z : found ≡ k = cc in
    record {
      others = ts;
      is = subst (λ n. token_between text (b ∷ bs) r found line space ∷ ts ≡ token_between text (b ∷ bs) r n line space ∷ ts) z refl ∙ ap (λ n. token_between text (b ∷ bs) n k line space ∷ ts) y;
      stands = subst (λ n. StandAt text n false false ts) y d;
    }

-- white space stands at the front
pub behind_space : {text bs rest : List ℕ} {b : ℕ} {line space : Bool} {ts : List Token} → front_of (b ∷ bs) ≡ (a_space, rest) → StandAt text (b ∷ bs) line space ts → StandAt text rest line true ts
behind_space {text} {line = line} {ts = ts} h (space_here {rest = r} e d) = subst (λ n. StandAt text n line true ts) (ap (λ p. p.1) (sym e ∙ h)) d
behind_space h (line_here {rest = r} e d) =
    let x : a_line ≡ a_space = ap (λ p. p.0) (sym e ∙ h) in
    absurd cc
behind_space h (one_here {rest = r} {k = k} e d) =
    let x : a_token k ≡ a_space = ap (λ p. p.0) (sym e ∙ h) in
    absurd cc

-- the end of a line stands at the front
pub behind_line : {text bs rest : List ℕ} {b : ℕ} {line space : Bool} {ts : List Token} → front_of (b ∷ bs) ≡ (a_line, rest) → StandAt text (b ∷ bs) line space ts → StandAt text rest true true ts
behind_line h (space_here {rest = r} e d) =
    let x : a_space ≡ a_line = ap (λ p. p.0) (sym e ∙ h) in
    absurd cc
behind_line {text} {ts = ts} h (line_here {rest = r} e d) = subst (λ n. StandAt text n true true ts) (ap (λ p. p.1) (sym e ∙ h)) d
behind_line h (one_here {rest = r} {k = k} e d) =
    let x : a_token k ≡ a_line = ap (λ p. p.0) (sym e ∙ h) in
    absurd cc

-- what stands at a place of a list
record Got {A : Type 0} (xs : List A) (i : ℕ) (x : A) (more : List A) : Type 0 where
  pub at : slice_get xs i ≡ Some x
  pub behind : drop (suc i) xs ≡ more
  pub within : i < length xs

got : {A : Type 0} (xs : List A) (i : ℕ) (x : A) (more : List A) → drop i xs ≡ x ∷ more → Got xs i x more
got xs i x more e =
    let long : length xs - i ≡ suc (length more) = sym (length-drop i xs) ∙ ap length e in
    let lt : i < length xs = omega (arith, long) in
    let c : get_or xs i x ∷ drop (suc i) xs ≡ x ∷ more = sym (drop-cons xs i x lt) ∙ e in
    let head : get_or xs i x ≡ x = cc in
    let tail : drop (suc i) xs ≡ more = cc in
    record { at = slice_get-get_or xs i x lt ∙ ap Some head; behind = tail; within = lt }

pub after_is : (i n : ℕ) → i < n → n < 2 ^ 64 → after i ≡ suc i
after_is i n h long =
    let small : i < 2 ^ 64 - 1 = omega (arith, h, long) in
    rw (lt-ltb i (2 ^ 64 - 1) small) (omega arith)

pub take_front : (xs ys : List ℕ) → take (length xs) (xs ++ ys) ≡ xs
take_front [] ys = refl
take_front (x ∷ xs) ys = ap (λ zs. x ∷ zs) (take_front xs ys)

pub drop_front : (xs ys : List ℕ) → drop (length xs) (xs ++ ys) ≡ ys
drop_front [] ys = refl
drop_front (x ∷ xs) ys = drop_front xs ys

-- the bytes between two ends of a text
between_is : (text before w bs : List ℕ) → text ≡ before ++ (w ++ bs) → take ((length text - length bs) - (length text - length (w ++ bs))) (drop (length text - length (w ++ bs)) text) ≡ w
between_is text before w bs e =
    let n : length text ≡ length before + (length w + length bs) = ap length e ∙ (length-append before (w ++ bs) ∙ ap (λ x. length before + x) (length-append w bs)) in
    let m : length (w ++ bs) ≡ length w + length bs = length-append w bs in
    let from : length text - length (w ++ bs) ≡ length before = omega (arith, n, m) in
    let many : (length text - length bs) - (length text - length (w ++ bs)) ≡ length w = omega (arith, n, m) in
    let there : drop (length text - length (w ++ bs)) text ≡ w ++ bs = ap (λ x. drop x text) from ∙ (ap (λ x. drop (length before) x) e ∙ drop_front before (w ++ bs)) in
    ap (λ x. take x (drop (length text - length (w ++ bs)) text)) many ∙ (ap (take (length w)) there ∙ take_front w bs)

-- A token stands at a place, and others behind it.
pub record Step (text : List ℕ) (tokens : List Token) (i : ℕ) (w bs : List ℕ) (k : TokenKind) : Type 0 where
  pub kind : kind_at tokens i ≡ k
  pub bytes : bytes_at text tokens i ≡ w
  pub next : Rest text tokens (after i) bs
  -- what is behind it stands on its line
  pub same_line : next.line ≡ false

pub step : {text : List ℕ} {tokens : List Token} {i : ℕ} (b : ℕ) (w bs : List ℕ) (k : TokenKind) → length tokens < 2 ^ 64 → front_of (b ∷ (w ++ bs)) ≡ (a_token k, bs) → Rest text tokens i (b ∷ (w ++ bs)) → Step text tokens i (b ∷ w) bs k
step {text} {tokens} {i} b w bs k long h r =
    let f = first_token h r.stands in
    let g = got tokens i (token_between text (b ∷ (w ++ bs)) bs k r.line r.space) f.others f.is in
    let whole : text ≡ (r.before ++ (b ∷ w)) ++ bs = r.whole ∙ sym (append_assoc r.before (b ∷ w) bs) in
    record {
      kind = ap kind_in g.at;
      bytes = ap (λ o. take ((or_end text o).to - (or_end text o).from) (drop (or_end text o).from text)) g.at ∙ between_is text r.before (b ∷ w) bs r.whole;
      next = record { line = false; space = false; before = r.before ++ (b ∷ w); whole = whole; stands = subst (λ ts. StandAt text bs false false ts) (sym (ap (λ n. drop n tokens) (after_is i (length tokens) g.within long) ∙ g.behind)) f.stands };
      same_line = refl;
    }

pub step_space : {text : List ℕ} {tokens : List Token} {i : ℕ} (bs : List ℕ) → front_of (32 ∷ bs) ≡ (a_space, bs) → Rest text tokens i (32 ∷ bs) → Rest text tokens i bs
step_space bs h r = record { line = r.line; space = true; before = r.before ++ (32 ∷ []); whole = r.whole ∙ sym (append_assoc r.before (32 ∷ []) bs); stands = behind_space h r.stands }
