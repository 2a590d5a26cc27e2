-- Reading items one after the other, as a loop does.
use Rattle.script_parser.proofs.Prelude.{◌≡◌, ℕ, suc, ◌+◌, ◌-◌, ◌<◌, ◌≤◌, List, [], ◌∷◌, ◌++◌, Option, Some, None, Result, Ok, Err, refl, sym, ap, subst, ◌∙◌, append_assoc, arith, append-nil, ParseFault, EndsEarly, ReadError, TokenView, at, ◌>>=◌, Reads, Fails}
use Rattle.script_parser.specs.declared.fault.ReadError.TheVariants as errors
use Rattle.script_parser.specs.Model.Parts.{items_at}

-- what was read before, and what is still read
abbrev pub with_front : {A : Type 0} → List A → Result (List A × List TokenView) ParseFault → Result (List A × List TokenView) ParseFault
with_front front read = read >>= λ x. Ok (front ++ x.0, x.1)

regroup : {A : Type 0} (front : List A) (a : A) (read : Result (List A × List TokenView) ParseFault) → with_front front (read >>= λ x. Ok (a ∷ x.0, x.1)) ≡ with_front (front ++ a ∷ []) read
regroup front a (Ok x) = ap (λ xs. Ok (xs, x.1)) (simp append_assoc)
regroup front a (Err f) = refl

module _ {A : Type 0} (stop : List TokenView → Option (List TokenView)) (read : Reads A) where
  pub goes_on : (front : List A) (count i : ℕ) (ts : List TokenView) (x : A) (after : List TokenView) (total : Result (List A × List TokenView) ParseFault) → i < count → stop ts ≡ None → read ts ≡ Ok (x, after)
      → with_front front (items_at stop read (count - i) ts) ≡ total → with_front (front ++ x ∷ []) (items_at stop read (count - (i + 1)) after) ≡ total
  unfolding items_at
  goes_on front count i ts x after total lt on h so_far =
      let k : count - i ≡ suc (count - (i + 1)) = omega arith in
      let one : with_front front (items_at stop read (count - i) ts) ≡ with_front (front ++ x ∷ []) (items_at stop read (count - (i + 1)) after) = rw (k, on, h) (regroup front x (items_at stop read (count - (i + 1)) after)) in
      sym one ∙ so_far

  pub fails : (e : ReadError) (front : List A) (count i : ℕ) (ts : List TokenView) (total : Result (List A × List TokenView) ParseFault) → i < count → stop ts ≡ None → Fails e (read ts)
      → with_front front (items_at stop read (count - i) ts) ≡ total → Fails e total
  unfolding items_at
  fails errors.Memory front count i ts total lt on h so_far = tt
  fails (errors.Fault f) front count i ts total lt on h so_far =
      let k : count - i ≡ suc (count - (i + 1)) = omega arith in
      let one : with_front front (items_at stop read (count - i) ts) ≡ Err f = rw (k, on, h) refl in
      sym so_far ∙ one

  pub stops : (front : List A) (count i : ℕ) (ts rest : List TokenView) (total : Result (List A × List TokenView) ParseFault) → i < count → stop ts ≡ Some rest
      → with_front front (items_at stop read (count - i) ts) ≡ total → total ≡ Ok (front, rest)
  unfolding items_at
  stops front count i ts rest total lt at so_far =
      let k : count - i ≡ suc (count - (i + 1)) = omega arith in
      let one : with_front front (items_at stop read (count - i) ts) ≡ Ok (front, rest) = rw (k, at) (ap (λ (xs : List A). Ok (xs, rest)) (append-nil front)) in
      sym so_far ∙ one

  pub runs_out : (front : List A) (count i : ℕ) (ts : List TokenView) (total : Result (List A × List TokenView) ParseFault) → count ≤ i
      → with_front front (items_at stop read (count - i) ts) ≡ total → total ≡ Err (at EndsEarly ts)
  unfolding items_at
  runs_out front count i ts total le so_far =
      let k : count - i ≡ 0 = omega arith in
      let one : with_front front (items_at stop read (count - i) ts) ≡ Err (at EndsEarly ts) = rw k refl in
      sym so_far ∙ one

pub refused_fails : {A : Type 0} (e : ReadError) (f : ParseFault) (read : Result A ParseFault) → e ≡ errors.Fault f → read ≡ Err f → Fails e read
refused_fails e f read is given = subst (λ (d : ReadError). Fails d read) (sym is) given
