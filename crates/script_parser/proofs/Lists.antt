-- Values with commas between them.
use Rattle.script_parser.proofs.Prelude.{◌≡◌, ℕ, zero, suc, ◌+◌, ◌<◌, List, [], ◌∷◌, ◌++◌, length, Option, Some, None, Ok, refl, sym, ap, subst, ◌∙◌, append_assoc, length-append, arith, TokenView, Sign, Each, no_more, one_more, IsNext, Listed, none_listed, some_listed, ◌>>=◌, Reads, on_stop, items_at, with_first}
use Rattle.script_tokens.specs.declared.mark.Mark.TheVariants as mark
use Rattle.script_parser.specs.Model.Parts.{sign_at, close_at, comma_at, list_at}
use Rattle.script_parser.proofs.Steps.{ok_is, step_ok}
use Rattle.script_parser.proofs.Tokens.{sign_is, close_is, close_now}
use Rattle.script_parser.proofs.Items.{Taken, items_next, items_end, items_take}

-- what stands after a value of a list
pub data Separates : List TokenView → Type 0 where
  before_comma : (us : List TokenView) → Separates (Sign mark.Comma ∷ us)
  before_close : (us : List TokenView) → Separates (Sign mark.Close ∷ us)

comma_now : {A : Type 0} (read : Reads A) (ts : List TokenView) → comma_at read (Sign mark.Comma ∷ ts) ≡ read ts
unfolding comma_at sign_at
comma_now read ts = refl

comma_stays : (ts : List TokenView) → close_at (Sign mark.Comma ∷ ts) ≡ None
unfolding close_at
comma_stays ts = refl

list_none : {A : Type 0} (read : Reads A) (ts rest : List TokenView) → close_at ts ≡ Some rest → list_at read ts ≡ Ok ([], rest)
unfolding list_at
list_none read ts rest e = rw e refl

list_some : {A : Type 0} (read : Reads A) (ts : List TokenView) (x : A) (after : List TokenView) (xs : List A) (rest : List TokenView) → close_at ts ≡ None → read ts ≡ Ok (x, after) → items_at close_at (comma_at read) (length after + 1) after ≡ Ok (xs, rest) → list_at read ts ≡ Ok (x ∷ xs, rest)
unfolding list_at
list_some read ts x after xs rest stays one others = rw (stays, one, others) refl

module _ {A : Type 0} (read : Reads A) (Is : List TokenView → A → Type 0)
    (reads : (us : List TokenView) (x : A) (r : List TokenView) → Is us x → Separates r → read (us ++ r) ≡ Ok (x, r))
    (stays : (us : List TokenView) (x : A) (r : List TokenView) → Is us x → close_at (us ++ r) ≡ None) where
  comma_again : (us : List TokenView) (x : A) (r : List TokenView) → IsNext Is us x → Separates r → comma_at read (us ++ r) ≡ Ok (x, r)
  comma_again us x r d s = ap (λ (w : List TokenView). comma_at read (w ++ r)) d.all ∙ comma_now read (d.item ++ r) ∙ reads d.item x r d.is s

  comma_goes : (us : List TokenView) (x : A) (r : List TokenView) → IsNext Is us x → (0 < length us) × (close_at (us ++ r) ≡ None)
  comma_goes us x r d = (omega (arith, ap length d.all), ap (λ (w : List TokenView). close_at (w ++ r)) d.all ∙ comma_stays (d.item ++ r))

  follows : {ts : List TokenView} {xs : List A} → Each (IsNext Is) ts xs → (rest : List TokenView) → Separates (ts ++ (Sign mark.Close ∷ rest))
  follows no_more rest = before_close rest
  follows (one_more {ts} {us} {x} {xs} d ds) rest =
      subst (λ (w : List TokenView). Separates ((w ++ us) ++ (Sign mark.Close ∷ rest))) (sym d.all) (before_comma ((d.item ++ us) ++ (Sign mark.Close ∷ rest)))

  more_again : (n : ℕ) {ts : List TokenView} {xs : List A} (rest : List TokenView) → Each (IsNext Is) ts xs → length ts < n → items_at close_at (comma_at read) n (ts ++ (Sign mark.Close ∷ rest)) ≡ Ok (xs, rest)
  more_again zero rest d lt = absurd (omega arith)
  more_again (suc n) rest no_more lt = items_end close_at (comma_at read) n (Sign mark.Close ∷ rest) rest (close_now rest)
  more_again (suc n) rest (one_more {ts} {us} {x} {xs} d ds) lt =
      let g = comma_goes ts x (us ++ (Sign mark.Close ∷ rest)) d in
      ap (items_at close_at (comma_at read) (suc n)) (append_assoc ts us (Sign mark.Close ∷ rest))
      ∙ items_next close_at (comma_at read) n (ts ++ (us ++ (Sign mark.Close ∷ rest))) x (us ++ (Sign mark.Close ∷ rest)) xs rest g.1 (comma_again ts x (us ++ (Sign mark.Close ∷ rest)) d (follows ds rest)) (more_again n rest ds (omega (arith, length-append ts us, g.0)))

  pub list_again : {ts : List TokenView} {xs : List A} (rest : List TokenView) → Listed Is ts xs → list_at read (ts ++ (Sign mark.Close ∷ rest)) ≡ Ok (xs, rest)
  list_again rest none_listed = list_none read (Sign mark.Close ∷ rest) rest (close_now rest)
  list_again rest (some_listed {ts} {us} {x} {xs} d ds) =
      let tail = us ++ (Sign mark.Close ∷ rest) in
      ap (list_at read) (append_assoc ts us (Sign mark.Close ∷ rest))
      ∙ list_some read (ts ++ tail) x tail xs rest (stays ts x tail d) (reads ts x tail d (follows ds rest)) (more_again (length tail + 1) rest ds (omega (arith, length-append us (Sign mark.Close ∷ rest))))

-- values up to the closing parenthesis
pub record TakenList {A : Type 0} (Is : List TokenView → A → Type 0) (ts : List TokenView) (x : List A × List TokenView) : Type 0 where
  pub front : List TokenView
  pub parts : ts ≡ front ++ (Sign mark.Close ∷ x.1)
  pub is : Listed Is front x.0

module _ {A : Type 0} (read : Reads A) (Is : List TokenView → A → Type 0)
    (takes : (ts : List TokenView) (x : A × List TokenView) → read ts ≡ Ok x → Taken Is ts x) where
  comma_takes : (ts : List TokenView) (x : A × List TokenView) → comma_at read ts ≡ Ok x → Taken (IsNext Is) ts x
  unfolding comma_at
  comma_takes ts x e =
      let c = step_ok e in
      let t = takes c.0 x c.2 in
      record { front = Sign mark.Comma ∷ t.front; parts = sign_is mark.Comma ts c.0 c.1 ∙ ap (λ (w : List TokenView). Sign mark.Comma ∷ w) t.parts; is = record { item = t.front; is = t.is; all = refl } }

  list_step : (ts : List TokenView) (x : List A × List TokenView) (found : Option (List TokenView)) → close_at ts ≡ found → on_stop found (λ rest. Ok ([], rest)) (read ts >>= λ n. with_first n.0 (items_at close_at (comma_at read) (length n.1 + 1) n.1)) ≡ Ok x → TakenList Is ts x
  list_step ts x (Some rest) is e = subst (λ y. TakenList Is ts y) (ok_is ([], rest) x e) (record { front = []; parts = close_is ts rest is; is = none_listed })
  list_step ts x None is e =
      let n = step_ok e in
      let ns = step_ok n.2 in
      let one = takes ts n.0 n.1 in
      let others = items_take close_at (comma_at read) (IsNext Is) comma_takes (length n.0.1 + 1) n.0.1 ns.0 ns.1 in
      let last : n.0.1 ≡ others.front ++ (Sign mark.Close ∷ ns.0.1) = others.parts ∙ ap (λ (w : List TokenView). others.front ++ w) (close_is others.next ns.0.1 others.stopped) in
      subst (λ y. TakenList Is ts y) (ok_is (n.0.0 ∷ ns.0.0, ns.0.1) x ns.2)
      (record { front = one.front ++ others.front; parts = one.parts ∙ ap (λ (w : List TokenView). one.front ++ w) last ∙ sym (append_assoc one.front others.front (Sign mark.Close ∷ ns.0.1)); is = some_listed one.is others.each })

  pub list_take : (ts : List TokenView) (x : List A × List TokenView) → list_at read ts ≡ Ok x → TakenList Is ts x
  unfolding list_at
  list_take ts x e = list_step ts x (close_at ts) refl e
