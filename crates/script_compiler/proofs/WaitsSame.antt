-- The same waits and edges, by instructions and by code.
use Rattle.script_compiler.proofs.Prelude.{◌≡◌, ℕ, suc, inl, inr, Option, Some, None, Result, Ok, Err, List, [], ◌∷◌, ◌++◌, refl, sym, ap, ◌∙◌, subst, map, IfSome, IfNone, IfOk, AllZip, flat_map, CallEdge, RootWait, Leads, WaitsForLater, NoneBefore, NoneWaits, here, on, Operation, Instruction, CompiledMethod, CompiledRoot, Compiled, MethodView, RootView, CompiledView, IsMethod, IsCompiled, root_view, operations_in, made_by, edges_made, waits_made, edges_of, waits_of, root_methods, operation_of, made_if, made_along, made_through}
use Rattle.std.specs.Prelude.{Contains}
use Rattle.script_compiler.proofs.Membership.{Has, has_left, has_right, has_cases, flat_within, has_contained, contains_had}
use Rattle.script_compiler.proofs.Operations.{operations_along, operation_list, along_in, in_along}

made_listed : {A : Type 0} (made : Operation → List A) (o : Option Operation) (rest : List A) (ds : List Operation) → rest ≡ flat_map made ds → made_if made o ++ rest ≡ flat_map made (operation_list o ++ ds)
made_listed made None rest ds e = e
made_listed made (Some d) rest ds e = ap (λ xs. made d ++ xs) e

along_is : {A : Type 0} (made : Operation → List A) (lines : List Instruction) → made_along made lines ≡ flat_map made (operations_along lines)
along_is made [] = refl
along_is made (x ∷ others) = made_listed made (operation_of x.act) (made_along made others) (operations_along others) (along_is made others)

-- what instructions make is made by the code, and the other way round
pub through_by : {A : Type 0} (made : ℕ → Operation → List A) (m : ℕ) (ms : List CompiledMethod) (vs : List MethodView) → AllZip IsMethod ms vs → (x : A) → Has (made_through made m ms) x → Has (made_by made m vs) x
through_by made m [] [] z x h = h
through_by made m [] (v ∷ vs) z x h = absurd z
through_by made m (c ∷ ms) [] z x h = absurd z
through_by made m (c ∷ ms) (v ∷ vs) z x h =
    let lines = c.instructions.items in
    elim (has_cases (made_along (made m) lines) (made_through made (suc m) ms) x h) [
      | inl g ↦ has_left (flat_map (made m) (operations_in v.code)) (made_by made (suc m) vs) x (flat_within (made m) (operations_along lines) (operations_in v.code) (along_in lines v.code z.0.stands) x (subst (λ xs. Has xs x) (along_is (made m) lines) g))
      | inr g ↦ has_right (flat_map (made m) (operations_in v.code)) (made_by made (suc m) vs) x (through_by made (suc m) ms vs z.1 x g)
    ]

pub by_through : {A : Type 0} (made : ℕ → Operation → List A) (m : ℕ) (ms : List CompiledMethod) (vs : List MethodView) → AllZip IsMethod ms vs → (x : A) → Has (made_by made m vs) x → Has (made_through made m ms) x
by_through made m [] [] z x h = h
by_through made m [] (v ∷ vs) z x h = absurd z
by_through made m (c ∷ ms) [] z x h = absurd z
by_through made m (c ∷ ms) (v ∷ vs) z x h =
    let lines = c.instructions.items in
    elim (has_cases (flat_map (made m) (operations_in v.code)) (made_by made (suc m) vs) x h) [
      | inl g ↦ has_left (made_along (made m) lines) (made_through made (suc m) ms) x (subst (λ xs. Has xs x) (sym (along_is (made m) lines)) (flat_within (made m) (operations_in v.code) (operations_along lines) (in_along lines v.code z.0.stands) x g))
      | inr g ↦ has_right (made_along (made m) lines) (made_through made (suc m) ms) x (by_through made (suc m) ms vs z.1 x g)
    ]

-- all that one list has stands in the other
abbrev pub Within : {A : Type 0} → List A → List A → Type 0
Within {A} xs ys = (x : A) → Contains xs x → Contains ys x

pub compiled_within : {A : Type 0} (made : ℕ → Operation → List A) (ms : List CompiledMethod) (vs : List MethodView) (xs : List A) → AllZip IsMethod ms vs → xs ≡ made_through made 0 ms → Within xs (made_by made 0 vs)
compiled_within made ms vs xs z e x c = contains_had (made_by made 0 vs) x (through_by made 0 ms vs z x (subst (λ ys. Has ys x) e (has_contained xs x c)))

pub within_compiled : {A : Type 0} (made : ℕ → Operation → List A) (ms : List CompiledMethod) (vs : List MethodView) (xs : List A) → AllZip IsMethod ms vs → xs ≡ made_through made 0 ms → Within (made_by made 0 vs) xs
within_compiled made ms vs xs z e x c = contains_had xs x (subst (λ ys. Has ys x) (sym e) (by_through made 0 ms vs z x (has_contained (made_by made 0 vs) x c)))

leads_within : (es fs : List CallEdge) → Within es fs → {m n : ℕ} → Leads es m n → Leads fs m n
leads_within es fs w here = here
leads_within es fs w (on {m = m} {k = k} c l) = on (w (record { from = m; to = k }) c) (leads_within es fs w l)

pub waits_within : (es fs : List CallEdge) (ws xs : List RootWait) (roots : List ℕ) (place : ℕ) → Within es fs → Within ws xs → WaitsForLater es ws roots place → WaitsForLater fs xs roots place
waits_within es fs ws xs roots place we ww r = record {
  method = r.method;
  is = r.is;
  at = r.at;
  leads = leads_within es fs we r.leads;
  later = r.later;
  wait = ww (record { method = r.at; root = r.later }) r.wait;
  not_before = r.not_before;
}

-- The code's edges, waits and roots are those of the view.
pub record AreSame (es fs : List CallEdge) (ws xs : List RootWait) (rs qs : List ℕ) : Type 0 where
  pub edges_there : Within es fs
  pub edges_back : Within fs es
  pub waits_there : Within ws xs
  pub waits_back : Within xs ws
  pub roots : rs ≡ qs

pub same_there : (es fs : List CallEdge) (ws xs : List RootWait) (rs qs : List ℕ) (place : ℕ) → AreSame es fs ws xs rs qs → WaitsForLater es ws rs place → WaitsForLater fs xs qs place
same_there es fs ws xs rs qs place s w = subst (λ (ns : List ℕ). WaitsForLater fs xs ns place) s.roots (waits_within es fs ws xs rs place s.edges_there s.waits_there w)

pub same_back : (es fs : List CallEdge) (ws xs : List RootWait) (rs qs : List ℕ) (place : ℕ) → AreSame es fs ws xs rs qs → WaitsForLater fs xs qs place → WaitsForLater es ws rs place
same_back es fs ws xs rs qs place s w = subst (λ (ns : List ℕ). WaitsForLater es ws ns place) (sym s.roots) (waits_within fs es xs ws qs place s.edges_back s.waits_back w)

pub same_found : (es fs : List CallEdge) (ws xs : List RootWait) (rs qs : List ℕ) (o : Option ℕ) → AreSame es fs ws xs rs qs → IfSome o (WaitsForLater es ws rs) → IfSome o (WaitsForLater fs xs qs)
same_found es fs ws xs rs qs None s h = h
same_found es fs ws xs rs qs (Some p) s h = same_there es fs ws xs rs qs p s h

pub same_first : (es fs : List CallEdge) (ws xs : List RootWait) (rs qs : List ℕ) (o : Option ℕ) → AreSame es fs ws xs rs qs → IfSome o (NoneBefore es ws rs) → IfSome o (NoneBefore fs xs qs)
same_first es fs ws xs rs qs None s h = h
same_first es fs ws xs rs qs (Some p) s h = λ earlier lt w. h earlier lt (same_back es fs ws xs rs qs earlier s w)

pub same_none : (es fs : List CallEdge) (ws xs : List RootWait) (rs qs : List ℕ) (o : Option ℕ) → AreSame es fs ws xs rs qs → IfNone o (NoneWaits es ws rs) → IfNone o (NoneWaits fs xs qs)
same_none es fs ws xs rs qs None s h = λ place w. h place (same_back es fs ws xs rs qs place s w)
same_none es fs ws xs rs qs (Some p) s h = h

pub ok_then : {X E : Type 0} (r : Result X E) (P Q : X → Type 0) → IfOk r P → ((x : X) → P x → Q x) → IfOk r Q
ok_then (Ok x) P Q h f = f x h
ok_then (Err e) P Q h f = h

-- what a search was given, by way of slices
pub same_as_view : (c : Compiled) (ms : List CompiledMethod) (roots : List CompiledRoot) (es es' : List CallEdge) (ws ws' : List RootWait) (rs rs' : List ℕ)
    → ms ≡ c.methods.items → roots ≡ c.roots.items
    → es' ≡ es → es ≡ made_through edges_made 0 ms
    → ws' ≡ ws → ws ≡ made_through waits_made 0 ms
    → rs' ≡ rs → rs ≡ map (λ r. r.method) (map root_view roots)
    → (v : CompiledView) → IsCompiled c v → AreSame es' (edges_of v) ws' (waits_of v) rs' (root_methods v)
same_as_view c ms roots es es' ws ws' rs rs' all_methods all_roots lent_edges edges lent_waits waits lent_roots methods v is =
    let edges_so : es' ≡ made_through edges_made 0 c.methods.items = lent_edges ∙ edges ∙ ap (λ (xs : List CompiledMethod). made_through edges_made 0 xs) all_methods in
    let waits_so : ws' ≡ made_through waits_made 0 c.methods.items = lent_waits ∙ waits ∙ ap (λ (xs : List CompiledMethod). made_through waits_made 0 xs) all_methods in
    record {
      edges_there = compiled_within edges_made c.methods.items v.methods es' is.methods edges_so;
      edges_back = within_compiled edges_made c.methods.items v.methods es' is.methods edges_so;
      waits_there = compiled_within waits_made c.methods.items v.methods ws' is.methods waits_so;
      waits_back = within_compiled waits_made c.methods.items v.methods ws' is.methods waits_so;
      roots = lent_roots ∙ methods ∙ ap (λ (xs : List CompiledRoot). map (λ r. r.method) (map root_view xs)) all_roots ∙ ap (λ (xs : List RootView). map (λ r. r.method) xs) is.roots;
    }
