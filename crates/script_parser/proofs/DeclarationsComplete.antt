-- Declarations that are spelled are read.
use Rattle.script_parser.proofs.Prelude.{◌≡◌, ◌≢◌, ℕ, ℤ, ◌+◌, ◌<◌, List, [], ◌∷◌, ◌++◌, length, Option, Some, None, Ok, refl, sym, ap, ◌∙◌, append_assoc, length-append, arith, neg_ℤ, append-nil, TokenView, Num, Name, Key, Sign, ExecutorKind, Plain, ExprTree, ExecutorTree, LocalTree, FieldTree, MethodTree, ActorTree, RootTree, DeclTree, Executes, Binds, Acts, Roots, Each, no_more, one_more, Listed, least, IsInt, plain, opposite, IsName, IsKind, by_priority, by_age, by_worker, IsExecutorDecl, IsLocal, IsField, IsOn, on_its_own, on_shared, IsInvariant, no_invariant, an_invariant, IsMethodDecl, IsActor, IsRoot, IsDecl, an_executor, a_local, an_actor, a_root, IsScript, items_at, list_at, expr_in, decls_at}
use Rattle.script_tokens.specs.declared.keyword.Keyword.TheVariants as key
use Rattle.script_tokens.specs.declared.mark.Mark.TheVariants as mark
use Rattle.script_grammar.specs.declared.region.Region.TheVariants as region
use Rattle.script_parser.specs.Model.Parts.{name_at, sign_at, brace_at, close_at}
use Rattle.script_parser.specs.Model.Declarations.{number_at, opposite_at, int_at, setting_at, kind_at, executor_at, local_at, fields_end, field_at, on_at, invariant_at, method_at, actor_at, root_at, decl_at, decls_end}
use Rattle.script_parser.proofs.Complete.{expr_again}
use Rattle.script_parser.proofs.Tokens.{brace_now}
use Rattle.script_parser.proofs.Items.{items_again}
use Rattle.script_parser.proofs.Lists.{list_again}
use Rattle.script_parser.proofs.ActionsComplete.{stops_semicolon, given_again}
use Rattle.script_parser.proofs.StatementsComplete.{block_is_read}
use Rattle.script_parser.proofs.Ints.{int_is_no}

opposite_again : (digits : List TokenView) (v : ℤ) (rest : List TokenView) → v ≢ least → opposite_at digits v rest ≡ Ok (neg_ℤ v, rest)
unfolding opposite_at
opposite_again digits v rest ne = rw (int_is_no v least ne) refl

minus_again : (v : ℤ) (rest : List TokenView) → int_at (Sign mark.Minus ∷ Num v ∷ rest) ≡ opposite_at (Num v ∷ rest) v rest
unfolding int_at number_at
minus_again v rest = refl

plain_again : (v : ℤ) (rest : List TokenView) → int_at (Num v ∷ rest) ≡ Ok (v, rest)
unfolding int_at number_at
plain_again v rest = refl

int_again : (us : List TokenView) (v : ℤ) (rest : List TokenView) → IsInt us v → int_at (us ++ rest) ≡ Ok (v, rest)
int_again us v rest (plain n) = plain_again n rest
int_again us v rest (opposite n ne) = minus_again n rest ∙ opposite_again (Num n ∷ rest) n rest ne

int_stays : (us : List TokenView) (v : ℤ) (rest : List TokenView) → IsInt us v → close_at (us ++ rest) ≡ None
unfolding close_at
int_stays us v rest (plain n) = refl
int_stays us v rest (opposite n ne) = refl

name_again : (us : List TokenView) (n : List ℕ) (rest : List TokenView) → IsName us n → name_at (us ++ rest) ≡ Ok (n, rest)
unfolding name_at
name_again us n rest d = rw d refl

name_stays : (us : List TokenView) (n : List ℕ) (rest : List TokenView) → IsName us n → close_at (us ++ rest) ≡ None
unfolding close_at
name_stays us n rest d = rw d refl

names_again : {ts : List TokenView} {ns : List (List ℕ)} (rest : List TokenView) → Listed IsName ts ns → list_at name_at (ts ++ (Sign mark.Close ∷ rest)) ≡ Ok (ns, rest)
names_again rest d = list_again name_at IsName (λ us x r is s. name_again us x r is) name_stays rest d

ints_again : {ts : List TokenView} {ns : List ℤ} (rest : List TokenView) → Listed IsInt ts ns → list_at int_at (ts ++ (Sign mark.Close ∷ rest)) ≡ Ok (ns, rest)
ints_again rest d = list_again int_at IsInt (λ us x r is s. int_again us x r is) int_stays rest d

setting_again : (n : List ℕ) (us : List TokenView) (v : ℤ) (rest : List TokenView) → IsInt us v → setting_at (Name n ∷ Sign mark.Assign ∷ ((us ++ Sign mark.Semicolon ∷ []) ++ rest)) ≡ Ok ((n, v), rest)
unfolding setting_at name_at sign_at
setting_again n us v rest d =
    let regrouped : (us ++ Sign mark.Semicolon ∷ []) ++ rest ≡ us ++ (Sign mark.Semicolon ∷ rest) = append_assoc us (Sign mark.Semicolon ∷ []) rest in
    rw (regrouped, int_again us v (Sign mark.Semicolon ∷ rest) d) refl

field_again : (us : List TokenView) (f : FieldTree) (r : List TokenView) → IsField us f → field_at (us ++ r) ≡ Ok (f, r)
unfolding field_at
field_again us f r d = ap (λ (w : List TokenView). field_at (w ++ r)) d.all ∙ rw (setting_again f.name d.start f.start r d.has_start) refl

field_goes : (us : List TokenView) (f : FieldTree) (r : List TokenView) → IsField us f → (0 < length us) × (fields_end (us ++ r) ≡ None)
unfolding fields_end
field_goes us f r d = (omega (arith, ap length d.all), rw d.all refl)

kind_again : (us : List TokenView) (k : ExecutorKind) (rest : List TokenView) → IsKind us k → kind_at (us ++ rest) ≡ Ok (k, rest)
unfolding kind_at number_at
kind_again us k rest by_priority = refl
kind_again us k rest by_age = refl
kind_again us k rest (by_worker v) = refl

on_again : (us rest : List TokenView) (x : Option (List ℕ)) → IsOn us x → on_at (us ++ (Sign mark.OpenBrace ∷ rest)) ≡ Ok (x, Sign mark.OpenBrace ∷ rest)
unfolding on_at name_at
on_again us rest x on_its_own = refl
on_again us rest x (on_shared n) = refl

module _ (limit : ℕ) where
  executor_again : (us : List TokenView) (x : ExecutorTree) (r : List TokenView) → IsExecutorDecl us x → decl_at limit (us ++ r) ≡ Ok (Executes x, r)
  unfolding decl_at executor_at name_at sign_at
  executor_again us x r d =
      let regrouped : (d.kind ++ Sign mark.Semicolon ∷ []) ++ r ≡ d.kind ++ (Sign mark.Semicolon ∷ r) = append_assoc d.kind (Sign mark.Semicolon ∷ []) r in
      ap (λ (w : List TokenView). decl_at limit (w ++ r)) d.all
      ∙ rw (regrouped, kind_again d.kind x.kind (Sign mark.Semicolon ∷ r) d.has_kind) refl

  local_again : (us : List TokenView) (x : LocalTree) (r : List TokenView) → IsLocal us x → decl_at limit (us ++ r) ≡ Ok (Binds x, r)
  unfolding decl_at local_at
  local_again us x r d =
      ap (λ (w : List TokenView). decl_at limit (w ++ r)) d.all
      ∙ rw (setting_again x.name d.default x.default r d.has_default) refl

  root_again : (us : List TokenView) (x : RootTree) (r : List TokenView) → IsRoot us x → decl_at limit (us ++ r) ≡ Ok (Roots x, r)
  unfolding decl_at root_at name_at sign_at
  root_again us x r d =
      let s = d.has_start in
      let tail = d.at ++ (Sign mark.Semicolon ∷ r) in
      let after : (d.at ++ Sign mark.Semicolon ∷ []) ++ r ≡ tail = append_assoc d.at (Sign mark.Semicolon ∷ []) r in
      let all : us ≡ Key key.Root ∷ Name x.name ∷ Sign mark.Assign ∷ Name x.actor ∷ Sign mark.Dot ∷ Name x.method ∷ Sign mark.Open ∷ ((s.args ++ Sign mark.Close ∷ []) ++ (d.at ++ Sign mark.Semicolon ∷ [])) =
      d.all ∙ ap (λ (w : List TokenView). Key key.Root ∷ Name x.name ∷ Sign mark.Assign ∷ (w ++ (d.at ++ Sign mark.Semicolon ∷ []))) s.all in
      let regrouped : ((s.args ++ Sign mark.Close ∷ []) ++ (d.at ++ Sign mark.Semicolon ∷ [])) ++ r ≡ s.args ++ (Sign mark.Close ∷ tail) =
      append_assoc (s.args ++ Sign mark.Close ∷ []) (d.at ++ Sign mark.Semicolon ∷ []) r
      ∙ ap (λ (w : List TokenView). (s.args ++ Sign mark.Close ∷ []) ++ w) after
      ∙ append_assoc s.args (Sign mark.Close ∷ []) tail in
      ap (λ (w : List TokenView). decl_at limit (w ++ r)) all
      ∙ rw (regrouped, ints_again tail s.has_args, given_again d.at d.priority r d.has_priority, sym d.is) refl

  method_again : (us : List TokenView) (m : MethodTree) (r : List TokenView) → IsMethodDecl limit us m → method_at limit (us ++ r) ≡ Ok (m, r)
  unfolding method_at name_at sign_at
  method_again us m r d =
      let regrouped : (d.params ++ (Sign mark.Close ∷ d.body)) ++ r ≡ d.params ++ (Sign mark.Close ∷ (d.body ++ r)) = append_assoc d.params (Sign mark.Close ∷ d.body) r in
      ap (λ (w : List TokenView). method_at limit (w ++ r)) d.all
      ∙ rw (regrouped, names_again (d.body ++ r) d.has_params, block_is_read limit region.Method limit d.body m.body r d.has_body) refl

  method_goes : (us : List TokenView) (m : MethodTree) (r : List TokenView) → IsMethodDecl limit us m → (0 < length us) × (brace_at (us ++ r) ≡ None)
  unfolding brace_at
  method_goes us m r d = (omega (arith, ap length d.all), rw d.all refl)

  -- neither an invariant nor a method begins as a field does
  fields_stop : {is ts : List TokenView} {i : Option ExprTree} {ms : List MethodTree} (rest : List TokenView) → IsInvariant limit is i → Each (IsMethodDecl limit) ts ms → fields_end (is ++ (ts ++ (Sign mark.CloseBrace ∷ rest))) ≡ Some (is ++ (ts ++ (Sign mark.CloseBrace ∷ rest)))
  unfolding fields_end
  fields_stop rest no_invariant no_more = refl
  fields_stop rest no_invariant (one_more {ts} {us} d ds) = rw d.all refl
  fields_stop rest (an_invariant {ts} {t} e) ds = refl

  no_invariant_again : {ts : List TokenView} {ms : List MethodTree} (rest : List TokenView) → Each (IsMethodDecl limit) ts ms → invariant_at limit (ts ++ (Sign mark.CloseBrace ∷ rest)) ≡ Ok (None, ts ++ (Sign mark.CloseBrace ∷ rest))
  unfolding invariant_at
  no_invariant_again rest no_more = refl
  no_invariant_again rest (one_more {ts} {us} d ds) = rw d.all refl

  an_invariant_again : (ts : List TokenView) (t : ExprTree) (rest : List TokenView) → expr_in Plain limit limit ts ≡ Ok (t, Sign mark.Semicolon ∷ rest) → invariant_at limit (Key key.Invariant ∷ ts) ≡ Ok (Some t, rest)
  unfolding invariant_at sign_at
  an_invariant_again ts t rest e = rw e refl

  invariant_again : {is ts : List TokenView} {i : Option ExprTree} {ms : List MethodTree} (rest : List TokenView) → IsInvariant limit is i → Each (IsMethodDecl limit) ts ms → invariant_at limit (is ++ (ts ++ (Sign mark.CloseBrace ∷ rest))) ≡ Ok (i, ts ++ (Sign mark.CloseBrace ∷ rest))
  invariant_again rest no_invariant ds = no_invariant_again rest ds
  invariant_again {ts = us} rest (an_invariant {ts} {t} d) ds =
      let tail = us ++ (Sign mark.CloseBrace ∷ rest) in
      an_invariant_again ((ts ++ Sign mark.Semicolon ∷ []) ++ tail) t tail
      (ap (expr_in Plain limit limit) (append_assoc ts (Sign mark.Semicolon ∷ []) tail) ∙ expr_again Plain limit limit ts t (Sign mark.Semicolon ∷ tail) d (stops_semicolon tail))

  actor_again : (us : List TokenView) (a : ActorTree) (r : List TokenView) → IsActor limit us a → decl_at limit (us ++ r) ≡ Ok (Acts a, r)
  unfolding decl_at actor_at name_at sign_at
  actor_again us a r d =
      let last = d.methods ++ (Sign mark.CloseBrace ∷ r) in
      let tail = d.invariant ++ last in
      let members = d.fields ++ (d.invariant ++ (d.methods ++ Sign mark.CloseBrace ∷ [])) in
      let inner : (d.methods ++ Sign mark.CloseBrace ∷ []) ++ r ≡ last = append_assoc d.methods (Sign mark.CloseBrace ∷ []) r in
      let middle : (d.invariant ++ (d.methods ++ Sign mark.CloseBrace ∷ [])) ++ r ≡ tail = append_assoc d.invariant (d.methods ++ Sign mark.CloseBrace ∷ []) r ∙ ap (λ (w : List TokenView). d.invariant ++ w) inner in
      let outer : members ++ r ≡ d.fields ++ tail = append_assoc d.fields (d.invariant ++ (d.methods ++ Sign mark.CloseBrace ∷ [])) r ∙ ap (λ (w : List TokenView). d.fields ++ w) middle in
      let regrouped : (d.on ++ (Sign mark.OpenBrace ∷ members)) ++ r ≡ d.on ++ (Sign mark.OpenBrace ∷ (d.fields ++ tail)) = append_assoc d.on (Sign mark.OpenBrace ∷ members) r ∙ ap (λ (w : List TokenView). d.on ++ (Sign mark.OpenBrace ∷ w)) outer in
      let on = on_again d.on (d.fields ++ tail) a.executor d.has_executor in
      let fields = items_again fields_end field_at IsField field_again field_goes (length (d.fields ++ tail) + 1) tail tail d.has_fields (omega (arith, length-append d.fields tail)) (fields_stop r d.has_invariant d.has_methods) in
      let invariant = invariant_again r d.has_invariant d.has_methods in
      let methods = items_again brace_at (method_at limit) (IsMethodDecl limit) method_again method_goes (length last + 1) (Sign mark.CloseBrace ∷ r) r d.has_methods (omega (arith, length-append d.methods (Sign mark.CloseBrace ∷ r))) (brace_now r) in
      ap (λ (w : List TokenView). decl_at limit (w ++ r)) d.all
      ∙ rw (regrouped, on, fields, invariant, methods) refl

  decl_again : (us : List TokenView) (x : DeclTree) (r : List TokenView) → IsDecl limit us x → decl_at limit (us ++ r) ≡ Ok (x, r)
  decl_again us x r (an_executor {ts} {x = y} d) = executor_again ts y r d
  decl_again us x r (a_local {ts} {l} d) = local_again ts l r d
  decl_again us x r (an_actor {ts} {a} d) = actor_again ts a r d
  decl_again us x r (a_root {ts} {r = q} d) = root_again ts q r d

  decl_goes : (us : List TokenView) (x : DeclTree) (r : List TokenView) → IsDecl limit us x → (0 < length us) × (decls_end (us ++ r) ≡ None)
  unfolding decls_end
  decl_goes us x r (an_executor d) = (omega (arith, ap length d.all), rw d.all refl)
  decl_goes us x r (a_local d) = (omega (arith, ap length d.all), rw d.all refl)
  decl_goes us x r (an_actor d) = (omega (arith, ap length d.all), rw d.all refl)
  decl_goes us x r (a_root d) = (omega (arith, ap length d.all), rw d.all refl)

  end_now : decls_end [] ≡ Some []
  unfolding decls_end
  end_now = refl

  pub decls_again : (ts : List TokenView) (decls : List DeclTree) → IsScript limit ts decls → decls_at limit ts ≡ Ok (decls, [])
  decls_again ts decls d =
      let read : items_at decls_end (decl_at limit) (length ts + 1) (ts ++ []) ≡ Ok (decls, []) = items_again decls_end (decl_at limit) (IsDecl limit) decl_again decl_goes (length ts + 1) [] [] d (omega arith) end_now in
      ap (items_at decls_end (decl_at limit) (length ts + 1)) (sym (append-nil ts)) ∙ read
