-- A walk along a list, which marks its methods.
use Rattle.script_compiler.proofs.Prelude.{◌≡◌, ℕ, suc, ◌≤◌, ◌⊎◌, List, Option, Some, length, refl, sym, subst, inl, inr, arith, same_Some, InChain, Has, end_of, AreOrderly, at, after, IsMarked, Marking, MarkingAll, ListEntry, MethodLists, Marks}
use Rattle.std.specs.List.{slice_get}
use Rattle.script_compiler.proofs.MarkOne.{marking_more}

-- The methods of a list are marked, but for those that one comes to from the next entry.
pub record IsWalk (lists : MethodLists) (list : ℕ) (next : Option ℕ) (old new : Marks) : Type 0 where
  pub marking : Marking (Has lists list) old new
  pub rest : (m : ℕ) → InChain lists.entries.items next m → Has lists list m
  pub seen : (m : ℕ) → Has lists list m → InChain lists.entries.items next m ⊎ IsMarked new m
  pub inside : end_of next ≤ length lists.entries.items

same_entry : (es : List ListEntry) (k : ℕ) (e f : ListEntry) → slice_get es k ≡ Some e → slice_get es k ≡ Some f → e ≡ f
same_entry es k e f p q = cc

-- one comes to the entry's method, or on
at_entry : (es : List ListEntry) (k m : ℕ) (e : ListEntry) {o : Option ℕ} → o ≡ Some k → slice_get es k ≡ Some e → InChain es o m → InChain es e.before m ⊎ (m ≡ e.method)
at_entry es k m e is here (at {k = j} {e = f} h) =
    let same : e ≡ f = same_entry es k e f here (subst (λ (i : ℕ). slice_get es i ≡ Some f) (same_Some j k is) h) in
    inr (sym (subst (λ (x : ListEntry). e.method ≡ x.method) same refl))
at_entry es k m e is here (after {k = j} {e = f} h c) =
    let same : e ≡ f = same_entry es k e f here (subst (λ (i : ℕ). slice_get es i ≡ Some f) (same_Some j k is) h) in
    inl (subst (λ (x : ListEntry). InChain es x.before m) (sym same) c)

-- the next entry's method is in the list
pub walk_has : (lists : MethodLists) (list k : ℕ) (e : ListEntry) (next : Option ℕ) (a b : Marks) → next ≡ Some k → slice_get lists.entries.items k ≡ Some e
    → IsWalk lists list next a b → Has lists list e.method
walk_has lists list k e next a b is here walk = walk.rest e.method (subst (λ (o : Option ℕ). InChain lists.entries.items o e.method) (sym is) (at here))

pub walk_goes_on : (lists : MethodLists) (list k : ℕ) (e : ListEntry) (next : Option ℕ) (a b c : Marks) → AreOrderly lists → next ≡ Some k
    → slice_get lists.entries.items k ≡ Some e → IsWalk lists list next a b → MarkingAll (λ m. m ≡ e.method) b c → IsWalk lists list e.before a c
walk_goes_on lists list k e next a b c orderly is here walk one =
    let es : List ListEntry = lists.entries.items in
    let rest : (m : ℕ) → InChain es (Some k) m → Has lists list m = λ m h. walk.rest m (subst (λ (o : Option ℕ). InChain es o m) (sym is) h) in
    record {
      marking = marking_more (λ m. m ≡ e.method) (Has lists list) a b c walk.marking one.marking (λ m q. subst (Has lists list) (sym q) (rest e.method (at here)));
      rest = λ m h. rest m (after here h);
      seen = λ m h. elim (walk.seen m h) [
        | inl w ↦ elim (at_entry es k m e is here w) [ inl x ↦ inl x | inr q ↦ inr (one.all m q) ]
        | inr x ↦ inr (one.marking.kept m x)
      ];
      inside =
          let o = orderly.older k e here in
          let i : suc k ≤ length es = subst (λ (o : Option ℕ). end_of o ≤ length es) is walk.inside in
          omega (arith, o, i);
    }
