-- What is known of standing names stays so.
use Rattle.script_names.proofs.Prelude.{◌≡◌, ℕ, List, [], ◌∷◌, ◌++◌, None, map, min, take, length, get_or, sym, ap, subst, ◌∙◌, arith, length-append, take-append-le, take-take, length-take, DirectoryView, fields_at, with_name, ScopeView, meaning_of, share_a_name}
use Rattle.std.proofs.Math.ListN.{get_or-map}
use Rattle.script_names.specs.ScopeInvariant.{AreCleared}
use Rattle.script_names.proofs.Standing.{new_name}
use Rattle.script_names.proofs.Shared.{fewer}

-- with a name more
with_name_more : (d : DirectoryView) (names : List (List ℕ)) (w : List ℕ) (counts : List ℕ) → AreCleared d names counts → AreCleared d (names ++ w ∷ []) counts
with_name_more d names w counts c = record {
  none = λ a. ap (share_a_name (fields_at d a)) (take-append-le (get_or counts a 0) names (w ∷ []) (c.within a)) ∙ c.none a;
  within = λ a. let h = c.within a in let l = length-append names (w ∷ []) in omega arith;
}

lowered_take : (n k : ℕ) (names : List (List ℕ)) → take (min n k) (take n names) ≡ take (min n k) names
lowered_take n k names = take-take (min n k) n names (omega arith)

min_of_none : (n : ℕ) → min n 0 ≡ 0
min_of_none n = omega arith

lowered_at : (n : ℕ) (counts : List ℕ) (a : ℕ) → get_or (map (min n) counts) a 0 ≡ min n (get_or counts a 0)
lowered_at n counts a = subst (λ (z : ℕ). get_or (map (min n) counts) a z ≡ min n (get_or counts a 0)) (min_of_none n) (get_or-map (min n) counts a 0)

-- with fewer names
with_fewer : (d : DirectoryView) (names : List (List ℕ)) (counts : List ℕ) (n : ℕ) → AreCleared d names counts → AreCleared d (take n names) (map (min n) counts)
with_fewer d names counts n c = record {
  none = λ a.
      let k = get_or counts a 0 in
      let fields = fields_at d a in
      ap (λ (m : ℕ). share_a_name fields (take m (take n names))) (lowered_at n counts a) ∙ ap (share_a_name fields) (lowered_take n k names ∙ sym (take-take (min n k) k names (omega arith))) ∙ fewer (min n k) fields (take k names) (c.none a);
  within = λ a. let h = c.within a in let l = length-take n names in let e = lowered_at n counts a in omega (arith, h, l, e);
}

-- after a block
pub left : (d : DirectoryView) (names names' : List (List ℕ)) (counts counts' : List ℕ) (n : ℕ) → AreCleared d names counts → names' ≡ take n names → counts' ≡ map (min n) counts → AreCleared d names' counts'
left d names names' counts counts' n c e f = subst (λ (x : List (List ℕ)). AreCleared d x counts') (sym e) (subst (AreCleared d (take n names)) (sym f) (with_fewer d names counts n c))

-- with a name that did not stand there
pub with_new : (s t : ScopeView) (w : List ℕ) (ns : List (List ℕ)) (counts : List ℕ) → length s.kinds ≡ length s.names → s ≡ t → meaning_of t w ≡ None → ns ≡ with_name s.names w → AreCleared s.directory s.names counts → AreCleared s.directory ns counts
with_new s t w ns counts l same none e c =
    let none_there : meaning_of s w ≡ None = subst (λ (x : ScopeView). meaning_of x w ≡ None) (sym same) none in
    subst (λ (x : List (List ℕ)). AreCleared s.directory x counts) (sym (e ∙ new_name s w l none_there)) (with_name_more s.directory s.names w counts c)
