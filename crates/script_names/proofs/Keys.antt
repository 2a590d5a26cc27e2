-- The keys of a set as texts: a test of keys that compares their texts with one finds what that text finds among them.
use Rattle.script_names.proofs.Prelude.{◌≡◌, ℕ, suc, ◌+◌, Bool, true, false, cond, List, [], ◌∷◌, ◌++◌, map, length, refl, sym, ap, ◌∙◌, Option, Some, None, IfSome, arith, ◌||◌, not, unwrap_or, is_some, list_any, position_or_len, position, bytes_eq, or_parts, map_push, is_among, place_of}

-- a test of keys compares their texts with this one
abbrev pub Compares : {K : Type 0} → (K → List ℕ) → (K → Bool) → List ℕ → Type 0
Compares {K} text test w = (k : K) → test k ≡ bytes_eq w (text k)

pub any_text : {K : Type 0} (text : K → List ℕ) (test : K → Bool) (w : List ℕ) → Compares text test w → (keys : List K) → list_any test keys ≡ is_among (map text keys) w
any_text text test w same [] = refl
any_text text test w same (k ∷ keys) = λ i. same k i || any_text text test w same keys i

pub place_text : {K : Type 0} (text : K → List ℕ) (test : K → Bool) (w : List ℕ) → Compares text test w → (keys : List K) → position_or_len test keys ≡ place_of (map text keys) w
place_text text test w same [] = refl
place_text text test w same (k ∷ keys) = λ i. cond (not (same k i)) (1 + place_text text test w same keys i) 0

pub added_text : {K : Type 0} (text : K → List ℕ) (b : Bool) (v : K) (keys : List K) → map text (cond b keys (keys ++ v ∷ [])) ≡ cond b (map text keys) (map text keys ++ text v ∷ [])
added_text text true v keys = refl
added_text text false v keys = map_push text keys v

from_cond : (o : Option ℕ) (b : Bool) (n : ℕ) → o ≡ cond b (Some n) None → IfSome o (λ m. m ≡ n)
from_cond None b n e = tt
from_cond (Some m) true n e = cc
from_cond (Some m) false n e = absurd (cc)

-- an index among the keys is a place among their texts
pub index_place : {K : Type 0} (text : K → List ℕ) (test : K → Bool) (w : List ℕ) → Compares text test w → (keys : List K) (names : List (List ℕ)) (o : Option ℕ) → o ≡ position test keys → map text keys ≡ names → IfSome o (λ n. n ≡ place_of names w)
index_place text test w same keys names None e v = tt
index_place text test w same keys names (Some n) e v = from_cond (Some n) _ _ e ∙ place_text text test w same keys ∙ ap (λ (ns : List (List ℕ)). place_of ns w) v

not_first : (b : Bool) (p l : ℕ) → b ≡ false → p ≡ l → cond (not b) (1 + p) 0 ≡ suc l
not_first b p l e h =
    let after : 1 + p ≡ suc l = omega arith in
    ap (λ (x : Bool). cond (not x) (1 + p) 0) e ∙ after

-- the place of a name that is none of these is their number
past_all : (names : List (List ℕ)) (w : List ℕ) → is_among names w ≡ false → place_of names w ≡ length names
past_all [] w e = refl
past_all (n ∷ names) w e =
    let parts = or_parts _ _ e in
    not_first (bytes_eq w n) (place_of names w) (length names) parts.0 (past_all names w parts.1)

-- the place that is found, or the number of the names, is the place
pub place_or_all : (names : List (List ℕ)) (w : List ℕ) (o : Option ℕ) → is_some o ≡ is_among names w → IfSome o (λ n. n ≡ place_of names w) → unwrap_or o (length names) ≡ place_of names w
place_or_all names w None found place = sym (past_all names w (sym found))
place_or_all names w (Some n) found place = place
