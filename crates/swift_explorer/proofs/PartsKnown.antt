-- The numbers of parts stay, and tell keys apart.
use Rattle.swift_explorer.proofs.Prelude.{◌≡◌, ℕ, ℤ, Bool, true, false, List, [], ◌∷◌, ◌++◌, get_or, slice_get-get_or, refl, sym, subst, ap, ap₂, ◌∙◌, append_assoc, append-nil, Some, slice_get, Result, Ok, Err, IfOk, OnOk, AllocError, if◌then◌else◌, none-some, same_Some, AreParts, Grows, IsCode, IsGroup, IsHalf, IsPair, IsPart, GroupPair, HalfCode, KeyCode, KeyParts}
use Rattle.std.specs.Global.{Vec}
use Rattle.std.specs.List.{position}
use Rattle.std.proofs.lemmas.List.Quantifiers.{position-Some}
use Rattle.swift_explorer.proofs.Nodes.{at_front}

-- what has grown

pub grows_none : (x : KeyParts) → Grows x x
grows_none x = record { parts = λ n p at. at; groups = λ n g at. at }

pub grows_on : (x y z : KeyParts) → Grows x y → Grows y z → Grows x z
grows_on x y z one two = record {
  parts = λ n p at. two.parts n p (one.parts n p at);
  groups = λ n g at. two.groups n g (one.groups n g at);
}

-- a place among keys stays where one is inserted
pub at_inserted : {A : Type 0} (b : Bool) (xs : List A) (x y : A) (n : ℕ) → slice_get xs n ≡ Some y → slice_get (if b then xs else xs ++ x ∷ []) n ≡ Some y
at_inserted true xs x y n at = at
at_inserted false xs x y n at = at_front xs (x ∷ []) n y at

pub part_grown : (x y : KeyParts) (n : ℕ) (part : List ℤ) → Grows x y → IsPart x n part → IsPart y n part
part_grown x y n part grown is = (is.0, grown.parts n is.0 is.1, is.2)

pub parts_grown : (x y : KeyParts) (ns : List ℕ) (key : List ℤ) → Grows x y → AreParts x ns key → AreParts y ns key
parts_grown x y [] key grown are = are
parts_grown x y (n ∷ ns) key grown are = (are.0, are.1, part_grown x y n are.0 grown are.2, parts_grown x y ns are.1 grown are.3, are.4)

pub group_grown : (x y : KeyParts) (n : ℕ) (key : List ℤ) → Grows x y → IsGroup x n key → IsGroup y n key
group_grown x y n key grown is = (is.0, grown.groups n is.0 is.1, parts_grown x y is.0.items key grown is.2)

pub pair_grown : (x y : KeyParts) (p : GroupPair) (key : List ℤ) → Grows x y → IsPair x p key → IsPair y p key
pair_grown x y p key grown is = (is.0, is.1, group_grown x y p.left is.0 grown is.2, group_grown x y p.right is.1 grown is.3, is.4)

pub half_grown : (x y : KeyParts) (h : HalfCode) (key : List ℤ) → Grows x y → IsHalf x h key → IsHalf y h key
half_grown x y h key grown is = (is.0, is.1, pair_grown x y h.left is.0 grown is.2, pair_grown x y h.right is.1 grown is.3, is.4)

pub code_grown : (x y : KeyParts) (c : KeyCode) (key : List ℤ) → Grows x y → IsCode x c key → IsCode y c key
code_grown x y c key grown is = (is.0, is.1, half_grown x y c.left is.0 grown is.2, half_grown x y c.right is.1 grown is.3, is.4)

-- no two keys have one code

joined : (key other a b c d : List ℤ) → a ≡ c → b ≡ d → key ≡ a ++ b → other ≡ c ++ d → key ≡ other
joined key other a b c d first second one two = one ∙ ap₂ (λ (l r : List ℤ). l ++ r) first second ∙ sym two

same_part : (x : KeyParts) (n : ℕ) (a b : List ℤ) → IsPart x n a → IsPart x n b → a ≡ b
same_part x n a b one two = sym one.2 ∙ ap (λ (p : Vec ℤ). p.items) (same_Some one.0 two.0 (sym one.1 ∙ two.1)) ∙ two.2

same_parts : (x : KeyParts) (ns : List ℕ) (a b : List ℤ) → AreParts x ns a → AreParts x ns b → a ≡ b
same_parts x [] a b one two = one ∙ sym two
same_parts x (n ∷ ns) a b one two =
    joined a b one.0 one.1 two.0 two.1 (same_part x n one.0 two.0 one.2 two.2) (same_parts x ns one.1 two.1 one.3 two.3) one.4 two.4

same_group : (x : KeyParts) (n : ℕ) (a b : List ℤ) → IsGroup x n a → IsGroup x n b → a ≡ b
same_group x n a b one two =
    let same : one.0 ≡ two.0 = same_Some one.0 two.0 (sym one.1 ∙ two.1) in
    same_parts x two.0.items a b (subst (λ (g : Vec ℕ). AreParts x g.items a) same one.2) two.2

same_pair : (x : KeyParts) (p : GroupPair) (a b : List ℤ) → IsPair x p a → IsPair x p b → a ≡ b
same_pair x p a b one two =
    joined a b one.0 one.1 two.0 two.1 (same_group x p.left one.0 two.0 one.2 two.2) (same_group x p.right one.1 two.1 one.3 two.3) one.4 two.4

same_half : (x : KeyParts) (h : HalfCode) (a b : List ℤ) → IsHalf x h a → IsHalf x h b → a ≡ b
same_half x h a b one two =
    joined a b one.0 one.1 two.0 two.1 (same_pair x h.left one.0 two.0 one.2 two.2) (same_pair x h.right one.1 two.1 one.3 two.3) one.4 two.4

pub same_code : (x : KeyParts) (c : KeyCode) (a b : List ℤ) → IsCode x c a → IsCode x c b → a ≡ b
same_code x c a b one two =
    joined a b one.0 one.1 two.0 two.1 (same_half x c.left one.0 two.0 one.2 two.2) (same_half x c.right one.1 two.1 one.3 two.3) one.4 two.4

-- parts one after the other

pub parts_push : (x : KeyParts) (ns : List ℕ) (n : ℕ) (key part : List ℤ) → AreParts x ns key → IsPart x n part → AreParts x (ns ++ n ∷ []) (key ++ part)
parts_push x [] n key part are is = (part, [], is, refl, ap (λ (k : List ℤ). k ++ part) are ∙ sym (append-nil part))
parts_push x (m ∷ ns) n key part are is =
    (are.0, are.1 ++ part, are.2, parts_push x ns n are.1 part are.3 is, ap (λ (k : List ℤ). k ++ part) are.4 ∙ append_assoc are.0 are.1 part)

-- parts in two
pub parts_split : (x : KeyParts) (ns ms : List ℕ) (key : List ℤ) → AreParts x (ns ++ ms) key
    → (a b : List ℤ) × AreParts x ns a × AreParts x ms b × (key ≡ a ++ b)
parts_split x [] ms key are = ([], key, refl, are, refl)
parts_split x (n ∷ ns) ms key are =
    let rest = parts_split x ns ms are.1 are.3 in (
      are.0 ++ rest.0,
      rest.1,
      (are.0, rest.0, are.2, rest.2, refl),
      rest.3,
      are.4 ∙ ap (λ (r : List ℤ). are.0 ++ r) rest.4 ∙ sym (append_assoc are.0 rest.0 rest.1),
    )

-- what is found among keys stands there
pub found_at : {A : Type 0} (test : A → Bool) (xs : List A) (i : ℕ) → position test xs ≡ Some i → (x : A) × (slice_get xs i ≡ Some x) × (test x ≡ true)
found_at test [] i is = absurd (none-some i is)
found_at test (x ∷ xs) i is =
    let at = position-Some test (x ∷ xs) i x is in
    (get_or (x ∷ xs) i x, slice_get-get_or (x ∷ xs) i x at.0, at.1)

-- the same number in fewer bits
pub short_of : (Is : ℕ → Type 0) (r : Result ℕ AllocError) (place : ℕ) → IfOk r (λ n. n ≡ place) → Is place → IfOk r Is
short_of Is (Ok n) place is at = subst Is (sym is) at
short_of Is (Err e) place is at = tt

pub on_ok_is : {T E P : Type 0} (r : Result T E) → P → OnOk r P
on_ok_is (Ok x) is = is
on_ok_is (Err e) is = tt

pub if_ok_with : {A E : Type 0} (Is Was : A → Type 0) (r : Result A E) → ((x : A) → Was x → Is x) → IfOk r Was → IfOk r Is
if_ok_with Is Was (Ok x) leads was = leads x was
if_ok_with Is Was (Err e) leads was = tt
