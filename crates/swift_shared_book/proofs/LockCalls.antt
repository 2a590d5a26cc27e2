-- What the calls of a lock know of their seats before and after the steps.
use Rattle.swift_shared_book.proofs.Prelude.{◌≡◌, ℕ, ◌==◌, ◌<◌, ◌≤◌, true, List, [], ◌∷◌, Option, Some, None, IsSome, IfSome, MatchBool, refl, sym, ap, ◌∙◌, subst, arith, nat_tests, Step, Allows, Final, Seen, at_map, LockKnown, MayLearn, MayUnlock, TableOf, known_in, IsWordFor, IsUnlocked, IsKeptBy, LockInvariant, SeatOf, Takes, Unlocks, Publishes, CarriesFor}
use mathlib.Core.Option.{some, some-injective}
use lib.ListN.{get_elem?}
use Rattle.swift_shared_book.proofs.LockSteps.{Rule, publishes, unlocks}

module _ {T I V : Type 0} (image_of : T → I) (holds : I → List V → Type 0) where
  some_of : (h : Option I) → IsSome h → (x : I) × (h ≡ Some x)
  some_of (Some x) is = (x, refl)
  some_of None is = cc

  -- the seat of a caller that holds, once the slot is filled
  pub unlocks_filled : (slots id : ℕ) (me filled : SeatOf T I V) (then : V → I → I → V → Type 0) (st : Step (Option T)) (value : T) → IsSome me.0.held
      → IfSome me.0.held (λ taken. MayUnlock holds me.0.known taken (image_of value) (then me.0.known taken (image_of value))) → filled ≡ (me.0, (0, Some value) ∷ [])
      → Allows (Rule image_of holds) slots id filled 0 (λ n. 0) (Unlocks image_of then st filled)
  unlocks_filled slots id me filled then st value holding may is =
      let h = some_of me.0.held holding in
      let may' : MayUnlock holds me.0.known h.0 (image_of value) (then me.0.known h.0 (image_of value)) =
      subst (λ o. IfSome o (λ taken. MayUnlock holds me.0.known taken (image_of value) (then me.0.known taken (image_of value)))) h.1 may in
      subst (λ (m : SeatOf T I V). Allows (Rule image_of holds) slots id m 0 (λ n. 0) (Unlocks image_of then st m)) (sym is)
      (unlocks image_of holds slots id (me.0, (0, Some value) ∷ []) then st h.0 value h.1 refl may')

  -- the seat of a caller that holds, and goes on with another image
  pub publishes_held : (slots id : ℕ) (me : SeatOf T I V) (then : V → I → I → V → Type 0) (st : Step (Option T)) (image : I) (named : Option I) → named ≡ Some image → IsSome me.0.held
      → IfSome me.0.held (λ taken. MayUnlock holds me.0.known taken image (then me.0.known taken image))
      → Allows (Rule image_of holds) slots id me 0 (λ n. n) (Publishes named then st me)
  publishes_held slots id me then st image named is held may =
      let h = some_of me.0.held held in
      let may' : MayUnlock holds me.0.known h.0 image (then me.0.known h.0 image) = subst (λ o. IfSome o (λ taken. MayUnlock holds me.0.known taken image (then me.0.known taken image))) h.1 may in
      subst (λ (o : Option I). Allows (Rule image_of holds) slots id me 0 (λ n. n) (Publishes o then st me)) (sym is) (publishes image_of holds slots id me then st h.0 image h.1 may')

  -- what a lock took where the word was 0
  pub locked_with : (fact : V → I → Type 0) (me new : SeatOf T I V) (n : ℕ) → MatchBool (n == 0) (Takes image_of fact me new) (new ≡ me) → n ≡ 0 → Takes image_of fact me new
  locked_with fact me new n told is =
      let e : (n == 0) ≡ true = grind (arith, nat_tests) in subst (λ b. MatchBool b (Takes image_of fact me new) (new ≡ me)) e told

  -- a seat that does not hold has nothing in hand
  pub free_hand : (held : Option I) (carried : List (ℕ × Option T)) → CarriesFor held carried → held ≡ None → carried ≡ []
  free_hand None carried is e = is
  free_hand (Some x) carried is e = cc

  -- where the word is 0, what is kept is in the slot
  free_home : (s : TableOf T I V) (k : LockInvariant image_of holds s) → k.number ≡ 0 → (h : Option ℕ) → k.holder ≡ h → IsUnlocked image_of holds k.image s.homes
  free_home s k zero' None e = subst (λ h. IsKeptBy image_of holds h k.image s.homes) e k.home
  free_home s k zero' (Some x) e = let held : (0 < k.number) × (k.number ≤ 2) = subst (λ h. IsWordFor h k.number) e k.tells in absurd (omega arith)

  pub closes : (words : List ℕ) (slots : List (Option T)) (id n : ℕ) (slot : Option T) (v : LockKnown I V) (fact : V → I → Type 0) → Final (Seen (LockInvariant image_of holds) id v) words slots
      → get_elem? words 0 ≡ some n → get_elem? slots 0 ≡ some slot → n ≡ 0 → MayLearn holds v.known (fact v.known) → IfSome slot (λ t. fact v.known (image_of t))
  closes words slots id n slot v fact last at_word at_slot zero' may =
      let s = last.0 in
      let k = last.1.0 in
      let one : k.number ≡ n = some-injective _ n (sym (ap (λ l. get_elem? l 0) k.word) ∙ ap (λ l. get_elem? l 0) last.2 ∙ at_word) in
      let home = free_home s k (one ∙ zero') k.holder refl in
      let there = last.4 0 (Some home.value) (ap (λ l. get_elem? l 0) home.home) in
      let is : Some home.value ≡ slot = some-injective (Some home.value) slot (sym there ∙ at_slot) in
      let known : get_elem? (known_in s.views) id ≡ some v.known = at_map (λ (x : LockKnown I V). x.known) s.views id v last.1.1 in
      subst (λ x. IfSome x (λ t. fact v.known (image_of t))) is (subst (fact v.known) (sym home.named) (may k.image (known_in s.views) id k.kept known))

-- a list with one entry of what is known is a list with one view
pub one_view : {I V : Type 0} (views : List (LockKnown I V)) (known : V) → known_in views ≡ known ∷ [] → (v : LockKnown I V) × (views ≡ v ∷ [])
one_view [] known e = cc
one_view (v ∷ []) known e = (v, refl)
one_view (v ∷ w ∷ vs) known e = cc
