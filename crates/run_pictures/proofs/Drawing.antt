-- What of a picture has been written.
use Rattle.std.proofs.Common.{min, ◌≡◌, ◌⊎◌, ℕ, zero, suc, ◌+◌, ◌/◌, ◌<◌, ◌≤◌, Bool, true, false, Option, Some, None, List, [], ◌∷◌, ◌++◌, length, take, drop, get_or, slice_get, replicate, sym, ap, ap₂, subst, ◌∙◌, inl, inr, refl, arith}
use Rattle.std.specs.Prelude.{nat_lt}
use Rattle.std.specs.Global.{Vec}
use Rattle.std.proofs.lemmas.Bool.{cases_lt}
use Rattle.std.proofs.lemmas.Option.{none-some, same_Some, slice_get_past}
use Rattle.std.proofs.lemmas.List.{append-nil, append_assoc, at_drop_more, drop_all, drop_more}
use Rattle.swift_types.specs.declared.outcome.Ending.{Ending}
use Rattle.swift_events.specs.declared.life.Origin.{Origin}
use Rattle.swift_script.specs.Scripts.{ScriptView}
use Rattle.task_names.specs.Names.{maker_of, name_by, name_if, name_within, task_name}
use Rattle.run_pictures.specs.Drawn.{AreDrawn, AreFolds, IsBox, IsDrawn, IsDrawnAt, IsFoldOf, Sheet, box_text, fold_text, left_of, own_slot, slots_from}
use Rattle.run_pictures.specs.SaysInside.{AreNames, Says, SaysSome}
use Rattle.run_pictures.specs.declared.picture.boxes.TurnBox.{TurnBox}
use Rattle.run_pictures.specs.declared.picture.cells.Cell.{Cell}
use Rattle.run_pictures.specs.declared.picture.picture_text.PictureText.{PictureText}
use Rattle.run_pictures.specs.declared.picture.placed.PlacedTurn.{PlacedTurn}

-- a text goes on, and then goes on again
pub says_then : {a b c : PictureText} {u v : List ℕ} → Says a b u → Says b c v → Says a c (u ++ v)
says_then {a} {b} {c} {u} {v} first then_more = record {
  said = λ whole.
      let more = then_more.said whole in
      let before = first.said more.0 in
      (before.0, more.1 ∙ ap (λ (xs : List ℕ). xs ++ v) before.1 ∙ append_assoc a.bytes.items u v);
}

-- a text that does not go on
pub says_none : (a : PictureText) → Says a a []
says_none a = record { said = λ whole. (whole, sym (append-nil a.bytes.items)) }

-- the box of a turn
pub is_box : (p : ScriptView) (es : List (Origin × Ending)) (tops : ℕ → ℕ → ℕ) (turn : TurnBox) (undone : Bool) (slot left top width : ℕ) (more rest : List ℕ) (old new : PictureText)
    → left ≡ left_of slot → top ≡ tops (slot / 12) turn.executor → Says old new (box_text p es turn undone more left top width rest) → SaysSome (IsBox p es tops turn undone slot) old new
is_box p es tops turn undone slot left top width more rest old new left_is top_is says = record {
  words = box_text p es turn undone more left top width rest;
  says = says;
  holds = record { more = more; width = width; rest = rest; is = ap₂ (λ (l t : ℕ). box_text p es turn undone more l t width rest) left_is top_is };
}

-- the fold of a cell that is one
pub fold_said : (c : Cell) (rest : List ℕ) (old new : PictureText) → nat_lt 1 c.turns ≡ true → Says old new (fold_text c.turns ++ rest) → SaysSome (IsFoldOf c (nat_lt 1 c.turns)) old new
fold_said c rest old new is says = record {
  words = fold_text c.turns ++ rest;
  says = says;
  holds = subst (λ (b : Bool). IsFoldOf c b (fold_text c.turns ++ rest)) (sym is) (rest, refl);
}

-- a cell that is none
pub no_fold : (c : Cell) (old : PictureText) → nat_lt 1 c.turns ≡ false → SaysSome (IsFoldOf c (nat_lt 1 c.turns)) old old
no_fold c old is = record {
  words = [];
  says = says_none old;
  holds = subst (λ (b : Bool). IsFoldOf c b []) (sym is) refl;
}

-- a text that began with nothing is what was said
pub said_from_nothing : (Holds : List ℕ → Type 0) (old new : PictureText) (text : List ℕ) → old.bytes.items ≡ [] → new.is_cut ≡ false → text ≡ new.bytes.items → SaysSome Holds old new → Holds text
said_from_nothing Holds old new text none whole is some =
    let words : text ≡ some.words = is ∙ (some.says.said whole).1 ∙ ap (λ (xs : List ℕ). xs ++ some.words) none in
    subst Holds (sym words) some.holds

-- the box of one turn more
pub drawn_more : (sheet : Sheet) (turns : List TurnBox) (placed : List PlacedTurn) (i : ℕ) (turn : TurnBox) (at : PlacedTurn) (words one : List ℕ)
    → i < length turns → i < length placed → turn ≡ get_or turns i turn → at ≡ get_or placed i at → IsDrawn sheet turn at one
    → ((more : List ℕ) → AreDrawn sheet (drop i turns) (drop i placed) more → AreDrawn sheet turns placed (words ++ more))
    → (more : List ℕ) → AreDrawn sheet (drop (i + 1) turns) (drop (i + 1) placed) more → AreDrawn sheet turns placed ((words ++ one) ++ more)
drawn_more sheet turns placed i turn at words one lt below turn_is at_is drawn before more rest =
    let turns_left : turn ∷ drop (i + 1) turns ≡ drop i turns = ap (λ (x : TurnBox). x ∷ drop (i + 1) turns) turn_is ∙ sym (drop_more turns i turn lt) in
    let placed_left : at ∷ drop (i + 1) placed ≡ drop i placed = ap (λ (x : PlacedTurn). x ∷ drop (i + 1) placed) at_is ∙ sym (drop_more placed i at below) in
    let here : AreDrawn sheet (turn ∷ drop (i + 1) turns) (at ∷ drop (i + 1) placed) (one ++ more) = (one, more, refl, drawn, rest) in
    let left : AreDrawn sheet (drop i turns) (drop i placed) (one ++ more) =
    subst (λ (ts : List TurnBox). AreDrawn sheet ts (drop i placed) (one ++ more)) turns_left
    (subst (λ (ats : List PlacedTurn). AreDrawn sheet (turn ∷ drop (i + 1) turns) ats (one ++ more)) placed_left here) in
    subst (λ (xs : List ℕ). AreDrawn sheet turns placed xs) (sym (append_assoc words one more)) (before (one ++ more) left)

none_placed : (sheet : Sheet) (turns : List TurnBox) → AreDrawn sheet turns [] []
none_placed sheet [] = refl
none_placed sheet (t ∷ ts) = refl

none_left : (sheet : Sheet) (turns : List TurnBox) (placed : List PlacedTurn) → (turns ≡ []) ⊎ (placed ≡ []) → AreDrawn sheet turns placed []
none_left sheet turns placed (inl none) = subst (λ (ts : List TurnBox). AreDrawn sheet ts placed []) (sym none) refl
none_left sheet turns placed (inr none) = subst (λ (ats : List PlacedTurn). AreDrawn sheet turns ats []) (sym none) (none_placed sheet turns)

past_one : (sheet : Sheet) (turns : List TurnBox) (placed : List PlacedTurn) (i : ℕ) → (length turns ≤ i) ⊎ (length placed ≤ i) → AreDrawn sheet (drop i turns) (drop i placed) []
past_one sheet turns placed i (inl past) = none_left sheet (drop i turns) (drop i placed) (inl (drop_all i turns past))
past_one sheet turns placed i (inr past) = none_left sheet (drop i turns) (drop i placed) (inr (drop_all i placed past))

past_case : (a b i : ℕ) → min a b ≤ i → (i < a) ⊎ (a ≤ i) → (a ≤ i) ⊎ (b ≤ i)
past_case a b i past (inl lt) = inr (omega (arith, past, lt))
past_case a b i past (inr le) = inl le

-- past the shorter of two lists
pub past_either : (a b i : ℕ) → min a b ≤ i → (a ≤ i) ⊎ (b ≤ i)
past_either a b i past = past_case a b i past (cases_lt i a)

-- after the last one
pub drawn_all : (sheet : Sheet) (turns : List TurnBox) (placed : List PlacedTurn) (i : ℕ) (words : List ℕ) → (length turns ≤ i) ⊎ (length placed ≤ i)
    → ((more : List ℕ) → AreDrawn sheet (drop i turns) (drop i placed) more → AreDrawn sheet turns placed (words ++ more)) → AreDrawn sheet turns placed words
drawn_all sheet turns placed i words past before = subst (λ (xs : List ℕ). AreDrawn sheet turns placed xs) (append-nil words) (before [] (past_one sheet turns placed i past))

-- the fold of one cell more
pub folds_more : (cells : List Cell) (i : ℕ) (c : Cell) (words one : List ℕ) → i < length cells → c ≡ get_or cells i c → IsFoldOf c (nat_lt 1 c.turns) one
    → ((more : List ℕ) → AreFolds (drop i cells) more → AreFolds cells (words ++ more)) → (more : List ℕ) → AreFolds (drop (i + 1) cells) more → AreFolds cells ((words ++ one) ++ more)
folds_more cells i c words one lt is fold before more rest =
    let cells_left : c ∷ drop (i + 1) cells ≡ drop i cells = ap (λ (x : Cell). x ∷ drop (i + 1) cells) is ∙ sym (drop_more cells i c lt) in
    let here : AreFolds (c ∷ drop (i + 1) cells) (one ++ more) = (one, more, refl, fold, rest) in
    subst (λ (xs : List ℕ). AreFolds cells xs) (sym (append_assoc words one more)) (before (one ++ more) (subst (λ (cs : List Cell). AreFolds cs (one ++ more)) cells_left here))

-- after the last one
pub folds_all : (cells : List Cell) (i : ℕ) (words : List ℕ) → length cells ≤ i → ((more : List ℕ) → AreFolds (drop i cells) more → AreFolds cells (words ++ more)) → AreFolds cells words
folds_all cells i words past before =
    subst (λ (xs : List ℕ). AreFolds cells xs) (append-nil words) (before [] (subst (λ (cs : List Cell). AreFolds cs []) (sym (drop_all i cells past)) refl))

name_case : (p : ScriptView) (es : List (Origin × Ending)) (names : List (Vec ℕ)) (new name : Vec ℕ) (t : ℕ) → new.items ≡ task_name p es (length names)
    → ((t : ℕ) (name : Vec ℕ) → slice_get names t ≡ Some name → name.items ≡ task_name p es t) → (slice_get names t ≡ Some name) ⊎ ((t ≡ length names) × (name ≡ new)) → name.items ≡ task_name p es t
name_case p es names new name t is each (inl old) = each t name old
name_case p es names new name t is each (inr both) = ap (λ (x : Vec ℕ). x.items) both.1 ∙ is ∙ ap (task_name p es) (sym both.0)

suc_case : {X : Type 0} (xs : List X) (x y z : X) (k : ℕ) → (slice_get xs k ≡ Some z) ⊎ ((k ≡ length xs) × (z ≡ y)) → (slice_get (x ∷ xs) (suc k) ≡ Some z) ⊎ ((suc k ≡ length (x ∷ xs)) × (z ≡ y))
suc_case xs x y z k (inl is) = inl is
suc_case xs x y z k (inr both) = inr (ap suc both.0, both.1)

-- an element of a list with one more at its end is one of the list, or that
at_push : {X : Type 0} (xs : List X) (y : X) (k : ℕ) (z : X) → slice_get (xs ++ y ∷ []) k ≡ Some z → (slice_get xs k ≡ Some z) ⊎ ((k ≡ length xs) × (z ≡ y))
at_push [] y zero z is = inr (refl, sym (same_Some y z is))
at_push [] y (suc k) z is = absurd (none-some z is)
at_push (x ∷ xs) y zero z is = inl is
at_push (x ∷ xs) y (suc k) z is = suc_case xs x y z k (at_push xs y k z is)

-- the name of one task more
pub names_more : (p : ScriptView) (es : List (Origin × Ending)) (names : List (Vec ℕ)) (new : Vec ℕ) (i : ℕ) → length names ≡ i → new.items ≡ task_name p es i
    → ((t : ℕ) (name : Vec ℕ) → slice_get names t ≡ Some name → name.items ≡ task_name p es t) → (t : ℕ) (name : Vec ℕ) → slice_get (names ++ new ∷ []) t ≡ Some name → name.items ≡ task_name p es t
names_more p es names new i many is each t name at =
    let here : new.items ≡ task_name p es (length names) = is ∙ ap (task_name p es) (sym many) in
    name_case p es names new name t here each (at_push names new t name at)
