-- Turns that were folded stay as they are when one is put after them, and when the last ones are dropped.
use Rattle.swift_journal.proofs.Prelude.{◌≡◌, ℕ, ℤ, ◌+◌, ◌-◌, ◌<◌, List, [], ◌∷◌, ◌++◌, length, map, reverse, take, drop, get_or, refl, sym, ap, subst, ◌∙◌, arith, length-append, get_or-map, length-map, length-take-le, PlacedFold, folded_at, folded_from, next_effect, next_start, placed, placed_from, placed_span, FoldedView, AreLaid, FoldedHead, StoredEffect}
use Rattle.swift_journal.proofs.TurnsStay.{cut_before, dropped_from, laid_before, pushed, pushed_laid, split_at}

start_split : (kept rest : List FoldedHead) (h : FoldedHead) (n : ℕ) → next_start (kept ++ h ∷ rest) n ≡ next_start kept h.start
start_split [] rest h n = refl
start_split (x ∷ kept) rest h n = refl

effect_split : (kept rest : List FoldedHead) (h : FoldedHead) (m : ℕ) → next_effect (kept ++ h ∷ rest) m ≡ next_effect kept h.first_effect
effect_split [] rest h m = refl
effect_split (x ∷ kept) rest h m = refl

-- the turns before one end where it begins
placed_split : (kept rest : List FoldedHead) (h : FoldedHead) (n m : ℕ) → placed (kept ++ h ∷ rest) n m ≡ placed kept h.start h.first_effect ++ placed (h ∷ rest) n m
placed_split [] rest h n m = refl
placed_split (x ∷ kept) rest h n m =
    let more = kept ++ h ∷ rest in
    ap (λ (k : ℕ). record { head = x; size = k - x.start; effects = next_effect more m - x.first_effect } ∷ placed more n m) (start_split kept rest h n)
    ∙ ap (λ (k : ℕ). record { head = x; size = next_start kept h.start - x.start; effects = k - x.first_effect } ∷ placed more n m) (effect_split kept rest h m)
    ∙ ap (λ (ps : List PlacedFold). record { head = x; size = next_start kept h.start - x.start; effects = next_effect kept h.first_effect - x.first_effect } ∷ ps) (placed_split kept rest h n m)

pub length_placed : (hs : List FoldedHead) (n m : ℕ) → length (placed hs n m) ≡ length hs
length_placed [] n m = refl
length_placed (x ∷ hs) n m = let e = length_placed hs n m in omega (arith, e)

-- how many turns there are
pub folded_count : (hs : List FoldedHead) (ws : List ℤ) (es : List StoredEffect) (v : List FoldedView) → map (folded_at ws es) (placed hs (length ws) (length es)) ≡ v → length hs ≡ length v
folded_count hs ws es v is =
    sym (length_placed hs (length ws) (length es)) ∙ sym (length-map (placed hs (length ws) (length es)) (folded_at ws es)) ∙ ap length is

-- the turn that is put last
abbrev pub last_placed : FoldedHead → ℕ → ℕ → PlacedFold
last_placed h n m = record { head = h; size = n - h.start; effects = m - h.first_effect }

placed_push : (hs hs' : List FoldedHead) (h : FoldedHead) (n m n' m' : ℕ) → hs' ≡ hs ++ h ∷ [] → h.start ≡ n → h.first_effect ≡ m → placed hs' n' m' ≡ placed hs n m ++ last_placed h n' m' ∷ []
placed_push hs hs' h n m n' m' eh start first =
    ap (λ (x : List FoldedHead). placed x n' m') eh ∙ placed_split hs [] h n' m'
    ∙ ap (λ (k : ℕ). placed hs k h.first_effect ++ last_placed h n' m' ∷ []) start ∙ ap (λ (k : ℕ). placed hs n k ++ last_placed h n' m' ∷ []) first

gained : {X : Type 0} (xs xs' new : List X) (n : ℕ) → xs' ≡ xs ++ new → n ≡ length xs → length xs' - n ≡ length new
gained xs xs' new n e at = let long = ap length e ∙ length-append xs new in omega (arith, long, at)

pub pushed_view : (hs hs' : List FoldedHead) (ws ws' dw : List ℤ) (es es' de : List StoredEffect) (h : FoldedHead) (v : FoldedView)
    → hs' ≡ hs ++ h ∷ [] → ws' ≡ ws ++ dw → es' ≡ es ++ de → h.start ≡ length ws → h.first_effect ≡ length es → folded_from h dw de ≡ v
    → AreLaid placed_span (reverse (placed hs (length ws) (length es))) (length ws) (length es)
    → map (folded_at ws' es') (placed hs' (length ws') (length es')) ≡ map (folded_at ws es) (placed hs (length ws) (length es)) ++ v ∷ []
pushed_view hs hs' ws ws' dw es es' de h v eh ew ee start first says laid =
    pushed placed_span placed_from (placed hs (length ws) (length es)) (placed hs' (length ws') (length es')) ws ws' dw es es' de (last_placed h (length ws') (length es')) v
    (placed_push hs hs' h (length ws) (length es) (length ws') (length es') eh start first) ew ee start first (gained ws ws' dw h.start ew start) (gained es es' de h.first_effect ee first) says laid

pub pushed_placed : (hs hs' : List FoldedHead) (ws ws' dw : List ℤ) (es es' de : List StoredEffect) (h : FoldedHead)
    → hs' ≡ hs ++ h ∷ [] → ws' ≡ ws ++ dw → es' ≡ es ++ de → h.start ≡ length ws → h.first_effect ≡ length es
    → AreLaid placed_span (reverse (placed hs (length ws) (length es))) (length ws) (length es)
    → AreLaid placed_span (reverse (placed hs' (length ws') (length es'))) (length ws') (length es')
pushed_placed hs hs' ws ws' dw es es' de h eh ew ee start first laid =
    pushed_laid placed_span (placed hs (length ws) (length es)) (placed hs' (length ws') (length es')) ws ws' dw es es' de (last_placed h (length ws') (length es'))
    (placed_push hs hs' h (length ws) (length es) (length ws') (length es') eh start first) ew ee start first (gained ws ws' dw h.start ew start) (gained es es' de h.first_effect ee first) laid

-- the turn at a place
abbrev pub placed_at : List FoldedHead → ℕ → FoldedHead → ℕ → ℕ → PlacedFold
placed_at hs k h n m = record { head = h; size = next_start (drop (k + 1) hs) n - h.start; effects = next_effect (drop (k + 1) hs) m - h.first_effect }

placed_around : (hs : List FoldedHead) (k : ℕ) (h : FoldedHead) (n m : ℕ) → k < length hs → h ≡ get_or hs k h
    → placed hs n m ≡ placed (take k hs) h.start h.first_effect ++ placed_at hs k h n m ∷ placed (drop (k + 1) hs) n m
placed_around hs k h n m lt at = ap (λ (x : List FoldedHead). placed x n m) (split_at hs k h lt at) ∙ placed_split (take k hs) (drop (k + 1) hs) h n m

seam : {X : Type 0} (xs ys : List X) (y d : X) → get_or (xs ++ y ∷ ys) (length xs) d ≡ y
seam [] ys y d = refl
seam (x ∷ xs) ys y d = seam xs ys y d

pub folded_is : (hs : List FoldedHead) (k : ℕ) (h : FoldedHead) (ws : List ℤ) (es : List StoredEffect) (v : List FoldedView) (d : FoldedView) → k < length hs → h ≡ get_or hs k h
    → map (folded_at ws es) (placed hs (length ws) (length es)) ≡ v → get_or v k d ≡ folded_at ws es (placed_at hs k h (length ws) (length es))
folded_is hs k h ws es v d lt at is =
    let n = length ws in let m = length es in
    let f = folded_at ws es in
    let p = placed_at hs k h n m in
    let kept = placed (take k hs) h.start h.first_effect in
    let long = length_placed hs n m in
    let place : length kept ≡ k = length_placed (take k hs) h.start h.first_effect ∙ length-take-le k hs (omega (arith, lt)) in
    ap (λ (x : List FoldedView). get_or x k d) (sym is)
    ∙ get_or-map f (placed hs n m) k p d (omega (arith, lt, long))
    ∙ ap (λ (x : List PlacedFold). f (get_or x k p)) (placed_around hs k h n m lt at)
    ∙ ap (λ (j : ℕ). f (get_or (kept ++ p ∷ placed (drop (k + 1) hs) n m) j p)) (sym place)
    ∙ ap f (seam kept (placed (drop (k + 1) hs) n m) p p)

-- the first `k` turns are left
left : (hs hs' : List FoldedHead) (k : ℕ) (h : FoldedHead) (ws ws' : List ℤ) (es es' : List StoredEffect)
    → k < length hs → h ≡ get_or hs k h → hs' ≡ take k hs → ws' ≡ take h.start ws → es' ≡ take h.first_effect es
    → AreLaid placed_span (reverse (placed hs (length ws) (length es))) (length ws) (length es)
    → placed hs' (length ws') (length es') ≡ placed (take k hs) h.start h.first_effect
left hs hs' k h ws ws' es es' lt at eh ew ee laid =
    let n = length ws in let m = length es in
    let cut = cut_before placed_span (placed hs n m) (placed (take k hs) h.start h.first_effect) (placed (drop (k + 1) hs) n m) (placed_at hs k h n m) n m (placed_around hs k h n m lt at) laid in
    let w : length ws' ≡ h.start = ap length ew ∙ length-take-le h.start ws cut.words in
    let e : length es' ≡ h.first_effect = ap length ee ∙ length-take-le h.first_effect es cut.effects in
    ap (λ (x : List FoldedHead). placed x (length ws') (length es')) eh
    ∙ ap (λ (i : ℕ). placed (take k hs) i (length es')) w ∙ ap (λ (i : ℕ). placed (take k hs) h.start i) e

pub left_view : (hs hs' : List FoldedHead) (k : ℕ) (h : FoldedHead) (ws ws' : List ℤ) (es es' : List StoredEffect) (v : List FoldedView)
    → k < length hs → h ≡ get_or hs k h → hs' ≡ take k hs → ws' ≡ take h.start ws → es' ≡ take h.first_effect es
    → AreLaid placed_span (reverse (placed hs (length ws) (length es))) (length ws) (length es)
    → map (folded_at ws es) (placed hs (length ws) (length es)) ≡ v → map (folded_at ws' es') (placed hs' (length ws') (length es')) ≡ take k v
left_view hs hs' k h ws ws' es es' v lt at eh ew ee laid is =
    let n = length ws in let m = length es in
    let kept = placed (take k hs) h.start h.first_effect in
    let place : length kept ≡ k = length_placed (take k hs) h.start h.first_effect ∙ length-take-le k hs (omega (arith, lt)) in
    ap (map (folded_at ws' es')) (left hs hs' k h ws ws' es es' lt at eh ew ee laid)
    ∙ dropped_from placed_span placed_from (placed hs n m) kept (placed (drop (k + 1) hs) n m) (placed_at hs k h n m) ws ws' es es' (placed_around hs k h n m lt at) ew ee laid
    ∙ ap (λ (i : ℕ). take i (map (folded_at ws es) (placed hs n m))) place ∙ ap (take k) is

pub left_laid : (hs hs' : List FoldedHead) (k : ℕ) (h : FoldedHead) (ws ws' : List ℤ) (es es' : List StoredEffect)
    → k < length hs → h ≡ get_or hs k h → hs' ≡ take k hs → ws' ≡ take h.start ws → es' ≡ take h.first_effect es
    → AreLaid placed_span (reverse (placed hs (length ws) (length es))) (length ws) (length es)
    → AreLaid placed_span (reverse (placed hs' (length ws') (length es'))) (length ws') (length es')
left_laid hs hs' k h ws ws' es es' lt at eh ew ee laid =
    let n = length ws in let m = length es in
    subst (λ (x : List PlacedFold). AreLaid placed_span (reverse x) (length ws') (length es')) (sym (left hs hs' k h ws ws' es es' lt at eh ew ee laid))
    (laid_before placed_span (placed hs n m) (placed (take k hs) h.start h.first_effect) (placed (drop (k + 1) hs) n m) (placed_at hs k h n m) ws ws' es es' (placed_around hs k h n m lt at) ew ee laid)
