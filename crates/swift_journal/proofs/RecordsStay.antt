-- A journal to which a turn was put.
use Rattle.swift_journal.proofs.Prelude.{◌≡◌, ℕ, ℤ, ◌-◌, ◌<◌, List, [], ◌∷◌, ◌++◌, length, map, reverse, get_or, refl, sym, ap, ◌∙◌, arith, get_or-map, get_or_push, length_push, IsPut, record_at, record_of, span_of, AreLaid, TurnSpan, RecordView, TailView, since, whole, TurnHead, StoredEffect}
use Rattle.swift_journal.proofs.TurnsStay.{pushed}

pub put_view : (hs hs' : List TurnHead) (ws : List ℤ) (begun t : TailView) (es es' : List StoredEffect) (r : RecordView)
    → begun ≡ record { before = ws; written = [] } → t.before ≡ begun.before → es' ≡ es ++ since es es'
    → IsPut hs hs' (length begun.before) t.written (length es) (since es es') r
    → AreLaid span_of (reverse hs) (length ws) (length es) → map (record_at (whole t) es') hs' ≡ map (record_at ws es) hs ++ r ∷ []
put_view hs hs' ws begun t es es' r eb before gained p laid =
    let at = ap (λ (x : TailView). x.before) eb in
    pushed span_of record_of hs hs' ws (whole t) t.written es es' (since es es') p.head r p.put (ap (λ s. s ++ t.written) (before ∙ at)) gained
    (ap (λ (s : TurnSpan). s.start) p.span ∙ ap length at) (ap (λ (s : TurnSpan). s.first_effect) p.span) (ap (λ (s : TurnSpan). s.size) p.span) (ap (λ (s : TurnSpan). s.effects) p.span) p.says laid

-- the turn at a place, by its head
pub turn_at : (f : TurnHead → RecordView) (hs : List TurnHead) (k : ℕ) (h : TurnHead) (v : List RecordView) (d : RecordView) → k < length hs → h ≡ get_or hs k h → map f hs ≡ v → get_or v k d ≡ f h
turn_at f hs k h v d lt at is = ap (λ (x : List RecordView). get_or x k d) (sym is) ∙ get_or-map f hs k h d lt ∙ ap f (sym at)

-- the turn that was put last
pub last_is : (v v' : List RecordView) (r d : RecordView) → v' ≡ v ++ r ∷ [] → get_or v' (length v' - 1) d ≡ r
last_is v v' r d e =
    let n = ap length e in let m = length_push v r in
    let size : length v' - 1 ≡ length v = omega (arith, n, m) in
    ap (λ (x : List RecordView). get_or x (length v' - 1) d) e ∙ ap (λ (k : ℕ). get_or (v ++ r ∷ []) k d) size ∙ get_or_push v r d (length v) refl
