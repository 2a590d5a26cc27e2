-- The seat that opens accounts and adds roots, step by step.
use Rattle.swift_workers.proofs.Prelude.{◌≡◌, ℕ, ◌+◌, Option, Some, None, [], ◌∷◌, sym, subst, ap, ◌∙◌, IfSome, ScriptView, Maker, BookKnown, at_rest, account_parted, maker_left, BookLockView, BookSeatView, IsSeatOf, knowing, seat_of, IsOpened, has_opened}

-- the seat of the maker after `n` accounts: seat `s`, knowing that it has opened these
abbrev pub OpenedFrom : BookSeatView → ℕ → BookSeatView → Type 0
OpenedFrom s n t = t ≡ knowing (has_opened n s.knows) s

pub opened_first : (s : BookSeatView) → s.knows.maker ≡ Some (record { executors = 0; roots = 0 }) → OpenedFrom s 0 s
opened_first s maker = ap (λ (m : Option Maker). record s { knows = record s.knows { maker = m } }) maker

pub opened_seat : (b : BookLockView) (s t : BookSeatView) (n : ℕ) → IsSeatOf b s → OpenedFrom s n t → IsSeatOf b t
opened_seat b s t n is same = subst (λ (x : BookSeatView). IsSeatOf b x) (sym same) is

pub opened_maker : (s t : BookSeatView) (n : ℕ) → OpenedFrom s n t → t.knows.maker ≡ Some (record { executors = n; roots = 0 })
opened_maker s t n same = ap (λ (x : BookSeatView). x.knows.maker) same

pub opened_next : (s t u : BookSeatView) (n : ℕ) → OpenedFrom s n t → u ≡ knowing (maker_left t.knows) t → OpenedFrom s (n + 1) u
opened_next s t u n same next = next ∙ ap (λ (x : BookSeatView). knowing (maker_left x.knows) x) same

-- the seat that is opened next is that of the executor of this number
pub opened_account : (b : BookLockView) (s t own : BookSeatView) (n : ℕ) (p : ScriptView) → IsSeatOf b s → b.script ≡ p → OpenedFrom s n t → own ≡ seat_of b (account_parted t.knows) → IsOpened p n own
opened_account b s t own n p is script same parted =
    let known : s.knows.script ≡ Some p = is.2 ∙ ap (λ (x : ScriptView). Some x) script in
    let view : Option ScriptView → BookKnown = λ o. record { script = o; accounts = record { executor = n; records = []; order = at_rest; seen = [] } ∷ []; tickets = []; maker = None } in
    (ap (λ (x : BookSeatView). x.here) parted, ap (λ (x : BookSeatView). x.knows) parted ∙ ap (λ (x : BookSeatView). account_parted x.knows) same ∙ ap view known)

-- what the seat is after a root more
pub root_added : (s t : BookSeatView) (mk : Maker) → s.knows.maker ≡ Some mk → IfSome s.knows.maker (λ m. t ≡ knowing (record s.knows { maker = Some (record m { roots = m.roots + 1 }) }) s)
    → t ≡ knowing (record s.knows { maker = Some (record mk { roots = mk.roots + 1 }) }) s
root_added s t mk maker is = subst (λ (o : Option Maker). IfSome o (λ m. t ≡ knowing (record s.knows { maker = Some (record m { roots = m.roots + 1 }) }) s)) maker is

pub root_seat : (b : BookLockView) (s t : BookSeatView) (v : Option Maker) → IsSeatOf b s → t ≡ knowing (record s.knows { maker = v }) s → IsSeatOf b t
root_seat b s t v is same = subst (λ (x : BookSeatView). IsSeatOf b x) (sym same) is
