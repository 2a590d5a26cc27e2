-- What is marked after each root, and the first root so far.
use Rattle.script_compiler.proofs.Prelude.{◌≡◌, ℕ, ◌+◌, ◌≤◌, ◌<◌, ◌⊎◌, List, Option, None, Some, length, sym, subst, ◌∙◌, inl, inr, arith, cases_eq, slice_get_within, same_Some, Contains, Leads, WaitsForLater, NoneBefore, NoneWaits, here, on, Has, AreListsOf, IsMarked, count_of, CallsTo, IsClosed, Reaching, AreNone, itself, by, Calls, WaitsInPlace, LeadsToWait, AreMarks, IsFirstFrom, CallEdge, RootWait, MethodLists, Marks}
use Rattle.std.specs.List.{slice_get}
use Rattle.std.specs.Option.{IfSome, IfNone}

sooner : (edges : List CallEdge) (waits : List RootWait) (p q m : ℕ) → p ≤ q → LeadsToWait edges waits q m → LeadsToWait edges waits p m
sooner edges waits p q m l w = record { at = w.at; leads = w.leads; later = w.later; wait = w.wait; not_before = let n = w.not_before in omega (arith, l, n) }

module _ (edges : List CallEdge) (waits : List RootWait) (methods count : ℕ) (callers waiting : MethodLists)
    (c : AreListsOf (Calls edges) methods callers) (w : AreListsOf (WaitsInPlace waits count) (count + 1) waiting) where
  leads_by_calls : {m k : ℕ} → CallsTo callers m k → Leads edges m k
  leads_by_calls itself = here
  leads_by_calls (by {m = m} {k = j} has rest) = on (c.only j m has) (leads_by_calls rest)

  marked_back : (s : Marks) → IsClosed callers s → {m k : ℕ} → Leads edges m k → IsMarked s k → IsMarked s m
  marked_back s closed here h = h
  marked_back s closed (on {m = m} {k = j} edge rest) h = closed j m (c.all j m edge) (marked_back s closed rest h)

  marks_after : (p : ℕ) (old new : Marks) → count_of old ≡ methods
      → ((m : ℕ) → IsMarked old m → LeadsToWait edges waits p m)
      → ((at later : ℕ) → Contains waits (record { method = at; root = later }) → p ≤ later → Has waiting p at ⊎ IsMarked old at)
      → Reaching callers (Has waiting p) old new → AreMarks edges waits methods p new
  marks_after p old new same sound done r = record {
    count = r.count ∙ same;
    sound = λ m h. elim (r.only m h) [
      | inl x ↦ sound m x
      | inr k ↦ let i = w.only p k.0 k.1 in record {
        at = k.0;
        leads = leads_by_calls k.2;
        later = i.root;
        wait = i.wait;
        not_before = let e = i.is in omega (arith, e);
      }
    ];
    all = λ m l. marked_back new r.closed l.leads (elim (done l.at l.later l.wait l.not_before) [ inl has ↦ r.all l.at has | inr x ↦ r.kept l.at x ]);
    none_pending = r.none_pending;
  }

  -- where nothing was marked, and the methods that wait for a root past the last one were reached
  pub marks_begin : (old new : Marks) → AreNone methods old → Reaching callers (Has waiting count) old new
      → AreMarks edges waits methods count new
  marks_begin old new none r =
      marks_after count old new none.count (λ m h. absurd (none.none m h))
      (λ at later wait l. inl (w.all count at (record { root = later; wait = wait; is = omega (arith, l) }))) r

  -- where those that wait for the root at a place were reached
  pub marks_go_on : (p : ℕ) (old new : Marks) → p < count → AreMarks edges waits methods (p + 1) old
      → Reaching callers (Has waiting p) old new → AreMarks edges waits methods p new
  marks_go_on p old new l were r =
      marks_after p old new were.count (λ m h. sooner edges waits p (p + 1) m (omega arith) (were.sound m h))
      (λ at later wait le. elim (cases_eq later p) [
        | inl e ↦ inl (w.all p at (record { root = later; wait = wait; is = omega (arith, l, e) }))
        | inr ne ↦ inr (were.all at (record { at = at; leads = here; later = later; wait = wait; not_before = omega (arith, le, ne) }))
      ]) r

  pub marks_closed : (p : ℕ) (s : Marks) → AreMarks edges waits methods p s → IsClosed callers s
  marks_closed p s are k m has h =
      let l = are.sound k h in
      are.all m (record { at = l.at; leads = on (c.only k m has) l.leads; later = l.later; wait = l.wait; not_before = l.not_before })

module _ (edges : List CallEdge) (waits : List RootWait) (roots : List ℕ) (methods : ℕ) where
  -- a root waits for itself or for a later one where its method is marked
  waits_where_marked : (p m : ℕ) (s : Marks) → AreMarks edges waits methods p s → slice_get roots p ≡ Some m → IsMarked s m
      → WaitsForLater edges waits roots p
  waits_where_marked p m s are is h =
      let l = are.sound m h in
      record { method = m; is = is; at = l.at; leads = l.leads; later = l.later; wait = l.wait; not_before = l.not_before }

  marked_where_waits : (p m : ℕ) (s : Marks) → AreMarks edges waits methods p s → slice_get roots p ≡ Some m
      → WaitsForLater edges waits roots p → IsMarked s m
  marked_where_waits p m s are is r =
      let same : r.method ≡ m = same_Some r.method m (sym r.is ∙ is) in
      subst (IsMarked s) same (are.all r.method (record { at = r.at; leads = r.leads; later = r.later; wait = r.wait; not_before = r.not_before }))

  -- there are no roots from the end on
  pub first_begins : (p : ℕ) → length roots ≤ p → IsFirstFrom edges waits roots p None
  first_begins p l q le r = let i = slice_get_within roots q r.method r.is in absurd (omega (arith, i, l, le))

  pub first_found : (p m : ℕ) (s : Marks) → AreMarks edges waits methods p s → slice_get roots p ≡ Some m → IsMarked s m
      → IsFirstFrom edges waits roots p (Some p)
  first_found p m s are is h = (waits_where_marked p m s are is h, λ q le l r. absurd (omega (arith, le, l)))

  not_here : (p q m : ℕ) (s : Marks) → AreMarks edges waits methods p s → slice_get roots p ≡ Some m → (IsMarked s m → ⊥)
      → q ≡ p → WaitsForLater edges waits roots q → ⊥
  not_here p q m s are is unmarked e r = unmarked (marked_where_waits p m s are is (subst (WaitsForLater edges waits roots) e r))

  pub first_stays : (p m : ℕ) (s : Marks) (first : Option ℕ) → AreMarks edges waits methods p s → slice_get roots p ≡ Some m → (IsMarked s m → ⊥)
      → IsFirstFrom edges waits roots (p + 1) first → IsFirstFrom edges waits roots p first
  first_stays p m s None are is unmarked f = λ q le r. elim (cases_eq q p) [
    | inl e ↦ not_here p q m s are is unmarked e r
    | inr ne ↦ f q (omega (arith, le, ne)) r
  ]
  first_stays p m s (Some at) are is unmarked f = (
    f.0,
    λ q le l r. elim (cases_eq q p) [
      | inl e ↦ not_here p q m s are is unmarked e r
      | inr ne ↦ f.1 q (omega (arith, le, ne)) l r
    ],
  )

  pub first_waits : (p : ℕ) (first : Option ℕ) → IsFirstFrom edges waits roots p first → IfSome first (WaitsForLater edges waits roots)
  first_waits p None f = tt
  first_waits p (Some at) f = f.0

  pub first_is_first : (p : ℕ) (first : Option ℕ) → p ≡ 0 → IsFirstFrom edges waits roots p first → IfSome first (NoneBefore edges waits roots)
  first_is_first p None e f = tt
  first_is_first p (Some at) e f = λ q l r. f.1 q (omega arith) l r

  pub none_is_none : (p : ℕ) (first : Option ℕ) → p ≡ 0 → IsFirstFrom edges waits roots p first → IfNone first (NoneWaits edges waits roots)
  none_is_none p None e f = λ q r. f q (omega arith) r
  none_is_none p (Some at) e f = tt
