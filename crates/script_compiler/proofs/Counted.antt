-- Counts only grow along a block.
use Rattle.script_compiler.proofs.Prelude.{◌≡◌, ◌≤◌, List, [], ◌∷◌, ◌++◌, refl, ◌∙◌, arith, add-zero, cond, sum_by_push, Let, LetTask, HeadTree, If, While, Bind, Group, Assume, StmtTree, Do, Headed, IfElse, BlockTree, nothing, first_then, NameKind, ScopeView, scope_after, scope_within, PlaceCounts, is_number, is_handle, counts_of, counted, greater, counts_after, counts_within, most_in, most_of}
use Rattle.script_names.specs.declared.scope.NameKind.TheVariants as kind

-- no more numbers and no more handles
pub record AtMost (a b : PlaceCounts) : Type 0 where
  pub few_numbers : a.numbers ≤ b.numbers
  pub few_handles : a.handles ≤ b.handles

pub same : (c : PlaceCounts) → AtMost c c
same c = record { few_numbers = omega arith; few_handles = omega arith }

pub still : {a b c : PlaceCounts} → AtMost a b → AtMost b c → AtMost a c
still h k = record { few_numbers = omega (arith, h.few_numbers, k.few_numbers); few_handles = omega (arith, h.few_handles, k.few_handles) }

first_greater : (a b : PlaceCounts) → AtMost a (greater a b)
first_greater a b = record { few_numbers = omega arith; few_handles = omega arith }

second_greater : (a b : PlaceCounts) → AtMost b (greater a b)
second_greater a b = record { few_numbers = omega arith; few_handles = omega arith }

-- each of two counts, where the greater is at most this
pub first_at_most : (a b : PlaceCounts) {c : PlaceCounts} → AtMost (greater a b) c → AtMost a c
first_at_most a b h = still (first_greater a b) h

pub second_at_most : (a b : PlaceCounts) {c : PlaceCounts} → AtMost (greater a b) c → AtMost b c
second_at_most a b h = still (second_greater a b) h

pub counted_more : (c : PlaceCounts) (k : NameKind) → AtMost c (counted c k)
counted_more c kind.Field = same c
counted_more c kind.Number = record { few_numbers = omega arith; few_handles = omega arith }
counted_more c kind.Task = record { few_numbers = omega arith; few_handles = omega arith }
counted_more c kind.Group = record { few_numbers = omega arith; few_handles = omega arith }

pub after_more : (c : PlaceCounts) (x : StmtTree) → AtMost c (counts_after c x)
after_more c (Do (Let n v)) = counted_more c kind.Number
after_more c (Do (LetTask n m)) = counted_more c kind.Task
after_more c _ = same c

pub within_more : (c : PlaceCounts) (h : HeadTree) → AtMost c (counts_within c h)
within_more c (Group n) = counted_more c kind.Group
within_more c _ = same c

mutual
  pub grows_in : (c : PlaceCounts) (x : StmtTree) → AtMost c (most_in c x)
  grows_in c (Do a) = after_more c (Do a)
  grows_in c (Headed h b) = still (within_more c h) (grows_of (counts_within c h) b)
  grows_in c (IfElse t a b) = still (grows_of c a) (first_greater (most_of c a) (most_of c b))

  pub grows_of : (c : PlaceCounts) (b : BlockTree) → AtMost c (most_of c b)
  grows_of c nothing = same c
  grows_of c (first_then x xs) = still (grows_in c x) (first_greater (most_in c x) (most_of (counts_after c x) xs))

-- one name more
pub one_counted : (ks : List NameKind) (k : NameKind) → counts_of (ks ++ k ∷ []) ≡ counted (counts_of ks) k
one_counted ks kind.Field = λ i. record { numbers = (sum_by_push (λ x. cond (is_number x) 1 0) ks kind.Field ∙ add-zero (counts_of ks).numbers) i; handles = (sum_by_push (λ x. cond (is_handle x) 1 0) ks kind.Field ∙ add-zero (counts_of ks).handles) i }
one_counted ks kind.Number = λ i. record { numbers = sum_by_push (λ x. cond (is_number x) 1 0) ks kind.Number i; handles = (sum_by_push (λ x. cond (is_handle x) 1 0) ks kind.Number ∙ add-zero (counts_of ks).handles) i }
one_counted ks kind.Task = λ i. record { numbers = (sum_by_push (λ x. cond (is_number x) 1 0) ks kind.Task ∙ add-zero (counts_of ks).numbers) i; handles = sum_by_push (λ x. cond (is_handle x) 1 0) ks kind.Task i }
one_counted ks kind.Group = λ i. record { numbers = (sum_by_push (λ x. cond (is_number x) 1 0) ks kind.Group ∙ add-zero (counts_of ks).numbers) i; handles = sum_by_push (λ x. cond (is_handle x) 1 0) ks kind.Group i }

pub after_counted : (s : ScopeView) (x : StmtTree) → counts_of (scope_after s x).kinds ≡ counts_after (counts_of s.kinds) x
after_counted s (Do (Let n v)) = one_counted s.kinds kind.Number
after_counted s (Do (LetTask n m)) = one_counted s.kinds kind.Task
after_counted s _ = refl

pub within_counted : (s : ScopeView) (h : HeadTree) → counts_of (scope_within s h).kinds ≡ counts_within (counts_of s.kinds) h
within_counted s (If t) = refl
within_counted s (While t) = refl
within_counted s (Bind n t) = refl
within_counted s (Group n) = one_counted s.kinds kind.Group
within_counted s (Assume n) = refl
