-- Copies of histories.
use Rattle.swift_explorer.proofs.Prelude.{◌≡◌, ◌≤◌, Bool, false, List, length, sym, subst, ◌∙◌, slice_index_or, ScriptView, executor_count, Event, IsRead, records_of, starts, IsCopyOf, Move, SearchedHistory, IsCopy, IsPath, has_records}
use Rattle.swift_explorer.proofs.Followed.{many_on}

-- where its parts are copies, a history is a copy
pub is_copy : (x y : SearchedHistory) → IsCopyOf x.steps y.steps → y.used.items ≡ x.used.items → ((log : List Event) → IsRead x.digest log → IsRead y.digest log) → IsCopy x y
is_copy x y copy used digest = record {
  script = copy.script_is;
  history = λ script blocks is. record {
    orderly = is.orderly;
    none_folded = is.none_folded;
    many = many_on x y copy.many ∙ is.many;
    used = λ e. subst (λ (us : List Bool). slice_index_or us e false ≡ has_records (records_of e blocks)) (sym used) (is.used e);
    short = subst (λ (us : List Bool). length us ≤ executor_count script) (sym used) is.short;
    followed = copy.followed script (starts script) blocks is.followed;
    read = (is.read.0, is.read.1, (copy.followed script (starts script) blocks is.followed).led.log_is ∙ sym is.followed.led.log_is ∙ is.read.2, digest is.read.0 is.read.3);
  };
  roots = copy.roots_are;
}

-- what was followed in a history was followed in a copy of it
pub path_copied : (script : ScriptView) (path : List Move) (x y : SearchedHistory) → IsCopy x y → IsPath script path x → IsPath script path y
path_copied script path x y copy p = record { blocks = p.blocks; steps = p.steps; is = copy.history script p.blocks p.is; roots = copy.roots ∙ p.roots }
