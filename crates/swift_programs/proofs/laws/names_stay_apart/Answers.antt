use Rattle.std.proofs.Common.{refl}
use Rattle.std.specs.Prelude.{codes, not, ◌&&◌}
use Rattle.swift_programs.specs.Names.{has_field, is_plain_member, is_plain_type, is_plain_value}
use Rattle.swift_programs.proofs.Apart.{apart}
use Rattle.swift_programs.proofs.laws.names_stay_apart.Goals as goal

pub returns-clause-types : goal.returns-clause-types
returns-clause-types c = λ a b same. apart is_plain_type (codes "T_") (λ w. refl) (λ w. refl) a b same

pub returns-clause-values : goal.returns-clause-values
returns-clause-values c = λ a b same. apart is_plain_value (codes "v_") (λ w. refl) (λ w. refl) a b same

pub returns-clause-members : goal.returns-clause-members
returns-clause-members c = λ a b same. apart is_plain_member (codes "v_") (λ w. refl) (λ w. refl) a b same

pub returns-clause-methods : goal.returns-clause-methods
returns-clause-methods c = λ actor a b same. apart (λ w. is_plain_value w && not (has_field actor w)) (codes "m_") (λ w. refl) (λ w. refl) a b same
