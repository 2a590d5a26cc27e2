use Rattle.plain_laws.proofs.Lexed.{expr_lexed, writable_plain}
use Rattle.plain_laws.proofs.Trees.{reads}
use Rattle.plain_laws.proofs.laws.expressions_are_read_back.Goals as goal

pub returns : goal.returns
returns c = λ text tokens f e i rest long writable breaks stands.
    let l = expr_lexed f e 5 rest long writable breaks stands in
    record { end = l.end; next = l.next; read = λ to tree ends spelled. reads text tokens f e i l.end to tree (writable_plain f e writable) l.told ends spelled }
