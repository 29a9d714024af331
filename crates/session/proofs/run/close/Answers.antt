-- `session::run::close` meets its contract. Assumes nothing.
use Rattle.std.proofs.Common.{ap, ◌∙◌, arith}
use Rattle.lines.proofs.Written.{then}
use Rattle.session.specs.Run.{plus, closing}
use Rattle.session.proofs.Link.{one_if}
use Rattle.session.proofs.run.close.Goals as goal

pub returns-clause-written : goal.returns-clause-written
unfolding closing
returns-clause-written c =
    let st = c.args.st in
    let refused = c.saturating_add-refused.ensures ∙ ap (plus st.refused) c.from.ensures ∙ one_if c.args.some st.refused (omega arith) in
    then (then c.thirteen-a.ensures.written (rw (c.as_octets.ensures, c.summary_line-line.ensures, refused) at c.put-b.ensures)) c.port_lines.ensures.written
