-- `session::text::line_of_port` meets its contract. Assumes nothing.
use Rattle.std.proofs.Common.{◌∙◌}
use Rattle.lines.proofs.Written.{none}
use Rattle.session.specs.Text.{line_of_port}
use Rattle.session.proofs.text.line_of_port.Goals as goal

pub returns-then-p-clause-written : goal.returns-then-p-clause-written
unfolding line_of_port
returns-then-p-clause-written c = rw c.if-p.true (rw (c.as_octets.ensures ∙ c.port_line-line.ensures) at c.put.ensures)

pub returns-else-p-clause-written : goal.returns-else-p-clause-written
unfolding line_of_port
returns-else-p-clause-written c = rw c.if-p.false (none _ _)
