-- The lines of the ports so far are written.
use Rattle.std.proofs.Common.{◌≡◌, ◌+◌, ◌*◌, ◌≤◌, length}
use Rattle.session.specs.Text.{Written, port_lines}
use Rattle.session.proofs.text.port_lines.Given as goal

abbrev pub invariant-loop-i : goal.invariant-loop-i
invariant-loop-i l = (length l.buf ≡ length l.fn.buf) × (l.end ≤ l.at + 128 * l.i) × Written l.fn.buf l.at (port_lines l.fn.b l.i) l.end l.buf
