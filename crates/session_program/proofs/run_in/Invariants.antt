-- The chunks so far are reads one after the other.
use Rattle.std.proofs.Common.{◌≡◌, length}
use Rattle.session_program.proofs.Reading.{Turned}
use Rattle.session_program.proofs.run_in.Given as goal

abbrev pub invariant-loop : goal.invariant-loop
invariant-loop l = (length l.buf ≡ length l.fn.buf) × (length l.out ≡ length l.fn.out) × Turned l.counter l.last l.buf
