-- Of the octets before `to`, the records before `from` are used.
use Rattle.std.proofs.Common.{◌≡◌, ◌-◌, length}
use Rattle.session_program.proofs.Taking.{Way}
use Rattle.session_program.proofs.use_records.Given as goal

abbrev pub invariant-loop-program : goal.invariant-loop-program
invariant-loop-program l = (length l.buf ≡ length l.fn.buf) × (length l.out ≡ length l.fn.out) × Way l.fn.st l.fn.to l.fn.buf l.buf l.state l.from

abbrev pub decreases-loop-program : goal.decreases-loop-program
decreases-loop-program l = l.to - l.from
