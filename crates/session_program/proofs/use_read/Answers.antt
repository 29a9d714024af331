-- `session_program::use_read` meets its contract. Assumes nothing.
use Rattle.std.proofs.Common.{rules}
use Rattle.session_program.specs.Kept.{unread}
use Rattle.session_program.proofs.Reading.{above_zero}
use Rattle.session_program.proofs.use_read.Goals as goal

pub returns-in-Err : goal.returns-in-Err
returns-in-Err c = unread _ c.in-Err.is c.stopped.ensures

pub returns-in-Ok : goal.returns-in-Ok
returns-in-Ok c = above_zero c.in-Ok.n c.in-Ok.is (λ z. search rules) c.use_records.ensures
