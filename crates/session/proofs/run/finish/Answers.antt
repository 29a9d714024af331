-- `session::run::finish` meets its contract. Assumes nothing.
use Rattle.std.proofs.Common.{◌≤◌, length, sym, refl, arith, le-ltb, lt-ltb}
use lib.Seq.{length-take-le}
use Rattle.lines.proofs.Written.{from_front}
use Rattle.session.specs.Run.{finish_text}
use Rattle.session.proofs.run.finish.Goals as goal

pub returns-then-out-lt-CLOSING_ROOM : goal.returns-then-out-lt-CLOSING_ROOM
unfolding finish_text
returns-then-out-lt-CLOSING_ROOM c =
    let e = lt-ltb _ _ c.if-out-lt-CLOSING_ROOM.true in
    record { value = rw e refl; out_after = rw e refl; written_in_bounds = (omega arith, refl) }

pub returns : goal.returns
unfolding finish_text
returns c =
    let e = le-ltb _ _ c.if-out-lt-CLOSING_ROOM.false in
    let w = c.close.ensures.written in
    let b : c.close.result ≤ length c.close.new.out = omega (arith, c.close.ensures.at_most_its_room, c.close.auto, c.if-out-lt-CLOSING_ROOM.false) in
    record { value = rw e (omega (arith, w.end)); out_after = rw e (from_front w); written_in_bounds = (b, sym (length-take-le _ _ b)) }
