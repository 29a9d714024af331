-- `session_program::read_chunk` meets its contract. Assumes nothing.
use Rattle.std.proofs.Common.{◌-◌, length, arith}
use borrow.Rule.Slice.PartMut.{put_mid, take_put}
use Rattle.session_program.specs.Kept.{read}
use Rattle.session_program.proofs.read_chunk.Goals as goal

pub returns : goal.returns
returns c =
    let buf = c.args.buf.now in
    let left = c.args.last.left in
    let rest = length buf - left in
    let r = c.read-got in
    let now = put_mid left rest buf r.new.buf in
    read _ now (omega arith) (take_put left rest buf r.new.buf (omega (arith, c.requires.left_in_bounds))) c.use_read.ensures
