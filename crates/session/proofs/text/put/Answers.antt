-- `session::text::put` meets its contract: there is room for all of the text. Assumes nothing.
use Rattle.std.proofs.Common.{◌≡◌, length, arith, length-take, length-drop}
use Rattle.lines.proofs.Written.{copied}
use Rattle.session.proofs.text.put.Goals as goal

pub returns : goal.returns
returns c =
    let b = c.args.buf.now in
    let all : c.copy.result ≡ length c.args.text.now = omega (arith, simp (length-take, length-drop) at c.copy.ensures.count) in
    rw all (copied b c.args.text.now c.copy.new.to c.args.at c.requires (rw all at c.copy.ensures.front))
