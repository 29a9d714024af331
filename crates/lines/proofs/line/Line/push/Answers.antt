-- `lines::Line::push` meets its contract: the text stands behind the one before it, and zeros behind both. Assumes nothing.
use Rattle.lines.proofs.Written.{fitting, pushed, kept}
use Rattle.lines.proofs.line.Line.push.Goals as goal

pub invariant_of-self : goal.invariant_of-self
invariant_of-self g c =
    let s = c.self in
    let t = c.args.text.now in
    let all = fitting g.row.ROOM s.inside.length t s.view_is s.invariant.0 s.told s.invariant.1 c.requires c.copy.ensures.count in
    rw all (kept g.row.ROOM s.inside.length t s.view_is s.invariant.0 s.told s.invariant.1 c.requires (rw all at c.copy.ensures.front))

pub returns : goal.returns
returns g c =
    let s = c.self in
    let t = c.args.text.now in
    let all = fitting g.row.ROOM s.inside.length t s.view_is s.invariant.0 s.told s.invariant.1 c.requires c.copy.ensures.count in
    rw all (pushed g.row.ROOM s.inside.length t s.view_is s.invariant.0 s.told s.invariant.1 c.requires (rw all at c.copy.ensures.front))
