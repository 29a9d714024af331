-- `lines::Line::push_pair` meets its contract: the digits that `io::decimal` spells are the numeral. Assumes nothing.
use Rattle.std.proofs.Common.{◌∙◌, append_assoc}
use Rattle.lines.proofs.Numeral.{numeral_of, few}
use Rattle.lines.proofs.line.Line.push_pair.Goals as goal

pub returns-clause-text : goal.returns-clause-text
returns-clause-text g c =
    let d = c.decimal-k.ensures in
    let digits = d.digits ∙ numeral_of _ c.args.n d.len (few _ c.args.n d.len c.ranges.n.fits) in
    c.push-2.ensures
    ∙ rw (c.push.ensures, digits) (append_assoc c.args.self.now c.args.word.now _)
