-- `session::run::stop_at` meets its contract: a record that is not whole is the stop of its form. Assumes nothing.
use Rattle.std.proofs.Common.{◌∙◌, drop}
use Rattle.record.specs.Format.{form}
use Rattle.session.proofs.Link.{stop_read}
use Rattle.session.proofs.run.stop_at.Goals as goal

pub returns : goal.returns
returns c =
    let s = drop c.args.at c.args.s.now in
    c.err.ensures.value ∙ stop_read (form s) s c.args.at c.read_record.ensures
