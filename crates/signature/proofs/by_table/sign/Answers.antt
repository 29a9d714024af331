-- `signature::by_table::sign` meets its contract: look-ups in the right table. Assumes nothing.
use Rattle.std.proofs.Common.{◌∙◌}
use Rattle.signature.proofs.Law.{look_registers}
use Rattle.signature.proofs.by_table.sign.Goals as goal

pub returns : goal.returns
returns g c =
    c.sign_by.ensures ∙ look_registers g.met.R.Register.fits c.table.ensures (g.R.Register.number c.args.seed) c.args.octets.now
