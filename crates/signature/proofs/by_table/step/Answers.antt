-- `signature::by_table::step` meets its contract: a look-up in the right table. Assumes nothing.
use Rattle.std.proofs.Common.{◌∙◌}
use Rattle.signature.proofs.Law.{look_register}
use Rattle.signature.proofs.by_table.step.Goals as goal

pub returns : goal.returns
returns g c =
    c.look_up.ensures ∙ look_register g.met.R.Register.fits c.table.ensures (g.R.Register.number c.args.register) c.args.x
