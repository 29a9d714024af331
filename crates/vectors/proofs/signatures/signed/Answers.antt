-- `vectors::signatures::signed` meets its contract: the engine signs with a table that serves it. Assumes nothing.
use Rattle.std.proofs.Common.{◌-◌, ◌∙◌, arith}
use Rattle.signature.proofs.Engines.{engine_signs}
use Rattle.vectors.proofs.signatures.signed.Goals as goal

pub returns : goal.returns
returns g c =
    let fits = g.met.R.Register.fits in
    let n = g.R.Register.index_bits in
    let signs = engine_signs g.R.Register.width g.R.Register.generator n (g.R.Register.width - n) (omega (arith, fits.within)) fits.generator fits.some
    fits.whole c.args.engine _ c.table_for-table.ensures.serves (g.R.Register.number c.args.seed) c.args.octets.now in
    c.sign_with.ensures ∙ signs
