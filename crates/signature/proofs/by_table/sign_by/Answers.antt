-- `signature::by_table::sign_by` meets its contract: the loop's laws are `Left`'s. Assumes nothing.
use Rattle.std.proofs.Common.{rules}
use Rattle.signature.proofs.Loop.{again, done, table_by_octets}
use Rattle.signature.proofs.by_table.sign_by.Goals as goal

pub loop-x-preserved : goal.loop-x-preserved
loop-x-preserved g c =
    let r = g.R.Register in
    again (table_by_octets r.width r.index_bits (r.entries c.args.table.now)) c.loop-x.invariant (search rules) c.look_up-register.ensures

pub returns : goal.returns
returns g c =
    let r = g.R.Register in
    done (table_by_octets r.width r.index_bits (r.entries c.args.table.now)) c.loop-x.invariant (search rules)
