-- The loop's laws are `Left`'s.
use Rattle.signature.specs.Lookup.{by_table}
use Rattle.signature.proofs.Loop.{Left}
use Rattle.signature.proofs.by_table.sign_by.Given as goal

abbrev pub invariant-loop-x : goal.invariant-loop-x
invariant-loop-x g l =
    let r = g.R.Register in
    Left (by_table r.width r.index_bits (r.entries l.table)) (r.number l.fn.seed) l.octets (r.number l.register) l.x-index
