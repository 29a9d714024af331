-- `Block::fields` meets its contract: a group of rules that is kept leaves TAKEN to the next, and one that refuses ends the call. Assumes nothing.
use Rattle.std.proofs.lemmas.Result.{err_from_is_err_and}
use Rattle.block.proofs.Block.fields.Goals as goal

pub returns-in_err-protocol : goal.returns-in_err-protocol
returns-in_err-protocol c =
    let p = err_from_is_err_and c.from_residual-in_err-protocol.result c.from_residual-in_err-protocol.ensures.1 in
    rw (p.1, p.2, ← c.in_ok-port_mode.ensures, ← c.in_ok-device.ensures, ← c.in_err-protocol.ensures)

pub returns-in_err-description : goal.returns-in_err-description
returns-in_err-description c =
    let p = err_from_is_err_and c.from_residual-in_err-description.result c.from_residual-in_err-description.ensures.1 in
    rw (p.1, p.2, ← c.in_ok-port_mode.ensures, ← c.in_ok-device.ensures, ← c.in_ok-protocol.ensures, ← c.in_err-description.ensures)

pub returns-in_err-described : goal.returns-in_err-described
returns-in_err-described c =
    let p = err_from_is_err_and c.from_residual-in_err-described.result c.from_residual-in_err-described.ensures.1 in
    rw (p.1, p.2, ← c.in_ok-port_mode.ensures, ← c.in_ok-device.ensures, ← c.in_ok-protocol.ensures, ← c.in_ok-description.ensures, ← c.in_err-described.ensures)

pub returns : goal.returns
returns c =
    rw (c.described-2.ensures, ← c.in_ok-port_mode.ensures, ← c.in_ok-device.ensures, ← c.in_ok-protocol.ensures, ← c.in_ok-description.ensures, ← c.in_ok-described.ensures)
