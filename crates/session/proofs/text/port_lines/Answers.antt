-- `session::text::port_lines` meets its contract. Assumes nothing.
use Rattle.std.proofs.Common.{◌≡◌, suc, ◌-◌, refl, add-one, arith, le-leb}
use Rattle.bench.specs.Ports.{no_port, port_at}
use Rattle.lines.proofs.Written.{then, none}
use Rattle.session.specs.Text.{port_lines}
use Rattle.session.proofs.text.port_lines.Goals as goal

pub loop-i-init : goal.loop-i-init
unfolding port_lines
loop-i-init c = (refl, omega arith, none _ _)

pub loop-i-preserved : goal.loop-i-preserved
unfolding port_lines port_at no_port
loop-i-preserved c =
    let e = c.line_of_port-end in
    let l = c.loop-i in
    let low = le-leb 1 (suc l.i) (omega arith) in
    let high = le-leb (suc l.i) 8 (omega arith) in
    let n : suc l.i - 1 ≡ l.i = omega arith in
    (omega (arith, e.auto, l.invariant.0), omega (arith, e.ensures.at_most_a_line, l.invariant.1), rw (add-one l.i, low, high, n) (then l.invariant.2 (rw (add-one l.i) at e.ensures.written)))
