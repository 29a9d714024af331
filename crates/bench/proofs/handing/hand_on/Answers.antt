-- `bench::handing::hand_on` meets its contract. Assumes nothing.
use Rattle.std.proofs.Common.{arith, subst, ◌∙◌}
use Rattle.std.proofs.lemmas.Result.{err_from_is_err_and}
use Rattle.bench.specs.declared.Port.{Port}
use Rattle.bench.specs.Methods.{annex_d}
use Rattle.bench.specs.Ports.{port_at}
use Rattle.bench.specs.Handing.{Parted, Unparted}
use Rattle.bench.proofs.Copied.{copied, no_room, refused-at, has_room, lacks_room}
use Rattle.bench.proofs.handing.hand_on.Goals as goal

pub returns-in_err-part : goal.returns-in_err-part
returns-in_err-part c =
    let x = c.args in
    let p = err_from_is_err_and c.from_residual.result c.from_residual.ensures.1 in
    let unparted = subst (λ (p : Port). Unparted x.port p x.end x.mark x.spdu.now x.safe.now c.in_err-part.field-0.0) c.port_at.ensures c.in_err-part.ensures in
    let y = refused-at x.port (port_at x.b x.port) x.end x.mark x.spdu.now x.safe.now x.out.now unparted in
    rw (p.1, p.2) (record { value = y.told_is; out_after = y.later_is })

pub returns-in_err-refuse_if : goal.returns-in_err-refuse_if
returns-in_err-refuse_if c =
    let x = c.args in
    let p = err_from_is_err_and c.from_residual-in_err-refuse_if.result c.from_residual-in_err-refuse_if.ensures.1 in
    let parted = subst (λ (p : Port). Parted annex_d x.port p x.end x.mark x.spdu.now x.safe.now c.in_ok-part.part.now) c.port_at.ensures c.in_ok-part.ensures in
    let k = lacks_room _ _ c.in_err-refuse_if.ensures in
    let y = no_room x.port (port_at x.b x.port) x.end x.mark x.spdu.now x.safe.now x.out.now parted k.0 in
    rw (p.1, p.2) (record { value = k.1 ∙ y.told_is; out_after = y.later_is })

pub returns : goal.returns
returns c =
    let x = c.args in
    let parted = subst (λ (p : Port). Parted annex_d x.port p x.end x.mark x.spdu.now x.safe.now c.in_ok-part.part.now) c.port_at.ensures c.in_ok-part.ensures in
    let fits = has_room _ _ c.in_ok-refuse_if.ensures in
    let y = copied x.port (port_at x.b x.port) x.end x.mark x.spdu.now x.safe.now x.out.now parted c.copy.new.to c.copy.result fits
    (omega (arith, c.copy.ensures.count, fits)) c.copy.ensures.front in
    record { value = y.told_is; out_after = y.later_is }
