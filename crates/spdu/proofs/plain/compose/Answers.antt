-- `spdu::plain::compose` meets its contract: the engine signs as bits do. Assumes nothing.
use Rattle.std.proofs.Common.{ℕ, List, ap, ◌∙◌}
use Rattle.spdu.specs.Image.{composed}
use Rattle.spdu.proofs.plain.compose.Goals as goal

pub returns-clause-octets_after : goal.returns-clause-octets_after
returns-clause-octets_after c =
    let a = c.args in
    c.compose_by.ensures.octets_after ∙ ap (λ (sign : ℕ → List ℕ → ℕ). composed sign a.p a.control.MCount a.control.setSD a.control.ChFAckReq a.process.now a.other.now a.octets.now) c.signing-signing.ensures
