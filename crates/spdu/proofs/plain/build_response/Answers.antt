-- `spdu::plain::build_response` meets its contract: the engine signs as bits do. Assumes nothing.
use Rattle.std.proofs.Common.{ℕ, List, ap, ◌∙◌}
use Rattle.spdu.specs.Built.{response_built}
use Rattle.spdu.proofs.plain.build_response.Goals as goal

pub returns-clause-out_after : goal.returns-clause-out_after
returns-clause-out_after c =
    let a = c.args in
    c.build_response_by.ensures.out_after ∙ ap (λ (sign : ℕ → List ℕ → ℕ). response_built sign a.p a.responded a.status.DCount_i a.status.SDset a.status.DCommErr a.status.DTimeout a.process.now a.out.now) c.signing-signing.ensures
