-- `spdu::plain::read_response` meets its contract: the engine signs as bits do. Assumes nothing.
use Rattle.std.proofs.Common.{ℕ, List, ap, ◌∙◌}
use Rattle.spdu.specs.Fields.{response_by}
use Rattle.spdu.proofs.plain.read_response.Goals as goal

pub returns : goal.returns
returns c =
    let a = c.args in
    c.read_response_by.ensures ∙ ap (λ (sign : ℕ → List ℕ → ℕ). response_by sign a.p a.s.now) c.signing-signing.ensures
