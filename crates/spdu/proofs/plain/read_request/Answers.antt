-- `spdu::plain::read_request` meets its contract: the engine signs as bits do. Assumes nothing.
use Rattle.std.proofs.Common.{ℕ, List, ap, ◌∙◌}
use Rattle.spdu.specs.Fields.{request_by}
use Rattle.spdu.proofs.plain.read_request.Goals as goal

pub returns : goal.returns
returns c =
    let a = c.args in
    c.read_request_by.ensures ∙ ap (λ (sign : ℕ → List ℕ → ℕ). request_by sign a.p a.s.now) c.signing-signing.ensures
