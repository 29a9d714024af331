-- `vectors::signatures::division` meets its contract: an octet's signature from an empty register. Assumes nothing.
use Rattle.std.proofs.Common.{ℕ, ap, ◌∙◌}
use Rattle.signature.specs.Signature.{octet, signature}
use Rattle.vectors.proofs.signatures.division.Goals as goal

pub returns : goal.returns
unfolding signature
returns g c =
    c.entry.ensures
    ∙ c.signed.ensures
    ∙ ap (λ (r : ℕ). octet g.R.Register.width g.R.Register.generator r c.args.x) c.empty.ensures
    ∙ g.met.R.Printed.divides c.args.x
