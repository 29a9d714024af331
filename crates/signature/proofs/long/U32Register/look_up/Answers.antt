-- An octet's two look-ups in the long signature are those of its halves. Assumes nothing.
use Rattle.std.proofs.Common.{ℕ, ap, ◌∙◌, rules}
use Rattle.signature.specs.Lookup.{look_up}
use Rattle.signature.proofs.Ahead.{two_halves}
use Rattle.signature.proofs.long.U32Register.look_up.Goals as goal

pub returns : goal.returns
returns c =
    c.look_up32.ensures
    ∙ ap (λ (r : ℕ). look_up 32 4 c.args.table.now r 0) c.look_up32-half.ensures
    ∙ two_halves c.args.table.now c.args.register c.args.x (search rules)
