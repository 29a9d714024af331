-- `session::calling::act_of` meets its contract. Assumes nothing.
use Rattle.std.proofs.Common.{◌≡◌, false, eqb, refl}
use Rattle.record.specs.declared.Kind.{Kind}
use Rattle.record.specs.declared.Kind.TheVariants.{Block, Response, Clock, Operator}
use Rattle.record.specs.Format.{number_of}
use Rattle.bench.specs.Methods.{method_of}
use Rattle.session.specs.Run.{entry}
use Rattle.session.proofs.Turn.{refused_outside}
use Rattle.session.proofs.calling.act_of.Goals as goal

-- a record of another kind than a block's
no_block : (kind : Kind) → (kind ≡ Block → ⊥) → eqb (number_of kind) 1 ≡ false
no_block Block h = absurd (h refl)
no_block Response h = refl
no_block Clock h = refl
no_block Operator h = refl

pub returns-then-outside : goal.returns-then-outside
returns-then-outside c =
    let x = c.args in
    simp (c.if-outside.true, no_block x.found.kind c.in_default.not-Block)
    (refused_outside (method_of x.signing.now.engine x.signing.now.short.now x.signing.now.long.now) x.setting (entry (number_of x.found.kind) x.found.port x.found.clock x.octets.now))
