-- `block::judge` meets its contract: the engine signs with a table that serves it. Assumes nothing.
use Rattle.std.proofs.Common.{ℕ, List, ap, ◌∙◌}
use Rattle.block.specs.Rules.{judged_by}
use Rattle.block.proofs.Signed.{right_parameters}
use Rattle.block.proofs.judge.Goals as goal

pub returns : goal.returns
returns c =
    c.judge_by.ensures
    ∙ ap (λ (sign : List ℕ → ℕ). judged_by sign c.args.octets.now c.args.port) (right_parameters c.args.engine _ c.table_for-short.ensures.serves)
