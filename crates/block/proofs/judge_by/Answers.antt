-- `block::judge_by` meets its contract: the groups of rules in turn. Assumes nothing.
use Rattle.std.proofs.Common.{◌≡◌, false, ap, ◌∙◌}
use Rattle.std.proofs.lemmas.Result.{err_from_is_err_and}
use Rattle.answer.specs.declared.Refusal.TheVariants.{NoPort}
use Rattle.answer.specs.Answers.{Answer, Taken, with_value}
use Rattle.answer.proofs.InTurn.{kept_rule}
use Rattle.ranges.specs.Fields.{outside}
use Rattle.block.specs.declared.Block.{Block}
use Rattle.block.specs.Table22.{block_of, params_of, parameters_by, computed}
use Rattle.block.proofs.Whole.{fields_refuse, agreement_answers}
use Rattle.block.proofs.judge_by.Goals as goal

pub returns-in_err-fields : goal.returns-in_err-fields
returns-in_err-fields c =
    let p = err_from_is_err_and c.from_residual-in_err-fields.result c.from_residual-in_err-fields.ensures.1 in
    let k : c.outside.result ≡ false = kept_rule c.outside.result NoPort c.in_ok-refuse_if.ensures in
    let known : outside 1 8 c.args.port ≡ false = cc in
    rw (p.1, p.2)
    (ap (λ (a : Answer). with_value a (params_of c.args.octets.now))
    (fields_refuse (parameters_by c.args.engine c.args.short.now) c.args.octets.now c.args.port known c.in-Ok.ensures.1.long
    (c.read-b.ensures ∙ ap block_of c.in-Ok.ensures.1.same) c.in_ok-id.ensures c.in_err-fields.ensures))

pub returns-in_err-agreement : goal.returns-in_err-agreement
returns-in_err-agreement c =
    let p = err_from_is_err_and c.from_residual-in_err-agreement.result c.from_residual-in_err-agreement.ensures.1 in
    let k : c.outside.result ≡ false = kept_rule c.outside.result NoPort c.in_ok-refuse_if.ensures in
    let known : outside 1 8 c.args.port ≡ false = cc in
    let sign = parameters_by c.args.engine c.args.short.now in
    rw (p.1, p.2)
    (ap (λ (a : Answer). with_value a (params_of c.args.octets.now))
    (agreement_answers sign c.args.octets.now c.args.port known c.in-Ok.ensures.1.long (c.read-b.ensures ∙ ap block_of c.in-Ok.ensures.1.same)
    (c.computed.ensures ∙ ap (computed sign) c.in-Ok.ensures.1.same) c.in_ok-id.ensures c.in_ok-fields.ensures c.in_err-agreement.ensures))

pub returns : goal.returns
returns c =
    let k : c.outside.result ≡ false = kept_rule c.outside.result NoPort c.in_ok-refuse_if.ensures in
    let known : outside 1 8 c.args.port ≡ false = cc in
    let sign = parameters_by c.args.engine c.args.short.now in
    let b : c.read-b.result ≡ block_of c.args.octets.now = c.read-b.ensures ∙ ap block_of c.in-Ok.ensures.1.same in
    ap (λ (x : Block). with_value Taken x.params) b
    ∙ ap (λ (a : Answer). with_value a (params_of c.args.octets.now))
    (agreement_answers sign c.args.octets.now c.args.port known c.in-Ok.ensures.1.long b (c.computed.ensures ∙ ap (computed sign) c.in-Ok.ensures.1.same)
    c.in_ok-id.ensures c.in_ok-fields.ensures c.in_ok-agreement.ensures)
