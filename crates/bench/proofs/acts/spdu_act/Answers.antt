-- `bench::acts::spdu_act` meets its contract. Assumes nothing.
use Rattle.answer.specs.Answers.{Taken}
use Rattle.std.proofs.Common.{ℕ, false, length, sym, ap, ◌∙◌}
use Rattle.answer.specs.Rules.{answer_by}
use Rattle.spdu.specs.Signature.{by_engine}
use Rattle.std.specs.Prelude.{Ok}
use Rattle.std.proofs.lemmas.Result.{err_from_is_err_and}
use Rattle.scl.specs.declared.Happening.{Happening}
use Rattle.bench.specs.declared.Act.TheVariants.{Happens}
use Rattle.bench.specs.Calls.{spdu_rules}
use Rattle.bench.proofs.Acted.{nowhere_spdu}
use Rattle.bench.proofs.Reading.{read_at, unread_at}
use Rattle.bench.proofs.acts.spdu_act.Goals as goal

pub returns-in_default : goal.returns-in_default
returns-in_default c =
    let x = c.args in
    nowhere_spdu (by_engine x.signing.now.engine x.signing.now.short.now x.signing.now.long.now) x.end x.setting c.in_default.not-Some x.at x.spdu.now x.safe_holds

pub returns-in_err-spdu_answer : goal.returns-in_err-spdu_answer
returns-in_err-spdu_answer c =
    let x = c.args in
    let s = c.in-Some.s in
    let p = err_from_is_err_and c.from_residual.result c.from_residual.ensures.1 in
    rw (p.1, p.2, c.in-Some.is)
    (unread_at (by_engine x.signing.now.engine x.signing.now.short.now x.signing.now.long.now) x.end s x.at x.spdu.now x.safe_holds
    (ap (λ (m : ℕ). answer_by Taken (spdu_rules false s m (length x.spdu.now) x.safe_holds)) (sym c.length.ensures) ∙ sym c.in_err-spdu_answer.ensures))

pub returns : goal.returns
returns c =
    let x = c.args in
    let s = c.in-Some.s in
    rw c.in-Some.is
    (ap (λ (h : Happening). Ok (Happens h)) c.received.ensures
    ∙ read_at (by_engine x.signing.now.engine x.signing.now.short.now x.signing.now.long.now) x.end s x.at x.spdu.now x.safe_holds
    (ap (λ (m : ℕ). answer_by Taken (spdu_rules false s m (length x.spdu.now) x.safe_holds)) (sym c.length.ensures) ∙ sym c.in_ok-spdu_answer.ensures))
