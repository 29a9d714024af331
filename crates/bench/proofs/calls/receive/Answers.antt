-- `bench::calls::receive` meets its contract. Assumes nothing.
use Rattle.std.proofs.Common.{ℕ, List, false, get_or, sym, ap, ◌∙◌}
use Rattle.spdu.specs.Signature.{by_bits, by_engine}
use Rattle.spdu.proofs.Engines.{right_method}
use Rattle.bench.specs.declared.Setting.{Setting}
use Rattle.std.specs.Prelude.{Result}
use Rattle.answer.specs.declared.Refusal.{Refusal}
use Rattle.bench.specs.declared.Act.{Act}
use Rattle.bench.specs.Ports.{no_port}
use Rattle.bench.specs.Calls.{spdu_act}
use Rattle.bench.specs.Handing.{safe_holds_at}
use Rattle.bench.specs.Storing.{acted}
use Rattle.bench.proofs.Acted.{found, nowhere, no_block_at, received_at, spdu_nowhere}
use Rattle.bench.proofs.calls.receive.Goals as goal

pub returns-in_default : goal.returns-in_default
returns-in_default c =
    let x = c.args in
    c.refused.ensures
    ∙ nowhere x.b x.port x.at (λ o (s : Setting). spdu_act by_bits x.end o s x.at x.spdu.now (safe_holds_at x.end s.params x.safe.now))
    (λ i h. c.in_default.not-Some i (c.place_of.ensures.value ∙ h))
    (λ s. spdu_nowhere by_bits x.end s x.at x.spdu.now (safe_holds_at x.end s.params x.safe.now))
    ∙ received_at x.b x.port x.end x.at x.spdu.now x.safe.now

pub happened-requires-clause-no_block : goal.happened-requires-clause-no_block
unfolding no_port
happened-requires-clause-no_block c =
    let x = c.args in
    rw c.spdu_act-act.ensures
    (no_block_at (by_engine x.engine c.table_for-short.result c.table_for-long.result) x.end false (get_or x.b.ports c.in-Some.i no_port).setting x.at x.spdu.now c.safe_hold-holds.result)

pub returns : goal.returns
unfolding no_port
returns c =
    let x = c.args in
    let i = c.in-Some.i in
    let p = get_or x.b.ports i no_port in
    c.happened.ensures x.at
    ∙ ap (λ (a : Result Act Refusal). acted x.b i p x.at a)
    (c.spdu_act-act.ensures
    ∙ ap (λ (sign : ℕ → List ℕ → ℕ). spdu_act sign x.end false p.setting x.at x.spdu.now c.safe_hold-holds.result)
    (right_method x.engine _ _ c.table_for-short.ensures.serves c.table_for-long.ensures.serves))
    ∙ simp c.safe_hold-holds.ensures
    (found x.b x.port x.at (λ o (s : Setting). spdu_act by_bits x.end o s x.at x.spdu.now (safe_holds_at x.end s.params x.safe.now))
    (sym c.place_of.ensures.value ∙ c.in-Some.is))
    ∙ received_at x.b x.port x.end x.at x.spdu.now x.safe.now
