-- `bench::calls::set_parameters` meets its contract. Assumes nothing.
use Rattle.std.proofs.Common.{ℕ, List, get_or, sym, ap, ◌∙◌}
use Rattle.block.specs.Table22.{parameter_signature}
use Rattle.block.proofs.Signed.{right_parameters}
use Rattle.std.specs.Prelude.{Result}
use Rattle.answer.specs.declared.Refusal.{Refusal}
use Rattle.bench.specs.declared.Act.{Act}
use Rattle.bench.specs.Ports.{no_port}
use Rattle.bench.specs.Calls.{parameters_act}
use Rattle.bench.specs.Storing.{acted}
use Rattle.bench.proofs.Acted.{found, nowhere_block_at}
use Rattle.bench.proofs.calls.set_parameters.Goals as goal

pub returns-in_default : goal.returns-in_default
returns-in_default c =
    let x = c.args in
    c.refused.ensures
    ∙ nowhere_block_at x.b x.port x.at parameter_signature x.octets.now (λ i h. c.in_default.not-Some i (c.place_of.ensures.value ∙ h))

pub returns : goal.returns
unfolding no_port
returns c =
    let x = c.args in
    let i = c.in-Some.i in
    c.acted.ensures
    ∙ ap (λ (a : Result Act Refusal). acted x.b i (get_or x.b.ports i no_port) x.at a)
    (c.parameters_act-act.ensures
    ∙ ap (λ (sign : List ℕ → ℕ). parameters_act sign x.port x.octets.now) (right_parameters x.engine _ c.table_for-short.ensures.serves))
    ∙ found x.b x.port x.at (λ o s. parameters_act parameter_signature x.port x.octets.now) (sym c.place_of.ensures.value ∙ c.in-Some.is)
