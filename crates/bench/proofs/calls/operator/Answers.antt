-- `bench::calls::operator` meets its contract. Assumes nothing.
use Rattle.std.proofs.Common.{refl, sym, ◌∙◌}
use Rattle.bench.specs.declared.Setting.{Setting}
use Rattle.bench.specs.Ports.{no_port}
use Rattle.bench.specs.Calls.{operator_act, safe_in_hold, asked}
use Rattle.bench.proofs.Acted.{found, nowhere, no_block}
use Rattle.bench.proofs.calls.operator.Goals as goal

pub returns-in_default : goal.returns-in_default
unfolding asked
returns-in_default c =
    let x = c.args in
    c.refused.ensures
    ∙ nowhere x.b x.port x.at (λ o (s : Setting). operator_act o s x.at x.setSD_C x.ChFAck_C (safe_in_hold s.params x.safe.now))
    (λ i h. c.in_default.not-Some i (c.place_of.ensures.value ∙ h)) (λ s. refl)

pub happened-requires-clause-no_block : goal.happened-requires-clause-no_block
happened-requires-clause-no_block c = rw c.operator_act-act.ensures (no_block _ _)

pub returns : goal.returns
unfolding no_port
returns c =
    let x = c.args in
    simp (c.happened.ensures x.at, c.operator_act-act.ensures, c.safe_hold-holds.ensures)
    (found x.b x.port x.at (λ o (s : Setting). operator_act o s x.at x.setSD_C x.ChFAck_C (safe_in_hold s.params x.safe.now))
    (sym c.place_of.ensures.value ∙ c.in-Some.is))
