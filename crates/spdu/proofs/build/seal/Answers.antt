-- `spdu::build::seal` meets its contract. Assumes nothing.
use Rattle.std.proofs.Common.{Bool, cond, sym, ap, ◌∙◌, eq-eqb, ne_eqb}
use Rattle.gf2.specs.Generators.{generator16, generator32}
use Rattle.signature.specs.Engines.{signed_by}
use Rattle.spdu.specs.Signature.{replaced}
use Rattle.spdu.specs.Built.{contents_with}
use Rattle.spdu.proofs.Engines.{sealed}
use Rattle.spdu.proofs.build.seal.Goals as goal

pub returns-then-mode-eq1 : goal.returns-then-mode-eq1
returns-then-mode-eq1 c =
    let a = c.args in
    let s = a.signing.now in
    c.replace.ensures
    ∙ ap replaced
    (sealed s.engine 16 generator16 8 s.short.now a.process.now a.port a.control c.sign-register.ensures c.step-register.ensures c.step.ensures
    ∙ ap (λ (b : Bool). signed_by s.engine (cond b 16 32) (cond b generator16 generator32) (cond b 8 4) (cond b s.short.now s.long.now) 1 (contents_with a.process.now a.port a.control)) (sym (eq-eqb a.mode 1 c.if-mode-eq1.true)))

pub returns-else-mode-eq1 : goal.returns-else-mode-eq1
returns-else-mode-eq1 c =
    let a = c.args in
    let s = a.signing.now in
    c.replace-else-mode-eq1.ensures
    ∙ ap replaced
    (sealed s.engine 32 generator32 4 s.long.now a.process.now a.port a.control c.sign-register-else-mode-eq1.ensures c.step-register-else-mode-eq1.ensures c.step-else-mode-eq1.ensures
    ∙ ap (λ (b : Bool). signed_by s.engine (cond b 16 32) (cond b generator16 generator32) (cond b 8 4) (cond b s.short.now s.long.now) 1 (contents_with a.process.now a.port a.control)) (sym (ne_eqb a.mode 1 c.if-mode-eq1.false)))
