-- Both engines print the same text of every session. Assumes nothing.
use Rattle.std.proofs.Common.{◌≡◌, ℕ, List}
use Rattle.signature.specs.declared.Engine.TheVariants as engines
use Rattle.bench.specs.Methods.{method_of, RightTables}
use Rattle.bench.proofs.Engines.{engines_agree}
use Rattle.session.specs.Run.{printed_by}

pub same_text : {short long : List ℕ} → RightTables short long → (any₁ any₂ s : List ℕ)
    → printed_by (method_of engines.Table short long) s ≡ printed_by (method_of engines.Shift any₁ any₂) s
same_text right any₁ any₂ s = engines_agree (λ m. printed_by m s) right any₁ any₂
