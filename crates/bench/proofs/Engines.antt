-- Whichever the engine, with tables that serve it: every list of calls comes to the same, call for call. Assumes nothing.
use mathlib.Core.Path.{◌≡◌, refl, sym, ap, ◌∙◌}
use mathlib.Core.List.{List}
use Prim.Native.Nat.{ℕ}
use Rattle.gf2.specs.Generators.{generator16, generator32}
use Rattle.signature.specs.declared.Engine.{Engine}
use Rattle.signature.specs.declared.Engine.TheVariants as engines
use Rattle.signature.specs.Engines.{Serves}
use Rattle.block.proofs.Signed.{right_parameters}
use Rattle.spdu.proofs.Engines.{right_method}
use Rattle.bench.specs.Methods.{Method, annex_d, method_of, RightTables}
use Rattle.bench.specs.History.{Call, results_of}

pub right_methods : (e : Engine) (short long : List ℕ) → Serves e 16 generator16 8 short → Serves e 32 generator32 4 long → method_of e short long ≡ annex_d
right_methods e short long s l = λ i. record { block = right_parameters e short s i; spdu = right_method e short long s l i }

-- both engines, in whatever is said of a method
pub engines_agree : {A : Type 0} (f : Method → A) {short long : List ℕ} → RightTables short long → (any₁ any₂ : List ℕ)
    → f (method_of engines.Table short long) ≡ f (method_of engines.Shift any₁ any₂)
engines_agree f {short} {long} right any₁ any₂ =
    ap f (right_methods engines.Table short long right.short_right right.long_right ∙ sym (right_methods engines.Shift any₁ any₂ refl refl))

-- ports, answers, replies and buffers
pub same_results : {short long : List ℕ} → RightTables short long → (any₁ any₂ : List ℕ) (calls : List Call)
    → results_of (method_of engines.Table short long) calls ≡ results_of (method_of engines.Shift any₁ any₂) calls
same_results right any₁ any₂ calls = engines_agree (λ m. results_of m calls) right any₁ any₂
