-- Whichever the engine, with a table that serves it: a block's signatures. Assumes nothing.
use mathlib.Core.Path.{◌≡◌, refl}
use mathlib.Core.List.{List}
use Prim.Native.Nat.{ℕ}
use lib.Dec.{lit<}
use Rattle.gf2.specs.Generators.{generator16}
use Rattle.signature.specs.declared.Engine.{Engine}
use Rattle.signature.specs.Engines.{Serves}
use Rattle.signature.proofs.Engines.{engine_signs}
use Rattle.block.specs.Table22.{parameter_signature, parameters_by}

-- as methods of signing
pub right_parameters : (e : Engine) (short : List ℕ) → Serves e 16 generator16 8 short → parameters_by e short ≡ parameter_signature
right_parameters e short s = λ i octets. engine_signs 16 generator16 8 8 refl (lit< tt) (lit< tt) refl e short s 0 octets i
