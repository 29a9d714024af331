-- Both engines agree, at every width, generator and number of index bits, for every register and all octets. Assumes nothing.
use mathlib.Core.Path.{◌≡◌, refl}
use mathlib.Core.List.{List}
use Prim.Native.Nat.{ℕ, ◌+◌, ◌*◌, ◌/◌, ◌^◌, ◌<◌}
use Rattle.signature.specs.declared.Engine.{Engine}
use Rattle.signature.specs.declared.Engine.TheVariants as engines
use Rattle.signature.specs.Signature.{signature}
use Rattle.signature.specs.Engines.{octet_by, signed_by, Serves}
use Rattle.signature.proofs.Law.{look_all}
use Rattle.signature.proofs.Loop.{ByOctets, bits_by_octets, table_by_octets}

-- an engine goes octet by octet
pub by_octets : (e : Engine) (w g n : ℕ) (table : List ℕ) → ByOctets (octet_by e w g n table) (signed_by e w g n table)
by_octets engines.Table w g n table = table_by_octets w n table
by_octets engines.Shift w g n table = bits_by_octets w g

module _ (w g n k : ℕ) (wide : w ≡ n + k) (hg : g < 2 ^ w) (hn : 0 < n) (whole : n * (8 / n) ≡ 8) where
  -- whichever engine, with a table that serves it: the signature
  pub engine_signs : (e : Engine) (table : List ℕ) → Serves e w g n table → (r : ℕ) (xs : List ℕ) → signed_by e w g n table r xs ≡ signature w g r xs
  engine_signs engines.Table table t r xs = look_all w g n k wide hg hn whole t r xs
  engine_signs engines.Shift table t r xs = refl
