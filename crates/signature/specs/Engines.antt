-- 02, item 3: the two engines, by the look-up and by the bit shift. Assumes nothing.
use Rattle.std.specs.Prelude.{◌≡◌, true, List, ℕ}
use Rattle.signature.specs.declared.Engine.{Engine}
use Rattle.signature.specs.declared.Engine.TheVariants as engines
use Rattle.signature.specs.Signature.{octet, signature}
use Rattle.signature.specs.Lookup as lookup

-- an octet into the register r, where a table is lent: Shift reads none
abbrev pub octet_by : Engine → ℕ → ℕ → ℕ → List ℕ → ℕ → ℕ → ℕ
octet_by engines.Table w g n table r x = lookup.octet_by_table w n table r x
octet_by engines.Shift w g n table r x = octet w g r x

-- octets, from the register r
abbrev pub signed_by : Engine → ℕ → ℕ → ℕ → List ℕ → ℕ → List ℕ → ℕ
signed_by engines.Table w g n table r xs = lookup.by_table w n table r xs
signed_by engines.Shift w g n table r xs = signature w g r xs

-- the table that an engine needs: Table the right one, Shift none, so that any serves
abbrev pub Serves : Engine → ℕ → ℕ → ℕ → List ℕ → Type 0
Serves engines.Table w g n table = lookup.Table w g n table
Serves engines.Shift w g n table = true ≡ true
