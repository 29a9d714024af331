-- The premises of `detects` and `one_table` can be met: computed. Those of `look_all` are met by the two arrays and the law
-- `fits` of u16 and u32 (src/short.rt and long.rt). Assumes nothing.
use mathlib.Core.Path.{◌≡◌, refl}
use mathlib.Core.List.{List, [], ◌∷◌, ◌++◌}
use Prim.Native.Nat.{ℕ}
use lib.Dec.{lit<}
use Rattle.gf2.specs.Polynomial.{Multiple}
use Rattle.gf2.specs.Bits.{bits, octet_bits}
use Rattle.gf2.specs.Generators.{generator16, generator32}
use Rattle.signature.specs.Signature.{shift_in, shift_in_all, octet, signature}
use Rattle.signature.specs.Lookup.{division, Table}
use Rattle.signature.proofs.Table.{rule, one_table}
use Rattle.signature.proofs.Detect.{detects}

-- a table for 2 bits, of a generator of 8 bits: x^8 + x^2 + x + 1
pub table_met : Table 8 0x07 2 (0x00 ∷ 0x07 ∷ 0x0E ∷ 0x09 ∷ [])
unfolding shift_in shift_in_all division
table_met = rule tt refl

pub one_table_met : {t : List ℕ} → Table 8 0x07 2 t → t ≡ 0x00 ∷ 0x07 ∷ 0x0E ∷ 0x09 ∷ []
one_table_met t = one_table t table_met

-- two octets of which the last bit is flipped, and the generator in their signature: it arrives, so the flips are a multiple
abbrev flips : List ℕ
flips = 0x00 ∷ 0x01 ∷ []

pub detects_met16 : Multiple (bits 16 generator16) (octet_bits flips ++ bits 16 generator16)
unfolding signature octet shift_in_all shift_in
detects_met16 = (detects 16 generator16 1 (0x53 ∷ 0x4C ∷ []) flips generator16 (lit< tt) (lit< tt) (lit< tt) refl).0 refl

pub detects_met32 : Multiple (bits 32 generator32) (octet_bits flips ++ bits 32 generator32)
unfolding signature octet shift_in_all shift_in
detects_met32 = (detects 32 generator32 1 (0x53 ∷ 0x4C ∷ []) flips generator32 (lit< tt) (lit< tt) (lit< tt) refl).0 refl
