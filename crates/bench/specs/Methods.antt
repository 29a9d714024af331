-- How a bench signs (02, item 3): a method is one for all that signs, so that no call has one of its own. Assumes nothing.
use Rattle.std.specs.Prelude.{ℕ, List}
use Rattle.gf2.specs.Generators.{generator16, generator32}
use Rattle.signature.specs.declared.Engine.{Engine}
use Rattle.signature.specs.Lookup.{Table}
use Rattle.block.specs.Table22.{parameter_signature, parameters_by}
use Rattle.spdu.specs.Signature.{by_bits, by_engine}

pub record Method : Type 0 where
  -- a parameter block's three signatures, each of these octets
  pub block : List ℕ → ℕ
  -- an SPDU's signature, by the protocol mode and the contents
  pub spdu : ℕ → List ℕ → ℕ

-- what is meant: 000 Annex D, bit by bit
abbrev pub annex_d : Method
annex_d = record { block = parameter_signature; spdu = by_bits }

-- an engine, where both tables are lent
abbrev pub method_of : Engine → List ℕ → List ℕ → Method
method_of e short long = record { block = parameters_by e short; spdu = by_engine e short long }

-- 000's tables: the short one for an octet, the long one for half an octet
pub record RightTables (short long : List ℕ) : Type 0 where
  pub short_right : Table 16 generator16 8 short
  pub long_right : Table 32 generator32 4 long
