-- 000's printed tables beside the divisions of their indices. Assumes nothing.
use Rattle.std.specs.Prelude.{ℕ, zero, suc, ◌+◌, cond, List, ◌==◌, slice_index}
use Rattle.gf2.specs.Generators.{generator16, generator32}
use Rattle.signature.specs.Signature.{octet}
use Rattle.vectors.specs.declared.signatures.Compared.{Compared}

-- an octet into an empty register of this width
abbrev pub divided : ℕ → ℕ → ℕ
divided width x = cond (width == 16) (octet 16 generator16 0 x) (octet 32 generator32 0 x)

-- how many of the first entries are printed otherwise
unfoldable pub differ_among : ℕ → List ℕ → ℕ → ℕ
differ_among width printed zero = 0
differ_among width printed (suc i) = differ_among width printed i + cond (slice_index printed i == divided width i) 0 1

-- all are compared
abbrev pub compared_all : ℕ → List ℕ → Compared
compared_all width printed = record { entries = 256; differ = differ_among width printed 256 }
