-- A number's bits, the highest first (01, "Signatures": "most significant bit first, not reflected"). Assumes nothing.
use Rattle.std.specs.Prelude.{Bool, List, [], ◌∷◌, ◌++◌, ℕ, zero, suc, ◌^◌, ◌/◌, ◌%◌, eqb}

-- the w low bits of x
abbrev pub bits : ℕ → ℕ → List Bool
bits zero x = []
bits (suc w) x = eqb (x / 2 ^ w % 2) 1 ∷ bits w x

-- the bits of octets, one octet after the other
abbrev pub octet_bits : List ℕ → List Bool
octet_bits [] = []
octet_bits (x ∷ xs) = bits 8 x ++ octet_bits xs
