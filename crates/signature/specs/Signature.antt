-- 000 Annex D, D.3.2 and D.3.4: the signature by the bit shift algorithm, over the width w (16 or 32) and the generator g. The register is a
-- number below 2 ^ w; the seed is its first value (D.3.6). Assumes nothing.
use Rattle.std.specs.Prelude.{Bool, cond, List, [], ◌∷◌, ℕ, ◌*◌, ◌%◌, ◌^◌}
use Rattle.std.specs.Int.Bits.{bit_xor}
use Rattle.gf2.specs.Polynomial.{◌⊻◌}
use Rattle.gf2.specs.Register.{top}
use Rattle.gf2.specs.Bits.{bits}

-- One turn of the loop of Figures D.3 and D.5. The register's top bit and the data bit d differ: shift and process the polynomial; they agree:
-- shift only.
unfoldable pub shift_in : ℕ → ℕ → ℕ → Bool → ℕ
shift_in w g r d = cond (top (bits w r) ⊻ d) (bit_xor (r * 2 % 2 ^ w) g) (r * 2 % 2 ^ w)

-- a turn for each data bit, the first bit first
unfoldable pub shift_in_all : ℕ → ℕ → ℕ → List Bool → ℕ
shift_in_all w g r [] = r
shift_in_all w g r (d ∷ ds) = shift_in_all w g (shift_in w g r d) ds

-- Figures D.3 and D.5 whole: the eight bits of an octet x, the highest first
unfoldable pub octet : ℕ → ℕ → ℕ → ℕ → ℕ
octet w g r x = shift_in_all w g r (bits 8 x)

-- the signature of octets, from the register r
unfoldable pub signature : ℕ → ℕ → ℕ → List ℕ → ℕ
signature w g r [] = r
signature w g r (x ∷ xs) = signature w g (octet w g r x) xs

-- octets of which some bits are flipped: each octet with its flips added
abbrev pub flipped : List ℕ → List ℕ → List ℕ
flipped [] es = []
flipped (x ∷ xs) [] = x ∷ xs
flipped (x ∷ xs) (e ∷ es) = bit_xor x e ∷ flipped xs es
