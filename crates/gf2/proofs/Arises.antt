-- The premises of the theorems on flips can be met, with both generators, and bits stand in their order: computed. Assumes nothing.
use mathlib.Core.Path.{◌≡◌, refl, sym, ◌∙◌}
use mathlib.Core.Bool.{Bool, true, false}
use mathlib.Core.List.{List, [], ◌∷◌, ◌++◌}
use Prim.Native.Nat.{ℕ, ◌%◌}
use Rattle.gf2.specs.Polynomial.{Multiple, ones}
use Rattle.gf2.specs.Register.{SameLengths, Undetected}
use Rattle.gf2.specs.Bits.{bits, octet_bits}
use Rattle.gf2.specs.Generators.{generator16, generator32}
use Rattle.gf2.proofs.Bits.{bits-length}
use Rattle.gf2.proofs.Product.{burst_by_ones, multiple_even, multiple_burst}
use Rattle.gf2.proofs.Detect.{detects, burst_detected, odd_detected, generator_passes}
use Rattle.gf2.proofs.Generators.{ends16, even16, ends32, even32}

-- flips: the last bit of a message of one octet, and those of c in the register
abbrev flips : ℕ → ℕ → List Bool
flips w c = bits 8 0x01 ++ bits w c

abbrev Arrives : ℕ → ℕ → ℕ → Type 0
Arrives w g c = Undetected (bits w g) (bits w 1) (bits 8 0x53) (bits 8 0x01) (bits w c)

lengths : (w g c : ℕ) → SameLengths (bits w g) (bits w 1) (bits 8 0x53) (bits 8 0x01) (bits w c)
lengths w g c = record {
  in_seed = bits-length w 1 ∙ sym (bits-length w g);
  in_message = refl;
  in_register = bits-length w c ∙ sym (bits-length w g);
}

-- the generator itself passes, so it is a multiple, and has an even number of ones
pub passes_met : Arrives 16 generator16 generator16 × Arrives 32 generator32 generator32
passes_met = (generator_passes (lengths 16 generator16 generator16) 7 0 refl, generator_passes (lengths 32 generator32 generator32) 7 0 refl)

pub detects_met : Multiple (bits 16 generator16) (flips 16 generator16) × Multiple (bits 32 generator32) (flips 32 generator32)
detects_met = ((detects (lengths 16 generator16 generator16)).0 passes_met.0, (detects (lengths 32 generator32 generator32)).0 passes_met.1)

pub even_met : (ones (flips 16 generator16) % 2 ≡ 0) × (ones (flips 32 generator32) % 2 ≡ 0)
even_met = (multiple_even (bits 16 generator16) even16 detects_met.0, multiple_even (bits 32 generator32) even32 detects_met.1)

-- without its last 1 it is w neighbouring bits, and an odd number of flips
pub burst_met : (Arrives 16 generator16 0x4EAA → ones (flips 16 0x4EAA) ≡ 0) × (Arrives 32 generator32 0xF4ACFB12 → ones (flips 32 0xF4ACFB12) ≡ 0)
burst_met = (
  burst_detected (lengths 16 generator16 0x4EAA) ends16 7 (burst_by_ones 7 16 (flips 16 0x4EAA) refl refl),
  burst_detected (lengths 32 generator32 0xF4ACFB12) ends32 7 (burst_by_ones 7 32 (flips 32 0xF4ACFB12) refl refl),
)

pub odd_met : (Arrives 16 generator16 0x4EAA → ⊥) × (Arrives 32 generator32 0xF4ACFB12 → ⊥)
odd_met = (odd_detected (lengths 16 generator16 0x4EAA) even16 refl, odd_detected (lengths 32 generator32 0xF4ACFB12) even32 refl)

-- of the premises of `multiple_burst` all are met by no flips alone
pub none_met : ones (bits 16 0) ≡ 0
none_met = multiple_burst (bits 16 generator16) ends16 0 (burst_by_ones 0 16 (bits 16 0) refl refl) (record { quotient = []; exact = refl })

-- 01: "most significant bit first, not reflected"; the octets of a number, the most significant first, have its bits
pub bit_order : (bits 4 0x4 ≡ false ∷ true ∷ false ∷ false ∷ []) × (octet_bits (0x4E ∷ 0xAB ∷ []) ≡ bits 16 0x4EAB)
bit_order = (refl, refl)
