-- Demand 3: "Flipping bits of a valid SPDU passes the signature check exactly when the flips are a multiple of the generator: so no burst within 16 (32)
-- neighbouring bits and no odd number of flips passes." Assumes nothing.
--
-- The check is the one that the machines read, `signature_holds`. A valid SPDU is its contents with the signature that 000 Annex D gives for them; `es` are
-- the flips, an octet for each of its octets. 01 leaves out SPDUs, valid or flipped, whose contents compute 0 and which carry 1 in its place (`Premises`,
-- R5a): spdu proofs/Needed.antt has one that passes without each premise. Both modes are one statement, over the mode's width and generator.
use Rattle.std.specs.Prelude.{ℕ, ◌%◌, ◌≡◌, ◌↔◌, Bool, true, List, length}
use Rattle.gf2.specs.Polynomial.{Multiple, ones, Burst}
use Rattle.gf2.specs.Bits.{bits, octet_bits}
use Rattle.block.specs.Octets.{Octets}
use Rattle.block.specs.declared.Params.{Params}
use Rattle.spdu.specs.Signature.{width_of, generator_of, by_bits}
use Rattle.spdu.specs.Fields.{response_by, request_by}
use Rattle.spdu.specs.Flips.{valid_spdu, flipped_spdu, Premises}

-- an end that reads an SPDU's signature so
pub record Detects (mode : ℕ) (holds : List ℕ → Bool) (process : List ℕ) (port control : ℕ) (es : List ℕ) : Type 0 where
  -- "passes the signature check exactly when the flips are a multiple of the generator"
  pub exactly : Premises mode process port control es
      → (holds (flipped_spdu mode process port control es) ≡ true) ↔ Multiple (bits (width_of mode) (generator_of mode)) (octet_bits es)
  -- "no burst within 16 (32) neighbouring bits": flips that lie within so many and pass are none
  pub burst : Premises mode process port control es → (i : ℕ) → Burst i (width_of mode) (octet_bits es)
      → holds (flipped_spdu mode process port control es) ≡ true → ones (octet_bits es) ≡ 0
  -- "no odd number of flips passes"
  pub odd : Premises mode process port control es → ones (octet_bits es) % 2 ≡ 1 → holds (flipped_spdu mode process port control es) ≡ true → ⊥
  -- and the SPDU itself passes: a check that refuses everything is none
  pub none : Octets es → ones (octet_bits es) ≡ 0 → holds (flipped_spdu mode process port control es) ≡ true

-- at the FS-Master for a response of the configured length, and at the FS-Device for a request, whatever port number and control octet they carry
pub record Demand3 : Type 0 where
  pub master : (p : Params) (process : List ℕ) (port control : ℕ) (es : List ℕ) → length (valid_spdu p.FSP_ProtMode process port control) ≡ p.SPDUInLength
      → Detects p.FSP_ProtMode (λ s. (response_by by_bits p s).signature_holds) process port control es
  pub device : (p : Params) (process : List ℕ) (port control : ℕ) (es : List ℕ) → length (valid_spdu p.FSP_ProtMode process port control) ≡ p.SPDUOutLength
      → Detects p.FSP_ProtMode (λ s. (request_by by_bits p s).signature_holds) process port control es
