-- 01, demand 3: a valid SPDU of which some bits are flipped, and what is asked of it. A valid SPDU is its contents and the signature that the
-- definition computes for them, zero replaced (`spdu_with by_bits`); the check has no part in it. Assumes nothing.
use Rattle.std.specs.Prelude.{◌≡◌, List, ℕ, length}
use Rattle.signature.specs.Signature.{flipped}
use Rattle.block.specs.Octets.{Octets}
use Rattle.spdu.specs.Signature.{by_bits}
use Rattle.spdu.specs.Places.{contents_of}
use Rattle.spdu.specs.Built.{contents_with, spdu_with}

abbrev pub valid_spdu : ℕ → List ℕ → ℕ → ℕ → List ℕ
valid_spdu mode process port control = spdu_with by_bits mode process port control

-- the valid SPDU after the flips es, in the same mode
abbrev pub flipped_spdu : ℕ → List ℕ → ℕ → ℕ → List ℕ → List ℕ
flipped_spdu mode process port control es = flipped (valid_spdu mode process port control) es

-- es are flips of it, its length unchanged
pub record Flips (mode : ℕ) (process : List ℕ) (port control : ℕ) (es : List ℕ) : Type 0 where
  pub same_length : length es ≡ length (valid_spdu mode process port control)
  pub octets : Octets es

-- demand 3's premises: besides, the signature computed from the contents, ahead of any replacement of zero, is not zero, for the valid SPDU and
-- for the flipped one (R5a)
pub record Premises (mode : ℕ) (process : List ℕ) (port control : ℕ) (es : List ℕ) : Type 0 where
  pub flips : Flips mode process port control es
  pub before : by_bits mode (contents_with process port control) ≡ 0 → ⊥
  pub after : by_bits mode (contents_of mode (flipped_spdu mode process port control es)) ≡ 0 → ⊥
