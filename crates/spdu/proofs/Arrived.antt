-- 01, demand 3, over what the machines read of an SPDU: the mark `signature_holds`. For the parameters of any port and an SPDU of the configured
-- length, whatever port number it carries. Assumes nothing.
use mathlib.Core.Path.{◌≡◌, ◌∙◌}
use mathlib.Core.Logic.{◌↔◌}
use mathlib.Core.Bool.{true}
use mathlib.Core.List.{List}
use Prim.Native.Nat.{ℕ, ◌%◌}
use borrow.Author.Tests.{eq-eqb}
use lib.Dec.{eqb}
use lib.ListN.{length}
use Rattle.gf2.specs.Polynomial.{Multiple, ones, Burst}
use Rattle.gf2.specs.Bits.{bits, octet_bits}
use Rattle.block.specs.Octets.{Octets}
use Rattle.block.specs.declared.Params.{Params}
use Rattle.spdu.specs.Signature.{width_of, generator_of, by_bits}
use Rattle.spdu.specs.Fields.{response_by, request_by}
use Rattle.spdu.specs.Flips.{valid_spdu, flipped_spdu, Premises}
use Rattle.spdu.proofs.Numbers.{flipped-length}
use Rattle.spdu.proofs.Demand3.{none_passes, exact, burst, odd}

module _ (p : Params) (process : List ℕ) (port control : ℕ) (es : List ℕ) where
  abbrev mode : ℕ
  mode = p.FSP_ProtMode

  abbrev arrived : List ℕ
  arrived = flipped_spdu mode process port control es

  -- flips leave the length, so it is read whole
  whole : {n : ℕ} → length (valid_spdu mode process port control) ≡ n → eqb (length arrived) n ≡ true
  whole {n} size = eq-eqb (length arrived) n (flipped-length (valid_spdu mode process port control) es ∙ size)

  -- ---- what the FS-Master reads
  module _ (size : length (valid_spdu mode process port control) ≡ p.SPDUInLength) where
    -- the mark is set exactly when the flips are a multiple of the generator
    pub response_exact : Premises mode process port control es
        → ((response_by by_bits p (flipped_spdu mode process port control es)).signature_holds ≡ true)
        ↔ Multiple (bits (width_of mode) (generator_of mode)) (octet_bits es)
    response_exact met = simp (whole size) (exact met)

    -- no nonempty flip set within 16 (32) neighbouring bits leaves it set
    pub response_burst : Premises mode process port control es → (i : ℕ) → Burst i (width_of mode) (octet_bits es)
        → (response_by by_bits p (flipped_spdu mode process port control es)).signature_holds ≡ true → ones (octet_bits es) ≡ 0
    response_burst met i within h = burst met i within (simp (whole size) at h)

    -- nor an odd number of flips
    pub response_odd : Premises mode process port control es → ones (octet_bits es) % 2 ≡ 1
        → (response_by by_bits p (flipped_spdu mode process port control es)).signature_holds ≡ true → ⊥
    response_odd met o h = odd met o (simp (whole size) at h)

    -- where no bit is flipped it is set
    pub response_none : Octets es → ones (octet_bits es) ≡ 0 → (response_by by_bits p (flipped_spdu mode process port control es)).signature_holds ≡ true
    response_none o h = simp (whole size) (none_passes mode process port control es o h)

  -- ---- what the FS-Device reads
  module _ (size : length (valid_spdu mode process port control) ≡ p.SPDUOutLength) where
    pub request_exact : Premises mode process port control es
        → ((request_by by_bits p (flipped_spdu mode process port control es)).signature_holds ≡ true)
        ↔ Multiple (bits (width_of mode) (generator_of mode)) (octet_bits es)
    request_exact met = simp (whole size) (exact met)

    pub request_burst : Premises mode process port control es → (i : ℕ) → Burst i (width_of mode) (octet_bits es)
        → (request_by by_bits p (flipped_spdu mode process port control es)).signature_holds ≡ true → ones (octet_bits es) ≡ 0
    request_burst met i within h = burst met i within (simp (whole size) at h)

    pub request_odd : Premises mode process port control es → ones (octet_bits es) % 2 ≡ 1
        → (request_by by_bits p (flipped_spdu mode process port control es)).signature_holds ≡ true → ⊥
    request_odd met o h = odd met o (simp (whole size) at h)

    pub request_none : Octets es → ones (octet_bits es) ≡ 0 → (request_by by_bits p (flipped_spdu mode process port control es)).signature_holds ≡ true
    request_none o h = simp (whole size) (none_passes mode process port control es o h)
