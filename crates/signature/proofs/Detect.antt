-- What a signature detects: `gf2`'s theorem, said of the signature of octets. Octets xs are sent with their signature; es are the flips of the
-- octets, and c those of the signature. Assumes nothing.
use mathlib.Core.Path.{◌≡◌, refl, sym, ap, ap₂, ◌∙◌}
use mathlib.Core.Logic.Iff
use mathlib.Core.Logic.{◌↔◌}
use mathlib.Core.Bool.{Bool}
use mathlib.Core.List.{List, [], ◌∷◌, ◌++◌}
use Prim.Native.Nat.{ℕ, ◌*◌, ◌^◌, ◌<◌}
use native.Mathlib.Omega.{arith}
use lib.Bits.{bit_xor, xor_lt}
use lib.ListN.{length, length-append}
use Rattle.gf2.specs.Polynomial.{◌⊕◌, Multiple}
use Rattle.gf2.specs.Register.{register, SameLengths, Undetected}
use Rattle.gf2.specs.Bits.{bits, octet_bits}
use Rattle.gf2.proofs.Sum.{sum-append}
use Rattle.gf2.proofs.Bits.{bits-length, bits-xor, bits_injective}
use Rattle.gf2.proofs.Detect as bitwise
use Rattle.signature.specs.Signature.{signature, flipped}
use Rattle.signature.proofs.Bridge.{signature-bits, signature-lt}

octet_bits-length : (xs : List ℕ) → length (octet_bits xs) ≡ length xs * 8
octet_bits-length [] = refl
octet_bits-length (x ∷ xs) = length-append (bits 8 x) (octet_bits xs) ∙ omega (arith, octet_bits-length xs, bits-length 8 x)

octet_bits-flipped : (xs es : List ℕ) → length es ≡ length xs → octet_bits (flipped xs es) ≡ octet_bits xs ⊕ octet_bits es
octet_bits-flipped [] [] h = refl
octet_bits-flipped [] (e ∷ es) h = absurd (omega arith)
octet_bits-flipped (x ∷ xs) [] h = absurd (omega arith)
octet_bits-flipped (x ∷ xs) (e ∷ es) h =
    ap₂ ◌++◌ (bits-xor 8 x e) (octet_bits-flipped xs es (omega arith))
    ∙ sum-append (bits 8 x) (bits 8 e) (octet_bits xs) (octet_bits es) (bits-length 8 x ∙ sym (bits-length 8 e))

module _ (w g seed : ℕ) (xs es : List ℕ) (c : ℕ) (hg : g < 2 ^ w) (hs : seed < 2 ^ w) (hc : c < 2 ^ w) (l : length es ≡ length xs) where
  abbrev arrives : Type 0
  arrives = signature w g seed (flipped xs es) ≡ bit_xor (signature w g seed xs) c

  flips : SameLengths (bits w g) (bits w seed) (octet_bits xs) (octet_bits es) (bits w c)
  flips = record {
    in_seed = bits-length w seed ∙ sym (bits-length w g);
    in_message = omega (arith, octet_bits-length xs, octet_bits-length es);
    in_register = bits-length w c ∙ sym (bits-length w g);
  }

  as_bits : arrives ↔ Undetected (bits w g) (bits w seed) (octet_bits xs) (octet_bits es) (bits w c)
  as_bits = (λ p. sym left ∙ ap (bits w) p ∙ right, λ p. bits_injective w fits_left fits_right (left ∙ p ∙ sym right))
    where
      left : bits w (signature w g seed (flipped xs es)) ≡ register (bits w g) (bits w seed) (octet_bits xs ⊕ octet_bits es)
      left = signature-bits w g seed (flipped xs es) ∙ ap (register (bits w g) (bits w seed)) (octet_bits-flipped xs es l)

      right : bits w (bit_xor (signature w g seed xs) c) ≡ register (bits w g) (bits w seed) (octet_bits xs) ⊕ bits w c
      right = bits-xor w (signature w g seed xs) c ∙ ap (λ (s : List Bool). s ⊕ bits w c) (signature-bits w g seed xs)

      fits_left : signature w g seed (flipped xs es) < 2 ^ w
      fits_left = signature-lt w g hg (flipped xs es) hs

      fits_right : bit_xor (signature w g seed xs) c < 2 ^ w
      fits_right = xor_lt w (signature w g seed xs) c (signature-lt w g hg xs hs) hc

  -- What arrives passes exactly where the flips, the signature's lowest, are a multiple of the generator.
  pub detects : arrives ↔ Multiple (bits w g) (octet_bits es ++ bits w c)
  detects = Iff.trans as_bits (bitwise.detects flips)
