-- The register as a number meets `gf2`'s register as a list of bits: a turn of the one is a step of the other, so the bits of a signature are
-- the register after the octets' bits. Assumes nothing.
use mathlib.Core.Path.{◌≡◌, refl, sym, ap, ◌∙◌}
use mathlib.Core.Bool.{Bool, true, false, cond}
use mathlib.Core.List.{List, [], ◌∷◌}
use Prim.Native.Nat.{ℕ, zero, suc, ◌*◌, ◌/◌, ◌%◌, ◌^◌, ◌<◌}
use native.Mathlib.Nat.{mod-lt}
use native.Mathlib.Omega.{arith}
use lib.Bits.{bit_xor, xor_lt}
use lib.Dec.{eqb, lit<}
use lib.ListN.{length}
use lib.Pow.{pow_pos}
use Rattle.gf2.specs.Polynomial.{◌⊻◌, ◌⊕◌, scale}
use Rattle.gf2.specs.Register.{top, shift, step, register}
use Rattle.gf2.specs.Bits.{bits, octet_bits}
use Rattle.gf2.proofs.Sum.{sum_zeros, shift-length}
use Rattle.gf2.proofs.Bits.{bits-length, bits-xor, bits-shift}
use Rattle.gf2.proofs.Table.{register-append}
use Rattle.signature.specs.Signature.{shift_in, shift_in_all, octet, signature}

module _ (w g : ℕ) where
  shift_in-bits : (r : ℕ) (d : Bool) → bits w (shift_in w g r d) ≡ step (bits w g) (bits w r) d
  unfolding shift_in
  shift_in-bits r d = picked (top (bits w r) ⊻ d)
    where
      picked : (e : Bool) → bits w (cond e (bit_xor (r * 2 % 2 ^ w) g) (r * 2 % 2 ^ w)) ≡ shift (bits w r) ⊕ scale e (bits w g)
      picked true = bits-xor w (r * 2 % 2 ^ w) g ∙ ap (λ (s : List Bool). s ⊕ bits w g) (bits-shift w r)
      picked false =
          bits-shift w r
          ∙ sym (sum_zeros (shift (bits w r)) (length (bits w g)) (shift-length (bits w r) ∙ bits-length w r ∙ sym (bits-length w g)))

  pub shift_in_all-bits : (r : ℕ) (ds : List Bool) → bits w (shift_in_all w g r ds) ≡ register (bits w g) (bits w r) ds
  unfolding shift_in_all
  shift_in_all-bits r [] = refl
  shift_in_all-bits r (d ∷ ds) =
      shift_in_all-bits (shift_in w g r d) ds ∙ ap (λ (s : List Bool). register (bits w g) s ds) (shift_in-bits r d)

  pub signature-bits : (r : ℕ) (xs : List ℕ) → bits w (signature w g r xs) ≡ register (bits w g) (bits w r) (octet_bits xs)
  unfolding signature octet
  signature-bits r [] = refl
  signature-bits r (x ∷ xs) =
      signature-bits (octet w g r x) xs
      ∙ ap (λ (s : List Bool). register (bits w g) s (octet_bits xs)) (shift_in_all-bits r (bits 8 x))
      ∙ sym (register-append (bits w g) (bits w r) (bits 8 x) (octet_bits xs))

  -- a register fits its width, if the generator does
  module _ (hg : g < 2 ^ w) where
    shift_in-lt : (r : ℕ) (d : Bool) → shift_in w g r d < 2 ^ w
    unfolding shift_in
    shift_in-lt r d = picked (top (bits w r) ⊻ d)
      where
        low : r * 2 % 2 ^ w < 2 ^ w
        low = mod-lt (r * 2) (pow_pos w)

        picked : (e : Bool) → cond e (bit_xor (r * 2 % 2 ^ w) g) (r * 2 % 2 ^ w) < 2 ^ w
        picked true = xor_lt w (r * 2 % 2 ^ w) g low hg
        picked false = low

    shift_in_all-lt : {r : ℕ} (ds : List Bool) → r < 2 ^ w → shift_in_all w g r ds < 2 ^ w
    unfolding shift_in_all
    shift_in_all-lt [] h = h
    shift_in_all-lt {r = r} (d ∷ ds) h = shift_in_all-lt {r = shift_in w g r d} ds (shift_in-lt r d)

    -- after one turn, whatever the register was
    pub turns_lt : (n : ℕ) → 0 < n → (r x : ℕ) → shift_in_all w g r (bits n x) < 2 ^ w
    unfolding shift_in_all
    turns_lt zero h r x = absurd (omega arith)
    turns_lt (suc n) h r x = shift_in_all-lt (bits n x) (shift_in-lt r (eqb (x / 2 ^ n % 2) 1))

    octet-lt : (r x : ℕ) → octet w g r x < 2 ^ w
    unfolding octet
    octet-lt r x = turns_lt 8 (lit< tt) r x

    pub signature-lt : {r : ℕ} (xs : List ℕ) → r < 2 ^ w → signature w g r xs < 2 ^ w
    unfolding signature
    signature-lt [] h = h
    signature-lt {r = r} (x ∷ xs) h = signature-lt {r = octet w g r x} xs (octet-lt r x)
