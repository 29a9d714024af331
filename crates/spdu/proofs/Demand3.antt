-- 01, demand 3, for every SPDU, every flip set and both modes (R5, R5a). Assumes nothing.
use mathlib.Core.Path.{◌≡◌, refl, sym, ap, ap₂, ◌∙◌}
use mathlib.Core.Logic.Iff
use mathlib.Core.Logic.{◌↔◌}
use mathlib.Core.Bool.{Bool, true, false, cond}
use mathlib.Core.List.{List, [], ◌∷◌, ◌++◌, append_assoc}
use Prim.Native.Nat.{ℕ, zero, suc, ◌+◌, ◌*◌, ◌%◌, ◌^◌, ◌≤◌, ◌<◌}
use native.Mathlib.Omega.{arith}
use borrow.Author.Tests.{eq-eqb, ne_eqb, eqb-true}
use lib.Bits.{bit_xor, xor_zero_r}
use lib.Dec.{eqb, eqb-suc-zero}
use lib.ListN.{length, take, drop, length-append, length-drop, take-append-drop}
use lib.Seq.{get_or-drop, length-take-le}
use Rattle.gf2.specs.Polynomial.{zeros, Multiple, ones, Burst}
use Rattle.gf2.specs.Bits.{bits, octet_bits}
use Rattle.gf2.proofs.Bits.{bits-length, bits_injective}
use Rattle.gf2.proofs.Product.{multiple_even, multiple_burst}
use Rattle.signature.specs.Signature.{flipped}
use Rattle.signature.proofs.Bridge.{signature-lt}
use Rattle.signature.proofs.Detect.{detects}
use Rattle.block.specs.Octets.{Octets}
use Rattle.spdu.specs.Signature.{width_of, generator_of, by_bits, replaced}
use Rattle.spdu.specs.Places.{contents_of, carried_of, is_signed, is_all_zero}
use Rattle.spdu.specs.Built.{signature_octets, contents_with}
use Rattle.spdu.specs.Flips.{valid_spdu, flipped_spdu, Premises}
use Rattle.spdu.proofs.Numbers.{number, number_lt, number-flipped, number-bits, flipped-length}
use Rattle.spdu.proofs.Modes.{signing}
use Rattle.spdu.proofs.ReadBack.{contents_of_lem, carried_of_lem, contents-length, built-holds}

flipped-append : (xs ys es fs : List ℕ) → length es ≡ length xs → flipped (xs ++ ys) (es ++ fs) ≡ flipped xs es ++ flipped ys fs
flipped-append [] ys [] fs l = refl
flipped-append [] ys (e ∷ es) fs l = absurd (omega arith)
flipped-append (x ∷ xs) ys [] fs l = absurd (omega arith)
flipped-append (x ∷ xs) ys (e ∷ es) fs l = ap (◌∷◌ (bit_xor x e)) (flipped-append xs ys es fs (omega arith))

octet_bits-append : (xs ys : List ℕ) → octet_bits (xs ++ ys) ≡ octet_bits xs ++ octet_bits ys
octet_bits-append [] ys = refl
octet_bits-append (x ∷ xs) ys =
    ap (◌++◌ (bits 8 x)) (octet_bits-append xs ys) ∙ sym (append_assoc (bits 8 x) (octet_bits xs) (octet_bits ys))

kept : (x : ℕ) → (x ≡ 0 → ⊥) → replaced x ≡ x
kept x h = rw (ne_eqb x 0 h)

replaced-lt : {x n : ℕ} → x < n → 1 < n → replaced x < n
replaced-lt {x} {n} h one = go (eqb x 0)
  where
    go : (b : Bool) → cond b 1 x < n
    go true = one
    go false = h

-- a computed signature fits its octets
sign_lt : (mode : ℕ) (contents : List ℕ) → replaced (by_bits mode contents) < 2 ^ width_of mode
sign_lt mode contents =
    replaced-lt (signature-lt (width_of mode) (generator_of mode) (signing mode).fits contents (signing mode).seed) (signing mode).seed

none : (s es : List ℕ) → is_all_zero es ≡ true → flipped s es ≡ s
none [] es h = refl
none (x ∷ s) [] h = refl
none (x ∷ s) (zero ∷ es) h = ap₂ ◌∷◌ (xor_zero_r x) (none s es h)
none (x ∷ s) (suc e ∷ es) h = let z : ◌≡◌ {A = ℕ} 0 1 = cc (eqb-suc-zero e) in absurd (omega arith)

ones-append : (a b : List Bool) → ones (a ++ b) ≡ ones a + ones b
ones-append [] b = omega arith
ones-append (true ∷ a) b = omega (arith, ones-append a b)
ones-append (false ∷ a) b = ones-append a b

no_ones : (a : List Bool) → ones a ≡ 0 → a ≡ zeros (length a)
no_ones [] h = refl
no_ones (true ∷ a) h = absurd (omega arith)
no_ones (false ∷ a) h = ap (◌∷◌ false) (no_ones a h)

all_zero_lem : (es : List ℕ) → Octets es → ones (octet_bits es) ≡ 0 → is_all_zero es ≡ true
all_zero_lem [] o h = refl
all_zero_lem (e ∷ es) o h =
    let sum = ones-append (bits 8 e) (octet_bits es) in
    let zero-octet : e ≡ 0 = bits_injective 8 (o 0) (omega arith) (no_ones (bits 8 e) (omega arith)) in
    rw zero-octet (all_zero_lem es (λ k. o (suc k)) (omega arith))

module _ (mode : ℕ) (process : List ℕ) (port control : ℕ) where
  -- A valid SPDU passes, whatever its contents compute.
  pub valid_passes : is_signed by_bits mode (valid_spdu mode process port control) ≡ true
  valid_passes = built-holds by_bits mode process port control (sign_lt mode (contents_with process port control))

  -- So does one of which no bit is flipped.
  pub empty_passes : (es : List ℕ) → is_all_zero es ≡ true → is_signed by_bits mode (flipped_spdu mode process port control es) ≡ true
  empty_passes es h = rw (none (valid_spdu mode process port control) es h) valid_passes

  -- the same, the flips counted as bits
  pub none_passes : (es : List ℕ) → Octets es → ones (octet_bits es) ≡ 0 → is_signed by_bits mode (flipped_spdu mode process port control es) ≡ true
  none_passes es o h = empty_passes es (all_zero_lem es o h)

module _ {mode : ℕ} {process : List ℕ} {port control : ℕ} {es : List ℕ} (p : Premises mode process port control es) where
  abbrev w : ℕ
  w = width_of mode

  abbrev g : ℕ
  g = generator_of mode

  abbrev contents : List ℕ
  contents = contents_with process port control

  abbrev sent : List ℕ
  sent = signature_octets mode (replaced (by_bits mode contents))

  -- the flips of the contents, and those of the signature
  abbrev in_contents : List ℕ
  in_contents = take (length contents) es

  abbrev in_signature : List ℕ
  in_signature = drop (length contents) es

  sized : length es ≡ length contents + length sent
  sized = p.flips.same_length ∙ length-append contents sent

  contents_sized : length in_contents ≡ length contents
  contents_sized = length-take-le (length contents) es (omega (arith, sized))

  signature_sized : length in_signature ≡ length sent
  signature_sized = omega (arith, sized, length-drop (length contents) es)

  wide : length in_signature * 8 ≡ w
  wide = ap (λ (n : ℕ). n * 8) signature_sized ∙ (signing mode).size (replaced (by_bits mode contents))

  octets_in_lem : Octets in_signature
  octets_in_lem k = rw get_or-drop (p.flips.octets (length contents + k))

  parts : flipped_spdu mode process port control es ≡ flipped contents in_contents ++ flipped sent in_signature
  parts =
      ap (flipped (contents ++ sent)) (sym (take-append-drop (length contents) es))
      ∙ flipped-append contents sent in_contents in_signature contents_sized

  two : 2 ≤ length (flipped contents in_contents)
  two = omega (arith, flipped-length contents in_contents, contents-length by_bits mode process port control)

  still_wide : length (flipped sent in_signature) * 8 ≡ w
  still_wide = ap (λ (n : ℕ). n * 8) (flipped-length sent in_signature) ∙ (signing mode).size (replaced (by_bits mode contents))

  contents-after : contents_of mode (flipped_spdu mode process port control es) ≡ flipped contents in_contents
  contents-after = ap (contents_of mode) parts ∙ contents_of_lem mode (flipped contents in_contents) (flipped sent in_signature) two still_wide

  carried-after : carried_of mode (flipped_spdu mode process port control es) ≡ bit_xor (by_bits mode contents) (number in_signature)
  carried-after =
      ap (carried_of mode) parts ∙ carried_of_lem mode (flipped contents in_contents) (flipped sent in_signature) two still_wide
      ∙ number-flipped sent in_signature signature_sized ((signing mode).bytes (replaced (by_bits mode contents))) octets_in_lem
      ∙ ap (λ (n : ℕ). bit_xor n (number in_signature)) ((signing mode).written (sign_lt mode contents) ∙ kept (by_bits mode contents) p.before)

  expected-after : replaced (by_bits mode (contents_of mode (flipped_spdu mode process port control es))) ≡ by_bits mode (flipped contents in_contents)
  expected-after = kept (by_bits mode (contents_of mode (flipped_spdu mode process port control es))) p.after ∙ ap (by_bits mode) contents-after

  as_arrives : (is_signed by_bits mode (flipped_spdu mode process port control es) ≡ true)
      ↔ (by_bits mode (flipped contents in_contents) ≡ bit_xor (by_bits mode contents) (number in_signature))
  as_arrives =
      let carried = carried_of mode (flipped_spdu mode process port control es) in
      let expected = replaced (by_bits mode (contents_of mode (flipped_spdu mode process port control es))) in (
        λ h. sym expected-after ∙ sym (eqb-true carried expected h) ∙ carried-after,
        λ a. eq-eqb carried expected (carried-after ∙ sym a ∙ sym expected-after),
      )

  all-bits : octet_bits in_contents ++ bits w (number in_signature) ≡ octet_bits es
  all-bits =
      ap (◌++◌ (octet_bits in_contents)) (ap (λ (n : ℕ). bits n (number in_signature)) (sym wide) ∙ number-bits in_signature octets_in_lem)
      ∙ sym (octet_bits-append in_contents in_signature) ∙ ap octet_bits (take-append-drop (length contents) es)

  -- The check passes exactly when the flips, the signature's lowest, are a multiple of the generator.
  pub exact : (is_signed by_bits mode (flipped_spdu mode process port control es) ≡ true)
      ↔ Multiple (bits (width_of mode) (generator_of mode)) (octet_bits es)
  exact =
      let small : number in_signature < 2 ^ w = rw wide at (number_lt in_signature octets_in_lem) in
      Iff.trans as_arrives
      (rw all-bits at (detects w g 1 contents in_contents (number in_signature) (signing mode).fits (signing mode).seed small contents_sized))

  -- No nonempty flip set within 16 (32) neighbouring bits passes.
  pub burst : (i : ℕ) → Burst i (width_of mode) (octet_bits es) → is_signed by_bits mode (flipped_spdu mode process port control es) ≡ true
      → ones (octet_bits es) ≡ 0
  burst i within h = multiple_burst (bits w g) (signing mode).ends i (rw bits-length within) (exact.0 h)

  -- None with an odd number of flips passes.
  pub odd : ones (octet_bits es) % 2 ≡ 1 → is_signed by_bits mode (flipped_spdu mode process port control es) ≡ true → ⊥
  odd o h = omega (arith, multiple_even (bits w g) (signing mode).even (exact.0 h))
