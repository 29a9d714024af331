-- Octets as one number, the most significant first: of flips, of bits, and the number gives the octets back. Over any number of octets.
-- Assumes nothing.
use mathlib.Core.Path.{◌≡◌, refl, sym, ap, ap₂, ◌∙◌}
use mathlib.Core.List.{List, [], ◌∷◌, ◌++◌}
use Prim.Native.Nat.{ℕ, suc, ◌+◌, ◌*◌, ◌/◌, ◌%◌, ◌^◌, ◌<◌}
use native.Mathlib.Nat.{zero-add, div-lt_iff_lt-mul}
use native.Mathlib.Omega.{arith}
use lib.Bits.{bit_xor, xor_block}
use lib.ListN.{length}
use lib.Pow.{pow_pos, pow-add, high, low}
use Rattle.gf2.specs.Bits.{bits, octet_bits}
use Rattle.gf2.proofs.Bits.{bits-mod, bits_parts}
use Rattle.signature.specs.Signature.{flipped}
use Rattle.block.specs.Octets.{Octets}

abbrev pub number : List ℕ → ℕ
number [] = 0
number (x ∷ xs) = x * 2 ^ (length xs * 8) + number xs

pub flipped-length : (xs es : List ℕ) → length (flipped xs es) ≡ length xs
flipped-length [] es = refl
flipped-length (x ∷ xs) [] = refl
flipped-length (x ∷ xs) (e ∷ es) = ap suc (flipped-length xs es)

one_more : (n : ℕ) → suc n * 8 ≡ 8 + n * 8
one_more n = omega arith

pub number_lt : (xs : List ℕ) → Octets xs → number xs < 2 ^ (length xs * 8)
number_lt [] h = omega arith
number_lt (x ∷ xs) h =
    let k = length xs * 8 in
    let e : number (x ∷ xs) / 2 ^ k ≡ x = high x k (number_lt xs (λ i. h (suc i))) in
    let small : number (x ∷ xs) / 2 ^ k < 2 ^ 8 = rw e (h 0) in
    rw (one_more (length xs), pow-add 2 8 k) ((div-lt_iff_lt-mul (pow_pos k)).0 small)

pub number-flipped : (xs es : List ℕ) → length es ≡ length xs → Octets xs → Octets es
    → number (flipped xs es) ≡ bit_xor (number xs) (number es)
number-flipped [] [] l h k = refl
number-flipped [] (e ∷ es) l h k = absurd (omega arith)
number-flipped (x ∷ xs) [] l h k = absurd (omega arith)
number-flipped (x ∷ xs) (e ∷ es) l h k =
    let same : length es ≡ length xs = omega arith in
    let hs = number_lt xs (λ i. h (suc i)) in
    let ks : number es < 2 ^ (length xs * 8) = rw (sym same) (number_lt es (λ i. k (suc i))) in
    rw (flipped-length xs es, same, number-flipped xs es same (λ i. h (suc i)) (λ i. k (suc i)))
    (sym (xor_block (length xs * 8) x e (number xs) (number es) hs ks))

pub number-bits : (xs : List ℕ) → Octets xs → bits (length xs * 8) (number xs) ≡ octet_bits xs
number-bits [] h = refl
number-bits (x ∷ xs) h =
    let k = length xs * 8 in
    let n = number (x ∷ xs) in
    let small = number_lt xs (λ i. h (suc i)) in
    let rest : bits k n ≡ bits k (number xs) = sym (rw zero-add at (bits-mod 0 k n)) ∙ ap (bits k) (low x k small) in
    ap (λ (m : ℕ). bits m n) (one_more (length xs)) ∙ bits_parts 8 k n
    ∙ ap₂ ◌++◌ (ap (bits 8) (high x k small)) (rest ∙ number-bits xs (λ i. h (suc i)))

pub number_injective : (xs ys : List ℕ) → length xs ≡ length ys → Octets xs → Octets ys → number xs ≡ number ys → xs ≡ ys
number_injective [] [] l h k e = refl
number_injective [] (y ∷ ys) l h k e = absurd (omega arith)
number_injective (x ∷ xs) [] l h k e = absurd (omega arith)
number_injective (x ∷ xs) (y ∷ ys) l h k e =
    let same : length xs ≡ length ys = omega arith in
    let m = length ys * 8 in
    let hs : number xs < 2 ^ m = rw same at (number_lt xs (λ i. h (suc i))) in
    let ks = number_lt ys (λ i. k (suc i)) in
    let e' : x * 2 ^ m + number xs ≡ y * 2 ^ m + number ys = rw same at e in
    ap₂ ◌∷◌ (sym (high x m hs) ∙ ap (λ (n : ℕ). n / 2 ^ m) e' ∙ high y m ks)
    (number_injective xs ys same (λ i. h (suc i)) (λ i. k (suc i)) (sym (low x m hs) ∙ ap (λ (n : ℕ). n % 2 ^ m) e' ∙ low y m ks))
