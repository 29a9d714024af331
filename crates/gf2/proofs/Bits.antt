-- The bits of a number: of sums, of shifts, of its parts; and they give the number back.
-- Assumes nothing.
use mathlib.Core.Path.{◌≡◌, refl, sym, ap, ap₂, ◌∙◌}
use mathlib.Core.Bool.{Bool, false, cond}
use mathlib.Core.List.{List, [], ◌∷◌, ◌++◌}
use Prim.Native.Nat.{ℕ, zero, suc, ◌+◌, ◌*◌, ◌^◌, ◌/◌, ◌%◌, ◌<◌}
use native.Mathlib.Nat.{mod-one, mod-eq_of_lt, zero-div, mul-div-mul_right, mul-mod_left, zero-add, suc-add, add_comm, pow-suc}
use native.Mathlib.Numerals.{add-one}
use native.Mathlib.Omega.{arith}
use lib.Bits.{bit_xor, xor_lt, xor_shr, xor_mod}
use lib.Dec.{eqb}
use lib.ListN.{length}
use lib.Pow.{field, mod-mod-pow, mod-pow-add, shr-shr, shl-shr}
use Rattle.gf2.specs.Polynomial.{◌⊻◌, ◌⊕◌, zeros}
use Rattle.gf2.specs.Register.{shift}
use Rattle.gf2.specs.Bits.{bits}
use Rattle.gf2.proofs.Sum.{sum_assoc}

xor_small : (m n : ℕ) → m < 2 → n < 2 → eqb (bit_xor m n) 1 ≡ (eqb m 1 ⊻ eqb n 1)
xor_small zero zero h k = refl
xor_small zero (suc zero) h k = refl
xor_small zero (suc (suc n)) h k = absurd (omega arith)
xor_small (suc zero) zero h k = refl
xor_small (suc zero) (suc zero) h k = refl
xor_small (suc zero) (suc (suc n)) h k = absurd (omega arith)
xor_small (suc (suc m)) n h k = absurd (omega arith)

pub bits-length : (w x : ℕ) → length (bits w x) ≡ w
bits-length zero x = refl
bits-length (suc w) x = ap suc (bits-length w x)

pub bits-xor : (w a b : ℕ) → bits w (bit_xor a b) ≡ bits w a ⊕ bits w b
bits-xor zero a b = refl
bits-xor (suc w) a b =
    ap₂ ◌∷◌
    (ap (λ (n : ℕ). eqb (n % 2) 1) (xor_shr a b w) ∙ ap (λ (n : ℕ). eqb n 1) (xor_mod (a / 2 ^ w) (b / 2 ^ w) 1)
    ∙ xor_small (a / 2 ^ w % 2) (b / 2 ^ w % 2) (omega arith) (omega arith))
    (bits-xor w a b)

pub bits-zero : (w : ℕ) → bits w 0 ≡ zeros w
bits-zero zero = refl
bits-zero (suc w) = ap₂ ◌∷◌ (ap (λ (n : ℕ). eqb (n % 2) 1) (zero-div (2 ^ w))) (bits-zero w)

-- the low bits are kept
pub bits-mod : (j w x : ℕ) → bits w (x % 2 ^ (j + w)) ≡ bits w x
bits-mod j zero x = refl
bits-mod j (suc w) x =
    let e : j + suc w ≡ suc j + w = omega arith in
    let m : x / 2 ^ w % 2 ^ suc j % 2 ≡ x / 2 ^ w % 2 = rw add-one at (mod-mod-pow (x / 2 ^ w) j 1) in
    rw e (ap₂ ◌∷◌ (ap (λ (n : ℕ). eqb (n % 2) 1) (field x (suc j) w) ∙ ap (λ (n : ℕ). eqb n 1) m) (bits-mod (suc j) w x))

bits_double : (w x : ℕ) → bits (suc w) (x * 2) ≡ bits w x ++ (false ∷ [])
bits_double zero x = let e : x * 2 / 1 % 2 ≡ 0 = omega arith in ap (λ (n : ℕ). eqb n 1 ∷ []) e
bits_double (suc w) x =
    let e : x * 2 / 2 ^ suc w ≡ x / 2 ^ w = rw pow-suc (mul-div-mul_right x (2 ^ w) (omega arith)) in
    ap₂ ◌∷◌ (ap (λ (n : ℕ). eqb (n % 2) 1) e) (bits_double w x)

pub bits-shift : (w x : ℕ) → bits w (x * 2 % 2 ^ w) ≡ shift (bits w x)
bits-shift zero x = refl
bits-shift (suc w) x = rw zero-add at (bits-mod 0 (suc w) (x * 2)) ∙ bits_double w x

-- the n high bits, and then the k low ones
pub bits_parts : (n k x : ℕ) → bits (n + k) x ≡ bits n (x / 2 ^ k) ++ bits k x
bits_parts zero k x = ap (λ (n : ℕ). bits n x) (zero-add k)
bits_parts (suc n) k x =
    rw suc-add (ap₂ ◌∷◌ (ap (λ (y : ℕ). eqb (y % 2) 1) (ap (λ (m : ℕ). x / 2 ^ m) (add_comm n k) ∙ sym (shr-shr x k n))) (bits_parts n k x))

-- a number shifted left by n places: its low bits, and n zeros
pub bits-shifted : (k n x : ℕ) → bits (k + n) (x * 2 ^ n) ≡ bits k x ++ zeros n
bits-shifted k n x =
    bits_parts k n (x * 2 ^ n)
    ∙ ap₂ ◌++◌ (ap (bits k) (shl-shr x n))
    (sym (rw zero-add at (bits-mod 0 n (x * 2 ^ n))) ∙ ap (bits n) (mul-mod_left x (2 ^ n)) ∙ bits-zero n)

-- the number of a list of bits
abbrev number : List Bool → ℕ
number [] = 0
number (b ∷ a) = cond b 1 0 * 2 ^ length a + number a

digit : (n : ℕ) → n < 2 → cond (eqb n 1) 1 0 ≡ n
digit zero h = refl
digit (suc zero) h = refl
digit (suc (suc n)) h = absurd (omega arith)

number-bits : (w x : ℕ) → number (bits w x) ≡ x % 2 ^ w
number-bits zero x = sym (mod-one x)
number-bits (suc w) x =
    let e : 1 + w ≡ suc w = omega arith in
    ap₂ ◌+◌ (ap₂ ◌*◌ (digit (x / 2 ^ w % 2) (omega arith)) (ap (◌^◌ 2) (bits-length w x))) (number-bits w x)
    ∙ sym (mod-pow-add x 1 w) ∙ ap (λ (n : ℕ). x % 2 ^ n) e

pub bits_injective : (w : ℕ) {x y : ℕ} → x < 2 ^ w → y < 2 ^ w → bits w x ≡ bits w y → x ≡ y
bits_injective w {x} {y} h k e =
    sym (mod-eq_of_lt h) ∙ sym (number-bits w x) ∙ ap number e ∙ number-bits w y ∙ mod-eq_of_lt k

below_power : (n : ℕ) → n < 2 ^ n
below_power zero = omega arith
below_power (suc n) = rw pow-suc (omega (arith, below_power n))

pub xor_assoc : (a b c : ℕ) → bit_xor (bit_xor a b) c ≡ bit_xor a (bit_xor b c)
xor_assoc a b c =
    let w : ℕ = a + b + c in
    let ha : a < 2 ^ w = omega (arith, below_power w) in
    let hb : b < 2 ^ w = omega (arith, below_power w) in
    let hc : c < 2 ^ w = omega (arith, below_power w) in
    bits_injective w (xor_lt w (bit_xor a b) c (xor_lt w a b ha hb) hc) (xor_lt w a (bit_xor b c) ha (xor_lt w b c hb hc))
    (cc (bits-xor w (bit_xor a b) c, bits-xor w a b, sum_assoc (bits w a) (bits w b) (bits w c), bits-xor w b c, bits-xor w a (bit_xor b c)))
