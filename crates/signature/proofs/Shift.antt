-- The loop of Figures D.3 and D.5 as code runs it, over the width and the generator: the data octet shifts left beside the register, and each turn
-- compares two top bits. Assumes nothing.
use mathlib.Core.Path.{◌≡◌, refl, sym, ap, ◌∙◌}
use mathlib.Core.Bool.{Bool, beq, true, false, cond, not}
use mathlib.Core.List.{List, [], ◌∷◌, ◌++◌}
use Prim.Native.Nat.{ℕ, zero, suc, ◌+◌, ◌-◌, ◌*◌, ◌/◌, ◌%◌, ◌^◌, ◌<◌, ◌≤◌}
use native.Mathlib.Nat.{zero-mul}
use native.Mathlib.Omega.{arith}
use borrow.Author.Tests.{ne_eqb}
use lib.Bits.{bit_xor, bit_and, and_high}
use lib.Dec.{eqb}
use lib.Pow.{pow_pos, pow-add}
use lib.ListN.{length, take}
use Rattle.gf2.specs.Polynomial.{◌⊻◌}
use Rattle.gf2.specs.Register.{top}
use Rattle.gf2.specs.Bits.{bits}
use Rattle.gf2.proofs.Bits.{bits-length, bits-shift}
use Rattle.signature.specs.Signature.{shift_in, shift_in_all, octet}

-- Before turn i of an octet's eight: the bits that are left, first in the shifted octet x, lead from r where the octet leads from the register.
pub record Turning (w g register octet₀ r x i : ℕ) : Type 0 where
  pub within : (1 ≤ i) × (i ≤ 9)
  pub rest : shift_in_all w g r (take (9 - i) (bits 8 x)) ≡ octet w g register octet₀

take-shifted : (m : ℕ) (l : List Bool) → m ≤ length l → take m (l ++ (false ∷ [])) ≡ take m l
take-shifted zero l h = refl
take-shifted (suc m) [] h = absurd (omega arith)
take-shifted (suc m) (d ∷ l) h = ap (λ (t : List Bool). d ∷ t) (take-shifted m l (omega arith))

module _ {w g register octet₀ : ℕ} where
  pub first_turn : Turning w g register octet₀ register octet₀ 1
  unfolding octet
  first_turn = record { within = (omega arith, omega arith); rest = refl }

  pub last_turn : {r x i : ℕ} → Turning w g register octet₀ r x i → 8 < i → r ≡ octet w g register octet₀
  unfolding shift_in_all
  last_turn {r} {x} {i} inv h =
      let e : 9 - i ≡ 0 = omega arith in
      rw e at inv.rest

  next_turn : {r x i : ℕ} → Turning w g register octet₀ r x i → i ≤ 8 → Turning w g register octet₀ (shift_in w g r (top (bits 8 x))) (x * 2 % 256) (i + 1)
  unfolding shift_in_all
  next_turn {r} {x} {i} inv h =
      let m = 8 - i in
      let e : 9 - i ≡ suc m = omega arith in
      let e' : 9 - (i + 1) ≡ m = omega arith in
      record {
        within = (omega arith, omega arith);
        rest = rw (e', bits-shift 8 x) (rw (take-shifted m (bits 7 x) (omega (arith, bits-length 7 x))) (rw e at inv.rest));
      }

-- a masked bit is not 0: the bit is 1
masked : (n k : ℕ) → not (eqb (bit_and n (2 ^ k)) 0) ≡ eqb (n / 2 ^ k % 2) 1
masked n k = by (n / 2 ^ k % 2) (omega arith) (ap (bit_and n) power ∙ and_high n 1 k)
  where
    power : 2 ^ k ≡ 2 ^ (1 + k) - 2 ^ k
    power = omega (arith, pow-add 2 1 k)

    by : (b : ℕ) → b < 2 → bit_and n (2 ^ k) ≡ b * 2 ^ k → not (eqb (bit_and n (2 ^ k)) 0) ≡ eqb b 1
    by zero h e = ap (λ (a : ℕ). not (eqb a 0)) (e ∙ zero-mul (2 ^ k))
    by (suc zero) h e = ap not (ne_eqb (bit_and n (2 ^ k)) 0 (λ z. omega (arith, pow_pos k)))
    by (suc (suc b)) h e = absurd (omega arith)

-- the test of a turn: the register's top bit and the octet's differ
differs : (a b : Bool) → not (beq a b) ≡ a ⊻ b
differs true true = refl
differs true false = refl
differs false true = refl
differs false false = refl

-- a turn of the register by its test, at the width k + 1, for the data bit d
pub tested : (k g r : ℕ) (d t : Bool) {r' : ℕ}
    → not (beq (not (eqb (bit_and r (2 ^ k)) 0)) d) ≡ t
    → r' ≡ cond t (bit_xor (r * 2 % 2 ^ suc k) g) (r * 2 % 2 ^ suc k)
    → r' ≡ shift_in (suc k) g r d
unfolding shift_in
tested k g r d t test e =
    let same : t ≡ top (bits (suc k) r) ⊻ d = sym test ∙ differs (not (eqb (bit_and r (2 ^ k)) 0)) d ∙ ap (λ (b : Bool). b ⊻ d) (masked r k) in
    e ∙ ap (λ (b : Bool). cond b (bit_xor (r * 2 % 2 ^ suc k) g) (r * 2 % 2 ^ suc k)) same

-- a turn of the loop, at any width, by the octet's top bit
pub turned : {w g register octet₀ r x i r' : ℕ} → r' ≡ shift_in w g r (not (eqb (bit_and x 128) 0))
    → Turning w g register octet₀ r x i → i ≤ 8 → Turning w g register octet₀ r' (x * 2 % 256) (i + 1)
turned {x = x} e inv h = rw (e, masked x 7) (next_turn inv h)

-- both: a turn of the loop by its test, at the width k + 1
pub turn : (k : ℕ) {g register octet₀ r x i r' : ℕ} (t : Bool)
    → not (beq (not (eqb (bit_and r (2 ^ k)) 0)) (not (eqb (bit_and x 128) 0))) ≡ t
    → r' ≡ cond t (bit_xor (r * 2 % 2 ^ suc k) g) (r * 2 % 2 ^ suc k)
    → Turning (suc k) g register octet₀ r x i → i ≤ 8 → Turning (suc k) g register octet₀ r' (x * 2 % 256) (i + 1)
turn k {g} {r = r} {x = x} t test e inv h = turned (tested k g r (not (eqb (bit_and x 128) 0)) t test e) inv h
