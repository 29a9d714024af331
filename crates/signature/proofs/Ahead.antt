-- Data may join the register ahead of the look-ups, by any table: what is added to the register is data of the look-up that its place comes up in,
-- and shifts with the register until then. Assumes nothing.
use mathlib.Core.Path.{◌≡◌, sym, ap, ap₂, ◌∙◌}
use mathlib.Core.List.{List}
use Prim.Native.Nat.{ℕ, ◌-◌, ◌*◌, ◌/◌, ◌%◌, ◌^◌, ◌<◌}
use native.Mathlib.Nat.{add-zero, mod-mod, mod-eq_of_lt}
use native.Mathlib.Omega.{arith}
use lib.Bits.{bit_xor, xor_block, xor_mod, xor_shr, xor_zero_r}
use lib.ListN.{get_or}
use lib.Pow.{pow_pos}
use Rattle.gf2.proofs.Bits.{xor_assoc}
use Rattle.signature.specs.Lookup.{look_up, octet_by_table}

xor_shl : (a b n : ℕ) → bit_xor (a * 2 ^ n) (b * 2 ^ n) ≡ bit_xor a b * 2 ^ n
xor_shl a b n =
    ap₂ bit_xor (sym (add-zero (a * 2 ^ n))) (sym (add-zero (b * 2 ^ n))) ∙ xor_block n a b 0 0 (pow_pos n) (pow_pos n) ∙ add-zero (bit_xor a b * 2 ^ n)

module _ (w n : ℕ) (table : List ℕ) (r : ℕ) where
  abbrev first : ℕ
  first = r / 2 ^ (w - n)

  abbrev shifted : ℕ
  shifted = r * 2 ^ n % 2 ^ w

  -- without data the register's first bits are the index
  pub alone : first < 2 ^ n → bit_xor (get_or table first 0) shifted ≡ look_up w n table r 0
  alone h = ap (λ (i : ℕ). bit_xor (get_or table i 0) shifted) (sym (ap (λ (i : ℕ). i % 2 ^ n) (xor_zero_r first) ∙ mod-eq_of_lt h))

  ahead : (z : ℕ) → look_up w n table (bit_xor r z) 0 ≡ bit_xor (look_up w n table r (z / 2 ^ (w - n))) (z * 2 ^ n % 2 ^ w)
  ahead z =
      let i : ℕ = bit_xor first (z / 2 ^ (w - n)) % 2 ^ n in
      ap₂ (λ (j s : ℕ). bit_xor (get_or table (j % 2 ^ n) 0) s)
      (xor_zero_r (bit_xor r z / 2 ^ (w - n)) ∙ xor_shr r z (w - n))
      (ap (λ (m : ℕ). m % 2 ^ w) (sym (xor_shl r z n)) ∙ xor_mod (r * 2 ^ n) (z * 2 ^ n) w)
      ∙ sym (xor_assoc (get_or table i 0) shifted (z * 2 ^ n % 2 ^ w))

  -- the data's lowest n bits count
  lowest : (x : ℕ) → look_up w n table r (x % 2 ^ n) ≡ look_up w n table r x
  lowest x =
      ap (λ (i : ℕ). bit_xor (get_or table i 0) shifted)
      (xor_mod first (x % 2 ^ n) n ∙ ap (bit_xor (first % 2 ^ n)) (mod-mod x (2 ^ n)) ∙ sym (xor_mod first x n))

-- an octet at the register's top, and two look-ups: its high half is data of the one, its low half of the other
pub two_halves : (table : List ℕ) (r x : ℕ) → x < 256
    → look_up 32 4 table (look_up 32 4 table (bit_xor r (x * 2 ^ 24 % 2 ^ 32)) 0) 0 ≡ octet_by_table 32 4 table r x
two_halves table r x h =
    let z : ℕ = x * 2 ^ 24 % 2 ^ 32 in
    let half : ℕ = look_up 32 4 table r (x / 2 ^ 4) in
    let first : z / 2 ^ 28 ≡ x / 2 ^ 4 = omega arith in
    let second : z * 2 ^ 4 % 2 ^ 32 / 2 ^ 28 ≡ x % 2 ^ 4 = omega arith in
    let none : z * 2 ^ 4 % 2 ^ 32 * 2 ^ 4 % 2 ^ 32 ≡ 0 = omega arith in
    ap (λ (s : ℕ). look_up 32 4 table s 0) (ahead 32 4 table r z)
    ∙ ahead 32 4 table (look_up 32 4 table r (z / 2 ^ 28)) (z * 2 ^ 4 % 2 ^ 32)
    ∙ rw (first, second, none) (xor_zero_r (look_up 32 4 table half (x % 2 ^ 4)) ∙ lowest 32 4 table half x)
