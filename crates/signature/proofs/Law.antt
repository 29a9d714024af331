-- Signing by a table is signing by bits, at every width, generator and number of index bits. Assumes nothing.
use mathlib.Core.Path.{◌≡◌, refl, sym, ap, ◌∙◌}
use mathlib.Core.Bool.{Bool}
use mathlib.Core.List.{List, [], ◌∷◌, ◌++◌}
use Prim.Native.Nat.{ℕ, zero, suc, ◌+◌, ◌-◌, ◌*◌, ◌/◌, ◌%◌, ◌^◌, ◌<◌, ◌≤◌}
use native.Mathlib.Nat.{mod-lt, zero-add, add_comm, mul-zero, mul-suc}
use native.Mathlib.Omega.{arith}
use lib.Bits.{bit_xor, xor_lt}
use lib.ListN.{length, take, drop}
use lib.Pow.{pow_pos}
use lib.Seq.{take_at, drop_at}
use Rattle.gf2.specs.Polynomial.{◌⊕◌, zeros}
use Rattle.gf2.specs.Register.{register}
use Rattle.gf2.specs.Bits.{bits}
use Rattle.gf2.proofs.Bits.{bits-length, bits-xor, bits-zero, bits-mod, bits_parts, bits-shifted, bits_injective}
use Rattle.gf2.proofs.Table.{by_table_lem}
use Rattle.signature.specs.Signature.{shift_in, shift_in_all, octet, signature}
use Rattle.signature.specs.Lookup.{division, Table, look_up, look_ups, octet_by_table, by_table}
use Rattle.signature.specs.Width.{Fits}
use Rattle.signature.proofs.Bridge.{shift_in_all-bits, turns_lt}

shift_in_all-append : (w g r : ℕ) (ds es : List Bool) → shift_in_all w g r (ds ++ es) ≡ shift_in_all w g (shift_in_all w g r ds) es
unfolding shift_in_all
shift_in_all-append w g r [] es = refl
shift_in_all-append w g r (d ∷ ds) es = shift_in_all-append w g (shift_in w g r d) ds es

module _ (w g n k : ℕ) (wide : w ≡ n + k) (hg : g < 2 ^ w) (hn : 0 < n) where
  -- the register's bits: those that the step looks at, and the rest, which shifts left
  module _ (r : ℕ) where
    parts : bits w r ≡ bits n (r / 2 ^ k) ++ bits k r
    parts = ap (λ (m : ℕ). bits m r) wide ∙ bits_parts n k r

    first : take n (bits w r) ≡ bits n (r / 2 ^ k)
    first = ap (take n) parts ∙ take_at (bits n (r / 2 ^ k)) (bits k r) n (bits-length n (r / 2 ^ k))

    rest : drop n (bits w r) ≡ bits k r
    rest = ap (drop n) parts ∙ drop_at (bits n (r / 2 ^ k)) (bits k r) n (bits-length n (r / 2 ^ k))

    shifted : bits w (r * 2 ^ n % 2 ^ w) ≡ bits k r ++ zeros n
    shifted = rw zero-add at (bits-mod 0 w (r * 2 ^ n)) ∙ ap (λ (m : ℕ). bits m (r * 2 ^ n)) (wide ∙ add_comm n k) ∙ bits-shifted k n r

  index : (a x : ℕ) → bits n (bit_xor a x % 2 ^ n) ≡ bits n a ⊕ bits n x
  index a x = rw zero-add at (bits-mod 0 n (bit_xor a x)) ∙ bits-xor n a x

  division-bits : (i : ℕ) → bits w (division w g n i) ≡ register (bits w g) (zeros (length (bits w g))) (bits n i)
  unfolding division
  division-bits i =
      shift_in_all-bits w g 0 (bits n i)
      ∙ ap (λ (s : List Bool). register (bits w g) s (bits n i)) (bits-zero w ∙ ap zeros (sym (bits-length w g)))

  -- n turns of the loop are one look-up
  step-bits : (r x : ℕ)
      → bits w (shift_in_all w g r (bits n x)) ≡ bits w (bit_xor (division w g n (bit_xor (r / 2 ^ k) x % 2 ^ n)) (r * 2 ^ n % 2 ^ w))
  step-bits r x =
      let i = bit_xor (r / 2 ^ k) x % 2 ^ n in
      let l : n ≤ length (bits w g) = omega (arith, bits-length w g) in
      let t : register (bits w g) (bits w r) (bits n x) ≡ register (bits w g) (zeros (length (bits w g))) (take n (bits w r) ⊕ bits n x) ⊕ (drop n (bits w r) ++ zeros n)
      = by_table_lem (bits w g) n (bits w r) (bits n x) l (bits-length w r ∙ sym (bits-length w g)) (bits-length n x) in
      cc (
        shift_in_all-bits w g r (bits n x),
        t,
        first r,
        rest r,
        index (r / 2 ^ k) x,
        division-bits i,
        shifted r,
        bits-xor w (division w g n i) (r * 2 ^ n % 2 ^ w),
      )

  look : {table : List ℕ} → Table w g n table → (r x : ℕ) → look_up w n table r x ≡ shift_in_all w g r (bits n x)
  unfolding division
  look t r x =
      let i = bit_xor (r / 2 ^ k) x % 2 ^ n in
      let e : w - n ≡ k = omega arith in
      let d : division w g n i < 2 ^ w = turns_lt w g hg n hn 0 i in
      rw (e, t.entry i (mod-lt (bit_xor (r / 2 ^ k) x) (pow_pos n)))
      (sym
      (bits_injective w
      (turns_lt w g hg n hn r x)
      (xor_lt w (division w g n i) (r * 2 ^ n % 2 ^ w) d (mod-lt (r * 2 ^ n) (pow_pos w)))
      (step-bits r x)))

  -- look-ups, however many, are turns of the loop
  looks : {table : List ℕ} → Table w g n table → (m r x : ℕ) → look_ups w n table m r x ≡ shift_in_all w g r (bits (n * m) x)
  unfolding shift_in_all
  looks t zero r x = ap (λ (l : ℕ). shift_in_all w g r (bits l x)) (sym (mul-zero n))
  looks {table} t (suc m) r x =
      ap (λ (s : ℕ). look_up w n table s x) (looks t m r (x / 2 ^ n))
      ∙ look t (shift_in_all w g r (bits (n * m) (x / 2 ^ n))) x
      ∙ sym (shift_in_all-append w g r (bits (n * m) (x / 2 ^ n)) (bits n x))
      ∙ ap (shift_in_all w g r) (sym (bits_parts (n * m) n x) ∙ ap (λ (l : ℕ). bits l x) (sym (mul-suc n m)))

  -- an octet is a whole number of look-ups
  module _ (whole : n * (8 / n) ≡ 8) {table : List ℕ} (t : Table w g n table) where
    pub look_octet : (r x : ℕ) → octet_by_table w n table r x ≡ octet w g r x
    unfolding octet
    look_octet r x = looks t (8 / n) r x ∙ ap (λ (l : ℕ). shift_in_all w g r (bits l x)) whole

    pub look_all : (r : ℕ) (xs : List ℕ) → by_table w n table r xs ≡ signature w g r xs
    unfolding by_table signature
    look_all r [] = refl
    look_all r (x ∷ xs) = ap (λ (s : ℕ). by_table w n table s xs) (look_octet r x) ∙ look_all (octet w g r x) xs

-- the same of what a register keeps to
module _ {w g n : ℕ} (fits : Fits w g n) {table : List ℕ} (t : Table w g n table) where
  wide : w ≡ n + (w - n)
  wide = omega (arith, fits.within)

  pub look_register : (r x : ℕ) → octet_by_table w n table r x ≡ octet w g r x
  look_register = look_octet w g n (w - n) wide fits.generator fits.some fits.whole t

  pub look_registers : (r : ℕ) (xs : List ℕ) → by_table w n table r xs ≡ signature w g r xs
  look_registers = look_all w g n (w - n) wide fits.generator fits.some fits.whole t
