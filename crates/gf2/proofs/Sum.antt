-- The laws of the sum of bit lists.
-- Assumes nothing.
use mathlib.Core.Path.{◌≡◌, refl, sym, ap, ap₂, ◌∙◌}
use mathlib.Core.Bool.{Bool, true, false}
use mathlib.Core.List.{List, [], ◌∷◌, ◌++◌, tail}
use Prim.Native.Nat.{ℕ, zero, suc, ◌+◌, ◌≤◌, ◌<◌}
use native.Mathlib.Nat.{zero-add, suc-add, le_of_suc-le-suc, not-suc-le-zero}
use native.Mathlib.Numerals.{add-one}
use native.Mathlib.Omega.{arith}
use lib.ListN.{length, get_or, length-append, length-replicate}
use Rattle.gf2.specs.Polynomial.{◌⊻◌, ◌⊕◌, scale, zeros}
use Rattle.gf2.specs.Register.{top, shift}

bit_comm : (x y : Bool) → (x ⊻ y) ≡ (y ⊻ x)
bit_comm true true = refl
bit_comm true false = refl
bit_comm false true = refl
bit_comm false false = refl

bit_assoc : (x y z : Bool) → (x ⊻ y ⊻ z) ≡ (x ⊻ (y ⊻ z))
bit_assoc true true true = refl
bit_assoc true true false = refl
bit_assoc true false z = refl
bit_assoc false y z = refl

bit_cancel : (x y : Bool) → (x ⊻ (x ⊻ y)) ≡ y
bit_cancel true true = refl
bit_cancel true false = refl
bit_cancel false y = refl

pub sum_comm : (a b : List Bool) → a ⊕ b ≡ b ⊕ a
sum_comm [] [] = refl
sum_comm [] (y ∷ b) = refl
sum_comm (x ∷ a) [] = refl
sum_comm (x ∷ a) (y ∷ b) = ap₂ ◌∷◌ (bit_comm x y) (sum_comm a b)

pub sum_assoc : (a b c : List Bool) → a ⊕ b ⊕ c ≡ a ⊕ (b ⊕ c)
sum_assoc [] b c = refl
sum_assoc (x ∷ a) [] c = refl
sum_assoc (x ∷ a) (y ∷ b) [] = refl
sum_assoc (x ∷ a) (y ∷ b) (z ∷ c) = ap₂ ◌∷◌ (bit_assoc x y z) (sum_assoc a b c)

pub sum_left_comm : (a b c : List Bool) → a ⊕ (b ⊕ c) ≡ b ⊕ (a ⊕ c)
sum_left_comm a b c = sym (sum_assoc a b c) ∙ ap (λ (s : List Bool). s ⊕ c) (sum_comm a b) ∙ sum_assoc b a c

-- what is added twice is gone
pub sum_cancel : (a b : List Bool) → length a ≤ length b → a ⊕ (a ⊕ b) ≡ b
sum_cancel [] b h = refl
sum_cancel (x ∷ a) [] h = absurd (not-suc-le-zero h)
sum_cancel (x ∷ a) (y ∷ b) h = ap₂ ◌∷◌ (bit_cancel x y) (sum_cancel a b (le_of_suc-le-suc h))

pub sum_self : (a : List Bool) → a ⊕ a ≡ zeros (length a)
sum_self [] = refl
sum_self (true ∷ a) = ap (◌∷◌ false) (sum_self a)
sum_self (false ∷ a) = ap (◌∷◌ false) (sum_self a)

pub zeros-sum : (n : ℕ) (a : List Bool) → n ≤ length a → zeros n ⊕ a ≡ a
zeros-sum zero a h = refl
zeros-sum (suc n) [] h = absurd (not-suc-le-zero h)
zeros-sum (suc n) (x ∷ a) h = ap (◌∷◌ x) (zeros-sum n a (le_of_suc-le-suc h))

pub sum_zeros : (a : List Bool) (n : ℕ) → length a ≡ n → a ⊕ zeros n ≡ a
sum_zeros a n h = sum_comm a (zeros n) ∙ zeros-sum n a (omega arith)

-- zeros that are longer than a list by n lengthen it by n
pub sum_longer : (a : List Bool) (n : ℕ) → a ⊕ zeros (length a + n) ≡ a ++ zeros n
sum_longer [] n = ap zeros (zero-add n)
sum_longer (x ∷ a) n = rw suc-add (ap₂ ◌∷◌ (bit_comm x false) (sum_longer a n))

pub sum-length : (a b : List Bool) → length a ≤ length b → length (a ⊕ b) ≡ length b
sum-length [] b h = refl
sum-length (x ∷ a) [] h = absurd (not-suc-le-zero h)
sum-length (x ∷ a) (y ∷ b) h = ap suc (sum-length a b (le_of_suc-le-suc h))

pub sum-append : (a b c d : List Bool) → length a ≡ length b → (a ⊕ b) ++ (c ⊕ d) ≡ (a ++ c) ⊕ (b ++ d)
sum-append [] [] c d h = refl
sum-append [] (y ∷ b) c d h = absurd (omega arith)
sum-append (x ∷ a) [] c d h = absurd (omega arith)
sum-append (x ∷ a) (y ∷ b) c d h = ap (◌∷◌ (x ⊻ y)) (sum-append a b c d (omega arith))

pub sum-bit : (a b : List Bool) (k : ℕ) → get_or (a ⊕ b) k false ≡ (get_or a k false ⊻ get_or b k false)
sum-bit [] b k = refl
sum-bit (x ∷ a) [] k = bit_comm false (get_or (x ∷ a) k false)
sum-bit (x ∷ a) (y ∷ b) zero = refl
sum-bit (x ∷ a) (y ∷ b) (suc k) = sum-bit a b k

pub zeros-bit : (n k : ℕ) → get_or (zeros n) k false ≡ false
zeros-bit zero k = refl
zeros-bit (suc n) zero = refl
zeros-bit (suc n) (suc k) = zeros-bit n k

pub scale-length : (e : Bool) (a : List Bool) → length (scale e a) ≡ length a
scale-length true a = refl
scale-length false a = length-replicate (length a) false

pub scale-sum : (x y : Bool) (a : List Bool) → scale (x ⊻ y) a ≡ scale x a ⊕ scale y a
scale-sum true true a = sym (sum_self a)
scale-sum true false a = sym (sum_zeros a (length a) refl)
scale-sum false y a = sym (zeros-sum (length a) (scale y a) (omega (arith, scale-length y a)))

-- a zero that comes in at the low end changes no sum with a longer list
sum_snoc : (r a : List Bool) → length r < length a → (r ++ (false ∷ [])) ⊕ a ≡ r ⊕ a
sum_snoc r [] h = absurd (not-suc-le-zero h)
sum_snoc [] (y ∷ a) h = refl
sum_snoc (t ∷ r) (y ∷ a) h = ap (◌∷◌ (t ⊻ y)) (sum_snoc r a (le_of_suc-le-suc h))

pub shift-sum : (r a : List Bool) → length r ≤ length a → shift r ⊕ a ≡ tail r ⊕ a
shift-sum [] a h = refl
shift-sum (t ∷ r) a h = sum_snoc r a h

pub shift-length : (r : List Bool) → length (shift r) ≡ length r
shift-length [] = refl
shift-length (t ∷ r) = length-append r (false ∷ []) ∙ add-one (length r)

pub tail_length : (r : List Bool) → length (tail r) ≤ length r
tail_length [] = omega arith
tail_length (t ∷ r) = omega arith

pub sum-cons : (r : List Bool) (d : Bool) (a : List Bool) → r ⊕ (d ∷ a) ≡ (top r ⊻ d) ∷ (tail r ⊕ a)
sum-cons [] d a = refl
sum-cons (t ∷ r) d a = refl
