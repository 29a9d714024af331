-- Polynomials over two elements, as lists of bits, the highest coefficient first. A generator g stands without its leading 1, as 000
-- Table D.1 prints it ("high order bit omitted"): its bits are a 1 and then g, and its degree is the length of g. Assumes nothing.
use Rattle.std.specs.Prelude.{◌≡◌, Bool, true, false, not, List, [], ◌∷◌, ℕ, zero, suc, ◌+◌, ◌≤◌, ◌<◌, length, replicate, get_or}

infixl 30 ◌⊻◌
infixl 65 ◌⊕◌
-- the sum of two bits
abbrev pub ◌⊻◌ : Bool → Bool → Bool
true ⊻ b = not b
false ⊻ b = b

-- the sum of two polynomials, bit by bit from the first; the shorter list counts as followed by zeros
abbrev pub ◌⊕◌ : List Bool → List Bool → List Bool
[] ⊕ b = b
(x ∷ a) ⊕ [] = x ∷ a
(x ∷ a) ⊕ (y ∷ b) = (x ⊻ y) ∷ (a ⊕ b)

abbrev pub zeros : ℕ → List Bool
zeros n = replicate n false

-- a bit times a polynomial: the polynomial, or as many zeros
abbrev pub scale : Bool → List Bool → List Bool
scale true a = a
scale false a = zeros (length a)

-- the product of the generator and q, by shift and add
abbrev pub product : List Bool → List Bool → List Bool
product g [] = zeros (length g)
product g (a ∷ q) = scale a (true ∷ g) ⊕ (false ∷ product g q)

-- e is a multiple of the generator
pub record Multiple (g e : List Bool) : Type 0 where
  pub quotient : List Bool
  pub exact : e ≡ product g quotient

-- the number of ones
abbrev pub ones : List Bool → ℕ
ones [] = 0
ones (true ∷ a) = suc (ones a)
ones (false ∷ a) = ones a

-- each one of e stands at one of the n neighbouring places from i on
abbrev pub Burst : ℕ → ℕ → List Bool → Type 0
Burst i n e = (k : ℕ) → get_or e k false ≡ true → (i ≤ k) × (k < i + n)

-- f 0 + f 1 + .. + f (n - 1): with it proofs/Product.antt states the textbook's product, and shows that `product` is that
abbrev pub total : (ℕ → Bool) → ℕ → Bool
total f zero = false
total f (suc n) = f zero ⊻ total (λ i. f (suc i)) n
