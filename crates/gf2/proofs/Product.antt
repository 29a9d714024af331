-- The multiples of a generator: their sums; how many ones they have; and where the ones stand.
-- Assumes nothing.
use mathlib.Core.Path.{◌≡◌, refl, sym, ap, ap₂, ◌∙◌}
use mathlib.Core.Bool.{Bool, true, false, ◌&&◌, false≢true}
use mathlib.Core.List.{List, [], ◌∷◌, ◌++◌}
use Prim.Native.Nat.{ℕ, zero, suc, ◌+◌, ◌-◌, ◌%◌, ◌≤◌, ◌<◌}
use native.Mathlib.Nat.{zero-add, add_comm, suc-add, sub-zero, suc-sub-suc}
use native.Mathlib.Omega.{arith}
use borrow.Author.Tests.{leb-true, leb-false}
use lib.Dec.{leb}
use lib.ListN.{length, get_or, take, drop, length-replicate, get_or-eq_default}
use lib.Seq.{get_or-take, get_or-drop}
use Rattle.gf2.specs.Polynomial.{◌⊻◌, ◌⊕◌, scale, zeros, product, Multiple, Burst, ones, total}
use Rattle.gf2.specs.Generators.{EndsInOne, EvenOnes}
use Rattle.gf2.proofs.Sum.{sum_comm, sum_assoc, sum_left_comm, sum-length, sum-bit, sum_zeros, sum_longer, zeros-sum, zeros-bit, scale-length, scale-sum}

ones-sum : (a b : List Bool) → ones (a ⊕ b) % 2 ≡ (ones a + ones b) % 2
ones-sum [] b = omega arith
ones-sum (x ∷ a) [] = omega arith
ones-sum (true ∷ a) (true ∷ b) = omega (arith, ones-sum a b)
ones-sum (true ∷ a) (false ∷ b) = omega (arith, ones-sum a b)
ones-sum (false ∷ a) (true ∷ b) = omega (arith, ones-sum a b)
ones-sum (false ∷ a) (false ∷ b) = ones-sum a b

ones-zeros : (n : ℕ) → ones (zeros n) ≡ 0
ones-zeros zero = refl
ones-zeros (suc n) = ones-zeros n

module _ (g : List Bool) where
  pub product-cons : (a : Bool) (q : List Bool) → product g (a ∷ q) ≡ a ∷ (scale a g ⊕ product g q)
  product-cons true q = refl
  product-cons false q = refl

  pub product-length : (q : List Bool) → length (product g q) ≡ length q + length g
  product-length [] = omega (arith, length-replicate (length g) false)
  product-length (a ∷ q) =
      ap length (product-cons a q) ∙ omega (arith, sum-length (scale a g) (product g q) (omega (arith, scale-length a g, product-length q)), product-length q)

  product-sum : (p q : List Bool) → length p ≡ length q → product g (p ⊕ q) ≡ product g p ⊕ product g q
  product-sum [] [] h = sym (sum_zeros (zeros (length g)) (length g) (length-replicate (length g) false))
  product-sum [] (b ∷ q) h = absurd (omega arith)
  product-sum (a ∷ p) [] h = absurd (omega arith)
  product-sum (a ∷ p) (b ∷ q) h =
      product-cons (a ⊻ b) (p ⊕ q)
      ∙ ap (◌∷◌ (a ⊻ b)) (simp (scale-sum, product-sum p q (omega arith), sum_assoc, sum_left_comm, sum_comm))
      ∙ sym (ap₂ ◌⊕◌ (product-cons a p) (product-cons b q))

  -- The product is the textbook's: its bit k is the sum of q's bit i times the generator's bit k - i, over all i up to k.
  total-false : (n : ℕ) → total (λ i. false) n ≡ false
  total-false zero = refl
  total-false (suc n) = total-false n

  scale-bit : (a : Bool) (k : ℕ) → get_or (scale a (true ∷ g)) k false ≡ (a && get_or (true ∷ g) k false)
  scale-bit true k = refl
  scale-bit false k = zeros-bit (suc (length g)) k

  pub product-bit : (q : List Bool) (k : ℕ) → get_or (product g q) k false ≡ total (λ i. get_or q i false && get_or (true ∷ g) (k - i) false) (suc k)
  product-bit [] k = zeros-bit (length g) k ∙ sym (total-false (suc k))
  product-bit (a ∷ q) zero = sum-bit (scale a (true ∷ g)) (false ∷ product g q) zero ∙ ap (λ (b : Bool). b ⊻ false) (scale-bit a zero)
  product-bit (a ∷ q) (suc k) =
      sum-bit (scale a (true ∷ g)) (false ∷ product g q) (suc k) ∙ ap₂ ◌⊻◌ (scale-bit a (suc k)) (product-bit q k) ∙ simp (sub-zero, suc-sub-suc, suc-sub-suc k zero)

  -- the sum of two multiples of one length is one
  pub multiple_sum : {a b : List Bool} → Multiple g a → Multiple g b → length a ≡ length b → Multiple g (a ⊕ b)
  multiple_sum m k h =
      let l : length m.quotient ≡ length k.quotient
      = omega (arith, product-length m.quotient, product-length k.quotient, ap length m.exact, ap length k.exact) in
      record {
        quotient = m.quotient ⊕ k.quotient;
        exact = ap₂ ◌⊕◌ m.exact k.exact ∙ sym (product-sum m.quotient k.quotient l);
      }

  scale-even : EvenOnes g → (a : Bool) → ones (scale a (true ∷ g)) % 2 ≡ 0
  scale-even h true = h
  scale-even h false = ap (λ (n : ℕ). n % 2) (ones-zeros (length g))

  product-even : EvenOnes g → (q : List Bool) → ones (product g q) % 2 ≡ 0
  product-even h [] = ap (λ (n : ℕ). n % 2) (ones-zeros (length g))
  product-even h (a ∷ q) = omega (arith, ones-sum (scale a (true ∷ g)) (false ∷ product g q), scale-even h a, product-even h q)

  -- Each multiple of a generator with an even number of ones has an even number of ones.
  pub multiple_even : {e : List Bool} → EvenOnes g → Multiple g e → ones e % 2 ≡ 0
  multiple_even h m = rw m.exact (product-even h m.quotient)

  product-zero : (q : List Bool) → product g (false ∷ q) ≡ false ∷ product g q
  product-zero q = ap (◌∷◌ false) (zeros-sum (length g) (product g q) (omega (arith, product-length q)))

  product_zeros : (n : ℕ) → product g (zeros n) ≡ zeros (n + length g)
  product_zeros zero = ap zeros (sym (zero-add (length g)))
  product_zeros (suc n) = product-zero (zeros n) ∙ ap (◌∷◌ false) (product_zeros n) ∙ ap zeros (sym (suc-add n (length g)))

  -- A product of which every bit past the first w is 0 is that of a q of zeros: its last bits are q's, one after the other from the last.
  low_next : (a : Bool) (q : List Bool) (k : ℕ) → length g ≤ k → get_or (product g (a ∷ q)) (suc k) false ≡ get_or (product g q) k false
  low_next a q k l = sum-bit (scale a (true ∷ g)) (false ∷ product g q) (suc k) ∙ simp (get_or-eq_default (scale a (true ∷ g)) false {n = suc k} (omega (arith, scale-length a (true ∷ g))))

  low_first : EndsInOne g → (a : Bool) (n : ℕ) → get_or (product g (a ∷ zeros n)) (length g) false ≡ false → a ≡ false
  low_first c true n h =
      simp (c, product_zeros n, zeros-bit (suc (n + length g))) at (sym (sum-bit (true ∷ g) (false ∷ product g (zeros n)) (length g)) ∙ h)
  low_first c false n h = refl

  low : EndsInOne g → (q : List Bool) → ((k : ℕ) → length g ≤ k → get_or (product g q) k false ≡ false) → q ≡ zeros (length q)
  low c [] h = refl
  low c (a ∷ q) h =
      let e : q ≡ zeros (length q) = low c q (λ k l. sym (low_next a q k l) ∙ h (suc k) (omega arith)) in
      ap₂ ◌∷◌ (low_first c a (length q) (rw e at (h (length g) (omega arith)))) e

  -- The first bits of a product are q's too, one after the other.
  high : EndsInOne g → (q : List Bool) (i : ℕ) → Burst i (length g) (product g q) → q ≡ zeros (length q)
  high c [] i h = refl
  high c (a ∷ q) zero h = low c (a ∷ q) (λ k l. go k l (get_or (product g (a ∷ q)) k false) refl)
    where
      go : (k : ℕ) → length g ≤ k → (b : Bool) → get_or (product g (a ∷ q)) k false ≡ b → b ≡ false
      go k l true e = absurd (omega (arith, h k e))
      go k l false e = refl
  high c (true ∷ q) (suc i) h = absurd (omega (arith, h 0 refl))
  high c (false ∷ q) (suc i) h = ap (◌∷◌ false) (high c q i (λ k e. omega (arith, h (suc k) (rw product-zero e))))

  -- A multiple that has its ones within w neighbouring places has none, if the generator's constant term is 1.
  pub multiple_burst : {e : List Bool} → EndsInOne g → (i : ℕ) → Burst i (length g) e → Multiple g e → ones e ≡ 0
  multiple_burst c i h m =
      let q = m.quotient in
      let z : product g q ≡ zeros (length q + length g) = ap (product g) (high c q i (rw m.exact at h)) ∙ product_zeros (length q) in
      rw (m.exact, z) (ones-zeros (length q + length g))

  -- The generator itself is a multiple, wherever it stands.
  product-one : (j : ℕ) → product g (true ∷ zeros j) ≡ (true ∷ g) ++ zeros j
  product-one j = ap (λ (a : List Bool). (true ∷ g) ⊕ (false ∷ a)) (product_zeros j ∙ ap zeros (add_comm j (length g))) ∙ ap (◌∷◌ true) (sum_longer g j)

  pub multiple_generator : (i j : ℕ) → Multiple g (zeros i ++ ((true ∷ g) ++ zeros j))
  multiple_generator i j = record { quotient = zeros i ++ (true ∷ zeros j); exact = sym (shifted i) }
    where
      shifted : (n : ℕ) → product g (zeros n ++ (true ∷ zeros j)) ≡ zeros n ++ ((true ∷ g) ++ zeros j)
      shifted zero = product-one j
      shifted (suc n) = product-zero (zeros n ++ (true ∷ zeros j)) ∙ ap (◌∷◌ false) (shifted n)

-- ---- a burst, by counts of ones that antt computes
some_one : (e : List Bool) (k : ℕ) → get_or e k false ≡ true → 0 < ones e
some_one [] k h = absurd (false≢true h)
some_one (true ∷ e) k h = omega arith
some_one (false ∷ e) zero h = absurd (false≢true h)
some_one (false ∷ e) (suc k) h = some_one e k h

at_least : (i k : ℕ) → (k < i → ⊥) → i ≤ k
at_least i k f = go (leb i k) refl
  where
    go : (b : Bool) → leb i k ≡ b → i ≤ k
    go true e = leb-true i k e
    go false e = absurd (f (leb-false i k e))

-- where no one stands before i, and none from i + n on, they stand within n places from i
pub burst_by_ones : (i n : ℕ) (e : List Bool) → ones (take i e) ≡ 0 → ones (drop (i + n) e) ≡ 0 → Burst i n e
burst_by_ones i n e before behind k h =
    (at_least i k (λ l. omega (arith, some_one (take i e) k (rw get_or-take h))), at_least (suc k) (i + n) past)
  where
    past : i + n < suc k → ⊥
    past l =
        let m : ℕ = k - (i + n) in
        let at : i + n + m ≡ k = omega arith in
        omega (arith, some_one (drop (i + n) e) m (rw (get_or-drop, at) h))
