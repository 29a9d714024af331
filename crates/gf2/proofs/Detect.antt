-- What division by a generator detects: the register's steps are the steps of a long division. Over any generator.
-- Assumes nothing.
use mathlib.Core.Path.{◌≡◌, refl, sym, ap, ◌∙◌}
use mathlib.Core.Logic.Iff
use mathlib.Core.Logic.{◌↔◌}
use mathlib.Core.Bool.{Bool, true}
use mathlib.Core.List.{List, [], ◌∷◌, ◌++◌, tail}
use Prim.Native.Nat.{ℕ, ◌%◌, ◌≤◌}
use native.Mathlib.Omega.{arith}
use lib.ListN.{length, length-append}
use Rattle.gf2.specs.Polynomial.{◌⊻◌, ◌⊕◌, scale, zeros, product, Multiple, ones, Burst}
use Rattle.gf2.specs.Register.{top, shift, step, register, SameLengths, Undetected}
use Rattle.gf2.specs.Generators.{EndsInOne, EvenOnes}
use Rattle.gf2.proofs.Product.{product-cons, product-length, multiple_sum, multiple_even, multiple_burst, multiple_generator}
use Rattle.gf2.proofs.Sum.{
  sum_assoc,
  sum_left_comm,
  sum_cancel,
  sum-length,
  sum-append,
  sum_self,
  sum_zeros,
  sum-cons,
  shift-sum,
  shift-length,
  tail_length,
  scale-length,
}

module _ (g : List Bool) where
  step-length : (r : List Bool) (d : Bool) → length r ≡ length g → length (step g r d) ≡ length g
  step-length r d h =
      let s = scale (top r ⊻ d) g in
      sum-length (shift r) s (omega (arith, shift-length r, scale-length (top r ⊻ d) g)) ∙ scale-length (top r ⊻ d) g

  -- one step of the register is one step of the division: e is the next bit of the quotient
  module _ (r : List Bool) (d : Bool) (a : List Bool) (h : length r ≡ length g) (l : length g ≤ length a) where
    abbrev e : Bool
    e = top r ⊻ d

    step_sum : step g r d ⊕ a ≡ scale e g ⊕ (tail r ⊕ a)
    step_sum =
        ap (λ (l : List Bool). l ⊕ a) (shift-sum r (scale e g) (omega (arith, scale-length e g)))
        ∙ sum_assoc (tail r) (scale e g) a ∙ sum_left_comm (tail r) (scale e g) a

    turn : Multiple g (step g r d ⊕ a) → Multiple g (r ⊕ (d ∷ a))
    turn m = record {
      quotient = e ∷ m.quotient;
      exact =
          sum-cons r d a
          ∙ ap (◌∷◌ e) (sym (sum_cancel (scale e g) (tail r ⊕ a) (omega (arith, scale-length e g, sum-length (tail r) a (omega (arith, tail_length r))))) ∙ ap (◌⊕◌ (scale e g)) (sym step_sum ∙ m.exact))
          ∙ sym (product-cons g e m.quotient);
    }

    turn_back : Multiple g (r ⊕ (d ∷ a)) → Multiple g (step g r d ⊕ a)
    turn_back m = go m.quotient m.exact
      where
        go : (q : List Bool) → r ⊕ (d ∷ a) ≡ product g q → Multiple g (step g r d ⊕ a)
        go [] p = absurd (omega (arith, ap length p, sum-length r (d ∷ a) (omega arith), product-length g []))
        go (x ∷ q) p =
            let c : e ∷ (tail r ⊕ a) ≡ x ∷ (scale x g ⊕ product g q) = sym (sum-cons r d a) ∙ p ∙ product-cons g x q in
            let ex : e ≡ x = cc in
            let t : tail r ⊕ a ≡ scale e g ⊕ product g q = cc in
            record {
              quotient = q;
              exact = step_sum ∙ ap (◌⊕◌ (scale e g)) t ∙ sum_cancel (scale e g) (product g q) (omega (arith, scale-length e g, product-length g q));
            }

  last : (r s : List Bool) → length r ≡ length g → length s ≡ length g → (r ≡ s) ↔ Multiple g (r ⊕ s)
  last r s h k =
      (λ p. record { quotient = []; exact = ap (◌⊕◌ r) (sym p) ∙ sum_self r ∙ ap zeros h }, λ m. go m.quotient m.exact)
    where
      go : (q : List Bool) → r ⊕ s ≡ product g q → r ≡ s
      go [] p = sym (sum_zeros r (length g) h) ∙ ap (◌⊕◌ r) (sym p) ∙ sum_cancel r s (omega arith)
      go (x ∷ q) p = absurd (omega (arith, ap length p, sum-length r s (omega arith), product-length g (x ∷ q)))

  -- The register after ds, from r, is s exactly where ds with s behind it, r added at its front, is a multiple.
  pub divides : (ds r s : List Bool) → length r ≡ length g → length s ≡ length g
      → (register g r ds ≡ s) ↔ Multiple g (r ⊕ (ds ++ s))
  divides [] r s h k = last r s h k
  divides (d ∷ ds) r s h k =
      let l : length g ≤ length (ds ++ s) = omega (arith, length-append ds s) in
      Iff.trans (divides ds (step g r d) s (step-length r d h) k) (turn r d (ds ++ s) h l, turn_back r d (ds ++ s) h l)

  pub register-length : (ds r : List Bool) → length r ≡ length g → length (register g r ds) ≡ length g
  register-length [] r h = h
  register-length (d ∷ ds) r h = register-length ds (step g r d) (step-length r d h)

module _ {g seed ds es ec : List Bool} (f : SameLengths g seed ds es ec) where
  -- What arrives passes exactly where the flips, the register's lowest, are a multiple of the generator.
  pub detects : Undetected g seed ds es ec ↔ Multiple g (es ++ ec)
  detects =
      let c = register g seed ds in
      let lc : length c ≡ length g = register-length g ds seed f.in_seed in
      let ls : length (seed ⊕ (ds ++ c)) ≡ length (ds ++ c) = sum-length seed (ds ++ c) (omega (arith, length-append ds c)) in
      let lf : length (c ⊕ ec) ≡ length g = sum-length c ec (omega arith) ∙ f.in_register in
      let k : Multiple g (seed ⊕ (ds ++ c)) = (divides g ds seed c f.in_seed lc).0 refl in
      let le : length (es ++ ec) ≡ length (ds ++ c) = omega (arith, length-append ds c, length-append es ec) in
      let e : seed ⊕ ((ds ⊕ es) ++ (c ⊕ ec)) ≡ seed ⊕ (ds ++ c) ⊕ (es ++ ec)
      = ap (◌⊕◌ seed) (sum-append ds es c ec (sym f.in_message)) ∙ sym (sum_assoc seed (ds ++ c) (es ++ ec)) in
      let lt : length (seed ⊕ (ds ++ c) ⊕ (es ++ ec)) ≡ length (es ++ ec) = sum-length (seed ⊕ (ds ++ c)) (es ++ ec) (omega arith) in
      let x : seed ⊕ (ds ++ c) ⊕ (seed ⊕ (ds ++ c) ⊕ (es ++ ec)) ≡ es ++ ec = sum_cancel (seed ⊕ (ds ++ c)) (es ++ ec) (omega arith) in
      Iff.trans (rw e at (divides g (ds ⊕ es) seed (c ⊕ ec) f.in_seed lf))
      (λ m. rw x at (multiple_sum g k m (omega arith)), λ m. multiple_sum g k m (omega arith))

  -- Flips within w neighbouring bits pass only if there are none, if the generator's constant term is 1.
  pub burst_detected : EndsInOne g → (i : ℕ) → Burst i (length g) (es ++ ec) → Undetected g seed ds es ec → ones (es ++ ec) ≡ 0
  burst_detected h i w p = multiple_burst g h i w (detects.0 p)

  -- An odd number of flips never passes, if the generator has an even number of ones.
  pub odd_detected : EvenOnes g → ones (es ++ ec) % 2 ≡ 1 → Undetected g seed ds es ec → ⊥
  odd_detected h o p = omega (arith, multiple_even g h (detects.0 p))

  -- The bound on bursts is sharp: the generator itself, w + 1 bits, passes wherever it stands.
  pub generator_passes : (i j : ℕ) → es ++ ec ≡ zeros i ++ ((true ∷ g) ++ zeros j) → Undetected g seed ds es ec
  generator_passes i j e = detects.1 (rw e (multiple_generator g i j))
