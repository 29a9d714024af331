-- The register is linear in its start and in the message, so n bits at once go by a table.
-- Assumes nothing.
use mathlib.Core.Path.{◌≡◌, refl, sym, ap, ap₂, ◌∙◌}
use mathlib.Core.Bool.{Bool, true, false}
use mathlib.Core.List.{List, [], ◌∷◌, ◌++◌, append-nil, append_assoc}
use Prim.Native.Nat.{ℕ, zero, suc, ◌≤◌}
use native.Mathlib.Omega.{arith}
use lib.ListN.{length, take, drop, length-append, length-replicate}
use lib.Seq.{length-take-le, take-append-le, drop-append-le}
use Rattle.gf2.specs.Polynomial.{◌⊕◌, zeros, Multiple}
use Rattle.gf2.specs.Register.{step, register}
use Rattle.gf2.proofs.Product.{multiple_sum}
use Rattle.gf2.proofs.Detect.{divides, register-length}
use Rattle.gf2.proofs.Sum.{sum_comm, sum_assoc, sum_left_comm, sum_cancel, sum-length, sum-append, sum_zeros, zeros-sum, shift-length}

pub register-append : (g r ds es : List Bool) → register g r (ds ++ es) ≡ register g (register g r ds) es
register-append g r [] es = refl
register-append g r (d ∷ ds) es = register-append g (step g r d) ds es

module _ (g : List Bool) where
  register-sum : (r s ds es : List Bool) → length r ≡ length g → length s ≡ length g → length ds ≡ length es
      → register g (r ⊕ s) (ds ⊕ es) ≡ register g r ds ⊕ register g s es
  register-sum r s ds es hr hs he =
      let a : List Bool = register g r ds in
      let b : List Bool = register g s es in
      let la : length a ≡ length g = register-length g ds r hr in
      let lb : length b ≡ length g = register-length g es s hs in
      let m : Multiple g (r ⊕ (ds ++ a)) = (divides g ds r a hr la).0 refl in
      let lm : length (r ⊕ (ds ++ a)) ≡ length (ds ++ a) = sum-length r (ds ++ a) (omega (arith, length-append ds a)) in
      let lk : length (s ⊕ (es ++ b)) ≡ length (es ++ b) = sum-length s (es ++ b) (omega (arith, length-append es b)) in
      let e : r ⊕ s ⊕ ((ds ⊕ es) ++ (a ⊕ b)) ≡ r ⊕ (ds ++ a) ⊕ (s ⊕ (es ++ b))
      = rw (sum-append ds es a b he) (simp (sum_assoc, sum_left_comm)) in
      (divides g (ds ⊕ es) (r ⊕ s) (a ⊕ b) (sum-length r s (omega arith) ∙ hs) (sum-length a b (omega arith) ∙ lb)).1
      (rw e (multiple_sum g m ((divides g es s b hs lb).0 refl) (omega (arith, length-append ds a, length-append es b))))

  -- the register's own first bits shift it
  own_step : (t : Bool) (r : List Bool) → length (t ∷ r) ≡ length g → step g (t ∷ r) t ≡ r ++ (false ∷ [])
  own_step true r h = sum_zeros (r ++ (false ∷ [])) (length g) (shift-length (true ∷ r) ∙ h)
  own_step false r h = sum_zeros (r ++ (false ∷ [])) (length g) (shift-length (false ∷ r) ∙ h)

  own : (n : ℕ) (r : List Bool) → n ≤ length r → length r ≡ length g → register g r (take n r) ≡ drop n r ++ zeros n
  own zero r l h = sym (append-nil r)
  own (suc n) [] l h = absurd (omega arith)
  own (suc n) (t ∷ r) l h =
      let k : n ≤ length r = omega arith in
      ap (λ (s : List Bool). register g s (take n r)) (own_step t r h)
      ∙ ap (register g (r ++ (false ∷ []))) (sym (take-append-le n r (false ∷ []) k))
      ∙ own n (r ++ (false ∷ [])) (omega (arith, length-append r (false ∷ []))) (shift-length (t ∷ r) ∙ h)
      ∙ ap (λ (s : List Bool). s ++ zeros n) (drop-append-le n r (false ∷ []) k)
      ∙ append_assoc (drop n r) (false ∷ []) (zeros n)

  -- n bits at once: the table's entry at the register's first n bits and the data's, added up, and the register shifted by n
  pub by_table_lem : (n : ℕ) (r ds : List Bool) → n ≤ length g → length r ≡ length g → length ds ≡ n
      → register g r ds ≡ register g (zeros (length g)) (take n r ⊕ ds) ⊕ (drop n r ++ zeros n)
  by_table_lem n r ds l h k =
      let t : length (take n r) ≡ n = length-take-le n r (omega arith) in
      let z : zeros (length g) ⊕ r ≡ r = zeros-sum (length g) r (omega arith) in
      let c : take n r ⊕ ds ⊕ take n r ≡ ds = sum_comm (take n r ⊕ ds) (take n r) ∙ sum_cancel (take n r) ds (omega arith) in
      ap₂ (register g) (sym z) (sym c)
      ∙ register-sum (zeros (length g)) r (take n r ⊕ ds) (take n r) (length-replicate (length g) false) h
      (sum-length (take n r) ds (omega arith) ∙ k ∙ sym t)
      ∙ ap (◌⊕◌ (register g (zeros (length g)) (take n r ⊕ ds))) (own n r (omega arith) h)
