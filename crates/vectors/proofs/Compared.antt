-- A loop over a printed table that counts the entries that differ. Assumes nothing.
use Rattle.std.proofs.Common.{◌≡◌, ℕ, ◌+◌, ◌<◌, ◌≤◌, cond, eqb, List, get_or, refl, ap, ◌∙◌, ap₂, add-one, arith}
use Rattle.vectors.specs.Compared.{divided, differ_among, compared_all}

-- all entries before i are compared, and `differ` of them differ
pub record DifferBefore (width : ℕ) (printed : List ℕ) (differ i : ℕ) : Type 0 where
  pub within : i ≤ 256
  pub counted : differ ≡ differ_among width printed i
  pub below : differ ≤ i

module _ {width : ℕ} {printed : List ℕ} where
  pub start : DifferBefore width printed 0 0
  unfolding differ_among
  start = record { within = omega arith; counted = refl; below = omega arith }

  pub again : {differ i ours one : ℕ} → DifferBefore width printed differ i → i < 256 → ours ≡ divided width i
      → one ≡ cond (eqb (get_or printed i 0) ours) 0 1 → one ≤ 1 → DifferBefore width printed (differ + one) (i + 1)
  unfolding differ_among
  again {differ} {i} {ours} {one} inv more division e small =
      let counts : one ≡ cond (eqb (get_or printed i 0) (divided width i)) 0 1 = rw division at e in
      record { within = omega arith; counted = rw add-one (ap₂ ◌+◌ inv.counted counts); below = omega (arith, inv.below) }

  pub done : {differ i : ℕ} → DifferBefore width printed differ i → 256 ≤ i → record { entries = i; differ = differ } ≡ compared_all width printed
  done {differ} {i} inv end =
      let all : i ≡ 256 = omega (arith, inv.within) in
      ap₂ (λ (k n : ℕ). record { entries = k; differ = n }) all (inv.counted ∙ ap (differ_among width printed) all)
