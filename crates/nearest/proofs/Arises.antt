-- The premises of `exact`, `rounded_once` and `quotient_nearest` can be met: 1 / 3, in both formats; and at a tie the even value alone is nearest.
-- Assumes nothing.
use mathlib.Core.Path.{◌≡◌, refl}
use mathlib.Core.Logic.{◌⊎◌, inl, inr}
use mathlib.Core.Bool.{false}
use Prim.Native.Nat.{ℕ, ◌*◌}
use native.Mathlib.Omega.{arith}
use lib.IntN.{pos}
use lib.Ieee.{Float, Format, fin, binary32, binary64, fits, round, of_int, div}
use lib.Ieee.Positive.{num, den}
use Rattle.nearest.specs.Nearest.{Exact, last_digit, Nearest}
use Rattle.nearest.proofs.Whole.{exact, rounded_once}
use Rattle.nearest.proofs.Closest.{quotient_nearest}

pub exact_met : Exact binary64 16777216 × Exact binary32 16777216
exact_met = (exact binary64 16777216 (omega arith) (omega arith), exact binary32 16777216 (omega arith) (omega arith))

abbrev Third : Format → Type 0
Third f = (div f (of_int f (pos 1)) (of_int f (pos 3)) ≡ round f false 1 3) × Nearest f (round f false 1 3) 1 3

pub third_met : Third binary64 × Third binary32
third_met = (
  (rounded_once binary64 1 3 (omega arith) (omega arith) (omega arith), quotient_nearest binary64 1 3 (omega arith) (omega arith)),
  (rounded_once binary32 1 3 (omega arith) (omega arith) (omega arith), quotient_nearest binary32 1 3 (omega arith) (omega arith)),
)

-- 2^24 + 1 lies halfway between two values of f32, 2^24 and 2^24 + 2, which is an odd multiple of its last digit: that one is not the nearest
abbrev even : Float
even = fin false 1 (pos 24)

abbrev odd : Float
odd = fin false 8388609 (pos 1)

pub odd_refused : Nearest binary32 odd 16777217 1 → ⊥
unfolding fits
odd_refused n = go (n.even even tt (refl, refl) refl)
  where
    go : (num odd * den even ≡ num even * den odd) ⊎ ((q : ℕ) × (num odd * den even ≡ 2 * q * last_digit even * den odd)) → ⊥
    go (inl e) = omega (arith, e)
    go (inr (q, e)) = omega (arith, e)
