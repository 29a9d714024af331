-- The fewest digits that hold a number are its numeral. Assumes nothing.
use Prim.Native.Nat.{ℕ, zero, suc, ◌-◌, ◌*◌, ◌/◌, ◌%◌, ◌^◌, ◌≤◌, ◌<◌}
use mathlib.Core.Path.{◌≡◌, refl, ap}
use mathlib.Core.List.{List, [], ◌∷◌, ◌++◌}
use native.Mathlib.Omega.{arith}
use native.Mathlib.Nat.{pow-succ', pow-le-pow_right}
use borrow.Author.Tests.{lt-ltb, le-ltb, leb-true, leb-false}
use mathlib.Core.Bool.{Bool, true, false}
use lib.Dec.{leb}
use Rattle.io.specs.Digits.{last_digits, hex_digit_ascii, IsDigitCount}
use Rattle.lines.specs.Text.{last_digit, numeral_by, numeral}

last : (n : ℕ) → (hex_digit_ascii (n % 10) ∷ []) ≡ last_digit n
last n = rw (lt-ltb (n % 10) 10 (omega arith))

spelt : (f k n : ℕ) → k ≤ f → n < 10 ^ suc k → (1 < suc k → 10 ^ k ≤ n) → last_digits 10 (suc k) n ≡ numeral_by f n
spelt zero zero n h a b = last n
spelt (suc f) zero n h a b = rw (lt-ltb n 10 (omega arith)) (last n)
spelt zero (suc k) n h a b = absurd (omega arith)
spelt (suc f) (suc k) n h a b =
    let p : 10 ^ suc k ≤ n = b (omega arith) in
    let q : 10 ^ suc (suc k) ≡ 10 * 10 ^ suc k = pow-succ' 10 (suc k) in
    let r : 10 ^ suc k ≡ 10 * 10 ^ k = pow-succ' 10 k in
    let z : 10 ^ 0 ≤ 10 ^ k = pow-le-pow_right (omega arith) {i = 0} {j = k} (omega arith) in
    rw (le-ltb n 10 (omega arith), ← last n)
    (ap (λ (l : List ℕ). l ++ (hex_digit_ascii (n % 10) ∷ [])) (spelt f k (n / 10) (omega arith) (omega arith) (λ g. omega arith)))

pub numeral_of : (r n : ℕ) → IsDigitCount 10 1 n r → r ≤ 20 → last_digits 10 r n ≡ numeral n
unfolding numeral
numeral_of zero n w h = absurd (omega (arith, w.0))
numeral_of (suc k) n w h =
    let e : suc k - 1 ≡ k = omega arith in
    spelt 19 k n (omega arith) w.1 (λ g. rw e at (w.2 g))

few_by : (b : Bool) (r n : ℕ) → leb r 20 ≡ b → IsDigitCount 10 1 n r → n < 2 ^ 64 → r ≤ 20
few_by true r n e w h = leb-true r 20 e
few_by false r n e w h =
    let g : 20 < r = leb-false r 20 e in
    let p : 10 ^ 20 ≤ 10 ^ (r - 1) = pow-le-pow_right (omega arith) {i = 20} {j = r - 1} (omega arith) in
    absurd (omega (arith, w.2 (omega arith)))

-- a u64 has at most 20
pub few : (r n : ℕ) → IsDigitCount 10 1 n r → n < 2 ^ 64 → r ≤ 20
few r n = few_by (leb r 20) r n refl
