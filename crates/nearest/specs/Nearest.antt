-- 01, "The histogram and the trend": what it means that a conversion to a float is exact, and that a fraction is rounded once, to the float nearest
-- to it, over the values of `lib.Ieee`.
-- `HasValue x s a c` there says that x is finite, has the sign s, and is a / c in size. Assumes nothing.
use Rattle.std.specs.Prelude.{ℕ, ◌+◌, ◌-◌, ◌*◌, ◌≤◌, ◌≡◌, ◌⊎◌, false, pos, T, Float}
use Rattle.std.specs.Float.{Format, nan, inf, fin}
use Rattle.std.specs.Float.Ieee.{up, fits, of_int, to_unsigned}
use Rattle.std.specs.Float.Ieee.Exact.{HasValue}
use Rattle.std.specs.Float.Ieee.Positive.{num, den}

-- the whole number n, converted to the format f, is n, and n comes back from it
pub record Exact (f : Format) (n : ℕ) : Type 0 where
  pub value : HasValue (of_int f (pos n)) false n 1
  pub back : to_unsigned 64 (of_int f (pos n)) ≡ n

-- how far p / q lies from a / b, times q * b
abbrev pub apart : ℕ → ℕ → ℕ → ℕ → ℕ
apart p q a b = p * b - a * q + (a * q - p * b)

-- the weight of a finite value's last digit is `place` / `den`: m * 2 ^ e with an odd m has the last digit 2 ^ e
abbrev pub last_digit : Float → ℕ
last_digit nan = 1
last_digit (inf s) = 1
last_digit (fin s m e) = up e

-- Of the values of the format f that are not negative, x is the nearest to a / b, and of two that are as near it is the even one. (A value
-- below zero is farther off than 0 is.) A finite value y is `num y` / `den y` in size, so `near` says |x - a / b| ≤ |y - a / b|, with the
-- denominators multiplied out. `even` says that where the two are equal, x is the number y, or x is an even multiple of y's last digit.
pub record Nearest (f : Format) (x : Float) (a b : ℕ) : Type 0 where
  pub value : T (fits f x)
  pub size : HasValue x false (num x) (den x)
  pub near : (y : Float) → T (fits f y) → HasValue y false (num y) (den y) → apart (num x) (den x) a b * den y ≤ apart (num y) (den y) a b * den x
  pub even : (y : Float) → T (fits f y) → HasValue y false (num y) (den y) → apart (num x) (den x) a b * den y ≡ apart (num y) (den y) a b * den x
      → (num x * den y ≡ num y * den x) ⊎ ((q : ℕ) × (num x * den y ≡ 2 * q * last_digit y * den x))
