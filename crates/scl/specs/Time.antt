-- 01, "Building, splitting, releasing": the clock is a 32-bit count of ms that wraps to zero. Assumes nothing.
use Rattle.std.specs.Prelude.{ℕ, ◌+◌, ◌-◌, ◌%◌, ◌^◌, Bool, nat_lt}

-- "Elapsed time is the difference modulo 2^32."
unfoldable pub elapsed_of : ℕ → ℕ → ℕ
elapsed_of now since = (now + (2 ^ 32 - since)) % 2 ^ 32

-- "The watchdog has expired when elapsed is above W."
abbrev pub expired_of : ℕ → ℕ → ℕ → Bool
expired_of now since w = nat_lt w (elapsed_of now since)
