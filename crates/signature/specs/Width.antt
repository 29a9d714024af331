-- What a register's width w, its generator g and the number n of bits of a look-up's index keep to. Assumes nothing.
use Rattle.std.specs.Prelude.{◌≡◌, ℕ, ◌*◌, ◌/◌, ◌^◌, ◌<◌, ◌≤◌}

pub record Fits (w g n : ℕ) : Type 0 where
  -- the generator is a register's value
  pub generator : g < 2 ^ w
  -- an index is of a register's bits, of one at least
  pub some : 0 < n
  pub within : n ≤ w
  -- an octet is a whole number of look-ups
  pub whole : n * (8 / n) ≡ 8
