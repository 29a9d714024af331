-- Readings of the calls since a block at one end of a port. In every list the latest happening stands first. Assumes nothing.
use Rattle.std.specs.Prelude.{ℕ, Bool, cond, List, [], ◌∷◌}
use Rattle.scl.specs.Happenings.{reading_of}
use Rattle.scl.specs.declared.Happening.{Happening}

-- the reading of the last call of which a test holds, by the machine before the call and what happened; or the block's
module _ {M : Type 0} (after : List Happening → M) (test : M → Happening → Bool) (at : ℕ) where
  unfoldable pub last_reading : List Happening → ℕ
  last_reading [] = at
  last_reading (h ∷ past) = cond (test (after past) h) (reading_of h) (last_reading past)
