-- Method, 000 Annex D, D.3.3 and D.3.5: the same by a lookup table, n bits of data at a time. 000 has n = 8, an octet, and so has the short
-- signature here; the long one has n = 4, half an octet (02, item 4). Assumes nothing.
use Rattle.std.specs.Prelude.{◌≡◌, List, [], ◌∷◌, ℕ, zero, suc, ◌*◌, ◌/◌, ◌%◌, ◌^◌, ◌-◌, ◌<◌, length, get_or}
use Rattle.std.specs.Int.Bits.{bit_xor}
use Rattle.gf2.specs.Bits.{bits}
use Rattle.signature.specs.Signature.{shift_in_all}

-- the division of an index of n bits: n turns of the loop from the register 0 (01, "the eight-step division of its index", has n = 8)
unfoldable pub division : ℕ → ℕ → ℕ → ℕ → ℕ
division w g n i = shift_in_all w g 0 (bits n i)

-- a lookup table for n bits: an entry for each index, each the division of its index
pub record Table (w g n : ℕ) (table : List ℕ) : Type 0 where
  pub size : length table ≡ 2 ^ n
  pub entry : (i : ℕ) → i < 2 ^ n → get_or table i 0 ≡ division w g n i

-- Figures D.4 and D.6, over any table: the register's first n bits and the data's pick the entry, and the rest of the register shifts left
abbrev pub look_up : ℕ → ℕ → List ℕ → ℕ → ℕ → ℕ
look_up w n table r x = bit_xor (get_or table (bit_xor (r / 2 ^ (w - n)) x % 2 ^ n) 0) (r * 2 ^ n % 2 ^ w)

-- the lowest n * k bits of x by k look-ups of n bits each, the highest first
abbrev pub look_ups : ℕ → ℕ → List ℕ → ℕ → ℕ → ℕ → ℕ
look_ups w n table zero r x = r
look_ups w n table (suc k) r x = look_up w n table (look_ups w n table k r (x / 2 ^ n)) x

-- an octet: one look-up of 8 bits, two of 4
abbrev pub octet_by_table : ℕ → ℕ → List ℕ → ℕ → ℕ → ℕ
octet_by_table w n table r x = look_ups w n table (8 / n) r x

-- octet by octet, from the register r
unfoldable pub by_table : ℕ → ℕ → List ℕ → ℕ → List ℕ → ℕ
by_table w n table r [] = r
by_table w n table r (x ∷ xs) = by_table w n table (octet_by_table w n table r x) xs
