-- Document 01, "Numbers to try": the cases marked (*), as one table. Assumes nothing.
use Rattle.std.specs.Prelude.{◌≡◌, ℕ, List, [], ◌∷◌, map, slice_index}
use Rattle.histogram.specs.Samples.{bin_of}
use Rattle.scl.specs.Time.{elapsed_of}

-- what the two tables and our definitions give, and what the paper says
unfoldable pub rows : List ℕ → List ℕ → List (ℕ × ℕ)
rows short long =
    -- short table: entry 0 is 0, 1 is 0x4EAB, 2 is 0x9D56, 3 is 0xD3FD, 4 is 0x7407
    (slice_index short 0, 0)
    ∷ (slice_index short 1, 0x4EAB)
    ∷ (slice_index short 2, 0x9D56)
    ∷ (slice_index short 3, 0xD3FD)
    ∷ (slice_index short 4, 0x7407)
    -- long table: entry 1 is 0xF4ACFB13, entry 2 is 0x1DF50D35
    ∷ (slice_index long 1, 0xF4ACFB13)
    ∷ (slice_index long 2, 0x1DF50D35)
    -- W 99: t 3 is bin 0, t 4 is bin 1, t 99 is bin 31; W 1: t 1 is bin 16; W 65535: t 65535 is bin 31
    ∷ (bin_of 99 3, 0)
    ∷ (bin_of 99 4, 1)
    ∷ (bin_of 99 99, 31)
    ∷ (bin_of 1 1, 16)
    ∷ (bin_of 65535 65535, 31)
    -- elapsed from 4294967290 to 4 is 10
    ∷ (elapsed_of 4 4294967290, 10)
    ∷ []

-- the claim: in every row the two are equal
abbrev pub Agree : List (ℕ × ℕ) → Type 0
Agree table = map (λ row. row.0) table ≡ map (λ row. row.1) table
