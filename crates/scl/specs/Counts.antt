-- 000 Table 33: MCount and DCount_i, numbers of three bits. Of a larger number its three lowest bits count. Assumes nothing.
use Rattle.std.specs.Prelude.{ℕ, ◌+◌, ◌-◌, ◌%◌, cond, ◌==◌}

-- "MCount = MCount + 1; if MCount = 8 then MCount = 1" (000 Table 38)
abbrev pub count_after : ℕ → ℕ
count_after count = cond (count % 8 + 1 == 8) 1 (count % 8 + 1)

-- MCount_inv, DCount_i: the three bits inverted
abbrev pub inverted : ℕ → ℕ
inverted count = 7 - count % 8
