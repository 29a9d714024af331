-- 01, "Answer numbers" (3 and 4) and "The parameter block": the ranges of the block's fields in the order of their offsets. Assumes nothing.
use Rattle.std.specs.Prelude.{ℕ, ◌||◌, List, [], ◌∷◌, eqb}
use Rattle.answer.specs.declared.Refusal.TheVariants.{PortMode, NoScl, FieldRange}
use Rattle.answer.specs.Rules.{Rule, rule}
use Rattle.ranges.specs.declared.fields.Described.{Described}
use Rattle.ranges.specs.Fields.{inside, outside, neither, length_broken, bits_broken}

abbrev pub mode_rules : ℕ → List Rule
mode_rules mode =
    rule (inside 5 48 mode || inside 52 96 mode || inside 97 255 mode) PortMode
    ∷ rule (inside 0 4 mode || eqb mode 51) NoScl
    ∷ []

-- offsets 3 to 13. Any PortCycleTime (5) will do; bits 6 and 7 of n (12) and p (13) are zero
abbrev pub device_rules : ℕ → ℕ → ℕ → ℕ → ℕ → ℕ → List Rule
device_rules validation iq vendor device n p =
    rule (outside 0 4 validation) (FieldRange 3)
    ∷ rule (neither 0 5 iq) (FieldRange 4)
    ∷ rule (outside 1 65535 vendor) (FieldRange 6)
    ∷ rule (outside 1 16777215 device) (FieldRange 8)
    ∷ rule (outside 0 63 n) (FieldRange 12)
    ∷ rule (outside 0 63 p) (FieldRange 13)
    ∷ []

-- offsets 22 to 27
abbrev pub protocol_rules : ℕ → ℕ → ℕ → ℕ → List Rule
protocol_rules port version protMode w =
    rule (outside 1 255 port) (FieldRange 22)
    ∷ rule (outside 1 255 version) (FieldRange 25)
    ∷ rule (neither 1 2 protMode) (FieldRange 26)
    ∷ rule (outside 1 65535 w) (FieldRange 27)
    ∷ []

-- offset 37
abbrev pub description_rules : ℕ → List Rule
description_rules version = rule (outside 1 1 version) (FieldRange 37) ∷ []

-- one direction's two offsets: its SPDU's length beside `other` octets of other data, and its bits
abbrev pub described_rules : ℕ → ℕ → ℕ → ℕ → Described → List Rule
described_rules lengthAt bitsAt protMode other d =
    rule (length_broken protMode other d.length d.octets d.int16 d.int32) (FieldRange lengthAt)
    ∷ rule (bits_broken d.bits d.octets) (FieldRange bitsAt)
    ∷ []

-- offsets 38 and 39: SPDUInLength m beside n octets of other data, and the input's bits
abbrev pub input_rules : ℕ → ℕ → ℕ → ℕ → ℕ → ℕ → ℕ → List Rule
input_rules protMode n m bits octets int16 int32 =
    described_rules 38 39 protMode n (record { length = m; bits = bits; octets = octets; int16 = int16; int32 = int32 })

-- offsets 43 and 44: SPDUOutLength o beside p octets of other data, and the output's bits
abbrev pub output_rules : ℕ → ℕ → ℕ → ℕ → ℕ → ℕ → ℕ → List Rule
output_rules protMode p o bits octets int16 int32 =
    described_rules 43 44 protMode p (record { length = o; bits = bits; octets = octets; int16 = int16; int32 = int32 })
