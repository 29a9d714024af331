-- What the ranges of 01 ("The parameter block") are made of. Assumes nothing.
use Rattle.std.specs.Prelude.{ℕ, ◌+◌, ◌*◌, ◌-◌, Bool, cond, not, ◌&&◌, ◌||◌, eqb, leb, ltb}

-- x is one of low to high
abbrev pub inside : ℕ → ℕ → ℕ → Bool
inside low high x = leb low x && leb x high

abbrev pub outside : ℕ → ℕ → ℕ → Bool
outside low high x = not (inside low high x)

-- x is neither a nor b
abbrev pub neither : ℕ → ℕ → ℕ → Bool
neither a b x = not (eqb x a || eqb x b)

-- H, the octets of an SPDU that are not process data: port number, control or status, and the signature (R1)
abbrev pub safety_octets : ℕ → ℕ
safety_octets protMode = cond (eqb protMode 1) 4 6

-- 000 11.4.7: the most process octets for the signature's width (R4)
abbrev pub most_process_octets : ℕ → ℕ
most_process_octets protMode = cond (eqb protMode 1) 3 25

-- An SPDU's length beside `other` octets of other data: it is 5 to 32 - other; it equals H and the octets of its set; and its process octets
-- are not too many. (A difference below zero is zero, so beside more than 27 octets no length fits.)
abbrev pub length_broken : ℕ → ℕ → ℕ → ℕ → ℕ → ℕ → Bool
length_broken protMode other length octets int16 int32 =
    outside 5 (32 - other) length
    || not (eqb length (safety_octets protMode + octets + 2 * int16 + 4 * int32))
    || ltb (safety_octets protMode + most_process_octets protMode) length

-- more bits than their octets hold
abbrev pub bits_broken : ℕ → ℕ → Bool
bits_broken bits octets = ltb (8 * octets) bits
