-- Each end of each range, and each reason for which a length is refused, arises: computed. Assumes nothing.
use mathlib.Core.Path.{◌≡◌, refl}
use mathlib.Core.List.{List, [], ◌∷◌, ◌++◌, map}
use Prim.Native.Nat.{ℕ}
use Rattle.answer.specs.Answers.{Taken, refusal_offset, number_of, offset_of}
use Rattle.answer.specs.Rules.{Rule, rule, answer_by}
use Rattle.ranges.specs.Rules.{mode_rules, device_rules, protocol_rules, description_rules, input_rules, output_rules}

abbrev answered : List Rule → ℕ × ℕ
answered rules = let a = answer_by Taken rules in (number_of a, offset_of a)

-- "mode is 5 to 48, 52 to 96 or 97 to 255" (3), "mode is 0 to 4 or 51" (4)
pub each-mode :
    map (λ m. answered (mode_rules m)) (0 ∷ 4 ∷ 5 ∷ 48 ∷ 49 ∷ 50 ∷ 51 ∷ 52 ∷ 96 ∷ 97 ∷ 255 ∷ [])
    ≡ (4, 0) ∷ (4, 0) ∷ (3, 0) ∷ (3, 0) ∷ (0, 0) ∷ (0, 0) ∷ (4, 0) ∷ (3, 0) ∷ (3, 0) ∷ (3, 0) ∷ (3, 0) ∷ []
each-mode = refl

-- FSP_ProtMode, n, m, bits, octets, 16-bit and 32-bit integers, and the answer
abbrev rows : List ((ℕ × ℕ) × (ℕ × ℕ))
rows =
    -- 01, "Numbers to try": n 27, m 5 is in range; n 28, m 5 answers 5 at 38
    (answered (input_rules 1 27 5 8 1 0 0), (0, 0))
    ∷ (answered (input_rules 1 28 5 8 1 0 0), (5, 38))
    -- too short; another sum; too many process octets, in each mode; too many bits
    ∷ (answered (input_rules 1 0 4 0 0 0 0), (5, 38))
    ∷ (answered (input_rules 1 0 6 8 1 0 0), (5, 38))
    ∷ (answered (input_rules 1 0 7 8 1 1 0), (0, 0))
    ∷ (answered (input_rules 1 0 8 0 0 0 1), (5, 38))
    ∷ (answered (input_rules 2 0 31 8 1 2 5), (0, 0))
    ∷ (answered (input_rules 2 0 32 0 0 1 6), (5, 38))
    ∷ (answered (input_rules 1 0 5 9 1 0 0), (5, 39))
    ∷ (answered (input_rules 1 0 6 16 2 0 0), (0, 0))
    ∷ (answered (input_rules 1 0 6 17 2 0 0), (5, 39))
    -- the same of the output: p, o
    ∷ (answered (output_rules 1 27 5 8 1 0 0), (0, 0))
    ∷ (answered (output_rules 1 28 5 8 1 0 0), (5, 43))
    ∷ (answered (output_rules 1 0 7 8 1 1 0), (0, 0))
    ∷ (answered (output_rules 2 0 31 8 1 2 5), (0, 0))
    ∷ (answered (output_rules 2 0 32 0 0 1 6), (5, 43))
    ∷ (answered (output_rules 1 0 5 9 1 0 0), (5, 44))
    ∷ []

pub each-length : map (λ row. row.0) rows ≡ map (λ row. row.1) rows
each-length = refl

-- 01, "The ranges that answer 5": both ends of each, and what lies past them
abbrev ends : List ((ℕ × ℕ) × (ℕ × ℕ))
ends =
    -- offset 3: 0 to 4; 4: 0 or 5 only; 6: 1 to 65535; 8: 1 to 16777215; 12 and 13: bits 6 and 7 are zero
    (answered (device_rules 0 0 1 1 0 0), (0, 0))
    ∷ (answered (device_rules 4 5 65535 16777215 63 63), (0, 0))
    ∷ (answered (device_rules 5 0 1 1 0 0), (5, 3))
    ∷ (answered (device_rules 0 1 1 1 0 0), (5, 4))
    ∷ (answered (device_rules 0 4 1 1 0 0), (5, 4))
    ∷ (answered (device_rules 0 6 1 1 0 0), (5, 4))
    ∷ (answered (device_rules 0 0 0 1 0 0), (5, 6))
    ∷ (answered (device_rules 0 0 1 0 0 0), (5, 8))
    ∷ (answered (device_rules 0 0 1 16777216 0 0), (5, 8))
    ∷ (answered (device_rules 0 0 1 1 64 0), (5, 12))
    ∷ (answered (device_rules 0 0 1 1 0 64), (5, 13))
    -- 22: 1 to 255; 25: 1 to 255; 26: 1 or 2; 27: 1 to 65535; 37: 1
    ∷ (answered (protocol_rules 1 1 1 1), (0, 0))
    ∷ (answered (protocol_rules 255 255 2 65535), (0, 0))
    ∷ (answered (protocol_rules 0 1 1 1), (5, 22))
    ∷ (answered (protocol_rules 1 0 1 1), (5, 25))
    ∷ (answered (protocol_rules 1 1 0 1), (5, 26))
    ∷ (answered (protocol_rules 1 1 3 1), (5, 26))
    ∷ (answered (protocol_rules 1 1 1 0), (5, 27))
    ∷ (answered (description_rules 0), (5, 37))
    ∷ (answered (description_rules 1), (0, 0))
    ∷ (answered (description_rules 2), (5, 37))
    ∷ []

pub each_end : map (λ row. row.0) ends ≡ map (λ row. row.1) ends
each_end = refl

abbrev offsets_in : List Rule → List ℕ
offsets_in [] = []
offsets_in (rule broken refusal ∷ rules) = refusal_offset refusal ∷ offsets_in rules

-- "the lowest such offset is returned": the offsets are looked at in their order, whatever stands in the block
pub lowest_first : (x : ℕ)
    → offsets_in (device_rules x x x x x x ++ protocol_rules x x x x ++ description_rules x ++ input_rules x x x x x x x ++ output_rules x x x x x x x)
    ≡ 3 ∷ 4 ∷ 6 ∷ 8 ∷ 12 ∷ 13 ∷ 22 ∷ 25 ∷ 26 ∷ 27 ∷ 37 ∷ 38 ∷ 39 ∷ 43 ∷ 44 ∷ []
lowest_first x = refl
