-- Every answer arises, and the premises of `given_exactly` and `taken_exactly` can be met: computed. Assumes nothing.
use mathlib.Core.Path.{◌≡◌, refl}
use mathlib.Core.List.{List, [], ◌∷◌, map}
use Prim.Native.Nat.{ℕ}
use lib.Dec.{leb, lit<}
use Rattle.answer.specs.declared.Refusal.TheVariants.{
  BlockSize,
  BlockId,
  PortMode,
  NoScl,
  FieldRange,
  Signature,
  Buffer,
  NoPort,
  NotRunning,
  SpduLength,
  NoSamples,
  PortMismatch,
  Record,
}
use Rattle.answer.specs.Answers.{Taken, number_of, offset_of}
use Rattle.answer.specs.Rules.{Rule, rule, answer_by, First, Kept}
use Rattle.answer.proofs.Exact.{given_exactly, taken_exactly}

-- a rule for each refusal, those from place i on broken
abbrev broken_from : ℕ → List Rule
broken_from i =
    rule (leb i 0) BlockSize
    ∷ rule (leb i 1) BlockId
    ∷ rule (leb i 2) PortMode
    ∷ rule (leb i 3) NoScl
    ∷ rule (leb i 4) (FieldRange 38)
    ∷ rule (leb i 5) (Signature 23)
    ∷ rule (leb i 6) Buffer
    ∷ rule (leb i 7) NoPort
    ∷ rule (leb i 8) NotRunning
    ∷ rule (leb i 9) SpduLength
    ∷ rule (leb i 10) NoSamples
    ∷ rule (leb i 11) PortMismatch
    ∷ rule (leb i 12) Record
    ∷ []

abbrev answered : ℕ → ℕ × ℕ
answered i = let a = answer_by Taken (broken_from i) in (number_of a, offset_of a)

pub each-answer :
    map answered (0 ∷ 1 ∷ 2 ∷ 3 ∷ 4 ∷ 5 ∷ 6 ∷ 7 ∷ 8 ∷ 9 ∷ 10 ∷ 11 ∷ 12 ∷ 13 ∷ [])
    ≡ (1, 0) ∷ (2, 0) ∷ (3, 0) ∷ (4, 0) ∷ (5, 38) ∷ (6, 23) ∷ (7, 0) ∷ (8, 0) ∷ (9, 0) ∷ (10, 0) ∷ (11, 0) ∷ (12, 0) ∷ (13, 0) ∷ (0, 0) ∷ []
each-answer = refl

pub given_met : First (broken_from 7) 7
given_met = (given_exactly (broken_from 7) tt 7 (lit< tt)).0 refl

pub taken_met : Kept (broken_from 13)
taken_met = (taken_exactly (broken_from 13)).0 refl
