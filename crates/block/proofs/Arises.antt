-- Every answer to a block arises, and so the premises of `given`, `taken`, `taken_params`, `refused-params`, `accepted` and `in_turn_lem` can be met:
-- computed. Assumes nothing.
use mathlib.Core.Path.{◌≡◌, refl}
use mathlib.Core.Bool.{true, and-eq-true_iff}
use mathlib.Core.List.{List, [], ◌∷◌, ◌++◌, map}
use Prim.Native.Nat.{ℕ, zero, suc}
use native.Mathlib.Omega.{arith}
use borrow.Author.Tests.{ltb-true}
use lib.Dec.{ltb, lit<}
use lib.ListN.{drop, set}
use lib.Pow.{are_bytes}
use Rattle.answer.specs.Answers.{Taken, number_of, offset_of}
use Rattle.answer.specs.Rules.{answer_by, First, Kept}
use Rattle.signature.specs.Signature.{shift_in, shift_in_all, octet, signature}
use Rattle.block.specs.Octets.{Octets}
use Rattle.block.specs.Table22.{block_of, parameter_signature, computed, params_of}
use Rattle.block.specs.Rules.{rules_on, no_params, judged, params_in}
use Rattle.block.specs.Accepted.{Accepted}
use Rattle.block.proofs.Answered.{given, taken, taken_params, refused-params}
use Rattle.block.proofs.Bounds.{accepted}
use Rattle.block.proofs.Whole.{in_turn, in_turn_lem}

pub octets_of_lem : (s : List ℕ) → are_bytes s ≡ true → Octets s
octets_of_lem [] h k = omega arith
octets_of_lem (x ∷ s) h zero = ltb-true x 256 ((and-eq-true_iff (ltb x 256) (are_bytes s)).0 h).0
octets_of_lem (x ∷ s) h (suc k) = octets_of_lem s ((and-eq-true_iff (ltb x 256) (are_bytes s)).0 h).1 k

-- SAFETYCOM at port 1 with the short signature: no other data, and one octet of bits each way
abbrev pub good : List ℕ
good =
    -- ArgBlockID, PortMode, Validation&Backup, I/Q behavior, PortCycleTime, VendorID, DeviceID, InputDataLength, OutputDataLength
    0x80 ∷ 0x01 ∷ 49 ∷ 0 ∷ 0 ∷ 0 ∷ 0 ∷ 1 ∷ 0 ∷ 0 ∷ 0 ∷ 1 ∷ 0 ∷ 0
    -- FSCP_Authenticity1, FSCP_Authenticity2, FSP_Port, FSP_AuthentCRC
    ∷ 0 ∷ 0 ∷ 0 ∷ 0 ∷ 0 ∷ 0 ∷ 0 ∷ 0 ∷ 1 ∷ 0x4E ∷ 0xAB
    -- FSP_ProtVersion, FSP_ProtMode, FSP_WatchdogTime, FSP_IO_StructCRC, FSP_TechParCRC, FSP_ProtParCRC
    ∷ 1 ∷ 1 ∷ 0 ∷ 100 ∷ 0xA3 ∷ 0xEA ∷ 0 ∷ 0 ∷ 0 ∷ 0 ∷ 0x6A ∷ 0xF9
    -- IO_DescVersion, and of each direction the SPDU's length, bits, octets and integers
    ∷ 1 ∷ 5 ∷ 8 ∷ 1 ∷ 0 ∷ 0 ∷ 5 ∷ 1 ∷ 1 ∷ 0 ∷ 0 ∷ []

-- the answer's number and offset
abbrev answered : List ℕ → ℕ → ℕ × ℕ
answered s port = let a = judged s port in (number_of a, offset_of a)

-- the good block, and for each rule, in their order, one that breaks it; and the answer
abbrev rows : List ((ℕ × ℕ) × (ℕ × ℕ))
rows =
    (answered good 1, (0, 0))
    ∷ (answered good 0, (8, 0))
    ∷ (answered good 9, (8, 0))
    ∷ (answered (drop 1 good) 1, (1, 0))
    ∷ (answered (good ++ 0 ∷ []) 1, (1, 0))
    ∷ (answered (set good 0 0) 1, (2, 0))
    ∷ (answered (set good 2 5) 1, (3, 0))
    ∷ (answered (set good 2 51) 1, (4, 0))
    ∷ (answered (set good 3 5) 1, (5, 3))
    ∷ (answered (set good 4 1) 1, (5, 4))
    ∷ (answered (set good 7 0) 1, (5, 6))
    ∷ (answered (set good 11 0) 1, (5, 8))
    ∷ (answered (set good 12 64) 1, (5, 12))
    ∷ (answered (set good 13 64) 1, (5, 13))
    ∷ (answered (set good 22 0) 1, (5, 22))
    ∷ (answered (set good 25 0) 1, (5, 25))
    ∷ (answered (set good 26 3) 1, (5, 26))
    ∷ (answered (set good 28 0) 1, (5, 27))
    ∷ (answered (set good 37 0) 1, (5, 37))
    ∷ (answered (set good 38 6) 1, (5, 38))
    ∷ (answered (set good 39 9) 1, (5, 39))
    ∷ (answered (set good 43 6) 1, (5, 43))
    ∷ (answered (set good 44 9) 1, (5, 44))
    ∷ (answered good 2, (12, 0))
    ∷ (answered good 8, (12, 0))
    ∷ (answered (set good 14 1) 1, (6, 23))
    ∷ (answered (set good 39 7) 1, (6, 29))
    ∷ (answered (set good 31 1) 1, (6, 35))
    ∷ []

pub each-answer : map (λ row. row.0) rows ≡ map (λ row. row.1) rows
unfolding signature octet shift_in_all shift_in
each-answer = refl

pub given_met : First (rules_on (set good 28 0) 1) 14
unfolding signature octet shift_in_all shift_in
given_met = (given (set good 28 0) 1 14 (lit< tt)).0 refl

pub taken_met : Kept (rules_on good 1)
unfolding signature octet shift_in_all shift_in
taken_met = (taken good 1).0 refl

pub taken_params_met : params_in (judged good 1) ≡ params_of good
unfolding signature octet shift_in_all shift_in
taken_params_met = taken_params good 1 refl

pub refused_params_met : params_in (judged good 9) ≡ no_params
refused_params_met = refused-params good 9 refl

pub accepted_met : Accepted 1 (params_in (judged good 1))
unfolding signature octet shift_in_all shift_in
accepted_met = accepted good 1 (octets_of_lem good refl) refl

pub in_turn_met : in_turn (block_of good) (computed parameter_signature good) 1 ≡ answer_by Taken (rules_on good 1)
in_turn_met = in_turn_lem parameter_signature good 1 refl refl

-- the block whose octet k is k: each element stands at its offset of Table 22, in its width, most significant octet first
abbrev counting : List ℕ
counting =
    0 ∷ 1 ∷ 2 ∷ 3 ∷ 4 ∷ 5 ∷ 6 ∷ 7 ∷ 8 ∷ 9 ∷ 10 ∷ 11 ∷ 12 ∷ 13 ∷ 14 ∷ 15 ∷ 16 ∷ 17 ∷ 18 ∷ 19 ∷ 20 ∷ 21 ∷ 22 ∷ 23
    ∷ 24 ∷ 25 ∷ 26 ∷ 27 ∷ 28 ∷ 29 ∷ 30 ∷ 31 ∷ 32 ∷ 33 ∷ 34 ∷ 35 ∷ 36 ∷ 37 ∷ 38 ∷ 39 ∷ 40 ∷ 41 ∷ 42 ∷ 43 ∷ 44 ∷ 45 ∷ 46 ∷ 47 ∷ []

pub places : params_of counting ≡ record {
  PortMode = 2;
  ValidationBackup = 3;
  IQBehavior = 4;
  PortCycleTime = 5;
  VendorID = 0x0607;
  DeviceID = 0x08090A0B;
  InputDataLength = 12;
  OutputDataLength = 13;
  FSCP_Authenticity1 = 0x0E0F1011;
  FSCP_Authenticity2 = 0x12131415;
  FSP_Port = 22;
  FSP_ProtVersion = 25;
  FSP_ProtMode = 26;
  FSP_WatchdogTime = 0x1B1C;
  FSP_TechParCRC = 0x1F202122;
  IO_DescVersion = 37;
  SPDUInLength = 38;
  TotalOfInBits = 39;
  TotalOfInOctets = 40;
  TotalOfInInt16 = 41;
  TotalOfInInt32 = 42;
  SPDUOutLength = 43;
  TotalOfOutBits = 44;
  TotalOfOutOctets = 45;
  TotalOfOutInt16 = 46;
  TotalOfOutInt32 = 47;
}
places = refl

pub carried_places : ((block_of counting).ArgBlockID ≡ 0x0001) × ((block_of counting).signatures ≡ record { FSP_AuthentCRC = 0x1718; FSP_IO_StructCRC = 0x1D1E; FSP_ProtParCRC = 0x2324 })
carried_places = (refl, refl)
