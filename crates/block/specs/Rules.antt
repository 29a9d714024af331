-- 01, "Answer numbers" and "The parameter block": the rules on a block in the order 8, 1, 2, 3, 4, 5, 12, 6. The ranges of 3 to 5 are the crate
-- `ranges`'s. Assumes nothing.
use Rattle.std.specs.Prelude.{ℕ, not, List, [], ◌∷◌, ◌++◌, eqb, length, Result, Ok, Err}
use Rattle.answer.specs.declared.Refusal.{Refusal}
use Rattle.answer.specs.declared.Refusal.TheVariants.{BlockSize, BlockId, Signature, NoPort, PortMismatch}
use Rattle.answer.specs.Answers.{Taken, with_value}
use Rattle.answer.specs.Rules.{Rule, rule, answer_by}
use Rattle.ranges.specs.Fields.{outside}
use Rattle.ranges.specs.Rules.{mode_rules, device_rules, protocol_rules, description_rules, input_rules, output_rules}
use Rattle.block.specs.declared.Params.{Params}
use Rattle.block.specs.declared.Signatures.{Signatures}
use Rattle.block.specs.declared.Block.{Block}
use Rattle.block.specs.Table22.{params_of, block_of, parameter_signature, computed}

-- the port addressed, and the block's size
abbrev pub size_rules : List ℕ → ℕ → List Rule
size_rules s port = rule (outside 1 8 port) NoPort ∷ rule (not (eqb (length s) 48)) BlockSize ∷ []

abbrev pub id_rules : Block → List Rule
id_rules b = rule (not (eqb b.ArgBlockID 0x8001)) BlockId ∷ []

-- each element in its range, offset for offset
abbrev pub field_rules : Block → List Rule
field_rules b =
    let p = b.params in
    mode_rules p.PortMode
    ++ (device_rules p.ValidationBackup p.IQBehavior p.VendorID p.DeviceID p.InputDataLength p.OutputDataLength
    ++ (protocol_rules p.FSP_Port p.FSP_ProtVersion p.FSP_ProtMode p.FSP_WatchdogTime
    ++ (description_rules b.params.IO_DescVersion
    ++ (input_rules p.FSP_ProtMode p.InputDataLength p.SPDUInLength p.TotalOfInBits p.TotalOfInOctets p.TotalOfInInt16 p.TotalOfInInt32
    ++ output_rules p.FSP_ProtMode p.OutputDataLength p.SPDUOutLength p.TotalOfOutBits p.TotalOfOutOctets p.TotalOfOutInt16 p.TotalOfOutInt32))))

-- FSP_Port is the port addressed, and the three signatures are right
abbrev pub agreement_rules : Block → Signatures → ℕ → List Rule
agreement_rules b right port =
    let found = b.signatures in
    rule (not (eqb b.params.FSP_Port port)) PortMismatch
    ∷ rule (not (eqb found.FSP_AuthentCRC right.FSP_AuthentCRC)) (Signature 23)
    ∷ rule (not (eqb found.FSP_IO_StructCRC right.FSP_IO_StructCRC)) (Signature 29)
    ∷ rule (not (eqb found.FSP_ProtParCRC right.FSP_ProtParCRC)) (Signature 35)
    ∷ []

-- all rules on the octets s, addressed to a port; by a method of signing, and by the signature itself
abbrev pub rules_by : (List ℕ → ℕ) → List ℕ → ℕ → List Rule
rules_by sign s port = size_rules s port ++ (id_rules (block_of s) ++ (field_rules (block_of s) ++ agreement_rules (block_of s) (computed sign s) port))

abbrev pub rules_on : List ℕ → ℕ → List Rule
rules_on s port = rules_by parameter_signature s port

-- no parameters: zeros
abbrev pub no_params : Params
no_params = record {
  PortMode = 0;
  ValidationBackup = 0;
  IQBehavior = 0;
  PortCycleTime = 0;
  VendorID = 0;
  DeviceID = 0;
  InputDataLength = 0;
  OutputDataLength = 0;
  FSCP_Authenticity1 = 0;
  FSCP_Authenticity2 = 0;
  FSP_Port = 0;
  FSP_ProtVersion = 0;
  FSP_ProtMode = 0;
  FSP_WatchdogTime = 0;
  FSP_TechParCRC = 0;
  IO_DescVersion = 0;
  SPDUInLength = 0;
  TotalOfInBits = 0;
  TotalOfInOctets = 0;
  TotalOfInInt16 = 0;
  TotalOfInInt32 = 0;
  SPDUOutLength = 0;
  TotalOfOutBits = 0;
  TotalOfOutOctets = 0;
  TotalOfOutInt16 = 0;
  TotalOfOutInt32 = 0;
}

-- with TAKEN the block's parameters
abbrev pub judged_by : (List ℕ → ℕ) → List ℕ → ℕ → Result Params Refusal
judged_by sign s port = with_value (answer_by Taken (rules_by sign s port)) (params_of s)

abbrev pub judged : List ℕ → ℕ → Result Params Refusal
judged s port = judged_by parameter_signature s port

-- the parameters that are told of a block: of a refused one zeros
abbrev pub params_in : Result Params Refusal → Params
params_in (Ok p) = p
params_in (Err r) = no_params
