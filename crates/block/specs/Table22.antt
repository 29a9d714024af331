-- 000 Table 22, FSPortConfigList: where each element stands, and what its three signatures cover. Assumes nothing.
use Rattle.std.specs.Prelude.{ℕ, List}
use Rattle.gf2.specs.Generators.{generator16}
use Rattle.signature.specs.declared.Engine.{Engine}
use Rattle.signature.specs.Signature.{signature}
use Rattle.signature.specs.Engines.{signed_by}
use Rattle.block.specs.declared.Params.{Params}
use Rattle.block.specs.declared.Signatures.{Signatures}
use Rattle.block.specs.declared.Block.{Block}
use Rattle.block.specs.Octets.{unsigned8, unsigned16, unsigned32, offsets}

-- the elements of an accepted block that a caller can be shown: all but the ID and the three signatures that are checked
abbrev pub params_of : List ℕ → Params
params_of s = record {
  PortMode = unsigned8 s 2;
  ValidationBackup = unsigned8 s 3;
  IQBehavior = unsigned8 s 4;
  PortCycleTime = unsigned8 s 5;
  VendorID = unsigned16 s 6;
  DeviceID = unsigned32 s 8;
  InputDataLength = unsigned8 s 12;
  OutputDataLength = unsigned8 s 13;
  FSCP_Authenticity1 = unsigned32 s 14;
  FSCP_Authenticity2 = unsigned32 s 18;
  FSP_Port = unsigned8 s 22;
  FSP_ProtVersion = unsigned8 s 25;
  FSP_ProtMode = unsigned8 s 26;
  FSP_WatchdogTime = unsigned16 s 27;
  FSP_TechParCRC = unsigned32 s 31;
  IO_DescVersion = unsigned8 s 37;
  SPDUInLength = unsigned8 s 38;
  TotalOfInBits = unsigned8 s 39;
  TotalOfInOctets = unsigned8 s 40;
  TotalOfInInt16 = unsigned8 s 41;
  TotalOfInInt32 = unsigned8 s 42;
  SPDUOutLength = unsigned8 s 43;
  TotalOfOutBits = unsigned8 s 44;
  TotalOfOutOctets = unsigned8 s 45;
  TotalOfOutInt16 = unsigned8 s 46;
  TotalOfOutInt32 = unsigned8 s 47;
}

-- the signatures that the block carries
abbrev pub carried : List ℕ → Signatures
carried s = record {
  FSP_AuthentCRC = unsigned16 s 23;
  FSP_IO_StructCRC = unsigned16 s 29;
  FSP_ProtParCRC = unsigned16 s 35;
}

abbrev pub block_of : List ℕ → Block
block_of s = record { ArgBlockID = unsigned16 s 0; params = params_of s; signatures = carried s }

-- 000 A.2.3, A.2.7, A.2.9: the short signature, seed 0 (D.3.6), over the values as they stand in the block (R7)
abbrev pub parameter_signature : List ℕ → ℕ
parameter_signature octets = signature 16 generator16 0 octets

-- the same by an engine, where the short table is lent
abbrev pub parameters_by : Engine → List ℕ → List ℕ → ℕ
parameters_by e short octets = signed_by e 16 generator16 8 short 0 octets

-- the signatures that the block should carry, by a method of signing: the authenticity block (Table A.1), the data structure description
-- (Table A.4) and the protocol block (Table A.1)
abbrev pub computed : (List ℕ → ℕ) → List ℕ → Signatures
computed sign s = record {
  FSP_AuthentCRC = sign (offsets 14 22 s);
  FSP_IO_StructCRC = sign (offsets 37 47 s);
  FSP_ProtParCRC = sign (offsets 25 34 s);
}
