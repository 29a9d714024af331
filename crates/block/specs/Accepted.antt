-- 01, "The parameter block": what accepted parameters satisfy. It follows from the rules (`accepted`), and the layers above rest on it.
-- Assumes nothing.
use Rattle.std.specs.Prelude.{ℕ, ◌+◌, ◌-◌, ◌*◌, ◌≤◌, ◌≡◌, ◌⊎◌}
use Rattle.block.specs.declared.Params.{Params}
use Rattle.ranges.specs.Fields.{safety_octets, most_process_octets}

-- an SPDU's length beside other octets in the image
pub record SpduFits (protMode other length : ℕ) : Type 0 where
  pub least : 5 ≤ length
  pub room : length + other ≤ 32
  pub safety : safety_octets protMode ≤ length
  pub process : length - safety_octets protMode ≤ most_process_octets protMode

-- accepted parameters, of a block addressed to a port
pub record Accepted (port : ℕ) (p : Params) : Type 0 where
  pub port_known : (1 ≤ port) × (port ≤ 8)
  pub port_carried : p.FSP_Port ≡ port
  pub mode : (p.PortMode ≡ 49) ⊎ (p.PortMode ≡ 50)
  pub protocol_mode : (p.FSP_ProtMode ≡ 1) ⊎ (p.FSP_ProtMode ≡ 2)
  pub watchdog : (1 ≤ p.FSP_WatchdogTime) × (p.FSP_WatchdogTime ≤ 65535)
  pub input : SpduFits p.FSP_ProtMode p.InputDataLength p.SPDUInLength
  pub output : SpduFits p.FSP_ProtMode p.OutputDataLength p.SPDUOutLength
  pub input_bits : p.TotalOfInBits ≤ 8 * p.TotalOfInOctets
  pub output_bits : p.TotalOfOutBits ≤ 8 * p.TotalOfOutOctets
  pub input_sum : p.SPDUInLength ≡ safety_octets p.FSP_ProtMode + p.TotalOfInOctets + 2 * p.TotalOfInInt16 + 4 * p.TotalOfInInt32
  pub output_sum : p.SPDUOutLength ≡ safety_octets p.FSP_ProtMode + p.TotalOfOutOctets + 2 * p.TotalOfOutInt16 + 4 * p.TotalOfOutInt32
