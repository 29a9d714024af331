-- 000 Tables 31 and 32: the control and the status octet read, and what is read of a received SPDU. Reserved bits are not looked at (R8).
-- Assumes nothing.
use Rattle.std.specs.Prelude.{ℕ, ◌/◌, ◌%◌, Bool, false, cond, List, eqb, length}
use Rattle.block.specs.declared.Params.{Params}
use Rattle.scl.specs.declared.Request.{Request}
use Rattle.scl.specs.declared.Response.{Response}
use Rattle.spdu.specs.declared.read.Trailer.{Trailer}
use Rattle.spdu.specs.Places.{port_number_of, control_of, is_signed, is_all_zero}

-- bits 5 to 7: MCount, or DCount_i
abbrev pub count_in : ℕ → ℕ
count_in x = x / 32 % 8

-- bits 2, 1 and 0
abbrev pub bit2 : ℕ → Bool
bit2 x = eqb (x / 4 % 2) 1

abbrev pub bit1 : ℕ → Bool
bit1 x = eqb (x / 2 % 2) 1

abbrev pub bit0 : ℕ → Bool
bit0 x = eqb (x % 2) 1

-- what stands behind the process octets
abbrev pub trailer_of : (ℕ → List ℕ → ℕ) → ℕ → List ℕ → Trailer
trailer_of sign mode s = record { port = port_number_of mode s; control = control_of mode s; signature_holds = is_signed sign mode s }

-- what the FS-Master reads (Table 32), whatever the length
abbrev pub response_fields : (ℕ → List ℕ → ℕ) → Params → List ℕ → Response
response_fields sign p s =
    let mode = p.FSP_ProtMode in
    let status = control_of mode s in
    record {
      length = length s;
      DCount_i = count_in status;
      SDset = bit2 status;
      DCommErr = bit1 status;
      DTimeout = bit0 status;
      port_holds = eqb (port_number_of mode s) p.FSP_Port;
      signature_holds = is_signed sign mode s;
      all_zero = is_all_zero s;
      unused = 0;
    }

-- of an SPDU of SPDUInLength octets; of another length: its length, count 0, every mark false
abbrev pub response_by : (ℕ → List ℕ → ℕ) → Params → List ℕ → Response
response_by sign p s =
    cond (eqb (length s) p.SPDUInLength) (response_fields sign p s)
    (record {
      length = length s;
      DCount_i = 0;
      SDset = false;
      DCommErr = false;
      DTimeout = false;
      port_holds = false;
      signature_holds = false;
      all_zero = false;
      unused = 0;
    })

-- what the FS-Device reads (Table 31), whatever the length
abbrev pub request_fields : (ℕ → List ℕ → ℕ) → Params → List ℕ → Request
request_fields sign p s =
    let mode = p.FSP_ProtMode in
    let control = control_of mode s in
    record {
      length = length s;
      MCount = count_in control;
      setSD = bit1 control;
      ChFAckReq = bit0 control;
      port_holds = eqb (port_number_of mode s) p.FSP_Port;
      signature_holds = is_signed sign mode s;
      all_zero = is_all_zero s;
      unused = 0;
    }

-- of an SPDU of SPDUOutLength octets
abbrev pub request_by : (ℕ → List ℕ → ℕ) → Params → List ℕ → Request
request_by sign p s =
    cond (eqb (length s) p.SPDUOutLength) (request_fields sign p s)
    (record {
      length = length s;
      MCount = 0;
      setSD = false;
      ChFAckReq = false;
      port_holds = false;
      signature_holds = false;
      all_zero = false;
      unused = 0;
    })
