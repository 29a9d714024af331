-- What is read at the other end of the same parameters: of an SPDU that was built (000 11.4.4 to 11.4.7, Tables 31 and 32), and of the zeros before the
-- first response (R23). Assumes nothing.
use Rattle.std.specs.Prelude.{ℕ, ◌%◌, Bool, true, false, eqb}
use Rattle.block.specs.declared.Params.{Params}
use Rattle.scl.specs.declared.Request.{Request}
use Rattle.scl.specs.declared.Response.{Response}

abbrev pub request_back : Params → ℕ → Bool → Bool → Request
request_back p mCount setSD chFAckReq = record {
  length = p.SPDUOutLength;
  MCount = mCount % 8;
  setSD = setSD;
  ChFAckReq = chFAckReq;
  port_holds = true;
  signature_holds = true;
  all_zero = false;
  unused = 0;
}

abbrev pub response_back : Params → ℕ → Bool → Bool → Bool → Response
response_back p DCount_i sdSet dCommErr dTimeout = record {
  length = p.SPDUInLength;
  DCount_i = DCount_i % 8;
  SDset = sdSet;
  DCommErr = dCommErr;
  DTimeout = dTimeout;
  port_holds = true;
  signature_holds = true;
  all_zero = false;
  unused = 0;
}

-- no signature is 0, so that of zeros does not hold
abbrev pub zeros_back : Params → Response
zeros_back p = record {
  length = p.SPDUInLength;
  DCount_i = 0;
  SDset = false;
  DCommErr = false;
  DTimeout = false;
  port_holds = eqb 0 p.FSP_Port;
  signature_holds = false;
  all_zero = true;
  unused = 0;
}
