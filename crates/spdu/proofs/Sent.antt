-- What one end builds the other reads, of the same parameters, in buffers of the right lengths. Assumes nothing.
use mathlib.Core.Path.{◌≡◌, ap, ◌∙◌}
use mathlib.Core.Bool.{Bool, true, false, cond}
use mathlib.Core.List.{List}
use Prim.Native.Nat.{ℕ, ◌+◌}
use native.Mathlib.Omega.{arith}
use lib.ListN.{length, replicate}
use Rattle.ranges.specs.Fields.{safety_octets}
use Rattle.block.specs.declared.Params.{Params}
use Rattle.spdu.specs.Signature.{by_bits}
use Rattle.spdu.specs.Places.{process_of}
use Rattle.spdu.specs.Fields.{response_by, request_by}
use Rattle.spdu.specs.Built.{control_octet, status_octet, spdu_with, process_sent, buffers_hold, request_built, response_built}
use Rattle.spdu.specs.RoundTrip.{request_back, response_back, zeros_back}
use Rattle.spdu.proofs.Buffers.{held}
use Rattle.spdu.proofs.Composed.{sent-length}
use Rattle.spdu.proofs.ReadBack.{read-process}
use Rattle.spdu.proofs.Back.{request_back_lem, response_back_lem, zeros_back_lem}

module _ (p : Params) (process out : List ℕ) where
  abbrev mode : ℕ
  mode = p.FSP_ProtMode

  -- the FS-Master's, of SPDUOutLength octets
  module _ (mCount : ℕ) (setSD chFAckReq : Bool) (fits : buffers_hold mode p.SPDUOutLength (length process) (length out) ≡ true) where
    abbrev control : ℕ
    control = control_octet mCount setSD chFAckReq

    written : request_built by_bits p mCount setSD chFAckReq process out ≡ spdu_with by_bits mode (process_sent setSD process) p.FSP_Port control
    written = ap (λ (b : Bool). cond b (spdu_with by_bits mode (process_sent setSD process) p.FSP_Port control) out) fits

    size : length (process_sent setSD process) + safety_octets mode ≡ p.SPDUOutLength
    size = let h = held mode p.SPDUOutLength (length process) (length out) fits in omega (arith, h.0, h.1, sent-length setSD process)

    pub request_arrives : request_by by_bits p (request_built by_bits p mCount setSD chFAckReq process out) ≡ request_back p mCount setSD chFAckReq
    request_arrives = ap (request_by by_bits p) written ∙ request_back_lem p (process_sent setSD process) mCount setSD chFAckReq size

    -- R25: the values as lent where setSD is 0, zeros where it is 1
    pub values_arrive : process_of mode (request_built by_bits p mCount setSD chFAckReq process out) ≡ cond setSD (replicate (length process) 0) process
    values_arrive = ap (process_of mode) written ∙ read-process by_bits mode (process_sent setSD process) p.FSP_Port control

  -- the FS-Device's, of SPDUInLength octets
  module _ (DCount_i : ℕ) (sdSet dCommErr dTimeout : Bool) (fits : buffers_hold mode p.SPDUInLength (length process) (length out) ≡ true) where
    abbrev status : ℕ
    status = status_octet DCount_i sdSet dCommErr dTimeout

    abbrev answer : Bool → List ℕ
    answer responded = response_built by_bits p responded DCount_i sdSet dCommErr dTimeout process out

    lengths : (length out ≡ length process + safety_octets mode) × (length out ≡ p.SPDUInLength)
    lengths = held mode p.SPDUInLength (length process) (length out) fits

    responds : answer true ≡ spdu_with by_bits mode process p.FSP_Port status
    responds = ap (λ (b : Bool). cond b (spdu_with by_bits mode process p.FSP_Port status) out) fits

    pub response_arrives : response_by by_bits p (response_built by_bits p true DCount_i sdSet dCommErr dTimeout process out) ≡ response_back p DCount_i sdSet dCommErr dTimeout
    response_arrives = ap (response_by by_bits p) responds ∙ response_back_lem p process DCount_i sdSet dCommErr dTimeout (omega (arith, lengths.0, lengths.1))

    -- R25: the values as lent, in every row
    pub answered_values : process_of mode (response_built by_bits p true DCount_i sdSet dCommErr dTimeout process out) ≡ process
    answered_values = ap (process_of mode) responds ∙ read-process by_bits mode process p.FSP_Port status

    -- R23: until its first response, zeros
    pub zeros_arrive : response_by by_bits p (response_built by_bits p false DCount_i sdSet dCommErr dTimeout process out) ≡ zeros_back p
    zeros_arrive =
        ap (response_by by_bits p)
        (ap (λ (b : Bool). cond b (replicate (length out) 0) out) fits ∙ ap (λ (n : ℕ). replicate n 0) lengths.1)
        ∙ zeros_back_lem p
