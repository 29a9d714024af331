-- What is sent: the octets of an SPDU (R2), the control and status octets (000 Tables 31 and 32, reserved bits 0: R8), and the signature with a zero
-- replaced. Assumes nothing.
use Rattle.std.specs.Prelude.{ℕ, ◌+◌, ◌*◌, ◌/◌, ◌%◌, Bool, cond, ◌&&◌, List, [], ◌∷◌, ◌++◌, eqb, length, replicate, Err}
use Rattle.answer.specs.declared.Refusal.TheVariants.{Buffer}
use Rattle.answer.specs.Answers.{Answer, Taken}
use Rattle.ranges.specs.Fields.{safety_octets}
use Rattle.block.specs.declared.Params.{Params}
use Rattle.spdu.specs.Signature.{replaced}

abbrev pub bit_in : Bool → ℕ → ℕ
bit_in b weight = cond b weight 0

abbrev pub control_octet : ℕ → Bool → Bool → ℕ
control_octet mCount setSD chFAckReq = mCount % 8 * 32 + bit_in setSD 2 + bit_in chFAckReq 1

abbrev pub status_octet : ℕ → Bool → Bool → Bool → ℕ
status_octet DCount_i sdSet dCommErr dTimeout = DCount_i % 8 * 32 + bit_in sdSet 4 + bit_in dCommErr 2 + bit_in dTimeout 1

-- a signature's octets, most significant first
abbrev pub signature_octets : ℕ → ℕ → List ℕ
signature_octets mode x =
    cond (eqb mode 1) (x / 256 % 256 ∷ x % 256 ∷ []) (x / 16777216 % 256 ∷ x / 65536 % 256 ∷ x / 256 % 256 ∷ x % 256 ∷ [])

abbrev pub contents_with : List ℕ → ℕ → ℕ → List ℕ
contents_with process port control = process ++ (port ∷ control ∷ [])

abbrev pub spdu_with : (ℕ → List ℕ → ℕ) → ℕ → List ℕ → ℕ → ℕ → List ℕ
spdu_with sign mode process port control =
    let contents = contents_with process port control in
    contents ++ signature_octets mode (replaced (sign mode contents))

-- the process octets that are sent: as lent, or zeros of the same number where SDout is used (R25)
abbrev pub process_sent : Bool → List ℕ → List ℕ
process_sent useSD process = cond useSD (replicate (length process) 0) process

-- 01's answer 7: a lent buffer has the wrong length. The process octets and H make up the SPDU, and the buffer is as long.
abbrev pub buffers_hold : ℕ → ℕ → ℕ → ℕ → Bool
buffers_hold mode spdu process out = eqb (process + safety_octets mode) spdu && eqb out spdu

abbrev pub built_as : Bool → Answer
built_as hold = cond hold Taken (Err Buffer)

-- the FS-Master's SPDU, of SPDUOutLength octets, in the buffer out
abbrev pub request_built : (ℕ → List ℕ → ℕ) → Params → ℕ → Bool → Bool → List ℕ → List ℕ → List ℕ
request_built sign p mCount setSD chFAckReq process out =
    let mode = p.FSP_ProtMode in
    cond (buffers_hold mode p.SPDUOutLength (length process) (length out))
    (spdu_with sign mode (process_sent setSD process) p.FSP_Port (control_octet mCount setSD chFAckReq)) out

-- the FS-Device's SPDU, of SPDUInLength octets; zeros until its first response (R23)
abbrev pub response_built : (ℕ → List ℕ → ℕ) → Params → Bool → ℕ → Bool → Bool → Bool → List ℕ → List ℕ → List ℕ
response_built sign p responded DCount_i sdSet dCommErr dTimeout process out =
    let mode = p.FSP_ProtMode in
    cond (buffers_hold mode p.SPDUInLength (length process) (length out))
    (cond responded (spdu_with sign mode process p.FSP_Port (status_octet DCount_i sdSet dCommErr dTimeout)) (replicate (length out) 0)) out
