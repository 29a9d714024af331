-- The premises of the theorems on what is read can be met, and each mark hands on its part: computed. Assumes nothing.
use mathlib.Core.Path.{◌≡◌, refl}
use mathlib.Core.Bool.{Bool, true, false}
use mathlib.Core.List.{List, [], ◌∷◌, ◌++◌, map}
use Prim.Native.Nat.{ℕ}
use native.Mathlib.Omega.{arith}
use lib.Dec.{lit<}
use lib.ListN.{replicate, set}
use Rattle.gf2.specs.Polynomial.{Multiple, ones}
use Rattle.gf2.specs.Bits.{bits, octet_bits}
use Rattle.signature.specs.Signature.{signature, octet, shift_in_all, shift_in}
use Rattle.block.specs.declared.Params.{Params}
use Rattle.answer.specs.Answers.{number_of}
use Rattle.block.specs.Table22.{params_of}
use Rattle.block.proofs.Arises.{good, octets_of_lem}
use Rattle.scl.specs.declared.Mark.TheVariants.{Fresh, GoesOn, Safe, Nothing}
use Rattle.spdu.specs.Signature.{width_of, generator_of, by_bits}
use Rattle.spdu.specs.Places.{process_of, carried_of, is_signed}
use Rattle.spdu.specs.Fields.{count_in, bit2, bit1, bit0, response_fields, request_fields, response_by, request_by}
use Rattle.spdu.specs.Built.{control_octet, status_octet, spdu_with, buffers_hold, built_as, request_built, response_built}
use Rattle.spdu.specs.Image.{composer_holds, composed, splitter_holds, spdu_part, other_part, handed_on, safe_values_hold}
use Rattle.spdu.specs.Flips.{flipped_spdu}
use Rattle.spdu.specs.RoundTrip.{request_back, response_back, zeros_back}
use Rattle.spdu.proofs.ReadBack.{read-carried, built-holds, determined_by_fields}
use Rattle.spdu.proofs.Demand3.{empty_passes}
use Rattle.spdu.proofs.Back.{request_back_lem, response_back_lem}
use Rattle.spdu.proofs.Sent as sending
use Rattle.spdu.proofs.Composed.{spdu-first}
use Rattle.spdu.proofs.Arrived as arrived
use Rattle.spdu.proofs.Needed.{other_short, other_long, generator_short, generator_long, burst_short, burst_long, short-refused, long-refused, short_most_met, long_most_met, short_refused_met, long_refused_met}

-- port 1, SPDUs of 5 octets each way
abbrev p : Params
p = params_of good

abbrev sent : ℕ → List ℕ
sent control = spdu_with by_bits 1 (0x2A ∷ []) 1 control

pub request_back_met : request_by by_bits p (sent (control_octet 3 true false)) ≡ request_back p 3 true false
request_back_met = request_back_lem p (0x2A ∷ []) 3 true false refl

pub response_back_met : response_by by_bits p (sent (status_octet 4 true false true)) ≡ response_back p 4 true false true
response_back_met = response_back_lem p (0x2A ∷ []) 4 true false true refl

-- a signature of 16 bits fits its octets
pub carried_met : carried_of 1 (sent 0x60) ≡ 0xBBB0
unfolding signature octet shift_in_all shift_in
carried_met = read-carried by_bits 1 (0x2A ∷ []) 1 0x60 (lit< tt)

pub built_met : is_signed by_bits 1 (sent 0x60) ≡ true
unfolding signature octet shift_in_all shift_in
built_met = built-holds by_bits 1 (0x2A ∷ []) 1 0x60 (lit< tt)

pub empty_met : is_signed by_bits 1 (flipped_spdu 1 other_short 3 0x20 (replicate 7 0)) ≡ true
empty_met = empty_passes 1 other_short 3 0x20 (replicate 7 0) refl

pub determined_met : sent 0x62 ≡ sent 0x62
unfolding signature octet shift_in_all shift_in
determined_met =
    determined_by_fields by_bits 1 (sent 0x62) (sent 0x62) (octets_of_lem (sent 0x62) refl) (octets_of_lem (sent 0x62) refl) (omega arith) refl refl refl refl refl refl

-- ---- demand 3 over what each end reads, for port 3 and control octet 0x20

-- the mark stays set where these bits are flipped
abbrev ResponseHolds : Params → List ℕ → List ℕ → Type 0
ResponseHolds p process es = (response_by by_bits p (flipped_spdu p.FSP_ProtMode process 3 0x20 es)).signature_holds ≡ true

abbrev RequestHolds : Params → List ℕ → List ℕ → Type 0
RequestHolds p process es = (request_by by_bits p (flipped_spdu p.FSP_ProtMode process 3 0x20 es)).signature_holds ≡ true

abbrev MultipleOf : Params → List ℕ → Type 0
MultipleOf p es = Multiple (bits (width_of p.FSP_ProtMode) (generator_of p.FSP_ProtMode)) (octet_bits es)

-- the theorems of these names, of three flip sets: the generator, a burst of an odd number of flips, and none
pub record Read (p : Params) (process generator burst none : List ℕ) : Type 0 where
  response_exact : MultipleOf p generator
  request_exact : MultipleOf p generator
  response_burst : ResponseHolds p process burst → ones (octet_bits burst) ≡ 0
  request_burst : RequestHolds p process burst → ones (octet_bits burst) ≡ 0
  response_odd : ResponseHolds p process burst → ⊥
  request_odd : RequestHolds p process burst → ⊥
  response_none : ResponseHolds p process none
  request_none : RequestHolds p process none

-- SPDUs of 7 octets each way
abbrev short : Params
short = params_of (set (set good 38 7) 43 7)

pub short-read : Read short other_short generator_short burst_short (replicate 7 0)
unfolding signature octet shift_in_all shift_in
short-read = record {
  response_exact = (arrived.response_exact short other_short 3 0x20 generator_short refl short_most_met).0 refl;
  request_exact = (arrived.request_exact short other_short 3 0x20 generator_short refl short_most_met).0 refl;
  response_burst = arrived.response_burst short other_short 3 0x20 burst_short refl short_refused_met short-refused.first short-refused.within;
  request_burst = arrived.request_burst short other_short 3 0x20 burst_short refl short_refused_met short-refused.first short-refused.within;
  response_odd = arrived.response_odd short other_short 3 0x20 burst_short refl short_refused_met refl;
  request_odd = arrived.request_odd short other_short 3 0x20 burst_short refl short_refused_met refl;
  response_none = arrived.response_none short other_short 3 0x20 (replicate 7 0) refl (octets_of_lem (replicate 7 0) refl) refl;
  request_none = arrived.request_none short other_short 3 0x20 (replicate 7 0) refl (octets_of_lem (replicate 7 0) refl) refl;
}

-- SPDUs of 10
abbrev long : Params
long = params_of (set (set (set good 26 2) 38 10) 43 10)

pub long-read : Read long other_long generator_long burst_long (replicate 10 0)
unfolding signature octet shift_in_all shift_in
long-read = record {
  response_exact = (arrived.response_exact long other_long 3 0x20 generator_long refl long_most_met).0 refl;
  request_exact = (arrived.request_exact long other_long 3 0x20 generator_long refl long_most_met).0 refl;
  response_burst = arrived.response_burst long other_long 3 0x20 burst_long refl long_refused_met long-refused.first long-refused.within;
  request_burst = arrived.request_burst long other_long 3 0x20 burst_long refl long_refused_met long-refused.first long-refused.within;
  response_odd = arrived.response_odd long other_long 3 0x20 burst_long refl long_refused_met refl;
  request_odd = arrived.request_odd long other_long 3 0x20 burst_long refl long_refused_met refl;
  response_none = arrived.response_none long other_long 3 0x20 (replicate 10 0) refl (octets_of_lem (replicate 10 0) refl) refl;
  request_none = arrived.request_none long other_long 3 0x20 (replicate 10 0) refl (octets_of_lem (replicate 10 0) refl) refl;
}

-- ---- what each mark hands on
pub each_part :
    handed_on Fresh 1 (sent 0x62) (0 ∷ [])
    ∷ handed_on Safe 1 (sent 0x62) (0 ∷ [])
    ∷ handed_on GoesOn 1 (sent 0x62) (0 ∷ [])
    ∷ handed_on Nothing 1 (sent 0x62) (0 ∷ [])
    ∷ []
    ≡ (0x2A ∷ []) ∷ (0 ∷ []) ∷ [] ∷ [] ∷ []
unfolding signature octet shift_in_all shift_in
each_part = refl

-- reserved bits, 3 and 4 of a control or status octet, are in no field (R8)
pub reserved_unread : (count_in 0x18 ≡ 0) × ((count_in 0xF8 ≡ 7) × ((bit2 0x18 ≡ false) × ((bit1 0x18 ≡ false) × (bit0 0x18 ≡ false))))
reserved_unread = (refl, (refl, (refl, (refl, refl))))

-- ---- 000 Tables 31 and 32, bit for bit: as sent, and as read of an SPDU of port 1 with that octet

-- MCount bits 5 to 7, setSD bit 1, ChFAckReq bit 0
pub control-bits : control_octet 1 false false ∷ control_octet 4 false false ∷ control_octet 0 true false ∷ control_octet 0 false true ∷ [] ≡ 0x20 ∷ 0x80 ∷ 0x02 ∷ 0x01 ∷ []
control-bits = refl

-- DCount_i bits 5 to 7, SDset bit 2, DCommErr bit 1, DTimeout bit 0
pub status-bits :
    status_octet 1 false false false ∷ status_octet 4 false false false ∷ status_octet 0 true false false ∷ status_octet 0 false true false ∷ status_octet 0 false false true ∷ []
    ≡ 0x20 ∷ 0x80 ∷ 0x04 ∷ 0x02 ∷ 0x01 ∷ []
status-bits = refl

abbrev carrying : ℕ → List ℕ
carrying octet = 0x2A ∷ 1 ∷ octet ∷ 0 ∷ 0 ∷ []

abbrev control_read : ℕ → ℕ × (Bool × Bool)
control_read octet = let f = request_fields by_bits p (carrying octet) in (f.MCount, (f.setSD, f.ChFAckReq))

abbrev status_read : ℕ → ℕ × (Bool × (Bool × Bool))
status_read octet = let f = response_fields by_bits p (carrying octet) in (f.DCount_i, (f.SDset, (f.DCommErr, f.DTimeout)))

pub control-read : map control_read (0x20 ∷ 0x02 ∷ 0x01 ∷ []) ≡ (1, (false, false)) ∷ (0, (true, false)) ∷ (0, (false, true)) ∷ []
control-read = refl

pub status-read : map status_read (0x20 ∷ 0x04 ∷ 0x02 ∷ 0x01 ∷ [])
    ≡ (1, (false, (false, false))) ∷ (0, (true, (false, false))) ∷ (0, (false, (true, false))) ∷ (0, (false, (false, true))) ∷ []
status-read = refl

-- ---- lengths, of parameters in which n, p, m and o all differ: m 6 beside n 3, o 5 beside p 2
abbrev unlike : Params
unlike = params_of (set (set (set good 12 3) 13 2) 38 6)

-- 01's answer 7, a lent buffer of a wrong length: mode, the SPDU's length, process octets, the buffer
pub each_buffer :
    map number_of (
    built_as (buffers_hold 1 5 1 5) ∷ built_as (buffers_hold 2 7 1 7)
    ∷ built_as (buffers_hold 1 5 0 5) ∷ built_as (buffers_hold 1 5 2 5) ∷ built_as (buffers_hold 1 5 1 4) ∷ built_as (buffers_hold 1 5 1 6) ∷ []
    )
    ≡ 0 ∷ 0 ∷ 7 ∷ 7 ∷ 7 ∷ 7 ∷ []
each_buffer = refl

-- 01: "Its image has p + o octets; the splitter's has n + m."
pub each-image :
    (composer_holds unlike 1 2 7 ∷ composer_holds unlike 2 2 7 ∷ composer_holds unlike 1 3 7 ∷ composer_holds unlike 1 2 8 ∷ [] ≡ true ∷ false ∷ false ∷ false ∷ [])
    × (splitter_holds unlike 8 ∷ splitter_holds unlike 9 ∷ splitter_holds unlike 10 ∷ [] ≡ false ∷ true ∷ false ∷ [])
each-image = (refl, refl)

-- R3: the SPDU first, the other data behind it; of an image of another length both parts are empty
pub split_parts :
    (spdu_part unlike (1 ∷ 2 ∷ 3 ∷ 4 ∷ 5 ∷ 6 ∷ 7 ∷ 8 ∷ 9 ∷ []) ≡ 1 ∷ 2 ∷ 3 ∷ 4 ∷ 5 ∷ 6 ∷ [])
    × (other_part unlike (1 ∷ 2 ∷ 3 ∷ 4 ∷ 5 ∷ 6 ∷ 7 ∷ 8 ∷ 9 ∷ []) ≡ 7 ∷ 8 ∷ 9 ∷ [])
    × (spdu_part unlike (1 ∷ 2 ∷ []) ≡ [])
    × (other_part unlike (1 ∷ 2 ∷ []) ≡ [])
split_parts = (refl, refl, refl, refl)

-- 01's answer 7: "lent safe values are not all zero", or not of the process octets' number
pub each-safe :
    safe_values_hold 1 5 (0 ∷ []) ∷ safe_values_hold 2 8 (0 ∷ 0 ∷ []) ∷ safe_values_hold 1 6 (0 ∷ 1 ∷ []) ∷ safe_values_hold 1 5 [] ∷ safe_values_hold 1 5 (0 ∷ 0 ∷ []) ∷ []
    ≡ true ∷ true ∷ false ∷ false ∷ false ∷ []
each-safe = refl

-- of an SPDU of another length: its length, count 0, every mark false
pub other_length :
    (response_by by_bits p (carrying 0xE7 ++ 0 ∷ [])
    ≡ record { length = 6; DCount_i = 0; SDset = false; DCommErr = false; DTimeout = false; port_holds = false; signature_holds = false; all_zero = false; unused = 0 })
    × (request_by by_bits p (carrying 0xE3 ++ 0 ∷ []) ≡ record { length = 6; MCount = 0; setSD = false; ChFAckReq = false; port_holds = false; signature_holds = false; all_zero = false; unused = 0 })
other_length = (refl, refl)

-- and the length among the fields is the one that was read, not the configured one
pub length-read : ((response_fields by_bits p (carrying 0xE7 ++ 0 ∷ [])).length ≡ 6) × ((request_fields by_bits p (carrying 0xE3 ++ 0 ∷ [])).length ≡ 6)
length-read = (refl, refl)

-- ---- what is built is read, in buffers of the right length
pub record Exchanged (out : List ℕ) : Type 0 where
  request_arrives : request_by by_bits p (request_built by_bits p 3 true false (0x2A ∷ []) out) ≡ request_back p 3 true false
  values_arrive : process_of 1 (request_built by_bits p 3 true false (0x2A ∷ []) out) ≡ 0 ∷ []
  response_arrives : response_by by_bits p (response_built by_bits p true 4 true false true (0x2A ∷ []) out) ≡ response_back p 4 true false true
  answered_values : process_of 1 (response_built by_bits p true 4 true false true (0x2A ∷ []) out) ≡ 0x2A ∷ []
  zeros_arrive : response_by by_bits p (response_built by_bits p false 4 true false true (0x2A ∷ []) out) ≡ zeros_back p

pub exchanged : Exchanged (replicate 5 0xFF)
exchanged = record {
  request_arrives = sending.request_arrives p (0x2A ∷ []) (replicate 5 0xFF) 3 true false refl;
  values_arrive = sending.values_arrive p (0x2A ∷ []) (replicate 5 0xFF) 3 true false refl;
  response_arrives = sending.response_arrives p (0x2A ∷ []) (replicate 5 0xFF) 4 true false true refl;
  answered_values = sending.answered_values p (0x2A ∷ []) (replicate 5 0xFF) 4 true false true refl;
  zeros_arrive = sending.zeros_arrive p (0x2A ∷ []) (replicate 5 0xFF) 4 true false true refl;
}

-- other data 7 and 8 behind the SPDU
pub composed_met : composed by_bits unlike 3 true false (0x2A ∷ []) (7 ∷ 8 ∷ []) (replicate 7 0) ≡ request_built by_bits unlike 3 true false (0x2A ∷ []) (replicate 5 0) ++ 7 ∷ 8 ∷ []
composed_met = spdu-first by_bits unlike 3 true false (0x2A ∷ []) (7 ∷ 8 ∷ []) (replicate 7 0) refl
