-- Every list of calls from the new bench, good, bad or malformed, and what 01 says of it: the words in which the theorems of proofs/ are stated.
-- In every list here the latest stands first. Assumes nothing.
use Rattle.std.specs.Prelude.{ℕ, ◌≤◌, ◌<◌, ◌≡◌, Bool, true, cond, not, ◌&&◌, List, [], ◌∷◌, ◌++◌, eqb, length, get_or, replicate}
use Rattle.answer.specs.declared.Refusal.TheVariants.{Buffer}
use Rattle.answer.specs.Answers.{Answer, is_taken, without_value}
use Rattle.answer.specs.Rules.{Rule, rule}
use Rattle.block.specs.declared.Params.{Params}
use Rattle.block.specs.Accepted.{Accepted}
use Rattle.block.specs.Table22.{params_of}
use Rattle.block.specs.Rules.{rules_on}
use Rattle.scl.specs.declared.Request.{Request}
use Rattle.scl.specs.declared.Response.{Response}
use Rattle.scl.specs.declared.Mark.{Mark}
use Rattle.spdu.specs.Places.{process_octets}
use Rattle.spdu.specs.Signature.{by_bits}
use Rattle.spdu.specs.Fields.{response_by, request_by}
use Rattle.spdu.specs.Built.{buffers_hold}
use Rattle.spdu.specs.Image as image
use Rattle.scl.specs.declared.Happening.{Happening}
use Rattle.scl.specs.declared.Happening.TheVariants as happening
use Rattle.fs_master.specs.Table38 as table38
use Rattle.fs_master.specs.Calls as masters
use Rattle.fs_master.specs.History.{Held, master_after}
use Rattle.fs_device.specs.Table40 as table40
use Rattle.fs_device.specs.Calls as devices
use Rattle.fs_device.specs.History as deviceSpecs
use Rattle.histogram.specs.Samples.{bin_count, Within, CountsToLimit, Fits}
use Rattle.samples.specs.Samples.{samples, histogram_after}
use Rattle.bench.specs.declared.Port.{Port}
use Rattle.bench.specs.declared.End.{End}
use Rattle.bench.specs.declared.Bench.{Bench}
use Rattle.bench.specs.declared.Reply.{Reply}
use Rattle.bench.specs.declared.BenchAfter.{BenchAfter}
use Rattle.bench.specs.Methods.{Method, annex_d}
use Rattle.bench.specs.Ports.{new_port, new_bench, port_at, histogram_of, silent}
use Rattle.bench.specs.Calls as calls
use Rattle.bench.specs.Images.{compose_answer, composed, build_answer, response_out, split_answer}
use Rattle.bench.specs.Handing.{hand_rules, handed_to, handed_out}
use Rattle.bench.specs.Shown.{trend_rules, trend_of, bins_of, master_of, device_of}

-- ---- Calls

-- a call without a reading, with what is lent to it
pub data NoReading : Type 0 where
  Compose : (process other octets : List ℕ) → NoReading
  BuildResponse : (process out : List ℕ) → NoReading
  Split : (octets : List ℕ) → NoReading
  HandOn : (end : End) (mark : Mark) (spdu safe out : List ℕ) → NoReading
  Trend : NoReading
  Bins : NoReading
  ShowMaster : NoReading
  ShowDevice : NoReading

-- every call
pub data Call : Type 0 where
  SetParameters : (port at : ℕ) (octets : List ℕ) → Call
  ReceiveResponse : (port at : ℕ) (spdu safe : List ℕ) → Call
  ReceiveRequest : (port at : ℕ) (spdu safe : List ℕ) → Call
  Clock : (port at : ℕ) (safe_in safe_out : List ℕ) → Call
  Operator : (port at : ℕ) (setSD_C ChFAck_C : Bool) (safe : List ℕ) → Call
  WithoutReading : (port : ℕ) (act : NoReading) → Call

-- the port addressed
unfoldable pub addressed : Call → ℕ
addressed (SetParameters port at octets) = port
addressed (ReceiveResponse port at spdu safe) = port
addressed (ReceiveRequest port at spdu safe) = port
addressed (Clock port at safe_in safe_out) = port
addressed (Operator port at setSD_C ChFAck_C safe) = port
addressed (WithoutReading port act) = port

-- 01's table: the rules on a call in their order, p being the port addressed

-- 8, 9, and 7 where what is lent does not fit (R27)
abbrev pub buffer_rules : ℕ → Port → Bool → List Rule
buffer_rules port p fits = calls.call_rules port p.setting ++ (rule (not fits) Buffer ∷ [])

unfoldable pub rules_without_reading : ℕ → Port → NoReading → List Rule
rules_without_reading port p (Compose process other octets) = buffer_rules port p (image.composer_holds p.setting.params (length process) (length other) (length octets))
rules_without_reading port p (BuildResponse process out) =
    buffer_rules port p (buffers_hold p.setting.params.FSP_ProtMode p.setting.params.SPDUInLength (length process) (length out))
rules_without_reading port p (Split octets) = buffer_rules port p (image.splitter_holds p.setting.params (length octets))
rules_without_reading port p (HandOn end mark spdu safe out) = hand_rules annex_d port p end mark spdu safe (length out)
rules_without_reading port p Trend = trend_rules port p
rules_without_reading port p Bins = calls.call_rules port p.setting
rules_without_reading port p ShowMaster = calls.call_rules port p.setting
rules_without_reading port p ShowDevice = calls.call_rules port p.setting

unfoldable pub rules_of : Port → Call → List Rule
rules_of p (SetParameters port at octets) = rules_on octets port
rules_of p (ReceiveResponse port at spdu safe) = calls.response_rules port p.setting (length spdu) safe
rules_of p (ReceiveRequest port at spdu safe) = calls.request_rules port p.setting (length spdu) safe
rules_of p (Clock port at safe_in safe_out) = calls.clock_rules port p.setting safe_in safe_out
rules_of p (Operator port at setSD_C ChFAck_C safe) = calls.operator_rules port p.setting safe
rules_of p (WithoutReading port act) = rules_without_reading port p act

-- the answer that the call's contract gives, by a method of signing
unfoldable pub answer_without_reading : Method → ℕ → Port → NoReading → Answer
answer_without_reading m port p (Compose process other octets) = compose_answer port p process other octets
answer_without_reading m port p (BuildResponse process out) = build_answer port p process out
answer_without_reading m port p (Split octets) = split_answer port p octets
answer_without_reading m port p (HandOn end mark spdu safe out) = without_value (handed_to m port p end mark spdu safe (length out))
answer_without_reading m port p Trend = without_value (trend_of port p)
answer_without_reading m port p Bins = without_value (bins_of port p)
answer_without_reading m port p ShowMaster = without_value (master_of port p)
answer_without_reading m port p ShowDevice = without_value (device_of port p)

-- what stands later in the buffer that a call writes, by a method of signing; nothing where it writes none
unfoldable pub written_without_reading : Method → ℕ → Port → NoReading → List ℕ
written_without_reading m port p (Compose process other octets) = composed m port p process other octets
written_without_reading m port p (BuildResponse process out) = response_out m port p process out
written_without_reading m port p (Split octets) = []
written_without_reading m port p (HandOn end mark spdu safe out) = handed_out m port p end mark spdu safe out
written_without_reading m port p Trend = []
written_without_reading m port p Bins = []
written_without_reading m port p ShowMaster = []
written_without_reading m port p ShowDevice = []

-- What a call comes to: the bench after it, what it says, and what stands later in the buffer that it writes.
pub record Result : Type 0 where
  pub bench : Bench
  pub reply : Reply
  pub written : List ℕ

-- a call with a reading writes no buffer
abbrev pub unwritten : BenchAfter → Result
unwritten r = record { bench = r.bench; reply = r.reply; written = [] }

-- by a method of signing; calls without a reading return no bench, so it stays (R11), and of what they say the answer counts here
unfoldable pub result_of : Method → Bench → Call → Result
result_of m b (SetParameters port at octets) = unwritten (calls.set_parameters m b port at octets)
result_of m b (ReceiveResponse port at spdu safe) = unwritten (calls.receive_response m b port at spdu safe)
result_of m b (ReceiveRequest port at spdu safe) = unwritten (calls.receive_request m b port at spdu safe)
result_of m b (Clock port at safe_in safe_out) = unwritten (calls.clock b port at safe_in safe_out)
result_of m b (Operator port at setSD_C ChFAck_C safe) = unwritten (calls.operator b port at setSD_C ChFAck_C safe)
result_of m b (WithoutReading port act) = record {
  bench = b;
  reply = silent (answer_without_reading m port (port_at b port) act);
  written = written_without_reading m port (port_at b port) act;
}

abbrev pub answer_of : Bench → Call → Answer
answer_of b c = (result_of annex_d b c).reply.answer

abbrev pub after : Bench → Call → Bench
after b c = (result_of annex_d b c).bench

-- the bench after a list of calls
unfoldable pub history_by : Method → List Call → Bench
history_by m [] = new_bench
history_by m (c ∷ past) = (result_of m (history_by m past) c).bench

abbrev pub history : List Call → Bench
history past = history_by annex_d past

-- all that a list of calls comes to, call for call
unfoldable pub results_of : Method → List Call → List Result
results_of m [] = []
results_of m (c ∷ past) = result_of m (history_by m past) c ∷ results_of m past

-- the calls that address a port
unfoldable pub addressing : ℕ → List Call → List Call
addressing q [] = []
addressing q (c ∷ past) = cond (eqb (addressed c) q) (c ∷ addressing q past) (addressing q past)

-- ---- A port since its last accepted block

-- the block's reading, its parameters, and what happened since
pub data Since : Type 0 where
  never : Since
  since : (at : ℕ) (params : Params) (past : List Happening) → Since

-- a happening, read with the port's parameters
unfoldable pub goes_on : Since → (Params → Happening) → Since
goes_on never h = never
goes_on (since at params past) h = since at params (h params ∷ past)

-- a call that is not refused: a block begins anew, a happening goes on, any other changes nothing
unfoldable pub extended : Since → Call → Since
extended s (SetParameters port at octets) = since at (params_of octets) []
extended s (ReceiveResponse port at spdu safe) = goes_on s (λ params. happening.Response at (response_by by_bits params spdu))
extended s (ReceiveRequest port at spdu safe) = goes_on s (λ params. happening.Request at (request_by by_bits params spdu))
extended s (Clock port at safe_in safe_out) = goes_on s (λ params. happening.Clock at)
extended s (Operator port at setSD_C ChFAck_C safe) = goes_on s (λ params. happening.Operator at setSD_C ChFAck_C)
extended s (WithoutReading port act) = s

-- of port q: the calls to it that were not refused, since its last accepted block
unfoldable pub since_block : ℕ → List Call → Since
since_block q [] = never
since_block q (c ∷ past) =
    cond (eqb (addressed c) q && is_taken (answer_of (history past) c)) (extended (since_block q past) c) (since_block q past)

-- ---- What a port holds

-- 10 refuses an SPDU of another length than is configured: one that came has that length
unfoldable pub ConfiguredLength : Params → Happening → Type 0
ConfiguredLength p (happening.Response at f) = f.length ≡ p.SPDUInLength
ConfiguredLength p (happening.Request at q) = q.length ≡ p.SPDUOutLength
ConfiguredLength p (happening.Clock at) = true ≡ true
ConfiguredLength p (happening.Operator at setSD_C ChFAck_C) = true ≡ true

pub data ConfiguredLengths (p : Params) : List Happening → Type 0 where
  nothing_came : ConfiguredLengths p []
  came : {h : Happening} {past : List Happening} → ConfiguredLength p h → ConfiguredLengths p past → ConfiguredLengths p (h ∷ past)

pub record MatchesSince (p : Port) (at : ℕ) (params : Params) (past : List Happening) : Type 0 where
  pub running : p.setting.running ≡ true
  pub parameters : p.setting.params ≡ params
  pub lengths : ConfiguredLengths params past
  pub master : p.live.master ≡ master_after at params.FSP_WatchdogTime past
  pub device : p.live.device ≡ deviceSpecs.device_after at params.FSP_WatchdogTime past
  pub histogram : histogram_of p ≡ histogram_after at params.FSP_WatchdogTime past
  -- bins, total, sum, lowest and highest are those of the samples, up to the freeze
  pub counted : CountsToLimit params.FSP_WatchdogTime (samples at params.FSP_WatchdogTime past) (histogram_of p)
  pub within : Within params.FSP_WatchdogTime (samples at params.FSP_WatchdogTime past)
  pub small : params.FSP_WatchdogTime ≤ 65535

unfoldable pub Matches : Port → Since → Type 0
Matches p never = p ≡ new_port
Matches p (since at params past) = MatchesSince p at params past

-- ---- Values that never arise (a ProtMode of 7, a count of 9, a bin that wraps): what holds of a port that runs, of number q

pub record Arising (q : ℕ) (p : Port) : Type 0 where
  pub parameters : Accepted q p.setting.params
  -- R17b
  pub master : Held p.live.master
  pub count : p.live.master.MCount ≤ 7
  pub carried : p.live.master.carried ≤ 7
  pub awaited : p.live.master.awaited ≤ 7
  pub device : deviceSpecs.waits p.live.device ≡ true
  pub admitted_count : p.live.device.MCount ≤ 7
  pub mirrored : p.live.device.DCount_i ≤ 7
  pub cycles : p.live.device.SDcycles ≤ 3
  pub errors : p.live.device.CommErrCount ≤ 1
  pub timeouts : p.live.device.TimeoutCount ≤ 1
  -- nothing in the histogram wraps
  pub bins : length p.bins ≡ bin_count
  pub fits : Fits (histogram_of p)

-- what is lent as a block
unfoldable pub block_in : Call → List ℕ
block_in (SetParameters port at octets) = octets
block_in (ReceiveResponse port at spdu safe) = []
block_in (ReceiveRequest port at spdu safe) = []
block_in (Clock port at safe_in safe_out) = []
block_in (Operator port at setSD_C ChFAck_C safe) = []
block_in (WithoutReading port act) = []

-- its elements are octets
pub data OctetsIn : List Call → Type 0 where
  no_call : OctetsIn []
  one_more : {c : Call} {past : List Call} → ((i : ℕ) → get_or (block_in c) i 0 < 256) → OctetsIn past → OctetsIn (c ∷ past)

-- ---- What a call hands on

-- "a part of the received SPDU where the machine releases them, and otherwise a part of the lent safe values": process octets of this call's SPDU
-- where the end releases and the SPDU led to a row; safe values, zeros, of n octets where it does not release; else empty, and release goes on
abbrev pub octets_handed_on : Bool → Bool → List ℕ → ℕ → List ℕ
octets_handed_on releases row process n = cond releases (cond row process []) (replicate n 0)

-- the process octets of a port's SPDUs, as FS-Master and as FS-Device
abbrev pub octets_in : Port → ℕ
octets_in p = process_octets p.setting.params.FSP_ProtMode p.setting.params.SPDUInLength

abbrev pub octets_out : Port → ℕ
octets_out p = process_octets p.setting.params.FSP_ProtMode p.setting.params.SPDUOutLength

-- this call's SPDU led to a row, at the FS-Master and at the FS-Device
abbrev pub response_admitted : Port → ℕ → Response → Bool
response_admitted p at f = table38.is_admitted (masters.watched p.live.master p.setting.params.FSP_WatchdogTime at) f

abbrev pub request_admitted : Port → ℕ → Request → Bool
request_admitted p at q = table40.is_admitted (devices.watched p.live.device p.setting.params.FSP_WatchdogTime at) q
