-- Demand 2: "SPDUs and both state machines are exactly those of the IO-Link Safety specification (000); process values appear only where its tables
-- release them, else safe values; each port's bins hold exactly the responses that 01 counts since its last accepted block, up to the freeze." It reads
-- with 02, item 2: "a sample counts only if the machine releases process values at that step". Assumes nothing.
--
-- "Exactly those of 000" is read in two files, row for row: fs_master specs/Table38.antt and fs_device specs/Table40.antt; the octets of an SPDU in spdu
-- specs/Places.antt, Built.antt and Signature.antt. Each function's contract is an equation with these. That the definitions copy 000 is for a reader to
-- compare; docs/DEFINITIONS.md has what holds each of them besides.
use Rattle.std.specs.Prelude.{ℕ, ◌<◌, ◌≤◌, ◌^◌, ◌≡◌, Bool, true, false, cond, ◌&&◌, List, [], ◌∷◌, leb, length, take, get_or, replicate}
use Rattle.answer.specs.Answers.{Taken, is_taken}
use Rattle.answer.specs.Rules.{answer_by}
use Rattle.ranges.specs.Fields.{outside}
use Rattle.block.specs.declared.Params.{Params}
use Rattle.spdu.specs.Signature.{by_bits}
use Rattle.spdu.specs.Places.{process_of}
use Rattle.spdu.specs.Fields.{response_by, request_by}
use Rattle.spdu.specs.Image as image
use Rattle.spdu.specs.RoundTrip.{request_back, response_back, zeros_back}
use Rattle.scl.specs.Time.{elapsed_of}
use Rattle.scl.specs.Happenings.{reading_of, is_fresh}
use Rattle.scl.specs.declared.Happening.{Happening}
use Rattle.scl.specs.declared.Mark.TheVariants.{Fresh}
use Rattle.fs_master.specs.History as masters
use Rattle.fs_device.specs.History as devices
use Rattle.histogram.specs.Samples.{bin_count, Within, in_bin, limit, sum_of, lowest_of, highest_of}
use Rattle.histogram.specs.Trends.{Shows, point_in}
use Rattle.samples.specs.Samples.{time_of, is_sample, samples}
use Rattle.bench.specs.declared.Port.{Port}
use Rattle.bench.specs.Methods.{annex_d}
use Rattle.bench.specs.Ports.{new_port, port_at, step_of}
use Rattle.bench.specs.Calls.{response_rules, request_rules, clock_rules, operator_rules, response_at, request_at, clock_at, operator_at}
use Rattle.bench.specs.Images.{compose_answer, composed, build_answer, response_out}
use Rattle.bench.specs.Shown.{trend_of, bins_of, told_bins}
use Rattle.bench.specs.History.{Call, history, never, since, since_block, ConfiguredLengths, octets_handed_on, octets_in, octets_out, response_admitted, request_admitted}

-- the samples that count, "up to the freeze": the first 4,294,967,295
abbrev pub counted : ℕ → Params → List Happening → List ℕ
counted at params past = take limit (samples at params.FSP_WatchdogTime past)

-- Port q, whose last accepted block had the reading `at` and these parameters, and at which this happened since, the latest first
pub record PortHolds (q : ℕ) (p : Port) (at : ℕ) (params : Params) (past : List Happening) : Type 0 where
  -- "both state machines are exactly those of 000": each end is what the rows make of what happened since the block
  pub master : p.live.master ≡ masters.master_after at params.FSP_WatchdogTime past
  pub device : p.live.device ≡ devices.device_after at params.FSP_WatchdogTime past
  -- 01, 10: of the SPDUs that came since each had the configured length
  pub lengths : ConfiguredLengths params past
  -- what they come to (01): no release before the first response that passes;
  pub passed_first : p.live.master.released ≡ true → masters.has_passed at params.FSP_WatchdogTime past ≡ true
  -- after a fault values return only once ChFAck_C followed ChFAckReq_S;
  pub acknowledged : p.live.master.released ≡ true → masters.fault at params.FSP_WatchdogTime past ≡ masters.None
  -- the FS-Device first admits SPDUs until SDcycles has run from 3 to 0;
  pub cycles_first : p.live.device.released ≡ true → 3 < devices.passed_since at params.FSP_WatchdogTime past
  -- and at neither end is a value released whose last SPDU lies more than W back
  pub master_in_time : (h : Happening) (earlier : List Happening) → past ≡ h ∷ earlier → reading_of h < 2 ^ 32 → p.live.master.released ≡ true
      → elapsed_of (reading_of h) (masters.last_admitted_at at params.FSP_WatchdogTime past) ≤ params.FSP_WatchdogTime
  pub device_in_time : (h : Happening) (earlier : List Happening) → past ≡ h ∷ earlier → reading_of h < 2 ^ 32 → p.live.device.released ≡ true
      → elapsed_of (reading_of h) (devices.last_admitted_at at params.FSP_WatchdogTime past) ≤ params.FSP_WatchdogTime
  -- "a sample counts only if the machine releases process values at that step": what comes next is one exactly where its call hands on fresh octets and
  -- t is at most W;
  pub sampled : (h : Happening) → let w = params.FSP_WatchdogTime in
      is_sample at w past h ≡ (is_fresh (step_of p h).reply.master && leb (time_of at w past h) w)
  -- t then is the time since the last response that was admitted, or since the block;
  pub sampled_since : (h : Happening) → is_sample at params.FSP_WatchdogTime past h ≡ true
      → time_of at params.FSP_WatchdogTime past h ≡ elapsed_of (reading_of h) (masters.last_admitted_at at params.FSP_WatchdogTime past)
  -- and no fault is open: a port that is late has no sample until it is acknowledged
  pub sampled_acknowledged : (h : Happening) → is_sample at params.FSP_WatchdogTime past h ≡ true
      → masters.fault at params.FSP_WatchdogTime (h ∷ past) ≡ masters.None
  -- 01: a sample's "elapsed t at most W"
  pub at_most_w : Within params.FSP_WatchdogTime (samples at params.FSP_WatchdogTime past)
  -- "bins hold exactly the responses that 01 counts since its last accepted block": bin i has as many as there are samples of bin i
  pub bins : (i : ℕ) → i < bin_count → get_or (told_bins (bins_of q p)).bins i 0 ≡ in_bin params.FSP_WatchdogTime i (counted at params past)
  pub total : (told_bins (bins_of q p)).total ≡ length (counted at params past)
  -- "up to the freeze", which is told
  pub frozen : (told_bins (bins_of q p)).frozen ≡ leb limit (length (samples at params.FSP_WatchdogTime past))
  -- 01: the trend point, the exact sum over the exact total, rounded once, with the lowest and the highest sample
  pub trend : 0 < length (samples at params.FSP_WatchdogTime past)
      → let s = counted at params past in Shows (sum_of s) (length s) (lowest_of s) (highest_of s) (point_in (trend_of q p))

-- What is sent, at any port where the call is answered TAKEN: read at the other end of the same parameters it is what the machine holds
pub record Sends (q : ℕ) (p : Port) : Type 0 where
  pub request : (process other octets : List ℕ) → is_taken (compose_answer q p process other octets) ≡ true
      → let sent = take p.setting.params.SPDUOutLength (composed annex_d q p process other octets) in
      let m = p.live.master in
      (request_by by_bits p.setting.params sent ≡ request_back p.setting.params m.MCount m.setSD m.ChFAckReq)
      × (process_of p.setting.params.FSP_ProtMode sent ≡ cond m.setSD (replicate (octets_out p) 0) process)
  pub response : (process out : List ℕ) → is_taken (build_answer q p process out) ≡ true → p.live.device.responded ≡ true
      → let d = p.live.device in
      (response_by by_bits p.setting.params (response_out annex_d q p process out) ≡ response_back p.setting.params d.DCount_i d.SDset d.DCommErr d.DTimeout)
      × (process_of p.setting.params.FSP_ProtMode (response_out annex_d q p process out) ≡ process)
  -- until the FS-Device has admitted an SPDU its own is zeros alone (R23), and so it is read
  pub no_response : (process out : List ℕ) → is_taken (build_answer q p process out) ≡ true → p.live.device.responded ≡ false
      → response_by by_bits p.setting.params (response_out annex_d q p process out) ≡ zeros_back p.setting.params

-- "Process values appear only where its tables release them, else safe values": what a call hands on that is answered TAKEN. `octets_handed_on`: process octets of
-- this call's SPDU where the end releases and the SPDU led to a row, zeros where the end does not release, else an empty part, and release goes on
pub record HandsOn (q : ℕ) (p : Port) (at : ℕ) : Type 0 where
  pub response : (spdu safe : List ℕ) → is_taken (answer_by Taken (response_rules q p.setting (length spdu) safe)) ≡ true
      → let r = (response_at annex_d q p at spdu safe).reply in
      let mode = p.setting.params.FSP_ProtMode in
      image.handed_on r.master mode spdu safe ≡ octets_handed_on r.master_releases (response_admitted p at (response_by by_bits p.setting.params spdu)) (process_of mode spdu) (octets_in p)
  pub request : (spdu safe : List ℕ) → is_taken (answer_by Taken (request_rules q p.setting (length spdu) safe)) ≡ true
      → let r = (request_at annex_d q p at spdu safe).reply in
      let mode = p.setting.params.FSP_ProtMode in
      image.handed_on r.device mode spdu safe ≡ octets_handed_on r.device_releases (request_admitted p at (request_by by_bits p.setting.params spdu)) (process_of mode spdu) (octets_out p)
  pub clock : (safe_in safe_out : List ℕ) → is_taken (answer_by Taken (clock_rules q p.setting safe_in safe_out)) ≡ true
      → let r = (clock_at q p at safe_in safe_out).reply in
      let mode = p.setting.params.FSP_ProtMode in
      (image.handed_on r.master mode [] safe_in ≡ octets_handed_on r.master_releases false [] (octets_in p))
      × (image.handed_on r.device mode [] safe_out ≡ octets_handed_on r.device_releases false [] (octets_out p))
  pub operator : (setSD_C ChFAck_C : Bool) (safe : List ℕ) → is_taken (answer_by Taken (operator_rules q p.setting safe)) ≡ true
      → let r = (operator_at q p at setSD_C ChFAck_C safe).reply in
      image.handed_on r.master p.setting.params.FSP_ProtMode [] safe ≡ octets_handed_on r.master_releases false [] (octets_in p)
  -- "where its tables release them": fresh octets only in T4 and T11 at the FS-Master and in T22 at the FS-Device, under the row's conditions
  pub master_rows : (h : Happening) → (step_of p h).reply.master ≡ Fresh → masters.FreshBy p.live.master p.setting.params.FSP_WatchdogTime h
  pub device_rows : (h : Happening) → (step_of p h).reply.device ≡ Fresh → devices.FreshBy p.live.device p.setting.params.FSP_WatchdogTime h

pub record Demand2 : Type 0 where
  -- after every list of calls from the new bench, good, bad or malformed, of each of the eight ports
  pub since_a_block : (q : ℕ) → outside 1 8 q ≡ false → (calls : List Call) (at : ℕ) (params : Params) (past : List Happening)
      → since_block q calls ≡ since at params past → PortHolds q (port_at (history calls) q) at params past
  -- before its first accepted block a port is as it was when new
  pub before_a_block : (q : ℕ) → outside 1 8 q ≡ false → (calls : List Call) → since_block q calls ≡ never → port_at (history calls) q ≡ new_port
  pub sends : (q : ℕ) (p : Port) → Sends q p
  pub hands_on : (q : ℕ) (p : Port) (at : ℕ) → HandsOn q p at
