-- What the bench's theorems ask is met by one list of calls, computed: a parameter block for port 1, the response that releases at its FS-Master, a
-- damaged request, and the five requests of which the last releases at its FS-Device. Assumes nothing.
use Prim.Native.Nat.{ℕ, ◌<◌}
use native.Mathlib.Omega.{arith}
use mathlib.Core.Path.{◌≡◌, refl, sym, ap, ◌∙◌}
use mathlib.Core.Bool.{Bool, true, false, cond}
use mathlib.Core.List.{List, [], ◌∷◌, ◌++◌, map}
use lib.Dec.{eqb, leb}
use lib.ListN.{length, take, drop, get_or, replicate}
use Rattle.std.specs.Prelude.{Err}
use Rattle.answer.specs.declared.Refusal.TheVariants.{Signature, Buffer, NoPort, NotRunning, SpduLength, NoSamples}
use Rattle.answer.specs.Answers.{Answer, Taken, is_taken, without_value}
use Rattle.answer.specs.Rules.{answer_by}
use Rattle.block.specs.Table22.{params_of}
use Rattle.block.proofs.Arises.{good, octets_of_lem}
use Rattle.signature.specs.Signature as signing
use Rattle.spdu.specs.Signature.{by_bits}
use Rattle.spdu.specs.Fields.{response_by, request_by}
use Rattle.spdu.specs.Image.{handed_on}
use Rattle.spdu.specs.Places.{process_of}
use Rattle.spdu.specs.RoundTrip.{request_back, response_back, zeros_back}
use Rattle.scl.specs.Time.{elapsed_of}
use Rattle.scl.specs.declared.Request.{Request}
use Rattle.scl.specs.declared.Response.{Response}
use Rattle.scl.specs.declared.Mark.{Mark}
use Rattle.scl.specs.declared.Mark.TheVariants.{Fresh, Safe}
use Rattle.scl.specs.declared.Happening.{Happening}
use Rattle.scl.specs.declared.Happening.TheVariants as happening
use Rattle.fs_master.specs.Table38 as table38
use Rattle.fs_master.specs.Calls as masters
use Rattle.fs_master.specs.Regular as regularMasters
use Rattle.fs_master.specs.History as masterSpecs
use Rattle.fs_master.specs.History.{master_after, watched_in, passes_by, has_passed, signals, signals_after, HasSignals, admitted_by, faulty_by, None, Open, answered_by, fault}
use Rattle.fs_device.specs.Table40 as table40
use Rattle.fs_device.specs.Calls as devices
use Rattle.fs_device.specs.History as deviceSpecs
use Rattle.fs_device.specs.History.{device_after, passed_since, had_error, had_timeout, had_error_or_timeout}
use Rattle.histogram.specs.Samples.{bin_count, in_bin, limit, sum_of, lowest_of, highest_of}
use Rattle.histogram.specs.Counted as counted
use Rattle.histogram.specs.Trends.{Shows, zero, point_in}
use Rattle.samples.specs.Tallied.{tallied_by}
use Rattle.samples.specs.Samples.{releases_by, sent_since, passed_for_count, time_of, is_sample, samples}
use Rattle.bench.specs.declared.Port.{Port}
use Rattle.bench.specs.Methods.{Method, annex_d}
use Rattle.bench.specs.Ports.{new_port, accepted_port, new_bench, no_port, port_at, with_port, turn_of, stored, said, step_of, silent, first_live}
use Rattle.bench.specs.Regular.{is_regular, regular_of}
use Rattle.bench.specs.Calls as calls
use Rattle.bench.specs.Images.{compose_answer, composed, build_answer, response_out, split_answer, spdu_part, other_part}
use Rattle.bench.specs.declared.End.TheVariants as end
use Rattle.bench.specs.Handing.{handed_to, handed_out}
use Rattle.bench.specs.Shown.{trend_of, bins_of, told_bins, master_of, told_master, device_of, told_device}
use Rattle.bench.specs.History.{Compose, BuildResponse, HandOn, Call, SetParameters, ReceiveResponse, ReceiveRequest, Clock, WithoutReading, answer_without_reading, written_without_reading, addressed, answer_of, after, history, addressing, goes_on, extended, since, since_block, MatchesSince, Matches, Arising, block_in, OctetsIn, no_call, one_more, octets_out, Operator, Split, Trend, Bins, ShowMaster, ShowDevice, rules_of, rules_without_reading, result_of, history_by}
use Rattle.bench.proofs.Answers.{refused_same, left_out, compose_refused, build_refused, split_refused, split_taken, handed-refused}
use Rattle.bench.proofs.AtPort.{eight, taken_at, taken_at_lem, other_at, others}
use Rattle.bench.proofs.Regulars.{regular_turn}
use Rattle.bench.proofs.History.{matches}
use Rattle.bench.proofs.Release.{matching, passed_first, acknowledged, signals_hold, cycles_first, after_error}
use Rattle.bench.proofs.Showing.{NoneShown, refused_shown, refused_trend, refused_master, refused_device, bins_shown, bins_many, total_shown, frozen_shown, trend_answer, trend_shown}
use Rattle.bench.proofs.Silent.{NothingSaid, Says, refused_says}
use Rattle.bench.proofs.Sent as sends
use Rattle.bench.proofs.Sent.{sent}
use Rattle.bench.proofs.HandedOn as handing
use Rattle.bench.proofs.HandedAfter as handingAfter
use Rattle.bench.proofs.Never.{arising}

-- the first parameter block of examples/sound-port: SPDUs of 6 octets to the FS-Master and of 5 to the FS-Device, with 2 and 1 process octets
abbrev pub uneven : List ℕ
uneven = 0x80 ∷ 0x01 ∷ 0x31 ∷ 0x00 ∷ 0x00 ∷ 0x00 ∷ 0x00 ∷ 0x01 ∷ 0x00 ∷ 0x00 ∷ 0x00 ∷ 0x01 ∷ 0x00 ∷ 0x00 ∷ 0x00 ∷ 0x00 ∷ 0x00 ∷ 0x00 ∷ 0x00 ∷ 0x00 ∷ 0x00 ∷ 0x00 ∷ 0x01 ∷ 0x4E ∷ 0xAB ∷ 0x01 ∷ 0x01 ∷ 0x00 ∷ 0x64 ∷ 0x8E ∷ 0x54 ∷ 0x00 ∷ 0x00 ∷ 0x00 ∷ 0x00 ∷ 0xF5 ∷ 0x99 ∷ 0x01 ∷ 0x06 ∷ 0x10 ∷ 0x02 ∷ 0x00 ∷ 0x00 ∷ 0x05 ∷ 0x08 ∷ 0x01 ∷ 0x00 ∷ 0x00 ∷ []

abbrev pub running : Port
running = record { setting = record { params = params_of uneven; running = true; unused = [] }; live = first_live 0; bins = [] }

-- an SPDU to and from port 1, with this control or status octet and signature
abbrev spdu : ℕ → ℕ → ℕ → List ℕ
spdu octet high low = 0x2A ∷ 1 ∷ octet ∷ high ∷ low ∷ []

abbrev safe : List ℕ
safe = 0 ∷ []

-- DCount_i 7, no signal set
abbrev response : List ℕ
response = spdu 0xE0 0x3A 0x0F

-- MCount 5
abbrev request : List ℕ
request = spdu 0xA0 0xDD 0x85

abbrev accepted : Call
accepted = SetParameters 1 1000 good

-- the latest first: MCount 4, 3, 2, 1, and 0 with a damaged signature
abbrev earlier : List Call
earlier =
    ReceiveRequest 1 1060 (spdu 0x80 0xAE 0x40) safe
    ∷ ReceiveRequest 1 1050 (spdu 0x60 0xBB 0xB0) safe
    ∷ ReceiveRequest 1 1040 (spdu 0x40 0xC8 0x75) safe
    ∷ ReceiveRequest 1 1030 (spdu 0x20 0x5C 0x3A) safe
    ∷ ReceiveRequest 1 1020 (spdu 0x00 0x2F 0xFE) safe
    ∷ ReceiveResponse 1 1010 response safe
    ∷ accepted
    ∷ []

abbrev worked : List Call
worked = ReceiveRequest 1 1070 request safe ∷ earlier

abbrev requested : ℕ → List ℕ → Happening
requested at octets = happening.Request at (request_by by_bits (params_of good) octets)

-- what happened at port 1 since its block
abbrev past : List Happening
past =
    requested 1070 request
    ∷ requested 1060 (spdu 0x80 0xAE 0x40)
    ∷ requested 1050 (spdu 0x60 0xBB 0xB0)
    ∷ requested 1040 (spdu 0x40 0xC8 0x75)
    ∷ requested 1030 (spdu 0x20 0x5C 0x3A)
    ∷ requested 1020 (spdu 0x00 0x2F 0xFE)
    ∷ happening.Response 1010 (response_by by_bits (params_of good) response)
    ∷ []

-- port 1 after the block, before the last call and after it, and a call to a port that does not run
abbrev begun : Port
begun = port_at (history (accepted ∷ [])) 1

abbrev before : Port
before = port_at (history earlier) 1

abbrev port : Port
port = port_at (history worked) 1

abbrev refused : Call
refused = Clock 2 0 [] []

-- what the theorems ask of the calls
record Asked : Type 0 where
  block : since_block 1 worked ≡ since 1000 (params_of good) past
  runs : port.setting.running ≡ true
  master_releases : port.live.master.released ≡ true
  device_releases : port.live.device.released ≡ true
  had_an_error : had_error_or_timeout 1000 100 past ≡ true
  last_taken : is_taken (answer_of (history earlier) (ReceiveRequest 1 1070 request safe)) ≡ true
  clock_refused : is_taken (answer_of new_bench refused) ≡ false
  one_sample : samples 1000 100 past ≡ 10 ∷ []
  values_sent : port.live.master.setSD ≡ false
  has_responded : port.live.device.responded ≡ true

asked : Asked
unfolding had_error_or_timeout had_error had_timeout device_after samples is_sample time_of sent_since passed_for_count releases_by signals signals_after master_after watched_in passes_by since_block extended goes_on addressed result_of history_by calls.placed calls.asked calls.asked_by_block calls.done port_at with_port new_bench new_port no_port accepted_port turn_of stored said step_of tallied_by silent signing.signature signing.octet signing.shift_in_all signing.shift_in elapsed_of table38.watchdog_row table38.is_old table38.is_admitted table38.checked table38.from8 table38.arrival_row table38.admitted table38.start_from table38.t4 table38.acted masters.watched masters.watched_by masters.quiet masters.arrived masters.received masters.clocked masters.step_of table40.watchdog_row table40.is_admitted table40.checked table40.arrival_row table40.admitted table40.t22 table40.t25 table40.t28 table40.t29 table40.acted devices.watched devices.watched_by devices.quiet devices.arrived devices.received devices.clocked devices.step_of counted.frozen_of counted.with_sample counted.counted_of counted.totalled_of
asked = record {
  block = refl;
  runs = refl;
  master_releases = refl;
  device_releases = refl;
  had_an_error = refl;
  last_taken = refl;
  clock_refused = refl;
  one_sample = refl;
  values_sent = refl;
  has_responded = refl;
}

-- blocks of octets
octets_met : OctetsIn worked
unfolding block_in
octets_met =
    one_more none (one_more none (one_more none (one_more none (one_more none (one_more none (one_more none (one_more (octets_of_lem good refl) no_call)))))))
  where
    none : (i : ℕ) → get_or [] i 0 < 256
    none = octets_of_lem [] refl

-- ---- the theorems, of these calls

pub arising_met : Arising 1 port
arising_met = arising 1 refl worked octets_met asked.runs

pub passed_first_met : has_passed 1000 100 past ≡ true
passed_first_met = passed_first 1 refl worked 1000 (params_of good) past asked.block asked.master_releases

pub acknowledged_met : fault 1000 100 past ≡ None
acknowledged_met = acknowledged 1 refl worked 1000 (params_of good) past asked.block asked.master_releases

pub cycles_first_met : 3 < passed_since 1000 100 past
cycles_first_met = cycles_first 1 refl worked 1000 (params_of good) past asked.block asked.device_releases

pub after_error_met : 4 < passed_since 1000 100 past
after_error_met = after_error 1 refl worked 1000 (params_of good) past asked.block asked.had_an_error asked.device_releases

pub signals_hold_met : HasSignals (signals past) port.live.master
signals_hold_met = signals_hold 1 refl worked 1000 (params_of good) past asked.block

matches_met : MatchesSince port 1000 (params_of good) past
unfolding Matches
matches_met = rw asked.block at (matches 1 refl worked)

pub trend_shown_met :
    let counted = take limit (samples 1000 100 past) in
    Shows (sum_of counted) (length counted) (lowest_of counted) (highest_of counted) (point_in (trend_of 1 port))
trend_shown_met = trend_shown 1 refl port 1000 (params_of good) past matches_met (rw asked.one_sample (omega arith))

pub bins_shown_met : (i : ℕ) → i < bin_count → get_or (told_bins (bins_of 1 port)).bins i 0 ≡ in_bin 100 i (take limit (samples 1000 100 past))
bins_shown_met i h = bins_shown 1 refl port 1000 (params_of good) past matches_met i h

pub bins_many_met : length (told_bins (bins_of 1 port)).bins ≡ bin_count
bins_many_met = bins_many 1 refl port 1000 (params_of good) past matches_met

pub total_shown_met : (told_bins (bins_of 1 port)).total ≡ length (take limit (samples 1000 100 past))
total_shown_met = total_shown 1 refl port 1000 (params_of good) past matches_met

-- the one sample, 10 of 100, has the bin 3
pub one_shown : (get_or (told_bins (bins_of 1 port)).bins 3 0 ≡ 1) × ((told_bins (bins_of 1 port)).total ≡ 1)
unfolding limit in_bin
one_shown = (rw asked.one_sample at (bins_shown_met 3 (omega arith)), rw asked.one_sample at total_shown_met)

pub refused_shown_met : NoneShown (told_bins (bins_of 9 port))
unfolding bins_of
refused_shown_met = refused_shown 9 port refl

pub refused_trend_met : point_in (trend_of 9 port) ≡ record { mean = zero; lowest = zero; highest = zero }
unfolding trend_of
refused_trend_met = refused_trend 9 port refl

pub refused_master_met : told_master (master_of 9 port) ≡ table38.first_master 0
unfolding master_of
refused_master_met = refused_master 9 port refl

pub refused_device_met : told_device (device_of 9 port) ≡ table40.first_device 0
unfolding device_of
refused_device_met = refused_device 9 port refl

pub frozen_shown_met : (told_bins (bins_of 1 port)).frozen ≡ leb limit (length (samples 1000 100 past))
frozen_shown_met = frozen_shown 1 refl port 1000 (params_of good) past matches_met

pub trend_answer_met : without_value (trend_of 1 port) ≡ cond (eqb (length (samples 1000 100 past)) 0) (Err NoSamples) Taken
trend_answer_met = trend_answer 1 refl port 1000 (params_of good) past matches_met

pub refused_same_met : after new_bench refused ≡ new_bench
refused_same_met = refused_same new_bench refused asked.clock_refused

pub refused_says_met : NothingSaid (calls.clock new_bench 2 0 [] []).reply
unfolding Says
refused_says_met = refused_says new_bench refused asked.clock_refused

pub left_out_met : history (worked ++ refused ∷ []) ≡ history (worked ++ [])
unfolding history_by
left_out_met = left_out worked refused [] asked.clock_refused

pub taken_at_met : port_at (after (history earlier) (ReceiveRequest 1 1070 request safe)) 1 ≡ taken_at before (ReceiveRequest 1 1070 request safe)
unfolding addressed
taken_at_met = taken_at_lem (history earlier) (eight earlier) (ReceiveRequest 1 1070 request safe) refl asked.last_taken

pub other_at_met : port_at (after (history earlier) refused) 1 ≡ before
unfolding addressed
other_at_met = other_at (history earlier) (eight earlier) 1 refl refused refl

pub others_met : port_at (history (refused ∷ worked)) 1 ≡ port_at (history (addressing 1 (refused ∷ worked))) 1
others_met = others 1 refl (refused ∷ worked)

-- buffers of a port that does not run
pub compose_refused_met : composed annex_d 2 new_port [] [] (7 ∷ []) ≡ 7 ∷ []
unfolding compose_answer new_port
compose_refused_met = compose_refused 2 new_port [] [] (7 ∷ []) refl

pub build_refused_met : response_out annex_d 2 new_port [] (7 ∷ []) ≡ 7 ∷ []
unfolding build_answer new_port
build_refused_met = build_refused 2 new_port [] (7 ∷ []) refl

pub split_taken_met : let l = spdu_part 1 running (replicate 6 0) in (l ++ other_part 1 running (replicate 6 0) ≡ replicate 6 0) × (length l ≡ 6)
unfolding split_answer
split_taken_met = split_taken 1 running (replicate 6 0) refl

pub split_refused_met : (spdu_part 2 new_port (7 ∷ []) ≡ []) × (other_part 2 new_port (7 ∷ []) ≡ [])
unfolding split_answer new_port
split_refused_met = split_refused 2 new_port (7 ∷ []) refl

pub handed_refused_met : handed_out annex_d 2 new_port end.Master Fresh response safe (7 ∷ []) ≡ 7 ∷ []
unfolding handed_to new_port
handed_refused_met = handed-refused 2 new_port end.Master Fresh response safe (7 ∷ []) refl

-- ---- what is handed on: process octets by the response and the last request, safe values before

abbrev handed : Mark → List ℕ → List ℕ
handed mark octets = handed_on mark 1 octets safe

abbrev read : Response
read = response_by by_bits (params_of good) response

abbrev read_request : Request
read_request = request_by by_bits (params_of good) request

pub record Handed : Type 0 where
  response_hands_on : handed (calls.response_at annex_d 1 begun 1010 response safe).reply.master response ≡ 0x2A ∷ []
  request_hands_on : handed (calls.request_at annex_d 1 before 1070 request safe).reply.device request ≡ 0x2A ∷ []
  clock_hands_on_in : handed (calls.clock_at 1 begun 1005 safe safe).reply.master [] ≡ safe
  clock_hands_on_out : handed (calls.clock_at 1 begun 1005 safe safe).reply.device [] ≡ safe
  operator_hands_on : handed (calls.operator_at 1 begun 1005 true false safe).reply.master [] ≡ safe
  refused_hands_on : (calls.done begun 1005 (calls.asked (Err NoPort) (happening.Clock 1005))).reply ≡ silent (Err NoPort)
  master_fresh_only : masterSpecs.FreshBy begun.live.master begun.setting.params.FSP_WatchdogTime (happening.Response 1010 read)
  device_fresh_only : deviceSpecs.FreshBy before.live.device before.setting.params.FSP_WatchdogTime (happening.Request 1070 read_request)

pub handed_met : Handed
unfolding addressed result_of history_by calls.placed calls.asked calls.asked_by_block calls.done port_at with_port new_bench new_port no_port accepted_port turn_of stored said step_of tallied_by silent signing.signature signing.octet signing.shift_in_all signing.shift_in elapsed_of table38.watchdog_row table38.is_old table38.is_admitted table38.checked table38.from8 table38.arrival_row table38.admitted table38.start_from table38.t4 table38.acted masters.watched masters.watched_by masters.quiet masters.arrived masters.received masters.clocked masters.operated table38.signalled masters.step_of table40.watchdog_row table40.is_admitted table40.checked table40.arrival_row table40.admitted table40.t22 table40.t25 table40.t28 table40.t29 table40.acted devices.watched devices.watched_by devices.quiet devices.arrived devices.received devices.clocked devices.step_of counted.frozen_of counted.with_sample counted.counted_of counted.totalled_of
handed_met = record {
  response_hands_on = handing.response_hands_on 1 begun 1010 response safe refl;
  request_hands_on = handing.request_hands_on 1 before 1070 request safe refl;
  clock_hands_on_in = handing.clock_hands_on_in 1 begun 1005 safe safe refl;
  clock_hands_on_out = handing.clock_hands_on_out 1 begun 1005 safe safe refl;
  operator_hands_on = handing.operator_hands_on 1 begun 1005 true false safe refl;
  refused_hands_on = handing.refused_hands_on begun 1005 (Err NoPort) (happening.Clock 1005) refl;
  master_fresh_only = handing.master_fresh_only begun (happening.Response 1010 read) refl;
  device_fresh_only = handing.device_fresh_only before (happening.Request 1070 read_request) refl;
}

-- the port after its response, which releases at the FS-Master
abbrev responded : Port
responded = (calls.response_at annex_d 1 begun 1010 response safe).port

-- copied out: by the mark of the call that brought it, and by nothing else that may be told: at an end that releases, not of an SPDU with one wrong
-- octet in its signature, nor of one that is sound but has another count or another port's number
pub record Copied : Type 0 where
  by_response : handingAfter.Hands 1 responded end.Master (calls.response_at annex_d 1 begun 1010 response safe).reply.master response safe (7 ∷ 7 ∷ []) (0x2A ∷ [])
  by_request : handingAfter.Hands 1 port end.Device Fresh request safe (7 ∷ 7 ∷ []) (0x2A ∷ [])
  clock_in : handingAfter.Hands 1 (calls.clock_at 1 begun 1005 safe safe).port end.Master (calls.clock_at 1 begun 1005 safe safe).reply.master [] safe (7 ∷ []) safe
  clock_out : handingAfter.Hands 1 (calls.clock_at 1 begun 1005 safe safe).port end.Device (calls.clock_at 1 begun 1005 safe safe).reply.device [] safe (7 ∷ []) safe
  operator : handingAfter.Hands 1 (calls.operator_at 1 begun 1005 true false safe).port end.Master (calls.operator_at 1 begun 1005 true false safe).reply.master [] safe (7 ∷ []) safe
  not_released : handed_out annex_d 1 before end.Device Fresh request safe (7 ∷ []) ≡ 0 ∷ []
  damaged : handed_out annex_d 1 port end.Device Fresh (spdu 0xA0 0xDD 0x84) safe (7 ∷ []) ≡ 0 ∷ []
  other_count : handed_out annex_d 1 port end.Device Fresh (spdu 0x80 0xAE 0x40) safe (7 ∷ []) ≡ 0 ∷ []
  other_port : handed_out annex_d 1 port end.Device Fresh (0x2A ∷ 2 ∷ 0xA0 ∷ 0x0B ∷ 0xFA ∷ []) safe (7 ∷ []) ≡ 0 ∷ []
  damaged_response : handed_out annex_d 1 responded end.Master Fresh (spdu 0xE0 0x3A 0x0E) safe (7 ∷ []) ≡ 0 ∷ []
  other_count_response : handed_out annex_d 1 responded end.Master Fresh (spdu 0xC0 0x49 0xCA) safe (7 ∷ []) ≡ 0 ∷ []
  other_port_response : handed_out annex_d 1 responded end.Master Fresh (0x2A ∷ 2 ∷ 0xE0 ∷ 0xEC ∷ 0x70 ∷ []) safe (7 ∷ []) ≡ 0 ∷ []
  other_length : handed_to annex_d 1 port end.Device Fresh [] safe 1 ≡ Err SpduLength
  not_zero : handed_to annex_d 1 port end.Device Fresh request (0xFF ∷ []) 1 ≡ Err Buffer
  no_room : handed_to annex_d 1 port end.Device Fresh request safe 0 ≡ Err Buffer
  no_such_port : handed_to annex_d 9 port end.Device Fresh request safe 1 ≡ Err NoPort

pub copied_met : Copied
unfolding addressed result_of history_by calls.placed calls.asked calls.asked_by_block calls.done port_at with_port new_bench new_port no_port accepted_port turn_of stored said step_of tallied_by silent signing.signature signing.octet signing.shift_in_all signing.shift_in elapsed_of table38.watchdog_row table38.is_old table38.is_admitted table38.checked table38.from8 table38.arrival_row table38.admitted table38.start_from table38.t4 table38.acted masters.watched masters.watched_by masters.quiet masters.arrived masters.received masters.clocked masters.operated table38.signalled masters.step_of table40.watchdog_row table40.is_admitted table40.checked table40.arrival_row table40.admitted table40.t22 table40.t25 table40.t28 table40.t29 table40.acted devices.watched devices.watched_by devices.quiet devices.arrived devices.received devices.clocked devices.step_of counted.frozen_of counted.with_sample counted.counted_of counted.totalled_of handed_to handed_out
copied_met = record {
  by_response = handingAfter.response-handed 1 begun 1010 response safe (7 ∷ 7 ∷ []) refl (omega arith);
  by_request = record { told = refl; written = refl };
  clock_in = handingAfter.clock_handed_in 1 begun 1005 safe safe (7 ∷ []) refl (omega arith);
  clock_out = handingAfter.clock_handed_out 1 begun 1005 safe safe (7 ∷ []) refl (omega arith);
  operator = handingAfter.operator-handed 1 begun 1005 true false safe (7 ∷ []) refl (omega arith);
  not_released = refl;
  damaged = refl;
  other_count = refl;
  other_port = refl;
  damaged_response = refl;
  other_count_response = refl;
  other_port_response = refl;
  other_length = refl;
  not_zero = refl;
  no_room = refl;
  no_such_port = refl;
}

pub master_fresh_if_met : (step_of begun (happening.Response 1010 read)).reply.master ≡ Fresh
unfolding masterSpecs.FreshBy
master_fresh_if_met = handing.master_fresh_if begun 1010 read handed_met.master_fresh_only.0

pub device_fresh_if_met : (step_of before (happening.Request 1070 read_request)).reply.device ≡ Fresh
unfolding deviceSpecs.FreshBy
device_fresh_if_met = handing.device_fresh_if before 1070 read_request handed_met.device_fresh_only.0

-- ---- what goes out

-- buffers of the right lengths for port 1
abbrev process : List ℕ
process = 0x2A ∷ []

abbrev image : List ℕ
image = replicate 5 7

module _ (p : Port) (at : ℕ) (past : List Happening) (s : MatchesSince p at (params_of good) past) where
  composes : is_taken (compose_answer 1 p process [] image) ≡ true
  unfolding compose_answer
  composes = rw (s.running, s.parameters) refl

  builds : is_taken (build_answer 1 p process image) ≡ true
  unfolding build_answer
  builds = rw (s.running, s.parameters) refl

-- a damaged response, by which a fault is open
abbrev damaged : List Call
damaged = ReceiveResponse 1 1010 (spdu 0xE0 0x3A 0x0E) safe ∷ accepted ∷ []

abbrev faulty_past : List Happening
faulty_past = happening.Response 1010 (response_by by_bits (params_of good) (spdu 0xE0 0x3A 0x0E)) ∷ []

abbrev faulty : Port
faulty = port_at (history damaged) 1

faulty-block : since_block 1 damaged ≡ since 1000 (params_of good) faulty_past
unfolding since_block extended goes_on addressed result_of history_by calls.placed calls.asked calls.asked_by_block calls.done port_at with_port new_bench new_port no_port accepted_port turn_of stored said step_of silent signing.signature signing.octet signing.shift_in_all signing.shift_in
faulty-block = refl

fault_open : fault 1000 100 faulty_past ≡ Open
unfolding fault admitted_by faulty_by answered_by signals watched_in master_after signing.signature signing.octet signing.shift_in_all signing.shift_in table38.watchdog_row table38.is_old table38.is_admitted table38.checked table38.arrival_row masters.watched masters.watched_by masters.quiet masters.arrived masters.received masters.step_of table38.acted
fault_open = refl

is_faulty_lem : fault 1000 100 faulty_past ≡ None → ⊥
is_faulty_lem e = let z : Open ≡ None = sym fault_open ∙ e in let o : ◌≡◌ {A = ℕ} 0 1 = cc in absurd (omega arith)

faulty_matches : MatchesSince faulty 1000 (params_of good) faulty_past
faulty_matches = matching 1 refl damaged 1000 (params_of good) faulty_past faulty-block

no_response_yet : faulty.live.device.responded ≡ false
unfolding device_after table40.watchdog_row table40.acted devices.watched devices.watched_by devices.quiet devices.clocked devices.step_of
no_response_yet = rw faulty_matches.device refl

-- process octets as lent and the FS-Device's answer to its last request; zeros with setSD 1 while the fault is open; zeros before the first response
pub record Out : Type 0 where
  process_sent_lem : process_of port.setting.params.FSP_ProtMode (sent 1 port process [] image) ≡ process
  request_sent : request_by by_bits port.setting.params (sent 1 port process [] image) ≡ request_back port.setting.params port.live.master.MCount false port.live.master.ChFAckReq
  zeros_with_setSD : let s = sent 1 port process [] image in process_of port.setting.params.FSP_ProtMode s ≡ cond (request_by by_bits port.setting.params s).setSD (replicate (octets_out port) 0) process
  safe_while_faulty :
      let s = sent 1 faulty process [] image in
      (process_of faulty.setting.params.FSP_ProtMode s ≡ replicate (octets_out faulty) 0) × ((request_by by_bits faulty.setting.params s).setSD ≡ true)
  process_answered : process_of port.setting.params.FSP_ProtMode (response_out annex_d 1 port process image) ≡ process
  response_sent : response_by by_bits port.setting.params (response_out annex_d 1 port process image) ≡ response_back port.setting.params port.live.device.DCount_i port.live.device.SDset port.live.device.DCommErr port.live.device.DTimeout
  zeros_first : response_by by_bits faulty.setting.params (response_out annex_d 1 faulty process image) ≡ zeros_back faulty.setting.params

pub out_met : Out
out_met =
    let composed = composes port 1000 past matches_met in
    let built = builds port 1000 past matches_met in
    record {
      process_sent_lem = sends.process_sent_lem 1 port process [] image composed ∙ ap (λ (b : Bool). cond b (replicate (octets_out port) 0) process) asked.values_sent;
      request_sent = sends.request_sent 1 port process [] image composed ∙ ap (λ (b : Bool). request_back port.setting.params port.live.master.MCount b port.live.master.ChFAckReq) asked.values_sent;
      zeros_with_setSD = sends.zeros_with_setSD 1 port process [] image composed;
      safe_while_faulty = sends.safe_while_faulty 1 refl damaged 1000 (params_of good) faulty_past faulty-block is_faulty_lem process [] image (composes faulty 1000 faulty_past faulty_matches);
      process_answered = sends.process_answered 1 port process image built asked.has_responded;
      response_sent = sends.response_sent 1 port process image built asked.has_responded;
      zeros_first = sends.zeros_first 1 faulty process image (builds faulty 1000 faulty_past faulty_matches) no_response_yet;
    }

-- ---- the response is a regular one: port 1 takes the turn that is written apart
is_regular_lem : is_regular begun.setting begun.live (happening.Response 1010 read) ≡ true
unfolding is_regular regularMasters.is_regular table38.is_old devices.unchanged tallied_by counted.totalled_of limit elapsed_of result_of history_by calls.placed calls.asked_by_block calls.done port_at with_port new_bench new_port no_port accepted_port silent signing.signature signing.octet signing.shift_in_all signing.shift_in
is_regular_lem = refl

pub regular_turn_met : regular_of begun.setting begun.live (happening.Response 1010 read) ≡ turn_of begun.setting begun.live (happening.Response 1010 read)
regular_turn_met = regular_turn begun.setting begun.live (happening.Response 1010 read) is_regular_lem

-- ---- answers at the edges of the rules, and where two are broken: the first in 01's order

-- octets of a wrong length, of both lengths, and lent values that are not zero
abbrev one : List ℕ
one = 1 ∷ []

abbrev five : List ℕ
five = replicate 5 0

abbrev six : List ℕ
six = replicate 6 0

abbrev two : List ℕ
two = replicate 2 0

-- a call to a port, and its answer
abbrev answers : List (Port × Call × Answer)
answers =
    -- 8 before 9, 9 before 10, 7 and 11, 10 before 7
    (new_port, ReceiveResponse 0 0 one one, Err NoPort)
    ∷ (new_port, ReceiveRequest 9 0 one one, Err NoPort)
    ∷ (new_port, Clock 9 0 one one, Err NoPort)
    ∷ (new_port, WithoutReading 9 Trend, Err NoPort)
    ∷ (new_port, ReceiveResponse 1 0 one one, Err NotRunning)
    ∷ (new_port, ReceiveRequest 1 0 one one, Err NotRunning)
    ∷ (new_port, Clock 1 0 one one, Err NotRunning)
    ∷ (new_port, Operator 1 0 false false one, Err NotRunning)
    ∷ (new_port, WithoutReading 1 (Compose one one one), Err NotRunning)
    ∷ (new_port, WithoutReading 1 (BuildResponse one one), Err NotRunning)
    ∷ (new_port, WithoutReading 1 (Split one), Err NotRunning)
    ∷ (new_port, WithoutReading 1 (HandOn end.Master Fresh one one one), Err NotRunning)
    ∷ (new_port, WithoutReading 1 Trend, Err NotRunning)
    ∷ (new_port, WithoutReading 8 Bins, Err NotRunning)
    ∷ (running, ReceiveResponse 1 0 five one, Err SpduLength)
    ∷ (running, ReceiveRequest 1 0 six one, Err SpduLength)
    ∷ (running, WithoutReading 1 (HandOn end.Master Fresh five one one), Err SpduLength)
    ∷ (running, WithoutReading 1 (HandOn end.Device Fresh six one one), Err SpduLength)
    -- each end has its own length and its own safe values; a clock call lends both
    ∷ (running, ReceiveResponse 1 0 six safe, Err Buffer)
    ∷ (running, ReceiveRequest 1 0 five two, Err Buffer)
    ∷ (running, Clock 1 0 safe safe, Err Buffer)
    ∷ (running, Clock 1 0 two two, Err Buffer)
    ∷ (running, Operator 1 0 false false safe, Err Buffer)
    ∷ (running, WithoutReading 1 (HandOn end.Master Safe one safe two), Err Buffer)
    ∷ (running, WithoutReading 1 (HandOn end.Device Safe one two two), Err Buffer)
    ∷ (running, WithoutReading 1 (HandOn end.Device Safe one safe []), Err Buffer)
    ∷ (running, WithoutReading 1 (Compose two [] five), Err Buffer)
    ∷ (running, WithoutReading 1 (Compose one one five), Err Buffer)
    ∷ (running, WithoutReading 1 (Compose one [] six), Err Buffer)
    ∷ (running, WithoutReading 1 (BuildResponse one six), Err Buffer)
    ∷ (running, WithoutReading 1 (BuildResponse two five), Err Buffer)
    ∷ (running, WithoutReading 1 (Split five), Err Buffer)
    ∷ (running, WithoutReading 1 Trend, Err NoSamples)
    -- and these are taken
    ∷ (running, ReceiveResponse 1 0 six two, Taken)
    ∷ (running, ReceiveRequest 1 0 five safe, Taken)
    ∷ (running, Clock 1 0 two safe, Taken)
    ∷ (running, Operator 1 0 false false two, Taken)
    ∷ (running, WithoutReading 1 (HandOn end.Master Fresh six two two), Taken)
    ∷ (running, WithoutReading 1 (HandOn end.Device Fresh five safe safe), Taken)
    ∷ (running, WithoutReading 1 (Compose one [] five), Taken)
    ∷ (running, WithoutReading 1 (BuildResponse two six), Taken)
    ∷ (running, WithoutReading 1 (Split six), Taken)
    ∷ (running, WithoutReading 1 Bins, Taken)
    ∷ (running, WithoutReading 1 ShowMaster, Taken)
    ∷ (running, WithoutReading 1 ShowDevice, Taken)
    ∷ []

pub first_broken : map (λ row. answer_by Taken (rules_of row.0 row.1)) answers ≡ map (λ row. row.2) answers
unfolding new_port rules_of rules_without_reading
first_broken = refl

-- ---- each call that signs goes by the method it is given: by one that signs all 0, a sound block is refused, a sound SPDU is not admitted, none of its
-- octets are copied, and what is built carries 1 in place of 0

abbrev pub signs_zero : Method
signs_zero = record { block = λ octets. 0; spdu = λ mode contents. 0 }

abbrev sevens : List ℕ
sevens = replicate 5 7

pub record ByMethod : Type 0 where
  block_refused : (result_of signs_zero new_bench accepted).reply.answer ≡ Err (Signature 23)
  no_such_port : history_by signs_zero (accepted ∷ []) ≡ new_bench
  response_safe : (result_of signs_zero (history (accepted ∷ [])) (ReceiveResponse 1 1010 response safe)).reply.master ≡ Safe
  request_safe : (result_of signs_zero (history earlier) (ReceiveRequest 1 1070 request safe)).reply.device ≡ Safe
  composes : drop 3 (result_of signs_zero (history worked) (WithoutReading 1 (Compose safe [] sevens))).written ≡ 0 ∷ 1 ∷ []
  builds : drop 3 (result_of signs_zero (history worked) (WithoutReading 1 (BuildResponse safe sevens))).written ≡ 0 ∷ 1 ∷ []
  copies : (result_of signs_zero (history worked) (WithoutReading 1 (HandOn end.Device Fresh request safe (7 ∷ [])))).written ≡ 0 ∷ []
  -- which annex_d hands on
  copied : (result_of annex_d (history worked) (WithoutReading 1 (HandOn end.Device Fresh request safe (7 ∷ [])))).written ≡ 0x2A ∷ []

pub by_method_met : ByMethod
unfolding table38.t7 answer_without_reading written_without_reading composed compose_answer build_answer response_out addressed result_of history_by calls.placed calls.asked calls.asked_by_block calls.done port_at with_port new_bench new_port no_port accepted_port turn_of stored said step_of tallied_by silent signing.signature signing.octet signing.shift_in_all signing.shift_in elapsed_of table38.watchdog_row table38.is_old table38.is_admitted table38.checked table38.from8 table38.arrival_row table38.admitted table38.start_from table38.t4 table38.acted masters.watched masters.watched_by masters.quiet masters.arrived masters.received masters.clocked masters.operated table38.signalled masters.step_of table40.watchdog_row table40.is_admitted table40.checked table40.arrival_row table40.admitted table40.t22 table40.t25 table40.t28 table40.t29 table40.acted devices.watched devices.watched_by devices.quiet devices.arrived devices.received devices.clocked devices.step_of counted.frozen_of counted.with_sample counted.counted_of counted.totalled_of handed_to handed_out
by_method_met = record { block_refused = refl; no_such_port = refl; response_safe = refl; request_safe = refl; composes = refl; builds = refl; copies = refl; copied = refl }
