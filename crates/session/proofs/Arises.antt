-- The premises of the session's theorems arise, and so does each case that its definitions tell apart: by 01's own examples where they do.
-- Assumes nothing.
use Rattle.std.proofs.Common.{◌≡◌, ℕ, true, false, List, [], ◌∷◌, ◌++◌, replicate, refl}
use Rattle.std.specs.Prelude.{Ok, Err}
use Rattle.answer.specs.declared.Refusal.TheVariants.{NotRunning}
use Rattle.block.specs.Rules.{no_params}
use Rattle.block.specs.Table22.{params_of}
use Rattle.block.proofs.Arises as blocks
use Rattle.spdu.specs.Signature.{by_bits}
use Rattle.spdu.specs.Fields.{response_by}
use Rattle.signature.specs.Signature as signing
use Rattle.scl.specs.declared.Happening.{Happening}
use Rattle.scl.specs.declared.Happening.TheVariants.{Response, Clock, Operator}
use Rattle.scl.specs.Time.{elapsed_of}
use Rattle.fs_master.specs.Table38 as table38
use Rattle.fs_master.specs.Calls as masters
use Rattle.fs_master.specs.History.{master_after, watched_in, passes_by, signals, signals_after}
use Rattle.histogram.specs.Samples.{limit}
use Rattle.samples.specs.Samples.{releases_by, sent_since, passed_for_count, time_of, is_sample, samples}
use Rattle.bench.specs.Methods.{annex_d}
use Rattle.bench.specs.declared.Setting.{Setting}
use Rattle.bench.specs.declared.Bench.{Bench}
use Rattle.bench.specs.declared.Act.TheVariants.{Accepted, Happens}
use Rattle.bench.specs.Ports.{new_bench, new_port, accepted_port, port_at, with_port, step_of, said, silent}
use Rattle.bench.specs.Calls.{asked, asked_by_block, done, placed}
use Rattle.bench.specs.History.{addressed, never, since, goes_on, extended, since_block, result_of, history_by}
use Rattle.bench.proofs.Arises.{uneven, signs_zero}
use Rattle.std.specs.Prelude.{Some, None}
use Rattle.record.specs.declared.NoRecord.TheVariants.{Bad, Cut, End}
use Rattle.lines.specs.Text.{numeral, refusal_line, summary_line, port_line}
use Rattle.session.specs.Text.{line_of_port, port_lines}
use Rattle.session.specs.Run.{Entry, entry, act_by, calls_of, start, ran, closing, printed, fed_of, more, applied_by, printed_by, record_line_by}
use Rattle.session.specs.Chunks.{none, chunk}
use Rattle.session.proofs.Chunks.{at_end, at_bad}
use Rattle.session.proofs.Shown.{line_shown, no_line}

-- ---- A session

-- "The three octets 53 4C 03 alone print `r 1 code 13`, then `records 0 refused 1`": in two chunks
pub three_octets : printed (0x53 ∷ 0x4C ∷ 3 ∷ [])
    ≡ (114 ∷ 32 ∷ 49 ∷ 32 ∷ 99 ∷ 111 ∷ 100 ∷ 101 ∷ 32 ∷ 49 ∷ 51 ∷ 10 ∷ [])
    ++ (114 ∷ 101 ∷ 99 ∷ 111 ∷ 114 ∷ 100 ∷ 115 ∷ 32 ∷ 48 ∷ 32 ∷ 114 ∷ 101 ∷ 102 ∷ 117 ∷ 115 ∷ 101 ∷ 100 ∷ 32 ∷ 49 ∷ 10 ∷ [])
unfolding closing numeral refusal_line summary_line line_of_port port_lines new_bench new_port port_at
three_octets = at_end ((0x53 ∷ 0x4C ∷ []) ∷ (3 ∷ []) ∷ []) (chunk 1 (chunk 1 none)) refl

-- "A well-formed kind 1 record of 48 zero octets for port 1"
pub zero_block : printed (0x53 ∷ 0x4C ∷ 1 ∷ 1 ∷ 0 ∷ 0 ∷ 0 ∷ 0 ∷ 48 ∷ replicate 48 0)
    ≡ (114 ∷ 32 ∷ 49 ∷ 32 ∷ 99 ∷ 111 ∷ 100 ∷ 101 ∷ 32 ∷ 50 ∷ 10 ∷ [])
    ++ (114 ∷ 101 ∷ 99 ∷ 111 ∷ 114 ∷ 100 ∷ 115 ∷ 32 ∷ 49 ∷ 32 ∷ 114 ∷ 101 ∷ 102 ∷ 117 ∷ 115 ∷ 101 ∷ 100 ∷ 32 ∷ 49 ∷ 10 ∷ [])
unfolding printed_by closing numeral refusal_line summary_line line_of_port port_lines new_bench new_port port_at with_port applied_by record_line_by result_of placed asked asked_by_block done silent
zero_block = refl

-- the text goes by the method of signing: by one that signs all 0 a sound block is refused, and its port has no line
pub by_method : printed_by signs_zero (0x53 ∷ 0x4C ∷ 1 ∷ 1 ∷ 0 ∷ 0 ∷ 0 ∷ 0 ∷ 48 ∷ uneven) ≡ refusal_line 1 6 ++ summary_line 1 1
unfolding printed_by closing numeral refusal_line summary_line line_of_port port_lines new_bench new_port port_at with_port applied_by record_line_by result_of placed asked asked_by_block done silent
by_method = refl

-- a bad record, whatever follows it
pub bad_mark : (more : List ℕ) → printed (replicate 9 0 ++ more) ≡ closing start true
bad_mark more = at_bad (replicate 9 0 ∷ []) more (chunk 1 none) refl

abbrev clock : List ℕ
clock = 0x53 ∷ 0x4C ∷ 3 ∷ 1 ∷ 0 ∷ 0 ∷ 0 ∷ 0 ∷ 0 ∷ []

-- "r 1 code 9" is told of it where port 1 does not run
pub each_stop :
    ((fed_of start clock 63).stop ≡ None)
    × ((fed_of start (replicate 9 0) 64).stop ≡ Some Bad)
    × ((fed_of start (0x53 ∷ []) 64).stop ≡ Some Cut)
    × ((fed_of start clock 64).stop ≡ Some End)
    × ((fed_of start clock 64).used ≡ 9)
    × ((fed_of start clock 64).written ≡ 11)
unfolding fed_of record_line_by numeral refusal_line new_bench new_port port_at result_of placed asked done silent
each_stop = (refl, refl, refl, refl, refl, refl)

-- A, B and N stop at 2^64 - 1 (R29)
pub counts_stop : (more 0 ≡ 1) × (more 18446744073709551614 ≡ 18446744073709551615) × (more 18446744073709551615 ≡ 18446744073709551615)
counts_stop = (refl, refl, refl)

-- "for each running port, ascending"
pub lines_ascend : (b : Bench) → let l : ℕ → List ℕ = λ n. line_of_port n (port_at b n) in port_lines b 8 ≡ (((((((l 1 ++ l 2) ++ l 3) ++ l 4) ++ l 5) ++ l 6) ++ l 7) ++ l 8)
unfolding port_lines
lines_ascend b = refl

-- ---- A record's act

abbrev off : Setting
off = record { params = no_params; running = false; unused = [] }

abbrev on : Setting
on = record { params = no_params; running = true; unused = [] }

pub each-act :
    (act_by annex_d false off (entry 3 1 0 []) ≡ Err NotRunning)
    × (act_by annex_d false off (entry 1 1 0 uneven) ≡ Ok (Accepted (params_of uneven)))
    × (act_by annex_d false on (entry 3 1 7 []) ≡ Ok (Happens (Clock 7)))
    -- "bit 0 setSD_C, bit 1 ChFAck_C"
    × (act_by annex_d false on (entry 4 1 7 (1 ∷ [])) ≡ Ok (Happens (Operator 7 true false)))
    × (act_by annex_d false on (entry 4 1 7 (2 ∷ [])) ≡ Ok (Happens (Operator 7 false true)))
unfolding asked asked_by_block signing.signature signing.octet signing.shift_in_all signing.shift_in
each-act = (refl, refl, refl, refl, refl)

-- ---- A port line: of a block and a response that is a sample of 10 ms, and of a port that had no block

abbrev response : List ℕ
response = 0x2A ∷ 1 ∷ 0xE0 ∷ 0x3A ∷ 0x0F ∷ []

abbrev records : List Entry
records = entry 1 1 1000 blocks.good ∷ entry 2 1 1010 response ∷ []

abbrev past : List Happening
past = Response 1010 (response_by by_bits (params_of blocks.good) response) ∷ []

record Since : Type 0 where
  one : since_block 1 (calls_of [] records) ≡ since 1000 (params_of blocks.good) past
  none : since_block 2 (calls_of [] records) ≡ never
  sample : samples 1000 100 past ≡ 10 ∷ []

since_met : Since
unfolding since_block extended goes_on addressed result_of history_by asked asked_by_block done placed port_at with_port new_bench new_port silent signing.signature signing.octet signing.shift_in_all signing.shift_in accepted_port step_of said samples is_sample sent_since passed_for_count releases_by signals signals_after time_of master_after watched_in passes_by elapsed_of table38.watchdog_row table38.is_old table38.is_admitted table38.acted masters.watched masters.watched_by masters.step_of masters.received masters.arrived table38.arrival_row table38.checked
since_met = record { one = refl; none = refl; sample = refl }

pub line_shown_met : line_of_port 1 (port_at (ran start records).bench 1) ≡ port_line 1 100 1 10 10
unfolding limit
line_shown_met = rw since_met.sample at (line_shown records 1 refl 1000 (params_of blocks.good) past since_met.one)

pub no_line_met : line_of_port 2 (port_at (ran start records).bench 2) ≡ []
no_line_met = no_line records 2 refl since_met.none
