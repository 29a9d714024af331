-- 01, "The session program": a session is its whole records in order, each a call on the bench, and what is printed of them. What stands behind
-- the last whole record, if anything, is a record cut short or a bad one: a 13, which ends reading and makes no call. Assumes nothing.
use Rattle.std.specs.Prelude.{ℕ, zero, suc, ◌+◌, ◌-◌, ◌/◌, ◌%◌, ◌^◌, min, Bool, true, false, cond, not, List, [], ◌∷◌, ◌++◌, length, drop, replicate, ◌==◌, nat_lt, slice_index, Option, None, Some, Result}
use Rattle.answer.specs.declared.Refusal.{Refusal}
use Rattle.answer.specs.declared.Refusal.TheVariants as refusals
use Rattle.answer.specs.Answers.{Answer, refusal_number, number_of, is_taken}
use Rattle.block.specs.declared.Params.{Params}
use Rattle.spdu.specs.Places.{process_octets}
use Rattle.bench.specs.declared.Setting.{Setting}
use Rattle.bench.specs.declared.Bench.{Bench}
use Rattle.bench.specs.declared.Act.{Act}
use Rattle.bench.specs.Methods.{Method, annex_d}
use Rattle.bench.specs.Ports.{new_bench, port_at}
use Rattle.bench.specs.Calls.{parameters_act, response_act, clock_act, operator_act}
use Rattle.bench.specs.History.{Call, SetParameters, ReceiveResponse, Clock, Operator, result_of, history}
use Rattle.session.specs.declared.State.{State}
use Rattle.session.specs.declared.Fed.{Fed}
use Rattle.record.specs.declared.NoRecord.{NoRecord}
use Rattle.record.specs.declared.NoRecord.TheVariants.{Bad, Cut, End}
use Rattle.record.specs.Format.{kind_of, port_of, clock_of, octets_of, size_of, Form, nothing, part, bad, whole, form}
use Rattle.lines.specs.Text.{refusal_line, summary_line}
use Rattle.session.specs.Text.{port_lines}
pub use Rattle.session.specs.Text.{line_room, closing_room}

-- ---- Records

-- a whole record
pub record Entry : Type 0 where
  pub kind : ℕ
  pub port : ℕ
  pub at : ℕ
  pub octets : List ℕ

abbrev pub entry : ℕ → ℕ → ℕ → List ℕ → Entry
entry kind port at octets = record { kind = kind; port = port; at = at; octets = octets }

abbrev pub entry_of : List ℕ → Entry
entry_of s = entry (kind_of s) (port_of s) (clock_of s) (octets_of s)

abbrev pub is_whole : Form → Bool
is_whole nothing = false
is_whole part = false
is_whole bad = false
is_whole whole = true

-- the whole records that s begins with, at most n
abbrev pub records_of : ℕ → List ℕ → List Entry
records_of zero s = []
records_of (suc n) s = cond (is_whole (form s)) (entry_of s ∷ records_of n (drop (size_of s) s)) []

-- what stands behind them
abbrev pub rest_of : ℕ → List ℕ → List ℕ
rest_of zero s = s
rest_of (suc n) s = cond (is_whole (form s)) (rest_of n (drop (size_of s) s)) s

-- ---- Calls

-- "Outgoing values are zeros", and so are the safe values lent: as many as an SPDU of that length has process octets. So 7 never arises.
abbrev pub zero_values : Params → ℕ → List ℕ
zero_values p n = replicate (process_octets p.FSP_ProtMode n) 0

abbrev pub safe_in : Params → List ℕ
safe_in p = zero_values p p.SPDUInLength

abbrev pub safe_out : Params → List ℕ
safe_out p = zero_values p p.SPDUOutLength

-- "bit 0 setSD_C, bit 1 ChFAck_C"
abbrev pub setSD_in : List ℕ → Bool
setSD_in octets = slice_index octets 0 % 2 == 1

abbrev pub ack_in : List ℕ → Bool
ack_in octets = slice_index octets 0 / 2 % 2 == 1

-- the call that a record makes; p are the parameters of the port addressed
abbrev pub call_by : Params → Entry → Call
call_by p e =
    cond (e.kind == 1) (SetParameters e.port e.at e.octets)
    (cond (e.kind == 2) (ReceiveResponse e.port e.at e.octets (safe_in p))
    (cond (e.kind == 3) (Clock e.port e.at (safe_in p) (safe_out p))
    (Operator e.port e.at (setSD_in e.octets) (ack_in e.octets) (safe_in p))))

abbrev pub call_of : Bench → Entry → Call
call_of b e = call_by (port_at b e.port).setting.params e

-- what that call asks of the port (proofs/Turn.antt), by a method of signing: o says that no port has the number, s is the port's setting. Zeros
-- of the right length hold as safe values.
abbrev pub act_by : Method → Bool → Setting → Entry → Result Act Refusal
act_by m o s e =
    cond (e.kind == 1) (parameters_act m.block e.port e.octets)
    (cond (e.kind == 2) (response_act m.spdu o s e.at e.octets true)
    (cond (e.kind == 3) (clock_act o s e.at true)
    (operator_act o s e.at (setSD_in e.octets) (ack_in e.octets) true)))

-- the calls of some records behind earlier ones, the latest first
abbrev pub calls_of : List Call → List Entry → List Call
calls_of past [] = past
calls_of past (e ∷ rs) = calls_of (call_of (history past) e ∷ past) rs

-- ---- A run

-- A, B and N stop at 2^64 - 1 (R29)
abbrev pub more : ℕ → ℕ
more n = min (n + 1) (2 ^ 64 - 1)

-- n records more
abbrev pub plus : ℕ → ℕ → ℕ
plus records n = min (records + n) (2 ^ 64 - 1)

abbrev pub state_of : Bench → ℕ → ℕ → State
state_of b records refused = record { bench = b; records = records; refused = refused }

abbrev pub start : State
start = state_of new_bench 0 0

abbrev pub refused_after : ℕ → Answer → ℕ
refused_after refused a = cond (is_taken a) refused (more refused)

-- the bench, A and B after a record that was answered so
abbrev pub answered : State → Bench → Answer → State
answered st b a = state_of b (more st.records) (refused_after st.refused a)

-- by a method of signing, as all that follows: a name without `By` is by 000 Annex D's
unfoldable pub applied_by : Method → State → Entry → State
applied_by m st e = let r = result_of m st.bench (call_of st.bench e) in answered st r.bench r.reply.answer

abbrev pub applied : State → Entry → State
applied st e = applied_by annex_d st e

-- "It prints `r N code C` for a refusal at record N, counted from 1, as met."
abbrev pub line_for : ℕ → Answer → List ℕ
line_for n a = cond (is_taken a) [] (refusal_line n (number_of a))

unfoldable pub record_line_by : Method → State → Entry → List ℕ
record_line_by m st e = line_for (more st.records) (result_of m st.bench (call_of st.bench e)).reply.answer

abbrev pub record_line : State → Entry → List ℕ
record_line st e = record_line_by annex_d st e

abbrev pub ran_by : Method → State → List Entry → State
ran_by m st [] = st
ran_by m st (e ∷ rs) = ran_by m (applied_by m st e) rs

abbrev pub ran : State → List Entry → State
ran st rs = ran_by annex_d st rs

abbrev pub lines_by : Method → State → List Entry → List ℕ
lines_by m st [] = []
lines_by m st (e ∷ rs) = record_line_by m st e ++ lines_by m (applied_by m st e) rs

abbrev pub lines_of : State → List Entry → List ℕ
lines_of st rs = lines_by annex_d st rs

-- "A 13 ends reading": its line, where some octets are left
abbrev pub thirteen_line : Bool → ℕ → List ℕ
thirteen_line some records = cond some (refusal_line (more records) (refusal_number refusals.Record)) []

-- at the end: the line of a 13, then "records A refused B", then the port lines
unfoldable pub closing : State → Bool → List ℕ
closing st some =
    thirteen_line some st.records
    ++ summary_line st.records (cond some (more st.refused) st.refused)
    ++ port_lines st.bench 8

-- All that a session prints. A record has 9 octets at least, so that there are fewer records than octets.
unfoldable pub printed_by : Method → List ℕ → List ℕ
printed_by m s =
    let rs = records_of (length s) s in
    lines_by m start rs ++ closing (ran_by m start rs) (not (length (rest_of (length s) s) == 0))

abbrev pub printed : List ℕ → List ℕ
printed s = printed_by annex_d s

-- ---- In chunks

-- why reading stopped, by what stands there: a whole record, for whose line there is no room; a bad one; one cut short; nothing
abbrev pub stop_of : Form → Option NoRecord
stop_of whole = None
stop_of bad = Some Bad
stop_of part = Some Cut
stop_of nothing = Some End

-- a chunk s, with a buffer of `room` octets lent for the lines: as many records as it has lines' room for
unfoldable pub fed_of : State → List ℕ → ℕ → Fed
fed_of st s room =
    let n = room / line_room in
    record {
      state = ran st (records_of n s);
      used = length s - length (rest_of n s);
      written = length (lines_of st (records_of n s));
      stop = stop_of (form (rest_of n s));
    }

-- a buffer with a text at its front
abbrev pub fronted : List ℕ → List ℕ → List ℕ
fronted text out = text ++ drop (length text) out

unfoldable pub fed_text : State → List ℕ → List ℕ → List ℕ
fed_text st s out = fronted (lines_of st (records_of (length out / line_room) s)) out

-- what `finish` writes into a buffer of `room` octets
unfoldable pub finish_text : State → Bool → ℕ → List ℕ
finish_text st some room = cond (nat_lt room closing_room) [] (closing st some)
