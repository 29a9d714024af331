-- What the rows come to, over the definitions of this folder: the words in which the theorems of proofs/ are stated. Assumes nothing.
use Rattle.std.specs.Prelude.{ℕ, ◌≡◌, Bool, true, false, cond, not, ◌&&◌, ◌||◌, List, [], ◌∷◌, eqb, Option, Some}
use Rattle.std.specs.Prelude as prelude
use Rattle.scl.specs.Time.{expired_of}
use Rattle.scl.specs.Counts.{count_after, inverted}
use Rattle.scl.specs.Happenings.{reading_of}
use Rattle.scl.specs.Readings.{last_reading}
use Rattle.scl.specs.Delayed.{delayed}
use Rattle.scl.specs.declared.Happening.{Happening}
use Rattle.scl.specs.declared.Happening.TheVariants as happening
use Rattle.scl.specs.declared.Response.{Response}
use Rattle.fs_master.specs.declared.Master.{Master}
use Rattle.fs_master.specs.declared.Outcome.{Outcome}
use Rattle.fs_master.specs.declared.Row.{Row}
use Rattle.fs_master.specs.declared.Row.TheVariants.{T4, T7, T8, T11, T12, T13, T14}
use Rattle.fs_master.specs.Table38.{first_master, is_expected, is_admitted}
use Rattle.fs_master.specs.Calls.{watched, step_of}

-- the response that is released, at a master whose watchdog has been looked at: by T4, or in state 7 by T11, acknowledged after an edge
pub record Releases (m : Master) (f : Response) : Type 0 where
  pub admitted : is_admitted m f ≡ true
  pub signature : f.signature_holds ≡ true
  pub port : f.port_holds ≡ true
  pub count : is_expected m f ≡ true
  pub no_error : f.DCommErr ≡ false
  pub no_timeout : f.DTimeout ≡ false
  pub not_set : f.SDset ≡ false
  pub not_asked : m.setSD_C ≡ false
  pub acknowledged : eqb m.state 7 ≡ true → (m.ChFAck_C && m.ChFAck_C_e) ≡ true

abbrev pub releasing_row : Master → Row
releasing_row m = cond (eqb m.state 7) T11 T4

-- the happening of a call that hands on fresh octets
unfoldable pub FreshBy : Master → ℕ → Happening → Type 0
FreshBy m w (happening.Response at f) =
    Releases (watched m w at) f × ((step_of m w (happening.Response at f)).arrival ≡ Some (releasing_row (watched m w at)))
FreshBy m w (happening.Request at request) = ⊥
FreshBy m w (happening.Clock at) = ⊥
FreshBy m w (happening.Operator at setSD_C ChFAck_C) = ⊥

-- ---- Since an accepted block with this reading, with this W. In every list the latest happening stands first.

unfoldable pub master_after : ℕ → ℕ → List Happening → Master
master_after at w [] = first_master at
master_after at w (h ∷ past) = (step_of (master_after at w past) w h).master

-- the FS-Master in the call of h, once its watchdog has been looked at: a response is checked after that row, against the count it left (R17)
unfoldable pub watched_in : ℕ → ℕ → List Happening → Happening → Master
watched_in at w past h = watched (master_after at w past) w (reading_of h)

-- the three checks hold
abbrev pub sound : Master → Response → Bool
sound m f = f.signature_holds && f.port_holds && is_expected m f

-- 01: "a response passes if signature, port number and mirrored count agree with what was sent", where it is admitted to a check (R14a)
unfoldable pub passes_by : Master → Happening → Bool
passes_by m (happening.Response at f) = is_admitted m f && sound m f
passes_by m (happening.Request at q) = false
passes_by m (happening.Clock at) = false
passes_by m (happening.Operator at setSD_C ChFAck_C) = false

-- a response has passed since the block
unfoldable pub has_passed : ℕ → ℕ → List Happening → Bool
has_passed at w [] = false
has_passed at w (h ∷ past) = passes_by (watched_in at w past h) h || has_passed at w past

-- 01: "Operator signals hold until the next operator happening, and are both off after an accepted block."
pub record Signals : Type 0 where
  pub setSD_C : Bool
  pub ChFAck_C : Bool

unfoldable pub signals_after : Happening → Signals → Signals
signals_after (happening.Response at f) s = s
signals_after (happening.Request at q) s = s
signals_after (happening.Clock at) s = s
signals_after (happening.Operator at setSD_C ChFAck_C) s = record { setSD_C = setSD_C; ChFAck_C = ChFAck_C }

unfoldable pub signals : List Happening → Signals
signals [] = record { setSD_C = false; ChFAck_C = false }
signals (h ∷ past) = signals_after h (signals past)

-- an FS-Master that has them
abbrev pub HasSignals : Signals → Master → Type 0
HasSignals s m = (m.setSD_C ≡ s.setSD_C) × (m.ChFAck_C ≡ s.ChFAck_C)

-- ---- Rows that act

-- a row acts, and restarts MTimer (T5 and T9 stand behind it)
abbrev pub acts : Option Row → Bool
acts prelude.None = false
acts (Some row) = true

-- in a call: the row of a response that is admitted, and the watchdog's
abbrev pub arrives : ℕ → Master → Happening → Bool
arrives w m h = acts (step_of m w h).arrival

abbrev pub watches : ℕ → Master → Happening → Bool
watches w m h = acts (step_of m w h).watchdog

-- the reading of the last call in which one did, or the block's
abbrev pub last_row : ℕ → ℕ → List Happening → ℕ
last_row at w past = last_reading (master_after at w) (λ m h. arrives w m h || watches w m h) at past

-- the reading of the last call whose SPDU was admitted, or the block's
abbrev pub last_admitted_at : ℕ → ℕ → List Happening → ℕ
last_admitted_at at w past = last_reading (master_after at w) (arrives w) at past

-- ---- Faults and their acknowledgement

-- FAULTS (000 Table 37): MTimeout, "timeout when waiting on an FS-Device SPDU response";
abbrev pub times_out : Master → ℕ → ℕ → Bool
times_out m w at = m.runs && expired_of at m.MTimer w

-- of a response MCommErr, "corrupted .. (incl. counter/port error)", DCommErr and DTimeout, "reported"
abbrev pub is_faulty : Master → Response → Bool
is_faulty m f = not (sound m f) || f.DCommErr || f.DTimeout

-- a response is admitted, and one with FAULTS is, at an FS-Master whose watchdog has been looked at
unfoldable pub admitted_by : Master → Happening → Bool
admitted_by m (happening.Response at f) = is_admitted m f
admitted_by m (happening.Request at q) = false
admitted_by m (happening.Clock at) = false
admitted_by m (happening.Operator at setSD_C ChFAck_C) = false

unfoldable pub faulty_by : Master → Happening → Bool
faulty_by m (happening.Response at f) = is_admitted m f && is_faulty m f
faulty_by m (happening.Request at q) = false
faulty_by m (happening.Clock at) = false
faulty_by m (happening.Operator at setSD_C ChFAck_C) = false

-- 01: "after a fault, and with no new accepted block, values return only once ChFAck_C followed ChFAckReq_S". How far that is: no fault is
-- open; one is; ChFAckReq_S is 1, but ChFAck_C has been 1 since; ChFAckReq_S is 1 and ChFAck_C was 0 meanwhile, so that a 1 follows.
pub data Fault : Type 0 where
  None : Fault
  Open : Fault
  Pressed : Fault
  Asked : Fault

-- a response without FAULTS sets ChFAckReq_S, or finds the acknowledgement
unfoldable pub answered_by : Bool → Fault → Fault
answered_by ChFAck_C None = None
answered_by ChFAck_C Open = cond ChFAck_C Pressed Asked
answered_by ChFAck_C Pressed = cond ChFAck_C Pressed Asked
answered_by ChFAck_C Asked = cond ChFAck_C None Asked

-- after all that happened since the block; of one call MTimeout comes first
unfoldable pub fault : ℕ → ℕ → List Happening → Fault
fault at w [] = None
fault at w (h ∷ past) =
    let m = watched_in at w past h in
    let before = cond (times_out (master_after at w past) w (reading_of h)) Open (fault at w past) in
    cond (faulty_by m h) Open (cond (admitted_by m h) (answered_by (signals past).ChFAck_C before) before)

-- the rows of FAULTS
abbrev pub opens : Option Row → Bool
opens prelude.None = false
opens (Some T4) = false
opens (Some T7) = true
opens (Some T8) = true
opens (Some T11) = false
opens (Some T12) = true
opens (Some T13) = false
opens (Some T14) = true

-- ChFAckReq_S is 1
abbrev pub is_requested : Fault → Bool
is_requested None = false
is_requested Open = false
is_requested Pressed = true
is_requested Asked = true

-- ---- The previous SPDU

-- the last one admitted to a check (R14): whether there was one, the DCount_i it carried and the MCount of that time
pub record Previous : Type 0 where
  pub previous : Bool
  pub carried : ℕ
  pub MCount : ℕ

unfoldable pub previous_by : Master → Happening → Previous → Previous
previous_by m (happening.Response at f) r = cond (is_admitted m f) (record { previous = true; carried = f.DCount_i; MCount = m.MCount }) r
previous_by m (happening.Request at q) r = r
previous_by m (happening.Clock at) r = r
previous_by m (happening.Operator at setSD_C ChFAck_C) r = r

-- before any, the FS-Master keeps 0 for both counts, as the mirror of 7 is 0, and does not read them
unfoldable pub last_admitted : ℕ → ℕ → List Happening → Previous
last_admitted at w [] = record { previous = false; carried = 0; MCount = 7 }
last_admitted at w (h ∷ past) = previous_by (watched_in at w past h) h (last_admitted at w past)

-- R14: old is a DCount_i that the previous SPDU carried, or that was awaited of it; an SPDU of zeros alone is ignored (R12)
unfoldable pub is_old_after : Previous → Response → Bool
is_old_after r f =
    not f.all_zero && r.previous && (eqb f.DCount_i r.carried || eqb f.DCount_i (inverted r.MCount))

-- the setSD_C there was when the last response was admitted; before any, SD is used (000 Table 38, T1)
unfoldable pub set_when_admitted : ℕ → ℕ → List Happening → Bool
set_when_admitted at w [] = true
set_when_admitted at w (h ∷ past) = cond (admitted_by (watched_in at w past h) h) (signals past).setSD_C (set_when_admitted at w past)

-- ---- What holds of one call

-- what a row of 000 Table 38 makes of MCount
unfoldable pub count_after_row : Option Row → ℕ → ℕ
count_after_row prelude.None count = count
count_after_row (Some T4) count = count_after count
count_after_row (Some T7) count = count_after count
count_after_row (Some T8) count = 0
count_after_row (Some T11) count = count_after count
count_after_row (Some T12) count = count_after count
count_after_row (Some T13) count = count_after count
count_after_row (Some T14) count = 0

-- in one of the three waits
abbrev pub waits : Master → Bool
waits m = eqb m.state 2 || eqb m.state 5 || eqb m.state 7

-- R17b's invariants: released exactly when SDset_S = 0; ChFAckReq = ChFAckReq_S, and no request but in 7. And of 7: no release there, no edge of
-- ChFAck_C awaited but there, and then ChFAckReq_S is 1; and setSD is 1 there. Nowhere is setSD 1 and SDset_S 0.
pub record Held (m : Master) : Type 0 where
  pub rests : waits m ≡ true
  pub shown : m.released ≡ not m.SDset_S
  pub same : m.ChFAckReq ≡ m.ChFAckReq_S
  pub no_request : eqb m.state 7 ≡ false → m.ChFAckReq ≡ false
  pub no_edge : eqb m.state 7 ≡ false → m.ChFAck_C_e ≡ false
  pub safe : eqb m.state 7 ≡ true → m.released ≡ false
  pub requested : m.ChFAck_C_e ≡ true → m.ChFAckReq_S ≡ true
  pub sent : eqb m.state 7 ≡ true → m.setSD ≡ true
  pub set : m.setSD ≡ true → m.SDset_S ≡ true

-- all readings later by k on the clock
unfoldable pub delayed_master : ℕ → Master → Master
delayed_master k m = record {
  MTimer = delayed k m.MTimer;
  start = delayed k m.start;
  state = m.state;
  MCount = m.MCount;
  setSD = m.setSD;
  SDset_S = m.SDset_S;
  ChFAckReq = m.ChFAckReq;
  ChFAckReq_S = m.ChFAckReq_S;
  ChFAck_C_e = m.ChFAck_C_e;
  setSD_C = m.setSD_C;
  ChFAck_C = m.ChFAck_C;
  previous = m.previous;
  carried = m.carried;
  awaited = m.awaited;
  runs = m.runs;
  released = m.released;
}

unfoldable pub delayed_outcome : ℕ → Outcome → Outcome
delayed_outcome k o = record {
  master = delayed_master k o.master;
  watchdog = o.watchdog;
  arrival = o.arrival;
  check = o.check;
  old = o.old;
  passed = o.passed;
  sent = delayed k o.sent;
  mark = o.mark;
}
