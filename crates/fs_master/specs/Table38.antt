-- 000 Table 38, the FS-Master's machine, to be ticked off against the print: the guards, then the actions of each row in the table's order.
-- At rest it is in 2, 5 or 7 (R10), so a row runs on to its wait: T4 and T11 with T5 to 5, T7, T8 and T12 to T14 with T9 to 7.
-- Assumes nothing.
--
-- How an action is written: "use PDin" is released, "use SDin" and "use SD" are not; setSD says whether PDout or SDout goes out (R25).
-- "restart MTimer" is MTimer at the call's reading, running. A bit is 1 where its variable is true.
use Rattle.std.specs.Prelude.{ℕ, Bool, true, false, cond, not, ◌&&◌, ◌||◌, eqb, Option, Some, None}
use Rattle.scl.specs.Time.{expired_of}
use Rattle.scl.specs.Counts.{count_after, inverted}
use Rattle.scl.specs.Happenings.{check_of}
use Rattle.scl.specs.declared.Check.{Check}
use Rattle.scl.specs.declared.Response.{Response}
use Rattle.fs_master.specs.declared.Master.{Master}
use Rattle.fs_master.specs.declared.Row.{Row}
use Rattle.fs_master.specs.declared.Row.TheVariants.{T4, T7, T8, T11, T12, T13, T14}

-- R17b: after an accepted block with its reading, T1 (use SD, setSD = 1, SDset_S = 1, MCount = 0) and T2 done
abbrev pub first_master : ℕ → Master
first_master at = record {
  state = 2;
  MCount = 0;
  setSD = true;
  SDset_S = true;
  ChFAckReq = false;
  ChFAckReq_S = false;
  ChFAck_C_e = false;
  setSD_C = false;
  ChFAck_C = false;
  previous = false;
  carried = 0;
  awaited = 0;
  MTimer = at;
  runs = false;
  start = at;
  released = false;
}

-- Guards

-- MTimeout: T8 from 5, T14 from 7
abbrev pub timeout_row : ℕ → Option Row
timeout_row state = cond (eqb state 5) (Some T8) (cond (eqb state 7) (Some T14) None)

-- MTimer does not run in 2 (R11)
unfoldable pub watchdog_row : Master → ℕ → ℕ → Option Row
watchdog_row m w at = cond (m.runs && expired_of at m.MTimer w) (timeout_row m.state) None

-- Expected SPDU: "DCount_i = inverted MCount"
abbrev pub is_expected : Master → Response → Bool
is_expected m f = eqb f.DCount_i (inverted m.MCount)

-- Not old SPDU: "Counter value ≠ value of previous SPDU", the count that it carried or the one awaited of it (R14). An SPDU of zeros alone is
-- ignored (R12)
unfoldable pub is_old : Master → Response → Bool
is_old m f = not f.all_zero && m.previous && (eqb f.DCount_i m.carried || eqb f.DCount_i m.awaited)

-- T3 from 2: Expected SPDU. T6 from 5: Not old SPDU. T10 from 7: Not old SPDU, or the expected one where MCount is 0 (R14)
unfoldable pub is_admitted : Master → Response → Bool
is_admitted m f =
    not f.all_zero
    && (eqb m.state 2 && is_expected m f
    || eqb m.state 5 && not (is_old m f)
    || eqb m.state 7 && (not (is_old m f) || eqb m.MCount 0 && is_expected m f))

-- do CRC_check, do PortNum_check, do Counter_check (R13)
unfoldable pub checked : Master → Response → Option Check
checked m f = check_of f.signature_holds f.port_holds (is_expected m f)

-- FAULTS (Table 37; R15): MCommErr, DCommErr, DTimeout
abbrev pub has_faults : Bool → Response → Bool
has_faults MCommErr f = MCommErr || f.DCommErr || f.DTimeout

-- ChFAck_C = 1 and ChFAck_C_e = 1
abbrev pub is_acknowledged : Master → Bool
is_acknowledged m = m.ChFAck_C && m.ChFAck_C_e

-- state 8: FAULTS T12; else T11 where it is acknowledged, else T13 (R16)
unfoldable pub from8 : Master → Bool → Row
from8 m faults = cond faults T12 (cond (is_acknowledged m) T11 T13)

-- state 3, from 2 and 5: FAULTS T7, else T4. State 8, from 7
unfoldable pub arrival_row : Master → Bool → Row
arrival_row m faults = cond (eqb m.state 7) (from8 m faults) (cond faults T7 T4)

-- Actions

-- T3, T6, T10: the SPDU admitted is the previous one from here on (R14)
unfoldable pub admitted : Master → Response → Master
admitted m f = record {
  previous = true;
  carried = f.DCount_i;
  awaited = inverted m.MCount;
  state = m.state;
  MCount = m.MCount;
  setSD = m.setSD;
  SDset_S = m.SDset_S;
  ChFAckReq = m.ChFAckReq;
  ChFAckReq_S = m.ChFAckReq_S;
  ChFAck_C_e = m.ChFAck_C_e;
  setSD_C = m.setSD_C;
  ChFAck_C = m.ChFAck_C;
  MTimer = m.MTimer;
  runs = m.runs;
  start = m.start;
  released = m.released;
}

-- the sample's start: the reading of the row that gives MCount another value (R17)
unfoldable pub start_from : Master → ℕ → ℕ → ℕ
start_from m count at = cond (eqb count m.MCount) m.start at

unfoldable pub t4 : Master → ℕ → Bool → Master
t4 m at SDset = record {
  -- MCount = MCount + 1, if MCount = 8 then MCount = 1
  MCount = count_after m.MCount;
  start = start_from m (count_after m.MCount) at;
  -- if SDset = 1 or setSD_C = 1 then use SDin, SDset_S = 1 else use PDin, SDset_S = 0
  released = not (SDset || m.setSD_C);
  SDset_S = SDset || m.setSD_C;
  -- if setSD_C = 1 then use SDout, setSD = 1 else use PDout, setSD = 0
  setSD = m.setSD_C;
  -- to 4, and by T5 (restart MTimer) to 5
  MTimer = at;
  runs = true;
  state = 5;
  -- the others stay
  ChFAckReq = m.ChFAckReq;
  ChFAckReq_S = m.ChFAckReq_S;
  ChFAck_C_e = m.ChFAck_C_e;
  setSD_C = m.setSD_C;
  ChFAck_C = m.ChFAck_C;
  previous = m.previous;
  carried = m.carried;
  awaited = m.awaited;
}

unfoldable pub t7 : Master → ℕ → Master
t7 m at = record {
  -- use SD, setSD = 1, SDset_S = 1
  released = false;
  setSD = true;
  SDset_S = true;
  -- MCount = MCount + 1, if MCount = 8 then MCount = 1
  MCount = count_after m.MCount;
  start = start_from m (count_after m.MCount) at;
  -- to 6, and by T9 (restart MTimer) to 7
  MTimer = at;
  runs = true;
  state = 7;
  -- the others stay
  ChFAckReq = m.ChFAckReq;
  ChFAckReq_S = m.ChFAckReq_S;
  ChFAck_C_e = m.ChFAck_C_e;
  setSD_C = m.setSD_C;
  ChFAck_C = m.ChFAck_C;
  previous = m.previous;
  carried = m.carried;
  awaited = m.awaited;
}

unfoldable pub t8 : Master → ℕ → Master
t8 m at = record {
  -- use SD, setSD = 1, SDset_S = 1
  released = false;
  setSD = true;
  SDset_S = true;
  -- MCount = 0
  MCount = 0;
  start = start_from m 0 at;
  -- to 6, and by T9 (restart MTimer) to 7
  MTimer = at;
  runs = true;
  state = 7;
  -- the others stay
  ChFAckReq = m.ChFAckReq;
  ChFAckReq_S = m.ChFAckReq_S;
  ChFAck_C_e = m.ChFAck_C_e;
  setSD_C = m.setSD_C;
  ChFAck_C = m.ChFAck_C;
  previous = m.previous;
  carried = m.carried;
  awaited = m.awaited;
}

unfoldable pub t11 : Master → ℕ → Bool → Master
t11 m at SDset = record {
  -- ChFAckReq = 0, ChFAckReq_S = 0, ChFAck_C_e = 0
  ChFAckReq = false;
  ChFAckReq_S = false;
  ChFAck_C_e = false;
  -- MCount = MCount + 1, if MCount = 8 then MCount = 1
  MCount = count_after m.MCount;
  start = start_from m (count_after m.MCount) at;
  -- if SDset = 1 or setSD_C = 1 then use SDin, SDset_S = 1 else use PDin, SDset_S = 0
  released = not (SDset || m.setSD_C);
  SDset_S = SDset || m.setSD_C;
  -- if setSD_C = 1 then use SDout, setSD = 1 else use PDout, setSD = 0
  setSD = m.setSD_C;
  -- to 4, and by T5 (restart MTimer) to 5
  MTimer = at;
  runs = true;
  state = 5;
  -- the others stay
  setSD_C = m.setSD_C;
  ChFAck_C = m.ChFAck_C;
  previous = m.previous;
  carried = m.carried;
  awaited = m.awaited;
}

unfoldable pub t12 : Master → ℕ → Master
t12 m at = record {
  -- ChFAckReq = 0, ChFAckReq_S = 0, ChFAck_C_e = 0
  ChFAckReq = false;
  ChFAckReq_S = false;
  ChFAck_C_e = false;
  -- use SD, setSD = 1, SDset_S = 1
  released = false;
  setSD = true;
  SDset_S = true;
  -- MCount = MCount + 1, if MCount = 8 then MCount = 1
  MCount = count_after m.MCount;
  start = start_from m (count_after m.MCount) at;
  -- to 6, and by T9 (restart MTimer) to 7
  MTimer = at;
  runs = true;
  state = 7;
  -- the others stay
  setSD_C = m.setSD_C;
  ChFAck_C = m.ChFAck_C;
  previous = m.previous;
  carried = m.carried;
  awaited = m.awaited;
}

unfoldable pub t13 : Master → ℕ → Master
t13 m at = record {
  -- ChFAckReq = 1, ChFAckReq_S = 1
  ChFAckReq = true;
  ChFAckReq_S = true;
  -- if ChFAck_C = 0 then ChFAck_C_e = 1
  ChFAck_C_e = not m.ChFAck_C || m.ChFAck_C_e;
  -- use SD, setSD = 1, SDset_S = 1
  released = false;
  setSD = true;
  SDset_S = true;
  -- MCount = MCount + 1, if MCount = 8 then MCount = 1
  MCount = count_after m.MCount;
  start = start_from m (count_after m.MCount) at;
  -- to 6, and by T9 (restart MTimer) to 7
  MTimer = at;
  runs = true;
  state = 7;
  -- the others stay
  setSD_C = m.setSD_C;
  ChFAck_C = m.ChFAck_C;
  previous = m.previous;
  carried = m.carried;
  awaited = m.awaited;
}

unfoldable pub t14 : Master → ℕ → Master
t14 m at = record {
  -- ChFAckReq = 0, ChFAckReq_S = 0, ChFAck_C_e = 0
  ChFAckReq = false;
  ChFAckReq_S = false;
  ChFAck_C_e = false;
  -- use SD, setSD = 1, SDset_S = 1
  released = false;
  setSD = true;
  SDset_S = true;
  -- MCount = 0
  MCount = 0;
  start = start_from m 0 at;
  -- to 6, and by T9 (restart MTimer) to 7
  MTimer = at;
  runs = true;
  state = 7;
  -- the others stay
  setSD_C = m.setSD_C;
  ChFAck_C = m.ChFAck_C;
  previous = m.previous;
  carried = m.carried;
  awaited = m.awaited;
}

-- the row's action, at the call's reading, with the SDset of the SPDU where there is one
unfoldable pub acted : Master → Row → ℕ → Bool → Master
acted m T4 at SDset = t4 m at SDset
acted m T7 at SDset = t7 m at
acted m T8 at SDset = t8 m at
acted m T11 at SDset = t11 m at SDset
acted m T12 at SDset = t12 m at
acted m T13 at SDset = t13 m at
acted m T14 at SDset = t14 m at

-- Operator signals hold until the next operator happening (01), and act where a row reads them (R17a)
unfoldable pub signalled : Master → Bool → Bool → Master
signalled m setSD_C ChFAck_C = record {
  setSD_C = setSD_C;
  ChFAck_C = ChFAck_C;
  state = m.state;
  MCount = m.MCount;
  setSD = m.setSD;
  SDset_S = m.SDset_S;
  ChFAckReq = m.ChFAckReq;
  ChFAckReq_S = m.ChFAckReq_S;
  ChFAck_C_e = m.ChFAck_C_e;
  previous = m.previous;
  carried = m.carried;
  awaited = m.awaited;
  MTimer = m.MTimer;
  runs = m.runs;
  start = m.start;
  released = m.released;
}

-- the number of a row outside: 000's, and 0 for none
abbrev pub row_number_of : Option Row → ℕ
row_number_of None = 0
row_number_of (Some T4) = 4
row_number_of (Some T7) = 7
row_number_of (Some T8) = 8
row_number_of (Some T11) = 11
row_number_of (Some T12) = 12
row_number_of (Some T13) = 13
row_number_of (Some T14) = 14
