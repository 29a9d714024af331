-- 000 Table 40, the FS-Device's machine, to be ticked off against the print: the guards, then the actions of each row in the table's order.
-- At rest it is in 21, 24 or 26 (R10), so a row runs on to its wait: T22 and T28 with T23 to 24, T25 and T29 to T31 with T26 to 26.
-- Assumes nothing.
--
-- How an action is written: "use PDout" is released, "use SDout" is not; "use PDin_D" is responded, since every row prepares a response (R23);
-- "restart DTimer" is DTimer at the call's reading, running. A bit is 1 where its variable is true. MCount is that of the last SPDU admitted.
use Rattle.std.specs.Prelude.{ℕ, ◌-◌, Bool, true, false, cond, not, ◌&&◌, ◌||◌, eqb, Option, Some, None}
use Rattle.scl.specs.Time.{expired_of}
use Rattle.scl.specs.Counts.{count_after, inverted}
use Rattle.scl.specs.Happenings.{check_of}
use Rattle.scl.specs.declared.Check.{Check}
use Rattle.scl.specs.declared.Request.{Request}
use Rattle.fs_device.specs.declared.Device.{Device}
use Rattle.fs_device.specs.declared.Row.{Row}
use Rattle.fs_device.specs.declared.Row.TheVariants.{T22, T25, T28, T29, T30, T31}

-- R19: after an accepted block with its reading, T20 done; no SPDU has been admitted, and DTimer does not run
abbrev pub first_device : ℕ → Device
first_device at = record {
  state = 21;
  SDcycles = 3;
  CommErrCount = 0;
  TimeoutCount = 0;
  DCommErr = false;
  DTimeout = false;
  SDset = true;
  setSD_DC = true;
  ChFAckReq_DC = false;
  DCount_i = 0;
  MCount = 0;
  DTimer = at;
  runs = false;
  released = false;
  responded = false;
}

-- Guards

-- states 24 and 26, "After FSP_WatchdogTime expired": T31, T30
abbrev pub timeout_row : ℕ → Option Row
timeout_row state = cond (eqb state 24) (Some T31) (cond (eqb state 26) (Some T30) None)

-- DTimer does not run in 21 (R11)
unfoldable pub watchdog_row : Device → ℕ → ℕ → Option Row
watchdog_row d w at = cond (d.runs && expired_of at d.DTimer w) (timeout_row d.state) None

-- T24, T27, MCounter_incremented (R18): where MCount is the previous one the SPDU is old. An SPDU of zeros alone is ignored (R12)
abbrev pub is_old : Device → Request → Bool
is_old d q = not q.all_zero && (eqb d.state 24 || eqb d.state 26) && eqb q.MCount d.MCount

-- T21: any SPDU; T24, T27: one that is not old
unfoldable pub is_admitted : Device → Request → Bool
is_admitted d q =
    not q.all_zero && (eqb d.state 21 || eqb d.state 24 || eqb d.state 26) && not (is_old d q)

-- do Counter_check: "MCount carries either 0 or an expected subsequent value" (R18)
abbrev pub count_holds : Device → Request → Bool
count_holds d q = eqb q.MCount 0 || eqb q.MCount (count_after d.MCount)

-- do CRC_check, do PortNum_check, do Counter_check (R13)
unfoldable pub checked : Device → Request → Option Check
checked d q = check_of q.signature_holds q.port_holds (count_holds d q)

-- state 22: "No CommErr" T22, "CommErr" T25. State 27: "No CommErr and SDcycles = 0" T28, "CommErr or SDcycles > 0" T29
unfoldable pub arrival_row : Device → Bool → Row
arrival_row d CommErr =
    cond (eqb d.state 26) (cond (CommErr || not (eqb d.SDcycles 0)) T29 T28) (cond CommErr T25 T22)

-- Actions

-- T21, T24, T27 and the description of 22 and 27: the SPDU admitted gives MCount, and "set ChFAckReq_DC = ChFAckReq" (R18, R21, R22a)
unfoldable pub admitted : Device → Request → Device
admitted d q = record {
  MCount = q.MCount;
  ChFAckReq_DC = q.ChFAckReq;
  state = d.state;
  SDcycles = d.SDcycles;
  CommErrCount = d.CommErrCount;
  TimeoutCount = d.TimeoutCount;
  DCommErr = d.DCommErr;
  DTimeout = d.DTimeout;
  SDset = d.SDset;
  setSD_DC = d.setSD_DC;
  DCount_i = d.DCount_i;
  DTimer = d.DTimer;
  runs = d.runs;
  released = d.released;
  responded = d.responded;
}

unfoldable pub t22 : Device → ℕ → Bool → Device
t22 d at setSD =
    let counting = not (eqb d.SDcycles 0) in
    record {
      -- use PDin_D, DCommErr = 0, DTimeout = 0, DCount_i = MCount_inv, restart DTimer
      responded = true;
      DCommErr = false;
      DTimeout = false;
      DCount_i = inverted d.MCount;
      DTimer = at;
      runs = true;
      -- if SDcycles <> 0 then use SDout, setSD_DC = 1, SDset = 1, SDcycles = SDcycles - 1 else use PDout, setSD_DC = 0, SDset = 0;
      -- if setSD = 1 then use SDout, setSD_DC = 1 (SDset stays as the first left it, R20; SDcycles 0 stays 0)
      released = not counting && not setSD;
      setSD_DC = counting || setSD;
      SDset = counting;
      SDcycles = d.SDcycles - 1;
      -- to 23, and by T23 (SDset_DS is 0, R22) to 24
      state = 24;
      -- the others stay
      CommErrCount = d.CommErrCount;
      TimeoutCount = d.TimeoutCount;
      ChFAckReq_DC = d.ChFAckReq_DC;
      MCount = d.MCount;
    }

unfoldable pub t25 : Device → ℕ → Device
t25 d at = record {
  -- use PDin_D, use SDout, SDset = 1, DCommErr = 1, CommErrCount = 1, DCount_i = MCount_inv, SDcycles = 3, restart DTimer
  responded = true;
  released = false;
  SDset = true;
  DCommErr = true;
  CommErrCount = 1;
  DCount_i = inverted d.MCount;
  SDcycles = 3;
  DTimer = at;
  runs = true;
  -- to 25, and by T26 to 26
  state = 26;
  -- the others stay
  DTimeout = d.DTimeout;
  TimeoutCount = d.TimeoutCount;
  setSD_DC = d.setSD_DC;
  ChFAckReq_DC = d.ChFAckReq_DC;
  MCount = d.MCount;
}

unfoldable pub t28 : Device → ℕ → Device
t28 d at = record {
  -- use PDin_D, use SDout, setSD_DC = 0, SDset = 0, DCount_i = MCount_inv, DCommErr = 0, DTimeout = 0, restart DTimer
  responded = true;
  released = false;
  setSD_DC = false;
  SDset = false;
  DCount_i = inverted d.MCount;
  DCommErr = false;
  DTimeout = false;
  DTimer = at;
  runs = true;
  -- to 23, and by T23 to 24
  state = 24;
  -- the others stay
  SDcycles = d.SDcycles;
  CommErrCount = d.CommErrCount;
  TimeoutCount = d.TimeoutCount;
  ChFAckReq_DC = d.ChFAckReq_DC;
  MCount = d.MCount;
}

unfoldable pub t29 : Device → ℕ → Bool → Device
t29 d at CommErr =
    let errors = cond CommErr 1 d.CommErrCount in
    record {
      -- use PDin_D, use SDout, setSD_DC = 1, SDset = 1, DCount_i = MCount_inv, restart DTimer
      responded = true;
      released = false;
      setSD_DC = true;
      SDset = true;
      DCount_i = inverted d.MCount;
      DTimer = at;
      runs = true;
      -- if CommErr then DCommErr = 1, CommErrCount = 1, SDcycles = 3 else SDcycles = SDcycles - 1;
      -- if CommErrCount = 1 then DCommErr = 1, CommErrCount = 0 else DCommErr = 0 (over the CommErrCount that the first left, R20)
      SDcycles = cond CommErr 3 (d.SDcycles - 1);
      DCommErr = eqb errors 1;
      CommErrCount = cond (eqb errors 1) 0 errors;
      -- if TimeoutCount = 1 then DTimeout = 1, TimeoutCount = 0 else DTimeout = 0
      DTimeout = eqb d.TimeoutCount 1;
      TimeoutCount = cond (eqb d.TimeoutCount 1) 0 d.TimeoutCount;
      -- to 25, and by T26 to 26
      state = 26;
      -- the others stay
      ChFAckReq_DC = d.ChFAckReq_DC;
      MCount = d.MCount;
    }

-- T30 and T31 differ in their source alone
unfoldable pub t30t31 : Device → ℕ → Device
t30t31 d at = record {
  -- use PDin_D, use SDout, setSD_DC = 1, SDset = 1, DTimeout = 1, TimeoutCount = 1, SDcycles = 3, restart DTimer, DCount_i = MCount_inv
  responded = true;
  released = false;
  setSD_DC = true;
  SDset = true;
  DTimeout = true;
  TimeoutCount = 1;
  SDcycles = 3;
  DTimer = at;
  runs = true;
  DCount_i = inverted d.MCount;
  -- to 25, and by T26 to 26
  state = 26;
  -- the others stay
  CommErrCount = d.CommErrCount;
  DCommErr = d.DCommErr;
  ChFAckReq_DC = d.ChFAckReq_DC;
  MCount = d.MCount;
}

-- the row's action, at the call's reading, with the setSD and the CommErr of the SPDU where there is one
unfoldable pub acted : Device → Row → ℕ → Bool → Bool → Device
acted d T22 at setSD CommErr = t22 d at setSD
acted d T25 at setSD CommErr = t25 d at
acted d T28 at setSD CommErr = t28 d at
acted d T29 at setSD CommErr = t29 d at CommErr
acted d T30 at setSD CommErr = t30t31 d at
acted d T31 at setSD CommErr = t30t31 d at

-- the number of a row outside: 000's, and 0 for none
abbrev pub row_number_of : Option Row → ℕ
row_number_of None = 0
row_number_of (Some T22) = 22
row_number_of (Some T25) = 25
row_number_of (Some T28) = 28
row_number_of (Some T29) = 29
row_number_of (Some T30) = 30
row_number_of (Some T31) = 31
