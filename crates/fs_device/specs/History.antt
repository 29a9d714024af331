-- What the rows come to, over the definitions of this folder: the words in which the theorems of proofs/ are stated. Assumes nothing.
use Rattle.std.specs.Prelude.{ℕ, ◌+◌, ◌≡◌, Bool, true, false, cond, not, ◌&&◌, ◌||◌, eqb, List, [], ◌∷◌, Option, Some, None}
use Rattle.scl.specs.Counts.{inverted}
use Rattle.scl.specs.Time.{expired_of}
use Rattle.scl.specs.Happenings.{reading_of}
use Rattle.scl.specs.Readings.{last_reading}
use Rattle.scl.specs.Delayed.{delayed}
use Rattle.scl.specs.declared.Happening.{Happening}
use Rattle.scl.specs.declared.Happening.TheVariants as happening
use Rattle.scl.specs.declared.Request.{Request}
use Rattle.fs_device.specs.declared.Device.{Device}
use Rattle.fs_device.specs.declared.Outcome.{Outcome}
use Rattle.fs_device.specs.declared.Row.{Row}
use Rattle.fs_device.specs.declared.Row.TheVariants.{T22, T25, T28, T29, T30, T31}
use Rattle.fs_device.specs.Table40.{first_device, is_admitted, count_holds}
use Rattle.fs_device.specs.Calls.{watched, step_of}

-- the SPDU that T22 releases, at a device whose watchdog has been looked at
pub record Releases (d : Device) (q : Request) : Type 0 where
  pub admitted : is_admitted d q ≡ true
  pub not_in_26 : eqb d.state 26 ≡ false
  pub signature : q.signature_holds ≡ true
  pub port : q.port_holds ≡ true
  pub count : count_holds d q ≡ true
  pub cycles : d.SDcycles ≡ 0
  pub not_set : q.setSD ≡ false

-- the happening of a call that hands on fresh octets
unfoldable pub FreshBy : Device → ℕ → Happening → Type 0
FreshBy d w (happening.Request at q) = Releases (watched d w at) q × ((step_of d w (happening.Request at q)).arrival ≡ Some T22)
FreshBy d w (happening.Response at response) = ⊥
FreshBy d w (happening.Clock at) = ⊥
FreshBy d w (happening.Operator at setSD_C ChFAck_C) = ⊥

-- after what happened since a block at this reading with this W, the latest first
unfoldable pub device_after : ℕ → ℕ → List Happening → Device
device_after at w [] = first_device at
device_after at w (h ∷ past) = (step_of (device_after at w past) w h).device

-- the three checks hold
abbrev pub sound : Device → Request → Bool
sound d q = q.signature_holds && q.port_holds && count_holds d q

-- Table 39, DTimeout: "FSP_WatchdogTime expired", where DTimer runs
abbrev pub times_out : Device → ℕ → ℕ → Bool
times_out d w at = d.runs && expired_of at d.DTimer w

-- Table 39, CommErr: "a CRC or counter/port error in the received SPDU", of one that is admitted, at a device whose watchdog has been looked at
abbrev pub errs_by : Device → Happening → Bool
errs_by d (happening.Request at q) = is_admitted d q && not (sound d q)
errs_by d (happening.Response at response) = false
errs_by d (happening.Clock at) = false
errs_by d (happening.Operator at setSD_C ChFAck_C) = false

-- one is admitted that has none
abbrev pub passes_by : Device → Happening → Bool
passes_by d (happening.Request at q) = is_admitted d q && sound d q
passes_by d (happening.Response at response) = false
passes_by d (happening.Clock at) = false
passes_by d (happening.Operator at setSD_C ChFAck_C) = false

-- the rows of an error, with CommErr of the SPDU
abbrev pub is_error_row : Option Row → Bool → Bool
is_error_row None CommErr = false
is_error_row (Some T22) CommErr = false
is_error_row (Some T25) CommErr = true
is_error_row (Some T28) CommErr = false
is_error_row (Some T29) CommErr = CommErr
is_error_row (Some T30) CommErr = false
is_error_row (Some T31) CommErr = false

-- the rows of a timeout
abbrev pub is_timeout_row : Option Row → Bool
is_timeout_row None = false
is_timeout_row (Some T22) = false
is_timeout_row (Some T25) = false
is_timeout_row (Some T28) = false
is_timeout_row (Some T29) = false
is_timeout_row (Some T30) = true
is_timeout_row (Some T31) = true

-- how many SPDUs passed their checks since the block, or since the last error or timeout after it; of one call the watchdog is looked at first
unfoldable pub passed_since : ℕ → ℕ → List Happening → ℕ
passed_since at w [] = 0
passed_since at w (h ∷ past) =
    let d = device_after at w past in
    let j = watched d w (reading_of h) in
    let before = cond (times_out d w (reading_of h)) 0 (passed_since at w past) in
    cond (errs_by j h) 0 (cond (passes_by j h) (before + 1) before)

-- whether there was an error since the block, and whether there was a timeout
unfoldable pub had_error : ℕ → ℕ → List Happening → Bool
had_error at w [] = false
had_error at w (h ∷ past) = errs_by (watched (device_after at w past) w (reading_of h)) h || had_error at w past

unfoldable pub had_timeout : ℕ → ℕ → List Happening → Bool
had_timeout at w [] = false
had_timeout at w (h ∷ past) = times_out (device_after at w past) w (reading_of h) || had_timeout at w past

unfoldable pub had_error_or_timeout : ℕ → ℕ → List Happening → Bool
had_error_or_timeout at w past = had_error at w past || had_timeout at w past

-- how many SPDUs were admitted since the last with an error, and since the last timeout: a cycle each. One admitted in the very call of a timeout
-- comes after it
unfoldable pub cycles_since_error : ℕ → ℕ → List Happening → ℕ
cycles_since_error at w [] = 0
cycles_since_error at w (h ∷ past) =
    let j = watched (device_after at w past) w (reading_of h) in
    cond (errs_by j h) 0 (cond (passes_by j h) (cycles_since_error at w past + 1) (cycles_since_error at w past))

unfoldable pub cycles_since_timeout : ℕ → ℕ → List Happening → ℕ
cycles_since_timeout at w [] = 0
cycles_since_timeout at w (h ∷ past) =
    let d = device_after at w past in
    let j = watched d w (reading_of h) in
    let before = cond (times_out d w (reading_of h)) 0 (cycles_since_timeout at w past) in
    cond (errs_by j h || passes_by j h) (before + 1) before

-- once it has responded, DCount_i is the mirror of the MCount last admitted
abbrev pub Mirrors : Device → Type 0
Mirrors d = d.responded ≡ true → d.DCount_i ≡ inverted d.MCount

-- whether an SPDU was admitted since the block
unfoldable pub has_admitted : ℕ → ℕ → List Happening → Bool
has_admitted at w [] = false
has_admitted at w (h ∷ past) =
    let j = watched (device_after at w past) w (reading_of h) in
    errs_by j h || passes_by j h || has_admitted at w past

-- MCount of the last SPDU admitted, at a device whose watchdog has been looked at: that of this happening's, else the one before
unfoldable pub admitted_by : Device → Happening → ℕ → ℕ
admitted_by d (happening.Request at q) before = cond (is_admitted d q) q.MCount before
admitted_by d (happening.Response at response) before = before
admitted_by d (happening.Clock at) before = before
admitted_by d (happening.Operator at setSD_C ChFAck_C) before = before

-- R18: 0 after a block
unfoldable pub last_admitted : ℕ → ℕ → List Happening → ℕ
last_admitted at w [] = 0
last_admitted at w (h ∷ past) = admitted_by (watched (device_after at w past) w (reading_of h)) h (last_admitted at w past)

-- its ChFAckReq, in the same way
unfoldable pub asked_by : Device → Happening → Bool → Bool
asked_by d (happening.Request at q) before = cond (is_admitted d q) q.ChFAckReq before
asked_by d (happening.Response at response) before = before
asked_by d (happening.Clock at) before = before
asked_by d (happening.Operator at setSD_C ChFAck_C) before = before

-- R19: 0 after a block
unfoldable pub last_asked : ℕ → ℕ → List Happening → Bool
last_asked at w [] = false
last_asked at w (h ∷ past) = asked_by (watched (device_after at w past) w (reading_of h)) h (last_asked at w past)

-- a row acts, and restarts DTimer
abbrev pub acts : Option Row → Bool
acts None = false
acts (Some row) = true

-- in a call: the row of an SPDU that is admitted, and the watchdog's
abbrev pub arrives : ℕ → Device → Happening → Bool
arrives w d h = acts (step_of d w h).arrival

abbrev pub watches : ℕ → Device → Happening → Bool
watches w d h = acts (step_of d w h).watchdog

-- the reading of the last call in which one did, or the block's
abbrev pub last_row : ℕ → ℕ → List Happening → ℕ
last_row at w past = last_reading (device_after at w) (λ d h. arrives w d h || watches w d h) at past

-- the reading of the last call whose SPDU was admitted, or the block's
abbrev pub last_admitted_at : ℕ → ℕ → List Happening → ℕ
last_admitted_at at w past = last_reading (device_after at w) (arrives w) at past

-- in one of the three waits
abbrev pub waits : Device → Bool
waits d = eqb d.state 21 || eqb d.state 24 || eqb d.state 26

-- all readings later by k on the clock
unfoldable pub delayed_device : ℕ → Device → Device
delayed_device k d = record {
  DTimer = delayed k d.DTimer;
  state = d.state;
  SDcycles = d.SDcycles;
  CommErrCount = d.CommErrCount;
  TimeoutCount = d.TimeoutCount;
  DCommErr = d.DCommErr;
  DTimeout = d.DTimeout;
  SDset = d.SDset;
  setSD_DC = d.setSD_DC;
  ChFAckReq_DC = d.ChFAckReq_DC;
  DCount_i = d.DCount_i;
  MCount = d.MCount;
  runs = d.runs;
  released = d.released;
  responded = d.responded;
}

unfoldable pub delayed_outcome : ℕ → Outcome → Outcome
delayed_outcome k o = record {
  device = delayed_device k o.device;
  watchdog = o.watchdog;
  arrival = o.arrival;
  check = o.check;
  old = o.old;
  passed = o.passed;
  mark = o.mark;
}
