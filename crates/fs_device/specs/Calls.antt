-- One happening at the FS-Device: the watchdog is looked at with its reading, then an SPDU that came for this end. Assumes nothing.
use Rattle.std.specs.Prelude.{ℕ, Bool, true, false, cond, not, ◌&&◌, Option, Some, None}
use Rattle.scl.specs.Time.{expired_of}
use Rattle.scl.specs.Happenings.{is_failure, mark_of}
use Rattle.scl.specs.declared.Happening.{Happening}
use Rattle.scl.specs.declared.Happening.TheVariants as happening
use Rattle.scl.specs.declared.Check.{Check}
use Rattle.scl.specs.declared.Request.{Request}
use Rattle.fs_device.specs.declared.Device.{Device}
use Rattle.fs_device.specs.declared.Outcome.{Outcome}
use Rattle.fs_device.specs.declared.Row.{Row}
use Rattle.fs_device.specs.Table40.{watchdog_row, is_old, is_admitted, checked, arrival_row, admitted, acted}

-- the FS-Device once its watchdog has been looked at, which led to this row
unfoldable pub watched_by : Device → Option Row → ℕ → Device
watched_by d None at = d
watched_by d (Some row) at = acted d row at false false

unfoldable pub watched : Device → ℕ → ℕ → Device
watched d w at = watched_by d (watchdog_row d w at) at

-- no SPDU led to a row (R13a): the watchdog's row, and whether one came that was old
unfoldable pub quiet : Device → Option Row → Bool → Outcome
quiet d watchdog old = record {
  device = d;
  watchdog = watchdog;
  arrival = None;
  check = None;
  old = old;
  passed = false;
  mark = mark_of false d.released;
}

-- an SPDU that is admitted (R18), with the check that failed first: guards read the count before it, actions the count that it gives
unfoldable pub arrived : Device → Option Row → ℕ → Request → Option Check → Outcome
arrived d watchdog at q failed =
    let row = arrival_row d (is_failure failed) in
    let after = acted (admitted d q) row at q.setSD (is_failure failed) in
    record {
      device = after;
      watchdog = watchdog;
      arrival = Some row;
      check = failed;
      old = false;
      passed = not (is_failure failed);
      mark = mark_of true after.released;
    }

-- an SPDU received, at a device whose watchdog has been looked at
unfoldable pub received : Device → Option Row → ℕ → Request → Outcome
received d watchdog at q = cond (is_admitted d q) (arrived d watchdog at q (checked d q)) (quiet d watchdog (is_old d q))

-- any other happening
unfoldable pub clocked : Device → ℕ → ℕ → Outcome
clocked d w at = quiet (watched d w at) (watchdog_row d w at) false

-- every happening looks at the watchdog first (R11)
unfoldable pub step_of : Device → ℕ → Happening → Outcome
step_of d w (happening.Request at q) = received (watched d w at) (watchdog_row d w at) at q
step_of d w (happening.Response at response) = clocked d w at
step_of d w (happening.Clock at) = clocked d w at
step_of d w (happening.Operator at setSD_C ChFAck_C) = clocked d w at

-- no SPDU came for the FS-Device and its watchdog is not over: the happening leaves it as it is
unfoldable pub unchanged : Device → ℕ → Happening → Bool
unchanged d w (happening.Request at q) = false
unchanged d w (happening.Response at response) = not (d.runs && expired_of at d.DTimer w)
unchanged d w (happening.Clock at) = not (d.runs && expired_of at d.DTimer w)
unchanged d w (happening.Operator at setSD_C ChFAck_C) = not (d.runs && expired_of at d.DTimer w)
