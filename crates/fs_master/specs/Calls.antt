-- One happening at the FS-Master: the watchdog is looked at with its reading, then an SPDU that came for this end. Assumes nothing.
use Rattle.std.specs.Prelude.{ℕ, Bool, true, false, cond, not, Option, Some, None}
use Rattle.scl.specs.Happenings.{is_failure, mark_of}
use Rattle.scl.specs.declared.Happening.{Happening}
use Rattle.scl.specs.declared.Happening.TheVariants as happening
use Rattle.scl.specs.declared.Check.{Check}
use Rattle.scl.specs.declared.Response.{Response}
use Rattle.fs_master.specs.declared.Master.{Master}
use Rattle.fs_master.specs.declared.Outcome.{Outcome}
use Rattle.fs_master.specs.declared.Row.{Row}
use Rattle.fs_master.specs.Table38.{watchdog_row, is_old, is_admitted, checked, has_faults, arrival_row, admitted, acted, signalled}

-- the FS-Master once its watchdog has been looked at, which led to this row
unfoldable pub watched_by : Master → Option Row → ℕ → Master
watched_by m None at = m
watched_by m (Some row) at = acted m row at false

unfoldable pub watched : Master → ℕ → ℕ → Master
watched m w at = watched_by m (watchdog_row m w at) at

-- no SPDU led to a row (R13a): the watchdog's row, and whether one came that was old. A sample's time runs from what is kept after that row (R17)
unfoldable pub quiet : Master → Option Row → Bool → Outcome
quiet m watchdog old = record {
  master = m;
  watchdog = watchdog;
  arrival = None;
  check = None;
  old = old;
  passed = false;
  sent = m.start;
  mark = mark_of false m.released;
}

-- an SPDU that is admitted (R14), with the check that failed first; it passes where none did (R14a)
unfoldable pub arrived : Master → Option Row → ℕ → Response → Option Check → Outcome
arrived m watchdog at f failed =
    let row = arrival_row m (has_faults (is_failure failed) f) in
    let after = acted (admitted m f) row at f.SDset in
    record {
      master = after;
      watchdog = watchdog;
      arrival = Some row;
      check = failed;
      old = is_old m f;
      passed = not (is_failure failed);
      sent = m.start;
      mark = mark_of true after.released;
    }

-- an SPDU received, at a master whose watchdog has been looked at
unfoldable pub received : Master → Option Row → ℕ → Response → Outcome
received m watchdog at f = cond (is_admitted m f) (arrived m watchdog at f (checked m f)) (quiet m watchdog (is_old m f))

-- the clock, and the other end's SPDU
unfoldable pub clocked : Master → ℕ → ℕ → Outcome
clocked m w at = quiet (watched m w at) (watchdog_row m w at) false

unfoldable pub operated : Master → ℕ → ℕ → Bool → Bool → Outcome
operated m w at setSD_C ChFAck_C = quiet (signalled (watched m w at) setSD_C ChFAck_C) (watchdog_row m w at) false

-- every happening looks at the watchdog first (R11)
unfoldable pub step_of : Master → ℕ → Happening → Outcome
step_of m w (happening.Response at f) = received (watched m w at) (watchdog_row m w at) at f
step_of m w (happening.Request at request) = clocked m w at
step_of m w (happening.Clock at) = clocked m w at
step_of m w (happening.Operator at setSD_C ChFAck_C) = operated m w at setSD_C ChFAck_C
