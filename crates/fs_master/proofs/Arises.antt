-- Nothing is promised of nothing: a worked course of happenings after an accepted block, computed, in which every row of 000 Table 38, every check,
-- every mark and every stage of a fault arises, and the premises of the theorems are met. Assumes nothing.
use Prim.Native.Nat.{ℕ, ◌-◌, ◌≤◌}
use native.Mathlib.Omega.{arith}
use mathlib.Core.Path.{◌≡◌, refl, sym}
use mathlib.Core.Logic.{◌⊎◌}
use mathlib.Core.Bool.{Bool, true, false}
use mathlib.Core.List.{List, [], ◌∷◌, map}
use lib.ListN.{drop}
use Rattle.std.specs.Prelude.{Option, Some, None}
use Rattle.scl.specs.Time.{elapsed_of}
use Rattle.scl.specs.Readings.{last_reading}
use Rattle.scl.specs.Delayed.{delayed_happening, delayed_past, OnClock, none, more}
use Rattle.scl.specs.declared.Happening.{Happening}
use Rattle.scl.specs.declared.Happening.TheVariants as happening
use Rattle.scl.specs.declared.Response.{Response}
use Rattle.scl.specs.declared.Request.{Request}
use Rattle.scl.specs.declared.Check.{Check}
use Rattle.scl.specs.declared.Check.TheVariants as check
use Rattle.scl.specs.declared.Mark.{Mark}
use Rattle.scl.specs.declared.Mark.TheVariants.{Fresh, GoesOn, Safe}
use Rattle.scl.proofs.Cases.{no}
use Rattle.fs_master.specs.declared.Master.{Master}
use Rattle.fs_master.specs.declared.Row.{Row}
use Rattle.fs_master.specs.declared.Row.TheVariants.{T4, T7, T8, T11, T12, T13, T14}
use Rattle.fs_master.specs.Table38.{watchdog_row, is_old, is_admitted, checked, from8, arrival_row, admitted, start_from, t4, t7, t8, t11, t12, t13, t14, acted, signalled, row_number_of}
use Rattle.fs_master.specs.Calls.{watched, watched_by, quiet, arrived, received, clocked, operated, step_of}
use Rattle.fs_master.specs.History.{FreshBy, Held, master_after, watched_in, passes_by, has_passed, delayed_master, delayed_outcome, signals_after, signals, admitted_by, faulty_by, Fault, Open, Pressed, Asked, answered_by, fault, last_row, last_admitted_at, previous_by, last_admitted, is_old_after, set_when_admitted}
use Rattle.fs_master.specs.History as history
use Rattle.fs_master.specs.Regular.{is_regular}
use Rattle.fs_master.proofs.Rows as rows
use Rattle.fs_master.proofs.Release as release
use Rattle.fs_master.proofs.Fresh as fresh
use Rattle.fs_master.proofs.Acknowledge as acknowledge
use Rattle.fs_master.proofs.Watchdog as watchdog
use Rattle.fs_master.proofs.Counts as counts
use Rattle.fs_master.proofs.Faults as faults
use Rattle.fs_master.proofs.Admitted as admitting
use Rattle.fs_master.proofs.Delayed as delaying
use Rattle.fs_master.proofs.Regulars as regulars

-- a response of this DCount_i, with SDset, DCommErr, DTimeout, and whether port and signature hold
abbrev response : ℕ → Bool → Bool → Bool → Bool → Bool → Response
response count SDset DCommErr DTimeout port signature = record {
  length = 5;
  DCount_i = count;
  SDset = SDset;
  DCommErr = DCommErr;
  DTimeout = DTimeout;
  port_holds = port;
  signature_holds = signature;
  all_zero = false;
  unused = 0;
}

abbrev good : ℕ → Response
good count = response count false false false true true

abbrev set : ℕ → Response
set count = response count true false false true true

-- the FS-Device tells an error, and a timeout
abbrev erred : ℕ → Response
erred count = response count false true false true true

abbrev late : ℕ → Response
late count = response count false false true true true

abbrev misaddressed : ℕ → Response
misaddressed count = response count false false false false true

abbrev damaged : ℕ → Response
damaged count = response count false false false true false

abbrev zeros : Response
zeros = record {
  length = 5;
  DCount_i = 0;
  SDset = false;
  DCommErr = false;
  DTimeout = false;
  port_holds = false;
  signature_holds = false;
  all_zero = true;
  unused = 0;
}

abbrev request : Request
request = record { length = 5; MCount = 1; setSD = false; ChFAckReq = false; port_holds = true; signature_holds = true; all_zero = false; unused = 0 }

-- what the control octet then carries: MCount, setSD, ChFAckReq
pub data Sent : Type 0 where
  sends : (MCount : ℕ) (setSD ChFAckReq : Bool) → Sent

-- a call: the rows of the watchdog and of the response, the check that failed, whether it passed and was old, what is handed on, the fault after it,
-- what is sent then
pub record Line : Type 0 where
  happens : Happening
  watchdog : Option Row
  arrival : Option Row
  failed : Option Check
  passed : Bool
  old : Bool
  mark : Mark
  stage : Fault
  sent : Sent

abbrev line : Happening → Option Row → Option Row → Option Check → Bool → Bool → Mark → Fault → Sent → Line
line h watchdog arrival failed passed old mark stage sent = record {
  happens = h;
  watchdog = watchdog;
  arrival = arrival;
  failed = failed;
  passed = passed;
  old = old;
  mark = mark;
  stage = stage;
  sent = sent;
}

-- after a block at 0 with W 100, the latest first
abbrev table : List Line
table =
    line (happening.Response 700 (good 7)) (Some T14) (Some T13) None true false Safe Asked (sends 1 true true)
    ∷ line (happening.Response 520 (late 1)) None (Some T7) None true false Safe Open (sends 7 true false)
    ∷ line (happening.Response 510 (good 2)) None (Some T4) None true false Fresh history.None (sends 6 false false)
    ∷ line (happening.Operator 500 false false) None None None false false Safe history.None (sends 5 true false)
    ∷ line (happening.Response 490 (good 3)) None (Some T11) None true false Safe history.None (sends 5 true false)
    ∷ line (happening.Operator 480 true true) None None None false false Safe Asked (sends 4 true true)
    ∷ line (happening.Response 470 (good 4)) None (Some T13) None true false Safe Asked (sends 4 true true)
    ∷ line (happening.Response 460 (late 5)) None (Some T12) None true false Safe Open (sends 3 true false)
    ∷ line (happening.Response 450 (erred 6)) None (Some T12) None true false Safe Open (sends 2 true false)
    ∷ line (happening.Response 440 (good 0)) None (Some T13) None true false Safe Asked (sends 1 true true)
    ∷ line (happening.Request 430 request) None None None false false Safe Open (sends 7 true false)
    ∷ line (happening.Response 420 zeros) None None None false false Safe Open (sends 7 true false)
    -- old, as 1 was awaited of the one before, which carried 4
    ∷ line (happening.Response 410 (good 1)) None None None false true Safe Open (sends 7 true false)
    ∷ line (happening.Response 400 (good 4)) None None None false true Safe Open (sends 7 true false)
    ∷ line (happening.Response 390 (good 4)) None (Some T12) (Some check.Count) false false Safe Open (sends 7 true false)
    ∷ line (happening.Response 380 (misaddressed 2)) None (Some T12) (Some check.Port) false false Safe Open (sends 6 true false)
    ∷ line (happening.Operator 370 true false) None None None false false Safe Pressed (sends 5 true true)
    ∷ line (happening.Response 360 (good 3)) None (Some T13) None true false Safe Pressed (sends 5 true true)
    ∷ line (happening.Response 350 (damaged 4)) None (Some T7) (Some check.Signature) false false Safe Open (sends 4 true false)
    ∷ line (happening.Response 340 (set 5)) None (Some T4) None true false Safe history.None (sends 3 false false)
    ∷ line (happening.Response 330 (good 6)) None (Some T11) None true false Fresh history.None (sends 2 false false)
    ∷ line (happening.Operator 320 false true) None None None false false Safe Asked (sends 1 true true)
    -- admitted though old, as MCount is 0 in state 7 (R14)
    ∷ line (happening.Response 310 (good 7)) None (Some T13) None true true Safe Asked (sends 1 true true)
    ∷ line (happening.Clock 300) (Some T14) None None false false Safe Open (sends 0 true false)
    -- 101 ms after the response, whatever the operator did meanwhile
    ∷ line (happening.Clock 111) (Some T8) None None false false Safe Open (sends 0 true false)
    ∷ line (happening.Operator 40 false false) None None None false false GoesOn history.None (sends 1 false false)
    ∷ line (happening.Response 30 (good 7)) None None None false true GoesOn history.None (sends 1 false false)
    ∷ line (happening.Clock 20) None None None false false GoesOn history.None (sends 1 false false)
    ∷ line (happening.Response 10 (good 7)) None (Some T4) None true false Fresh history.None (sends 1 false false)
    -- not the one that is expected in state 2
    ∷ line (happening.Response 5 (good 3)) None None None false false Safe history.None (sends 0 true false)
    ∷ []

abbrev course : List Happening
course = map (λ l. l.happens) table

pub seen : List Happening → List Line
seen [] = []
seen (h ∷ past) =
    let o = step_of (master_after 0 100 past) 100 h in
    let m = o.master in
    line h o.watchdog o.arrival o.check o.passed o.old o.mark (fault 0 100 (h ∷ past)) (sends m.MCount m.setSD m.ChFAckReq) ∷ seen past

pub course_arises : seen course ≡ table
unfolding watched_in seen master_after fault admitted_by faulty_by answered_by signals signals_after step_of clocked operated quiet received arrived watched watched_by acted t4 t7 t8 t11 t12 t13 t14 admitted is_old is_admitted checked from8 arrival_row watchdog_row signalled start_from elapsed_of
course_arises = refl

-- the first n calls, and the FS-Master after them
abbrev first : ℕ → List Happening
first n = drop (30 - n) course

abbrev after : ℕ → Master
after n = master_after 0 100 (first n)

-- T4 and T11, each of which releases
abbrev releasing : Happening
releasing = happening.Response 10 (good 7)

abbrev releasing_again : Happening
releasing_again = happening.Response 330 (good 6)

-- the first three calls are on the clock
on-clock : OnClock (first 3)
on-clock = more {h = happening.Clock 20} (omega arith) (more {h = releasing} (omega arith) (more {h = happening.Response 5 (good 3)} (omega arith) none))

-- the theorems of these names, of calls of the course
pub record Met : Type 0 where
  fresh_only : FreshBy (after 1) 100 releasing
  fresh_if : (step_of (after 1) 100 releasing).mark ≡ Fresh
  fresh_if_again : (step_of (after 9) 100 releasing_again).mark ≡ Fresh
  release_begins : ((step_of (after 9) 100 releasing_again).mark ≡ Fresh) ⊎ ((after 9).released ≡ true)
  fresh_releases : (after 10).released ≡ true
  fresh_not_old : is_old_after (last_admitted 0 100 (first 9)) (good 6) ≡ false
  fresh_since : (step_of (after 9) 100 releasing_again).sent ≡ last_admitted_at 0 100 (first 9)
  admitted_in_2 : is_admitted (watched_in 0 100 (first 1) releasing) (good 7) ≡ true
  admitted_in_5 : is_admitted (watched_in 0 100 (first 3) (happening.Clock 30)) (good 7) ≡ false
  admitted_in_7 : is_admitted (watched_in 0 100 (first 17) (happening.Clock 410)) (good 1) ≡ false
  admitted_again : is_admitted (watched_in 0 100 (first 7) (happening.Clock 310)) (good 7) ≡ true
  all_zero_lem : is_admitted (after 18) zeros ≡ false
  discarded : (step_of (after 16) 100 (happening.Response 400 (good 4))).master ≡ watched (after 16) 100 400
  faulty_safe : let o = step_of (after 11) 100 (happening.Response 350 (damaged 4)) in (o.mark ≡ Safe) × (o.master.released ≡ false)
  reported_safe : let o = step_of (after 28) 100 (happening.Response 520 (late 1)) in (o.mark ≡ Safe) × (o.master.released ≡ false)
  another_count : (step_of (after 9) 100 releasing_again).master.MCount ≡ (watched (after 9) 100 330).MCount → ⊥
  count_below : (step_of (after 9) 100 releasing_again).master.MCount ≤ 7
  held : Held (step_of (after 0) 100 releasing).master
  in_time : watchdog_row (after 2) 100 20 ≡ None
  is_regular_lem : is_regular (after 10) 100 340 (set 5) ≡ true
  regular_step : step_of (after 10) 100 (happening.Response 340 (set 5)) ≡ record { master = t4 (admitted (after 10) (set 5)) 340 true; watchdog = None; arrival = Some T4; check = None; old = false; passed = true; sent = 330; mark = Safe }
  delayed_step : step_of (delayed_master 5 (after 2)) 100 (delayed_happening 5 (happening.Clock 20)) ≡ delayed_outcome 5 (step_of (after 2) 100 (happening.Clock 20))
  delayed_after : master_after 4294967281 100 (delayed_past 4294967281 (first 3)) ≡ delayed_master 4294967281 (after 3)
  acknowledged : fault 0 100 (first 10) ≡ history.None
  passed_first : has_passed 0 100 (first 2) ≡ true
  late_silent : (after 6).released ≡ false
  released_in_time : elapsed_of 20 (last_admitted_at 0 100 (first 3)) ≤ 100
  sends_safe : ((after 12).setSD ≡ true) × ((after 12).SDset_S ≡ true)
  sends_asked : (after 26).setSD ≡ true

-- what the theorems' words come to: nothing has passed before the first response that does; only a response that is admitted changes the reading of the
-- last one, neither the clock nor one that is old; and the numbers of the rows outside are 000's
pub record Words : Type 0 where
  not_yet : has_passed 0 100 (first 1) ≡ false
  admitted_at : last_admitted_at 0 100 (first 5) ≡ 10
  row_at : last_row 0 100 (first 6) ≡ 111
  numbers : map row_number_of (None ∷ Some T4 ∷ Some T7 ∷ Some T8 ∷ Some T11 ∷ Some T12 ∷ Some T13 ∷ Some T14 ∷ []) ≡ 0 ∷ 4 ∷ 7 ∷ 8 ∷ 11 ∷ 12 ∷ 13 ∷ 14 ∷ []

pub words : Words
unfolding has_passed passes_by last_reading watched_in master_after step_of clocked operated quiet received arrived watched watched_by acted t4 t8 admitted is_old is_admitted checked from8 arrival_row watchdog_row signalled start_from elapsed_of
words = record { not_yet = refl; admitted_at = refl; row_at = refl; numbers = refl }

opened : Open ≡ history.None → true ≡ false
opened e = let z : ◌≡◌ {A = ℕ} 0 1 = cc in absurd (omega arith)

pub premises_met : Met
unfolding is_regular set_when_admitted last_admitted previous_by is_old_after watched_in master_after fault admitted_by faulty_by answered_by signals signals_after step_of clocked operated quiet received arrived watched watched_by acted t4 t7 t8 t11 t12 t13 t14 admitted is_old is_admitted checked from8 arrival_row watchdog_row signalled start_from elapsed_of
premises_met = record {
  fresh_only = release.fresh_only (after 1) 100 releasing refl;
  fresh_if =
      release.fresh_if (after 1) 100 10 (good 7)
      (record { admitted = refl; signature = refl; port = refl; count = refl; no_error = refl; no_timeout = refl; not_set = refl; not_asked = refl; acknowledged = λ e. no (sym e) });
  fresh_if_again =
      release.fresh_if (after 9) 100 330 (good 6)
      (record { admitted = refl; signature = refl; port = refl; count = refl; no_error = refl; no_timeout = refl; not_set = refl; not_asked = refl; acknowledged = λ _. refl });
  release_begins = release.release_begins (after 9) 100 releasing_again refl;
  fresh_releases = release.fresh_releases (after 9) 100 releasing_again refl;
  fresh_not_old = fresh.fresh_not_old 0 100 (first 9) 330 (good 6) refl;
  fresh_since = fresh.fresh_since 0 100 (first 9) releasing_again refl;
  admitted_in_2 = admitting.admitted_in_2 0 100 (first 1) releasing (good 7) refl;
  admitted_in_5 = admitting.admitted_in_5 0 100 (first 3) (happening.Clock 30) (good 7) refl;
  admitted_in_7 = admitting.admitted_in_7 0 100 (first 17) (happening.Clock 410) (good 1) refl;
  admitted_again = admitting.admitted_in_7 0 100 (first 7) (happening.Clock 310) (good 7) refl;
  all_zero_lem = faults.all_zero_lem (after 18) zeros refl;
  discarded = faults.discarded (after 16) 100 400 (good 4) refl;
  faulty_safe = faults.faulty_safe (after 11) 100 350 (damaged 4) refl refl;
  reported_safe = faults.faulty_safe (after 28) 100 520 (late 1) refl refl;
  another_count = counts.another_count (after 9) 100 330 (good 6) refl;
  count_below = counts.count_below (after 9) 100 releasing_again (omega arith);
  held = counts.held (after 0) 100 releasing (counts.first_held 0);
  in_time = rows.in_time (after 2) 100 20 (omega arith);
  is_regular_lem = refl;
  regular_step = regulars.regular_step (after 10) 100 340 (set 5) refl;
  delayed_step = delaying.delayed_step 5 (after 2) 100 (happening.Clock 20) (omega arith) (omega arith);
  delayed_after = delaying.delayed_after 4294967281 0 100 (omega arith) on-clock;
  acknowledged = acknowledge.acknowledged 0 100 (first 10) refl;
  passed_first = release.passed_first 0 100 (first 2) refl;
  late_silent = watchdog.late 0 100 (first 5) (happening.Clock 111) refl (omega arith);
  released_in_time = watchdog.released_in_time 0 100 (first 2) (happening.Clock 20) (omega arith) refl;
  sends_safe = acknowledge.sends_safe 0 100 (first 12) (λ e. no (opened e));
  sends_asked = acknowledge.sends_asked 0 100 (first 26) refl;
}
