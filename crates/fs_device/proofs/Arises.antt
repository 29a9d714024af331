-- Two histories of an FS-Device, worked out: every row, every check and every mark but that of a refusal arises, with what it then reports, and at
-- calls of the first the premises of the theorems are met. Assumes nothing.
use Prim.Native.Nat.{◌≤◌, ℕ, zero, suc, ◌<◌}
use native.Mathlib.Omega.{arith}
use mathlib.Core.Path.{◌≡◌, refl}
use mathlib.Core.Bool.{Bool, true, false, cond, not, ◌&&◌}
use mathlib.Core.List.{List, [], ◌∷◌, map}
use lib.Dec.{eqb}
use Rattle.std.specs.Prelude.{Option, Some, None}
use Rattle.scl.specs.Time.{elapsed_of}
use Rattle.scl.specs.Readings.{last_reading}
use Rattle.scl.specs.Counts.{inverted}
use Rattle.scl.specs.Delayed.{delayed, delayed_happening, delayed_past, none, more}
use Rattle.scl.specs.declared.Happening.{Happening}
use Rattle.scl.specs.declared.Happening.TheVariants as happening
use Rattle.scl.specs.declared.Request.{Request}
use Rattle.scl.specs.declared.Check.{Check}
use Rattle.scl.specs.declared.Check.TheVariants.{Signature, Port, Count}
use Rattle.scl.specs.declared.Mark.{Mark}
use Rattle.scl.specs.declared.Mark.TheVariants.{Fresh, GoesOn, Safe}
use Rattle.fs_device.specs.declared.Device.{Device}
use Rattle.fs_device.specs.declared.Row.{Row}
use Rattle.fs_device.specs.declared.Row.TheVariants.{T22, T25, T28, T29, T30, T31}
use Rattle.fs_device.specs.Table40.{watchdog_row, is_admitted, checked, arrival_row, admitted, t22, t25, t28, t29, t30t31, acted, row_number_of}
use Rattle.fs_device.specs.Calls.{watched, watched_by, quiet, arrived, received, clocked, step_of, unchanged}
use Rattle.fs_device.specs.History.{FreshBy, device_after, passed_since, had_error, had_timeout, had_error_or_timeout, cycles_since_error, cycles_since_timeout, has_admitted, last_admitted, delayed_device, delayed_outcome, last_row, last_admitted_at}
use Rattle.fs_device.proofs.Release as release
use Rattle.fs_device.proofs.Faults as faults
use Rattle.fs_device.proofs.Watchdog as watchdog
use Rattle.fs_device.proofs.Cycles as cycles
use Rattle.fs_device.proofs.Reports as reports
use Rattle.fs_device.proofs.Delayed as delaying

-- an SPDU with this MCount and setSD, whose signature and port number hold or not
abbrev request : ℕ → Bool → Bool → Bool → Request
request count setSD signature port = record {
  length = 5;
  MCount = count;
  setSD = setSD;
  ChFAckReq = false;
  port_holds = port;
  signature_holds = signature;
  all_zero = false;
  unused = 0;
}

abbrev intact : ℕ → Request
intact count = request count false true true

abbrev damaged : ℕ → Request
damaged count = request count false false true

abbrev set : ℕ → Request
set count = request count true true true

abbrev asking : ℕ → Request
asking count = record {
  length = 5;
  MCount = count;
  setSD = false;
  ChFAckReq = true;
  port_holds = true;
  signature_holds = true;
  all_zero = false;
  unused = 0;
}

abbrev zeros : Request
zeros = record { length = 5; MCount = 0; setSD = false; ChFAckReq = false; port_holds = false; signature_holds = false; all_zero = true; unused = 0 }

abbrev response : ℕ → Happening
response at = happening.Response at (record {
  length = 5;
  DCount_i = 7;
  SDset = false;
  DCommErr = false;
  DTimeout = false;
  port_holds = true;
  signature_holds = true;
  all_zero = false;
  unused = 0;
})

-- what the device then reports, of each bit
pub data Reports : Type 0 where
  bits : (SDset DCommErr DTimeout setSD_DC ChFAckReq_DC : ℕ) → Reports

-- what is seen of a call, with `unchanged` of the device before it, and `passed_since` and the reports after it
pub data Seen : Type 0 where
  seen : (watchdog arrival : Option Row) (check : Option Check) (mark : Mark) (old unchanged : Bool) (passed : ℕ) (reports : Reports) → Seen

-- the block's reading; W is 100, and the clock wraps between the second call and the third
abbrev block : ℕ
block = 4294967200

unfoldable pub worked : List (Happening × Seen)
worked =
    (happening.Clock 4294967290, seen None None None Safe false true 0 (bits 1 0 0 1 0))
    ∷ (happening.Request 4294967295 zeros, seen None None None Safe false false 0 (bits 1 0 0 1 0))
    ∷ (happening.Request 4 (set 0), seen None (Some T22) None Safe false false 1 (bits 1 0 0 1 0))
    ∷ (happening.Request 14 (set 0), seen None None None Safe true false 1 (bits 1 0 0 1 0))
    ∷ (happening.Request 24 (intact 1), seen None (Some T22) None Safe false false 2 (bits 1 0 0 1 0))
    ∷ (happening.Request 34 (intact 2), seen None (Some T22) None Safe false false 3 (bits 1 0 0 1 0))
    ∷ (happening.Request 44 (intact 3), seen None (Some T22) None Fresh false false 4 (bits 0 0 0 0 0))
    ∷ (response 144, seen None None None GoesOn false true 4 (bits 0 0 0 0 0))
    ∷ (happening.Request 144 (set 4), seen None (Some T22) None Safe false false 5 (bits 0 0 0 1 0))
    ∷ (happening.Request 154 (asking 5), seen None (Some T22) None Fresh false false 6 (bits 0 0 0 0 1))
    ∷ (happening.Request 164 (damaged 6), seen None (Some T25) (Some Signature) Safe false false 0 (bits 1 1 0 0 0))
    ∷ (happening.Request 169 (intact 6), seen None None None Safe true false 0 (bits 1 1 0 0 0))
    ∷ (happening.Request 174 (request 7 false true false), seen None (Some T29) (Some Port) Safe false false 0 (bits 1 1 0 1 0))
    ∷ (happening.Request 184 (intact 5), seen None (Some T29) (Some Count) Safe false false 0 (bits 1 1 0 1 0))
    ∷ (happening.Request 194 (intact 6), seen None (Some T29) None Safe false false 1 (bits 1 0 0 1 0))
    ∷ (happening.Request 204 (intact 7), seen None (Some T29) None Safe false false 2 (bits 1 0 0 1 0))
    ∷ (happening.Request 214 (intact 1), seen None (Some T29) None Safe false false 3 (bits 1 0 0 1 0))
    ∷ (happening.Request 224 (intact 2), seen None (Some T28) None Safe false false 4 (bits 0 0 0 0 0))
    ∷ (happening.Request 234 (intact 3), seen None (Some T22) None Fresh false false 5 (bits 0 0 0 0 0))
    ∷ (happening.Operator 335 true false, seen (Some T31) None None Safe false false 0 (bits 1 0 1 1 0))
    ∷ (happening.Operator 435 false false, seen None None None Safe false true 0 (bits 1 0 1 1 0))
    ∷ (happening.Clock 436, seen (Some T30) None None Safe false false 0 (bits 1 0 1 1 0))
    ∷ (happening.Request 446 (damaged 4), seen None (Some T29) (Some Signature) Safe false false 0 (bits 1 1 1 1 0))
    ∷ (happening.Request 547 (intact 5), seen (Some T30) (Some T29) None Safe false false 1 (bits 1 0 1 1 0))
    ∷ (happening.Request 557 (intact 6), seen None (Some T29) None Safe false false 2 (bits 1 0 0 1 0))
    ∷ []

-- the first SPDU has a count that is neither 0 nor follows it
unfoldable pub miscounted : List (Happening × Seen)
miscounted =
    (happening.Request 4 (intact 2), seen None (Some T25) (Some Count) Safe false false 0 (bits 1 1 0 1 0))
    ∷ (happening.Request 14 (intact 3), seen None (Some T29) None Safe false false 1 (bits 1 1 0 1 0))
    ∷ (happening.Request 24 (intact 4), seen None (Some T29) None Safe false false 2 (bits 1 0 0 1 0))
    ∷ []

abbrev bit : Bool → ℕ
bit b = cond b 1 0

abbrev reports_of : Device → Reports
reports_of d = bits (bit d.SDset) (bit d.DCommErr) (bit d.DTimeout) (bit d.setSD_DC) (bit d.ChFAckReq_DC)

-- what the definitions give, call after call
unfoldable pub seen_in : List Happening → List Happening → List Seen
seen_in past [] = []
seen_in past (h ∷ later) =
    let d = device_after block 100 past in
    let o = step_of d 100 h in
    seen o.watchdog o.arrival o.check o.mark o.old (unchanged d 100 h) (passed_since block 100 (h ∷ past)) (reports_of o.device)
    ∷ seen_in (h ∷ past) later

pub arises : (seen_in [] (map (λ row. row.0) worked) ≡ map (λ row. row.1) worked) × (seen_in [] (map (λ row. row.0) miscounted) ≡ map (λ row. row.1) miscounted)
unfolding worked miscounted seen_in device_after passed_since unchanged step_of clocked received arrived quiet watched watched_by acted watchdog_row is_admitted checked arrival_row admitted t22 t25 t28 t29 t30t31 elapsed_of
arises = (refl, refl)

unfoldable pub up_to : ℕ → List Happening → List Happening → List Happening
up_to zero past later = past
up_to (suc n) past [] = past
up_to (suc n) past (h ∷ later) = up_to n (h ∷ past) later

-- what happened before the call of this number, the first being 0, and the device that it left
abbrev past_before : ℕ → List Happening
past_before n = up_to n [] (map (λ row. row.0) worked)

abbrev device_before : ℕ → Device
device_before n = device_after block 100 (past_before n)

-- the call that releases after the block, and the response that leaves the device as it is
abbrev releasing : Happening
releasing = happening.Request 44 (intact 3)

abbrev beside : Happening
beside = response 144

-- what the theorems' words come to: neither another end's SPDU nor a timeout changes the reading of the last SPDU admitted; and the numbers of the rows
-- outside are 000's
pub record Words : Type 0 where
  pub admitted_at : last_admitted_at block 100 (past_before 8) ≡ 44
  pub row_at : last_row block 100 (past_before 20) ≡ 335
  pub still_at : last_admitted_at block 100 (past_before 20) ≡ 234
  pub numbers : map row_number_of (None ∷ Some T22 ∷ Some T25 ∷ Some T28 ∷ Some T29 ∷ Some T30 ∷ Some T31 ∷ []) ≡ 0 ∷ 22 ∷ 25 ∷ 28 ∷ 29 ∷ 30 ∷ 31 ∷ []

pub words : Words
unfolding worked up_to last_reading device_after step_of clocked received arrived quiet watched watched_by acted watchdog_row is_admitted checked arrival_row admitted t22 t25 t28 t29 t30t31 elapsed_of
words = record { admitted_at = refl; row_at = refl; still_at = refl; numbers = refl }

-- the theorems of these names, of calls of the history
pub record Met : Type 0 where
  pub fresh_only : FreshBy (device_before 6) 100 releasing
  pub fresh_if : (step_of (device_before 6) 100 releasing).mark ≡ Fresh
  pub cycles_first : 3 < passed_since block 100 (past_before 7)
  pub set_first : 3 < passed_since block 100 (past_before 18)
  pub after_error : 4 < passed_since block 100 (past_before 19)
  pub mirrored : (device_before 7).DCount_i ≡ inverted (device_before 7).MCount
  pub in_time : watchdog_row (device_before 7) 100 144 ≡ None
  pub unchanged_same : (step_of (device_before 7) 100 beside).device ≡ device_before 7
  pub delayed_step : step_of (delayed_device 5 (device_before 7)) 100 (delayed_happening 5 beside) ≡ delayed_outcome 5 (step_of (device_before 7) 100 beside)
  pub delayed_after : device_after (delayed 5 block) 100 (delayed_past 5 (past_before 3)) ≡ delayed_device 5 (device_before 3)
  pub delayed_call :
      step_of (device_after (delayed 5 block) 100 (delayed_past 5 (past_before 3))) 100 (delayed_happening 5 (happening.Request 14 (set 0)))
      ≡ delayed_outcome 5 (step_of (device_before 3) 100 (happening.Request 14 (set 0)))
  pub admitted_in_21 : is_admitted (watched (device_before 1) 100 4294967295) zeros ≡ not true
  pub admitted_in_24 : is_admitted (watched (device_before 3) 100 14) (set 0) ≡ (not false && not (eqb 0 (last_admitted block 100 (past_before 3))))
  pub admitted_in_26 : is_admitted (watched (device_before 11) 100 169) (intact 6) ≡ (not false && not (eqb 6 (last_admitted block 100 (past_before 11))))
  pub discarded_zeros : (step_of (device_before 1) 100 (happening.Request 4294967295 zeros)).device ≡ watched (device_before 1) 100 4294967295
  pub discarded_old : (step_of (device_before 3) 100 (happening.Request 14 (set 0))).device ≡ watched (device_before 3) 100 14
  pub damaged_safe : let o = step_of (device_before 10) 100 (happening.Request 164 (damaged 6)) in (o.mark ≡ Safe) × (o.device.released ≡ false)
  pub late : (device_before 20).released ≡ false
  pub released_in_time : elapsed_of 144 (last_admitted_at block 100 (past_before 8)) ≤ 100
  pub released_sound :
      let d = device_before 7 in
      (d.SDset ≡ false) × ((d.DCommErr ≡ false) × ((d.DTimeout ≡ false) × (d.setSD_DC ≡ false)))
  pub mirrors_last : (device_before 20).DCount_i ≡ inverted (last_admitted block 100 (past_before 20))
  pub error_told : (device_before 11).DCommErr ≡ true
  pub error_shown : (device_before 12).DCommErr ≡ true
  pub error_over : (had_error block 100 (past_before 12) ≡ true) × (cycles_since_error block 100 (past_before 12) ≤ 1)
  pub timeout_told : (device_before 20).DTimeout ≡ true
  pub timeout_shown : (device_before 23).DTimeout ≡ true
  pub timeout_over : (had_timeout block 100 (past_before 23) ≡ true) × (cycles_since_timeout block 100 (past_before 23) ≤ 1)

pub met : Met
unfolding worked up_to device_after has_admitted had_error_or_timeout had_error had_timeout cycles_since_error cycles_since_timeout unchanged step_of clocked received arrived quiet watched watched_by acted watchdog_row is_admitted checked arrival_row admitted t22 t25 t28 t29 t30t31 elapsed_of
met = record {
  fresh_only = release.fresh_only (device_before 6) 100 releasing refl;
  fresh_if =
      release.fresh_if (device_before 6) 100 44 (intact 3)
      (record { admitted = refl; not_in_26 = refl; signature = refl; port = refl; count = refl; cycles = refl; not_set = refl });
  cycles_first = release.cycles_first block 100 (past_before 7) refl;
  set_first = release.set_first block 100 (past_before 18) refl;
  after_error = release.after_error block 100 (past_before 19) refl refl;
  mirrored = faults.mirrored block 100 (past_before 7) refl;
  in_time = faults.in_time (device_before 7) 100 144 (omega arith);
  unchanged_same = faults.unchanged_same (device_before 7) 100 beside refl;
  delayed_step = delaying.delayed_step 5 (device_before 7) 100 beside (omega arith) (omega arith);
  delayed_after = delaying.delayed_after 5 block 100 (past_before 3) (omega arith) (more (omega arith) (more (omega arith) (more (omega arith) none)));
  delayed_call =
      delaying.delayed_call 5 block 100 (past_before 3) (happening.Request 14 (set 0)) (omega arith) (omega arith)
      (more (omega arith) (more (omega arith) (more (omega arith) none)));
  admitted_in_21 = faults.admitted_in_21 block 100 (past_before 1) 4294967295 zeros refl;
  admitted_in_24 = faults.admitted-later block 100 (past_before 3) 14 (set 0) refl;
  admitted_in_26 = faults.admitted-later block 100 (past_before 11) 169 (intact 6) refl;
  discarded_zeros = faults.discarded (device_before 1) 100 4294967295 zeros refl;
  discarded_old = faults.discarded (device_before 3) 100 14 (set 0) refl;
  damaged_safe = faults.damaged_safe (device_before 10) 100 164 (damaged 6) refl refl refl refl;
  late = watchdog.late block 100 (past_before 19) (happening.Operator 335 true false) refl (omega arith);
  released_in_time = watchdog.released_in_time block 100 (past_before 7) beside (omega arith) refl;
  released_sound = reports.released_sound block 100 (past_before 7) refl;
  mirrors_last = reports.mirrors_last block 100 (past_before 20) refl;
  error_told = reports.error_told (device_before 10) 100 (happening.Request 164 (damaged 6)) refl;
  error_shown = cycles.error_shown block 100 (past_before 12) refl refl;
  error_over = cycles.error_over block 100 (past_before 12) refl;
  timeout_told = reports.timeout_told block 100 (past_before 19) (happening.Operator 335 true false) refl;
  timeout_shown = cycles.timeout_shown block 100 (past_before 23) refl (omega arith);
  timeout_over = cycles.timeout_over block 100 (past_before 23) refl;
}
