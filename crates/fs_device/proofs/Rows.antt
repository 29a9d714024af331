-- The watchdog's rows, and the rows of an SPDU that is admitted, one by one; and a call by what happened in it. Assumes nothing.
use Prim.Native.Nat.{ℕ}
use mathlib.Core.Path.{◌≡◌, refl, sym, subst₂}
use mathlib.Core.Bool.{Bool, true, false, cond, not, ◌&&◌, ◌||◌}
use lib.Dec.{eqb}
use borrow.Author.Tests.{eqb-true, not-false}
use Rattle.std.specs.Prelude.{Option, Some, None}
use Rattle.scl.specs.Time.{expired_of}
use Rattle.scl.specs.Happenings.{is_failure, reading_of}
use Rattle.scl.specs.declared.Happening.{Happening}
use Rattle.scl.specs.declared.Happening.TheVariants as happening
use Rattle.scl.specs.declared.Request.{Request}
use Rattle.scl.proofs.Cases.{cond_case, and_left, no}
use Rattle.scl.proofs.Checks.{failed, passed}
use Rattle.fs_device.specs.declared.Device.{Device}
use Rattle.fs_device.specs.declared.Outcome.{Outcome}
use Rattle.fs_device.specs.declared.Row.{Row}
use Rattle.fs_device.specs.declared.Row.TheVariants.{T22, T25, T28, T29, T30, T31}
use Rattle.fs_device.specs.Table40.{timeout_row, watchdog_row, is_old, is_admitted, count_holds, checked, arrival_row, admitted, t22, t25, t28, t29, t30t31, acted}
use Rattle.fs_device.specs.Calls.{watched, watched_by, quiet, arrived, received, clocked, step_of}
use Rattle.fs_device.specs.History.{sound, times_out, errs_by, passes_by, is_error_row}

module _ (d : Device) (w at : ℕ) (P : Option Row → Device → Type 0) where
  pub watched_case : P None d → P (Some T30) (t30t31 d at) → P (Some T31) (t30t31 d at) → P (watchdog_row d w at) (watched d w at)
  unfolding watched watched_by watchdog_row acted
  watched_case stay from26 from24 =
      cond_case Done (d.runs && expired_of at d.DTimer w)
      (λ _. cond_case Done (eqb d.state 24) (λ _. from24) (λ _. cond_case Done (eqb d.state 26) (λ _. from26) (λ _. stay)))
      (λ _. stay)
    where
      Done : Option Row → Type 0
      Done r = P r (watched_by d r at)

-- where DTimer runs in 24 and 26 alone, they are the rows of a timeout
module _ (d : Device) (w at : ℕ) (P : Bool → Option Row → Device → Type 0) where
  pub timeout_case : (d.runs ≡ true → (eqb d.state 24 || eqb d.state 26) ≡ true) → P false None d
      → P true (Some T30) (t30t31 d at) → P true (Some T31) (t30t31 d at) → P (times_out d w at) (watchdog_row d w at) (watched d w at)
  unfolding watched watched_by watchdog_row acted
  timeout_case there stay from26 from24 =
      go (times_out d w at) (λ e. there (and_left d.runs (expired_of at d.DTimer w) e))
    where
      from : (in24 in26 : Bool) → (in24 || in26) ≡ true → let r = cond in24 (Some T31) (cond in26 (Some T30) None) in P true r (watched_by d r at)
      from true in26 e = from24
      from false true e = from26
      from false false e = no (sym e)

      go : (over : Bool) → (over ≡ true → (eqb d.state 24 || eqb d.state 26) ≡ true) → let r = cond over (timeout_row d.state) None in P over r (watched_by d r at)
      go true in24or26 = from (eqb d.state 24) (eqb d.state 26) (in24or26 refl)
      go false in24or26 = stay

module _ (d : Device) (at : ℕ) (q : Request) (P : Row → Bool → Device → Type 0) where
  pub row_case : (CommErr : Bool) → (eqb d.state 26 ≡ false → P T22 false (t22 (admitted d q) at q.setSD))
      → (eqb d.state 26 ≡ false → P T25 true (t25 (admitted d q) at))
      → (eqb d.state 26 ≡ true → d.SDcycles ≡ 0 → P T28 false (t28 (admitted d q) at))
      → (eqb d.state 26 ≡ true → P T29 CommErr (t29 (admitted d q) at CommErr))
      → P (arrival_row d CommErr) CommErr (acted (admitted d q) (arrival_row d CommErr) at q.setSD CommErr)
  unfolding arrival_row acted
  row_case true p22 p25 p28 p29 =
      cond_case (λ (r : Row). P r true (acted (admitted d q) r at q.setSD true)) (eqb d.state 26) p29 p25
  row_case false p22 p25 p28 p29 =
      cond_case (λ (r : Row). P r false (acted (admitted d q) r at q.setSD false)) (eqb d.state 26)
      (λ s. cond_case (λ (r : Row). P r false (acted (admitted d q) r at q.setSD false)) (not (eqb d.SDcycles 0))
      (λ _. p29 s)
      (λ none. p28 s (eqb-true d.SDcycles 0 (not-false (eqb d.SDcycles 0) none))))
      p22

-- A call by what happened in it: no SPDU was admitted, or one with an error, or one that passed.
module _ (d : Device) (w : ℕ) (P : Bool → Bool → Outcome → Type 0) where
  pub step_case : (h : Happening) → let j = watched d w (reading_of h) in let r = watchdog_row d w (reading_of h) in
      ((old : Bool) → P false false (quiet j r old))
      → ((at : ℕ) (q : Request) → let failed = checked j q in P (is_failure failed) (not (is_failure failed)) (arrived j r at q failed))
      → P (errs_by j h) (passes_by j h) (step_of d w h)
  unfolding step_of clocked received checked
  step_case (happening.Request at q) none some = go (is_admitted j q)
    where
      j : Device
      j = watched d w at

      r : Option Row
      r = watchdog_row d w at

      go : (t : Bool) → P (t && not (sound j q)) (t && sound j q) (cond t (arrived j r at q (checked j q)) (quiet j r (is_old j q)))
      go true =
          let s = q.signature_holds in
          let p = q.port_holds in
          subst₂ (λ (e z : Bool). P e z (arrived j r at q (checked j q))) (failed s p (count_holds j q)) (passed s p (count_holds j q)) (some at q)
      go false = none (is_old j q)
  step_case (happening.Response at f) none some = none false
  step_case (happening.Clock at) none some = none false
  step_case (happening.Operator at setSD_C ChFAck_C) none some = none false

-- what a call leaves, by its row: P says it of an error, of an SPDU that passed, and of the device
pub record ByRow (j : Device) (P : Bool → Bool → Device → Type 0) : Type 0 where
  pub none : P false false j
  pub by22 : (at : ℕ) (q : Request) → eqb j.state 26 ≡ false → P false true (t22 (admitted j q) at q.setSD)
  pub by25 : (at : ℕ) (q : Request) → eqb j.state 26 ≡ false → P true false (t25 (admitted j q) at)
  pub by28 : (at : ℕ) (q : Request) → eqb j.state 26 ≡ true → j.SDcycles ≡ 0 → P false true (t28 (admitted j q) at)
  pub by29 : (at : ℕ) (q : Request) (CommErr : Bool) → eqb j.state 26 ≡ true → P CommErr (not CommErr) (t29 (admitted j q) at CommErr)

pub call_case : (d : Device) (w : ℕ) (h : Happening) (P : Bool → Bool → Device → Type 0) → let j = watched d w (reading_of h) in
    ByRow j P → P (errs_by j h) (passes_by j h) (step_of d w h).device
unfolding quiet arrived
call_case d w h P k =
    let j = watched d w (reading_of h) in
    step_case d w (λ e p o. P e p o.device) h (λ _. k.none)
    (λ at q. row_case j at q (λ _ CommErr n. P CommErr (not CommErr) n) (is_failure (checked j q))
    (k.by22 at q)
    (k.by25 at q)
    (k.by28 at q)
    (k.by29 at q (is_failure (checked j q))))

-- An error is T25 or T29 with CommErr,
pub error_rows : (d : Device) (w : ℕ) (h : Happening) → let o = step_of d w h in
    errs_by (watched d w (reading_of h)) h ≡ is_error_row o.arrival (is_failure o.check)
unfolding quiet arrived
error_rows d w h =
    let j = watched d w (reading_of h) in
    step_case d w (λ e _ o. e ≡ is_error_row o.arrival (is_failure o.check)) h (λ _. refl)
    (λ at q. row_case j at q (λ r CommErr _. CommErr ≡ is_error_row (Some r) CommErr) (is_failure (checked j q)) (λ _. refl) (λ _. refl) (λ _ _. refl) (λ _. refl))

-- and what a call says to have passed has none.
pub passed_is : (d : Device) (w : ℕ) (h : Happening) → (step_of d w h).passed ≡ passes_by (watched d w (reading_of h)) h
unfolding quiet arrived
passed_is d w h = step_case d w (λ _ p o. o.passed ≡ p) h (λ _. refl) (λ _ _. refl)
