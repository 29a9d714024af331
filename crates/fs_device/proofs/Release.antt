-- When the FS-Device releases. Assumes nothing.
use Prim.Native.Nat.{ℕ, ◌+◌, ◌≤◌, ◌<◌}
use native.Mathlib.Omega.{arith}
use mathlib.Core.Path.{◌≡◌, refl, sym, ap}
use mathlib.Core.Bool.{Bool, true, false, cond, not, ◌&&◌, ◌||◌}
use mathlib.Core.List.{List, [], ◌∷◌}
use lib.Dec.{eqb}
use borrow.Author.Tests.{eqb-true, not-true, not-false}
use Rattle.std.specs.Prelude.{Option, Some}
use Rattle.scl.specs.Happenings.{reading_of, check_of, is_failure, mark_of}
use Rattle.scl.specs.declared.Happening.{Happening}
use Rattle.scl.specs.declared.Happening.TheVariants as happening
use Rattle.scl.specs.declared.Mark.{Mark}
use Rattle.scl.specs.declared.Mark.TheVariants.{Fresh, GoesOn, Safe}
use Rattle.scl.proofs.Cases.{cond_case, no, and_left, and_right}
use Rattle.scl.proofs.Checks.{all_hold}
use Rattle.scl.specs.declared.Request.{Request}
use Rattle.fs_device.specs.declared.Device.{Device}
use Rattle.fs_device.specs.declared.Outcome.{Outcome}
use Rattle.fs_device.specs.declared.Row.{Row}
use Rattle.fs_device.specs.declared.Row.TheVariants.{T22}
use Rattle.fs_device.specs.Table40.{watchdog_row, is_old, is_admitted, count_holds, checked, arrival_row, admitted, t22, t25, t28, t29, t30t31, acted}
use Rattle.fs_device.specs.Calls.{watched, quiet, arrived, received, clocked, step_of}
use Rattle.fs_device.proofs.Rows.{row_case, call_case}
use Rattle.fs_device.proofs.Watchdog.{timeout_after}
use Rattle.fs_device.specs.History.{Releases, FreshBy, device_after, times_out, errs_by, passes_by, passed_since, had_error, had_timeout, had_error_or_timeout}

goes_on : {A : Type 0} → GoesOn ≡ Fresh → A
goes_on e = let z : ◌≡◌ {A = ℕ} 0 1 = cc in absurd (omega arith)

safe : {A : Type 0} → Safe ≡ Fresh → A
safe e = let z : ◌≡◌ {A = ℕ} 0 1 = cc in absurd (omega arith)

-- nothing fresh where no SPDU led to a row
quiet-not : (d : Device) (r : Option Row) (old : Bool) {A : Type 0} → (quiet d r old).mark ≡ Fresh → A
unfolding quiet
quiet-not d r old {A} =
    cond_case (λ (m : Mark). m ≡ Fresh → A) (not d.released) (λ _ e. safe e) (λ _ e. goes_on e)

fresh_released : (b : Bool) → mark_of true b ≡ Fresh → b ≡ true
fresh_released true e = refl
fresh_released false e = safe e

-- what is asked of an SPDU that leads to a release: T22, no error, no cycles left, setSD 0
abbrev Asked : Device → Request → Bool → Row → Type 0
Asked d q CommErr r = ((r ≡ T22) × ((CommErr ≡ false) × ((d.SDcycles ≡ 0) × (q.setSD ≡ false)))) × (eqb d.state 26 ≡ false)

t22_asks : (n : ℕ) (set : Bool) → (not (not (eqb n 0)) && not set) ≡ true → (n ≡ 0) × (set ≡ false)
t22_asks n set e = (
  eqb-true n 0 (not-false (eqb n 0) (not-true (not (eqb n 0)) (and_left (not (not (eqb n 0))) (not set) e))),
  not-true set (and_right (not (not (eqb n 0))) (not set) e),
)

row_asks : (d : Device) (q : Request) (at : ℕ) (CommErr : Bool) → (acted (admitted d q) (arrival_row d CommErr) at q.setSD CommErr).released ≡ true → Asked d q CommErr (arrival_row d CommErr)
unfolding admitted t22 t25 t28 t29
row_asks d q at CommErr =
    row_case d at q (λ r CommErr a. a.released ≡ true → Asked d q CommErr r) CommErr
    (λ s e. ((refl, (refl, t22_asks d.SDcycles q.setSD e)), s))
    (λ _ e. no (cc))
    (λ _ _ e. no (cc))
    (λ _ e. no (cc))

answered_fresh : (d : Device) (r : Option Row) (at : ℕ) (q : Request) → is_admitted d q ≡ true → (arrived d r at q (checked d q)).mark ≡ Fresh → Releases d q × ((arrived d r at q (checked d q)).arrival ≡ Some T22)
unfolding arrived checked
answered_fresh d r at q t e =
    let CommErr = is_failure (check_of q.signature_holds q.port_holds (count_holds d q)) in
    let a : Asked d q CommErr (arrival_row d CommErr) = row_asks d q at CommErr (fresh_released (acted (admitted d q) (arrival_row d CommErr) at q.setSD CommErr).released e) in
    let h = all_hold q.signature_holds q.port_holds (count_holds d q) a.0.1.0 in
    (record { admitted = t; not_in_26 = a.1; signature = h.0; port = h.1.0; count = h.1.1; cycles = a.0.1.1.0; not_set = a.0.1.1.1 }, ap (λ (x : Row). Some x) a.0.0)

received_fresh : (d : Device) (r : Option Row) (at : ℕ) (q : Request) → (received d r at q).mark ≡ Fresh → Releases d q × ((received d r at q).arrival ≡ Some T22)
unfolding received
received_fresh d r at q =
    cond_case (λ (o : Outcome). o.mark ≡ Fresh → Releases d q × (o.arrival ≡ Some T22)) (is_admitted d q) (answered_fresh d r at q) (λ _. quiet-not d r (is_old d q))

-- Fresh octets are handed on in T22 alone, with SDcycles 0 and setSD 0, of an SPDU whose three checks hold;
pub fresh_only : (d : Device) (w : ℕ) (h : Happening) → (step_of d w h).mark ≡ Fresh → FreshBy d w h
unfolding step_of FreshBy clocked
fresh_only d w (happening.Request at q) e = received_fresh (watched d w at) (watchdog_row d w at) at q e
fresh_only d w (happening.Response at f) e = quiet-not (watched d w at) (watchdog_row d w at) false e
fresh_only d w (happening.Clock at) e = quiet-not (watched d w at) (watchdog_row d w at) false e
fresh_only d w (happening.Operator at setSD_C ChFAck_C) e = quiet-not (watched d w at) (watchdog_row d w at) false e

arrived_fresh : (d : Device) (r : Option Row) (at : ℕ) (q : Request) → Releases d q → (arrived d r at q (checked d q)).mark ≡ Fresh
unfolding arrived checked arrival_row acted admitted t22
arrived_fresh d r at q c = simp (c.signature, c.port, c.count, c.not_in_26, c.cycles, c.not_set)

-- and under these conditions they are.
pub fresh_if : (d : Device) (w at : ℕ) (q : Request) → Releases (watched d w at) q → (step_of d w (happening.Request at q)).mark ≡ Fresh
unfolding step_of received
fresh_if d w at q c = rw c.admitted (arrived_fresh (watched d w at) (watchdog_row d w at) at q c)

-- how many are to pass before one may release: SDcycles' three, and after an error or a timeout T28's
abbrev before : Bool → ℕ
before erred = cond erred 4 3

at_least : (erred : Bool) → 3 ≤ before erred
at_least true = omega arith
at_least false = omega arith

-- n have passed: those left are SDcycles' and, in 26, T28's
record Counts (d : Device) (n : ℕ) (erred : Bool) : Type 0 where
  pub cycles : before erred ≤ d.SDcycles + n + cond (eqb d.state 26) 1 0
  pub fault : eqb d.state 26 ≡ true → erred ≡ true
  pub release : d.released ≡ true → before erred < n
  pub set : d.SDset ≡ false → 3 < n

-- after an SPDU, or none
abbrev CountsAfter : Device → ℕ → Bool → Bool → Bool → Type 0
CountsAfter d n erred error passed = Counts d (cond error 0 (cond passed (n + 1) n)) (error || erred)

module _ (d : Device) (n : ℕ) (erred : Bool) (c : Counts d n erred) (at : ℕ) (q : Request) where
  t22-counts : eqb d.state 26 ≡ false → CountsAfter (t22 (admitted d q) at q.setSD) n erred false true
  unfolding admitted t22
  t22-counts s =
      let left = simp s at c.cycles in
      record {
        cycles = omega (arith, left);
        fault = λ e. no (sym e);
        release = λ e. omega (arith, left, (t22_asks d.SDcycles q.setSD e).0);
        set = λ e. omega (arith, left, at_least erred, eqb-true d.SDcycles 0 (not-false (eqb d.SDcycles 0) e));
      }

  t28-counts : eqb d.state 26 ≡ true → d.SDcycles ≡ 0 → CountsAfter (t28 (admitted d q) at) n erred false true
  unfolding admitted t28
  t28-counts s none =
      let left = simp s at c.cycles in
      record {
        cycles = omega (arith, left);
        fault = λ e. no (sym e);
        release = λ e. no (sym e);
        set = λ _. omega (arith, simp (c.fault s) at left);
      }

  t29-counts : (CommErr : Bool) → eqb d.state 26 ≡ true → CountsAfter (t29 (admitted d q) at CommErr) n erred CommErr (not CommErr)
  unfolding admitted t29
  t29-counts true s = record { cycles = omega arith; fault = λ _. refl; release = λ e. no (sym e); set = λ e. no e }
  t29-counts false s = record { cycles = omega (arith, simp s at c.cycles); fault = λ _. c.fault s; release = λ e. no (sym e); set = λ e. no e }

step_counts : (d : Device) (w n : ℕ) (erred : Bool) (h : Happening) → let j = watched d w (reading_of h) in
    Counts j n erred → CountsAfter (step_of d w h).device n erred (errs_by j h) (passes_by j h)
unfolding t25
step_counts d w n erred h c =
    let j = watched d w (reading_of h) in
    call_case d w h (λ e p m. CountsAfter m n erred e p) (record {
      none = c;
      by22 = t22-counts j n erred c;
      by25 = λ _ _ _. record { cycles = omega arith; fault = λ _. refl; release = λ e. no (sym e); set = λ e. no e };
      by28 = t28-counts j n erred c;
      by29 = t29-counts j n erred c;
    })

or_both : (e t a b : Bool) → (e || (t || (a || b))) ≡ ((e || a) || (t || b))
or_both true t a b = refl
or_both false true true b = refl
or_both false true false b = refl
or_both false false a b = refl

module _ (at w : ℕ) where
  watched-counts : (past : List Happening) (h : Happening) (n : ℕ) (erred : Bool) → let d = device_after at w past in let out = times_out d w (reading_of h) in
      Counts d n erred → Counts (watched d w (reading_of h)) (cond out 0 n) (out || erred)
  unfolding t30t31
  watched-counts past h n erred c =
      timeout_after at w past h (λ out j. Counts j (cond out 0 n) (out || erred)) c
      (record { cycles = omega arith; fault = λ _. refl; release = λ e. no (sym e); set = λ e. no e })

  counts : (past : List Happening) → Counts (device_after at w past) (passed_since at w past) (had_error_or_timeout at w past)
  unfolding device_after passed_since had_error_or_timeout had_error had_timeout
  counts [] = record { cycles = omega arith; fault = λ e. e; release = λ e. no (sym e); set = λ e. no e }
  counts (h ∷ past) =
      let d = device_after at w past in
      let out = times_out d w (reading_of h) in
      let erred = had_error_or_timeout at w past in
      rw (← or_both (errs_by (watched d w (reading_of h)) h) out (had_error at w past) (had_timeout at w past))
      (step_counts d w (cond out 0 (passed_since at w past)) (out || erred) h (watched-counts past h (passed_since at w past) erred (counts past)))

  -- After a block, an error or a timeout no release before SDcycles has run from 3 to 0: three SPDUs count it down, and a fourth releases;
  pub cycles_first : (past : List Happening) → (device_after at w past).released ≡ true → 3 < passed_since at w past
  cycles_first past e = omega (arith, at_least (had_error_or_timeout at w past), (counts past).release e)

  -- after an error or a timeout, a fifth, as T28 takes one.
  pub after_error : (past : List Happening) → had_error_or_timeout at w past ≡ true → (device_after at w past).released ≡ true → 4 < passed_since at w past
  after_error past had e = rw had at ((counts past).release e)

  -- Nor is SDset 0 before (000 Table 40, SDcycles: "setting SDout and SDset for at least 3 cycles during start-up and after a fault").
  pub set_first : (past : List Happening) → (device_after at w past).SDset ≡ false → 3 < passed_since at w past
  set_first past e = (counts past).set e
