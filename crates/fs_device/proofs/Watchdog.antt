-- Release ends at W: when DTimer runs, what it reads, and what a call does that finds it above W. Assumes nothing.
use Prim.Native.Nat.{ℕ, ◌≤◌, ◌<◌, ◌^◌}
use mathlib.Core.Path.{◌≡◌, refl, sym, ap, ◌∙◌}
use mathlib.Core.Bool.{Bool, true, false, cond, not, ◌||◌}
use mathlib.Core.List.{List, [], ◌∷◌}
use mathlib.Core.Logic.{◌⊎◌, inl, inr}
use lib.Dec.{eqb}
use borrow.Author.Tests.{eqb-false, lt-ltb, not-true}
use Rattle.std.specs.Prelude.{Option, Some, None}
use Rattle.scl.specs.Time.{elapsed_of}
use Rattle.scl.specs.Happenings.{reading_of, is_failure}
use Rattle.scl.specs.declared.Happening.{Happening}
use Rattle.scl.specs.declared.Happening.TheVariants as happening
use Rattle.scl.specs.declared.Request.{Request}
use Rattle.scl.proofs.Watchdog as law
use Rattle.scl.proofs.Cases.{cond_case, cond-or, no}
use Rattle.fs_device.specs.declared.Device.{Device}
use Rattle.fs_device.specs.declared.Outcome.{Outcome}
use Rattle.fs_device.specs.declared.Row.{Row}
use Rattle.fs_device.specs.declared.Row.TheVariants.{T30, T31}
use Rattle.fs_device.specs.Table40.{watchdog_row, is_old, is_admitted, checked, t22, t25, t28, t29, t30t31, acted}
use Rattle.fs_device.specs.Calls.{watched, watched_by, quiet, arrived, received, clocked, step_of}
use Rattle.fs_device.specs.History.{device_after, times_out, is_timeout_row, waits, acts, arrives, watches, last_row, last_admitted_at}
use Rattle.fs_device.proofs.Rows.{watched_case, timeout_case, row_case, step_case, call_case}
use Rattle.fs_device.proofs.Faults.{waits_always}

-- ---- what one call does to the timer: a row that acts restarts it, and it runs from then; without one it stays

record Timed (d : Device) (at : ℕ) (row : Bool) (n : Device) : Type 0 where
  pub reads : n.DTimer ≡ cond row at d.DTimer
  pub runs_is : n.runs ≡ cond row true d.runs
  pub goes : (d.runs ≡ not (eqb d.state 21)) → n.runs ≡ not (eqb n.state 21)

watched_timed : (d : Device) (w at : ℕ) → Timed d at (acts (watchdog_row d w at)) (watched d w at)
unfolding t30t31
watched_timed d w at =
    watched_case d w at (λ r n. Timed d at (acts r) n)
    (record { reads = refl; runs_is = refl; goes = λ e. e })
    (record { reads = refl; runs_is = refl; goes = λ _. refl })
    (record { reads = refl; runs_is = refl; goes = λ _. refl })

arrived_timed : (d : Device) (r : Option Row) (at : ℕ) (q : Request) → let o = arrived d r at q (checked d q) in Timed d at (acts o.arrival) o.device
unfolding arrived t22 t25 t28 t29
arrived_timed d r at q =
    row_case d at q (λ x _ n. Timed d at (acts (Some x)) n) (is_failure (checked d q))
    (λ _. record { reads = refl; runs_is = refl; goes = λ _. refl })
    (λ _. record { reads = refl; runs_is = refl; goes = λ _. refl })
    (λ _ _. record { reads = refl; runs_is = refl; goes = λ _. refl })
    (λ _. record { reads = refl; runs_is = refl; goes = λ _. refl })

received_timed : (d : Device) (r : Option Row) (at : ℕ) (q : Request) → let o = received d r at q in Timed d at (acts o.arrival) o.device
unfolding received quiet
received_timed d r at q =
    cond_case (λ (o : Outcome). Timed d at (acts o.arrival) o.device) (is_admitted d q) {x = arrived d r at q (checked d q)} {y = quiet d r (is_old d q)}
    (λ _. arrived_timed d r at q)
    (λ _. record { reads = refl; runs_is = refl; goes = λ e. e })

pub step_watchdog : (d : Device) (w : ℕ) (h : Happening) → (step_of d w h).watchdog ≡ watchdog_row d w (reading_of h)
unfolding quiet arrived
step_watchdog d w h = step_case d w (λ _ _ o. o.watchdog ≡ watchdog_row d w (reading_of h)) h (λ _. refl) (λ _ _. refl)

step_timed : (d : Device) (w : ℕ) (h : Happening) → let o = step_of d w h in Timed d (reading_of h) (acts o.arrival || acts o.watchdog) o.device
unfolding step_of clocked quiet
step_timed d w (happening.Request at q) =
    let j = watched_timed d w at in
    let k = received_timed (watched d w at) (watchdog_row d w at) at q in
    let o = received (watched d w at) (watchdog_row d w at) at q in
    record {
      reads =
          k.reads ∙ ap (λ (t : ℕ). cond (acts o.arrival) at t) j.reads
          ∙ cond-or (acts o.arrival) (acts (watchdog_row d w at)) at d.DTimer
          ∙ ap (λ (r : Option Row). cond (acts o.arrival || acts r) at d.DTimer) (sym (step_watchdog d w (happening.Request at q)));
      runs_is =
          k.runs_is ∙ ap (λ (b : Bool). cond (acts o.arrival) true b) j.runs_is
          ∙ cond-or (acts o.arrival) (acts (watchdog_row d w at)) true d.runs
          ∙ ap (λ (r : Option Row). cond (acts o.arrival || acts r) true d.runs) (sym (step_watchdog d w (happening.Request at q)));
      goes = λ e. k.goes (j.goes e);
    }
step_timed d w (happening.Response at f) = watched_timed d w at
step_timed d w (happening.Clock at) = watched_timed d w at
step_timed d w (happening.Operator at setSD_C ChFAck_C) = watched_timed d w at

module _ (at w : ℕ) where
  -- DTimer runs exactly outside of state 21,
  pub timer_runs : (past : List Happening) → (device_after at w past).runs ≡ not (eqb (device_after at w past).state 21)
  unfolding device_after
  timer_runs [] = refl
  timer_runs (h ∷ past) = (step_timed (device_after at w past) w h).goes (timer_runs past)

  -- so that the watchdog's rows are T30 and T31: a timeout.
  runs_in : (past : List Happening) → let d = device_after at w past in d.runs ≡ true → (eqb d.state 24 || eqb d.state 26) ≡ true
  runs_in past e =
      let d = device_after at w past in
      go (eqb d.state 21) (eqb d.state 24) (eqb d.state 26) (sym (timer_runs past) ∙ e) (waits_always at w past)
    where
      go : (in21 in24 in26 : Bool) → not in21 ≡ true → (in21 || in24 || in26) ≡ true → (in24 || in26) ≡ true
      go true in24 in26 a b = no (sym a)
      go false in24 in26 a b = b

  module _ (past : List Happening) (h : Happening) where
    pub timeout_after : (P : Bool → Device → Type 0) → let d = device_after at w past in P false d → P true (t30t31 d (reading_of h)) → P (times_out d w (reading_of h)) (watched d w (reading_of h))
    timeout_after P in_time over =
        timeout_case (device_after at w past) w (reading_of h) (λ out _ j. P out j) (runs_in past) in_time over over

    pub timeout_rows : let d = device_after at w past in times_out d w (reading_of h) ≡ is_timeout_row (step_of d w h).watchdog
    timeout_rows =
        let d = device_after at w past in
        rw (step_watchdog d w h) (timeout_case d w (reading_of h) (λ out r _. out ≡ is_timeout_row r) (runs_in past) refl refl refl)

-- ---- what a call does that finds it above W

-- the watchdog's row then acts, and leaves state 26 with three cycles to go
record Ended (n : Device) : Type 0 where
  pub in26 : n.state ≡ 26
  pub cycles : n.SDcycles ≡ 3
  pub silent : n.released ≡ false

late-watched : (d : Device) (w at : ℕ) → waits d ≡ true → eqb d.state 21 ≡ false → d.runs ≡ true → w < elapsed_of at d.DTimer → Ended (watched d w at)
unfolding watched watched_by watchdog_row acted t30t31
late-watched d w at rests not21 runs late = simp (runs, lt-ltb w (elapsed_of at d.DTimer) late) (go (eqb d.state 24) (eqb d.state 26) refl refl)
  where
    go : (in24 in26 : Bool) → eqb d.state 24 ≡ in24 → eqb d.state 26 ≡ in26 → Ended (watched_by d (cond in24 (Some T31) (cond in26 (Some T30) None)) at)
    go true in26 e24 e26 = record { in26 = refl; cycles = refl; silent = refl }
    go false true e24 e26 = record { in26 = refl; cycles = refl; silent = refl }
    go false false e24 e26 = no (sym (simp (not21, e24, e26) at rests))

late-step : (d : Device) (w : ℕ) (h : Happening) → Ended (watched d w (reading_of h)) → (step_of d w h).device.released ≡ false
unfolding t25 t28 t29
late-step d w h e =
    call_case d w h (λ _ _ n. n.released ≡ false) (record {
      none = e.silent;
      by22 = λ _ _ s. absurd (eqb-false (watched d w (reading_of h)).state 26 s e.in26);
      by25 = λ _ _ _. refl;
      by28 = λ _ _ _ _. refl;
      by29 = λ _ _ _ _. refl;
    })

-- A call that finds DTimer running with elapsed above W leaves nothing released, whatever it brings.
pub late : (at w : ℕ) (past : List Happening) (h : Happening) → let d = device_after at w past in
    d.runs ≡ true → w < elapsed_of (reading_of h) d.DTimer → (device_after at w (h ∷ past)).released ≡ false
unfolding device_after
late at w past h runs over =
    let d = device_after at w past in
    late-step d w h (late-watched d w (reading_of h) (waits_always at w past) (not-true (eqb d.state 21) (sym (timer_runs at w past) ∙ runs)) runs over)

-- ---- so nothing is released longer than W after the last SPDU that was admitted

-- where a call leaves values released, its SPDU was admitted; or no row acted and they were released before
still-watched : (d : Device) (w at : ℕ) → (watched d w at).released ≡ true → (acts (watchdog_row d w at) ≡ false) × (d.released ≡ true)
unfolding t30t31
still-watched d w at = watched_case d w at (λ r n. n.released ≡ true → (acts r ≡ false) × (d.released ≡ true)) (λ e. (refl, e)) (λ e. no (sym e)) (λ e. no (sym e))

abbrev Still : Device → Outcome → Type 0
Still d o = (acts o.arrival ≡ true) ⊎ ((acts o.arrival ≡ false) × ((acts o.watchdog ≡ false) × (d.released ≡ true)))

still : (d : Device) (w : ℕ) (h : Happening) → (step_of d w h).device.released ≡ true → Still d (step_of d w h)
unfolding quiet arrived
still d w h =
    let j = watched d w (reading_of h) in
    step_case d w (λ _ _ o. o.device.released ≡ true → Still d o) h
    (λ _ e. inr (refl, still-watched d w (reading_of h) e))
    (λ _ _ _. inl refl)

module _ (at w : ℕ) where
  timed : law.Watched (device_after at w) (λ d. d.runs) (λ d. d.released) (λ d. d.DTimer) (arrives w) (watches w) at w
  unfolding device_after
  timed = record {
    first_reads = refl;
    first-silent = refl;
    reads = λ past h. (step_timed (device_after at w past) w h).reads;
    runs_is = λ past h. (step_timed (device_after at w past) w h).runs_is;
    still = λ past h. still (device_after at w past) w h;
    late = late at w;
  }

  -- DTimer reads the last call in which a row acted.
  pub timer_reads : (past : List Happening) → (device_after at w past).DTimer ≡ last_row at w past
  timer_reads past = law.timer_reads (device_after at w) (λ d. d.runs) (λ d. d.released) (λ d. d.DTimer) (arrives w) (watches w) at w timed past

  -- After no call is a value released whose last SPDU lies more than W back.
  pub released_in_time : (past : List Happening) (h : Happening) → reading_of h < 2 ^ 32 → (device_after at w (h ∷ past)).released ≡ true
      → elapsed_of (reading_of h) (last_admitted_at at w (h ∷ past)) ≤ w
  released_in_time past h = law.released_in_time (device_after at w) (λ d. d.runs) (λ d. d.released) (λ d. d.DTimer) (arrives w) (watches w) at w timed past h
