-- The wrap of the clock changes nothing at the FS-Device. Assumes nothing.
use Prim.Native.Nat.{ℕ, ◌<◌, ◌^◌}
use mathlib.Core.Path.{◌≡◌, refl, ap}
use mathlib.Core.Bool.{Bool, false, ◌||◌}
use mathlib.Core.List.{List, [], ◌∷◌}
use Rattle.std.specs.Prelude.{Option, Some, None}
use Rattle.scl.specs.Happenings.{is_failure, reading_of}
use Rattle.scl.specs.declared.Happening.{Happening}
use Rattle.scl.specs.declared.Happening.TheVariants as happening
use Rattle.scl.specs.declared.Check.{Check}
use Rattle.scl.proofs.Cases.{cond_both}
use Rattle.scl.proofs.Time.{shifted}
use Rattle.scl.proofs.Watchdog.{last_fits}
use Rattle.scl.specs.declared.Request.{Request}
use Rattle.fs_device.specs.declared.Device.{Device}
use Rattle.fs_device.specs.declared.Outcome.{Outcome}
use Rattle.fs_device.specs.declared.Row.{Row}
use Rattle.fs_device.specs.declared.Row.TheVariants.{T22, T25, T28, T29, T30, T31}
use Rattle.fs_device.specs.Table40.{watchdog_row, is_old, is_admitted, checked, arrival_row, admitted, t22, t25, t28, t29, t30t31, acted, first_device}
use Rattle.fs_device.specs.Calls.{watched, watched_by, quiet, arrived, received, clocked, step_of}
use Rattle.scl.specs.Delayed.{delayed, delayed_happening, delayed_past, OnClock, none, more}
use Rattle.fs_device.specs.History.{device_after, arrives, watches, delayed_device, delayed_outcome}
use Rattle.fs_device.proofs.Watchdog.{timer_reads}

module _ (k : ℕ) where
  delayed-act : (d : Device) (r : Row) (at : ℕ) (setSD CommErr : Bool) → acted (delayed_device k d) r (delayed k at) setSD CommErr ≡ delayed_device k (acted d r at setSD CommErr)
  unfolding delayed_device acted t22 t25 t28 t29 t30t31
  delayed-act d T22 at setSD CommErr = refl
  delayed-act d T25 at setSD CommErr = refl
  delayed-act d T28 at setSD CommErr = refl
  delayed-act d T29 at setSD CommErr = refl
  delayed-act d T30 at setSD CommErr = refl
  delayed-act d T31 at setSD CommErr = refl

  delayed-by : (d : Device) (r : Option Row) (at : ℕ) → watched_by (delayed_device k d) r (delayed k at) ≡ delayed_device k (watched_by d r at)
  unfolding watched_by
  delayed-by d None at = refl
  delayed-by d (Some r) at = delayed-act d r at false false

  delayed_watchdog : (d : Device) (w at : ℕ) → d.DTimer < 2 ^ 32 → at < 2 ^ 32 → watchdog_row (delayed_device k d) w (delayed k at) ≡ watchdog_row d w at
  unfolding delayed_device watchdog_row
  delayed_watchdog d w at fits reading-fits = simp (shifted at d.DTimer k reading-fits fits)

  delayed-watched : (d : Device) (w at : ℕ) → d.DTimer < 2 ^ 32 → at < 2 ^ 32 → watched (delayed_device k d) w (delayed k at) ≡ delayed_device k (watched d w at)
  unfolding watched
  delayed-watched d w at fits reading-fits = rw (delayed_watchdog d w at fits reading-fits) (delayed-by d (watchdog_row d w at) at)

  delayed-admitted : (d : Device) (q : Request) → admitted (delayed_device k d) q ≡ delayed_device k (admitted d q)
  unfolding admitted delayed_device
  delayed-admitted d q = refl

  delayed-quiet : (d : Device) (r : Option Row) (old : Bool) → quiet (delayed_device k d) r old ≡ delayed_outcome k (quiet d r old)
  unfolding quiet delayed_device delayed_outcome
  delayed-quiet d r old = refl

  delayed_arrival : (d : Device) (CommErr : Bool) → arrival_row (delayed_device k d) CommErr ≡ arrival_row d CommErr
  unfolding arrival_row delayed_device
  delayed_arrival d CommErr = refl

  delayed_released : (d : Device) → (delayed_device k d).released ≡ d.released
  unfolding delayed_device
  delayed_released d = refl

  delayed-arrived : (d : Device) (r : Option Row) (at : ℕ) (q : Request) (failed : Option Check) → arrived (delayed_device k d) r (delayed k at) q failed ≡ delayed_outcome k (arrived d r at q failed)
  unfolding arrived delayed_outcome
  delayed-arrived d r at q failed =
      simp (delayed_arrival d (is_failure failed), delayed-admitted d q, delayed-act (admitted d q) (arrival_row d (is_failure failed)) at q.setSD (is_failure failed), delayed_released)

  delayed_admitting : (d : Device) (q : Request) → is_admitted (delayed_device k d) q ≡ is_admitted d q
  unfolding is_admitted delayed_device
  delayed_admitting d q = refl

  delayed_check : (d : Device) (q : Request) → checked (delayed_device k d) q ≡ checked d q
  unfolding checked delayed_device
  delayed_check d q = refl

  delayed-old : (d : Device) (q : Request) → is_old (delayed_device k d) q ≡ is_old d q
  unfolding delayed_device
  delayed-old d q = refl

  delayed-received : (d : Device) (r : Option Row) (at : ℕ) (q : Request) → received (delayed_device k d) r (delayed k at) q ≡ delayed_outcome k (received d r at q)
  unfolding received
  delayed-received d r at q =
      rw (delayed_admitting d q, delayed_check d q, delayed-old d q)
      (cond_both (λ (a b : Outcome). a ≡ delayed_outcome k b) (is_admitted d q) (delayed-arrived d r at q (checked d q)) (delayed-quiet d r (is_old d q)))

  delayed-clocked : (d : Device) (w at : ℕ) → d.DTimer < 2 ^ 32 → at < 2 ^ 32 → clocked (delayed_device k d) w (delayed k at) ≡ delayed_outcome k (clocked d w at)
  unfolding clocked
  delayed-clocked d w at fits reading-fits =
      rw (delayed-watched d w at fits reading-fits, delayed_watchdog d w at fits reading-fits)
      (delayed-quiet (watched d w at) (watchdog_row d w at) false)

  -- Delaying the stored reading and the happening's by the same amount on the clock delays the stored reading afterwards, and nothing else.
  pub delayed_step : (d : Device) (w : ℕ) (h : Happening) → d.DTimer < 2 ^ 32 → reading_of h < 2 ^ 32 → step_of (delayed_device k d) w (delayed_happening k h) ≡ delayed_outcome k (step_of d w h)
  unfolding step_of delayed_happening
  delayed_step d w (happening.Request at q) fits reading-fits =
      rw (delayed-watched d w at fits reading-fits, delayed_watchdog d w at fits reading-fits)
      (delayed-received (watched d w at) (watchdog_row d w at) at q)
  delayed_step d w (happening.Response at f) fits reading-fits = delayed-clocked d w at fits reading-fits
  delayed_step d w (happening.Clock at) fits reading-fits = delayed-clocked d w at fits reading-fits
  delayed_step d w (happening.Operator at setSD_C ChFAck_C) fits reading-fits = delayed-clocked d w at fits reading-fits

-- and so from the block on
delayed-first : (k at : ℕ) → first_device (delayed k at) ≡ delayed_device k (first_device at)
unfolding delayed_device
delayed-first k at = refl

-- DTimer is a reading of the history
timer_fits : (at w : ℕ) (past : List Happening) → at < 2 ^ 32 → OnClock past → (device_after at w past).DTimer < 2 ^ 32
timer_fits at w past fits on = rw (timer_reads at w past) (last_fits (device_after at w) (λ d h. arrives w d h || watches w d h) at fits on)

module _ (k at w : ℕ) where
  abbrev Delays : List Happening → Type 0
  Delays past = device_after (delayed k at) w (delayed_past k past) ≡ delayed_device k (device_after at w past)

  abbrev DelaysThen : List Happening → Happening → Type 0
  DelaysThen past h =
      step_of (device_after (delayed k at) w (delayed_past k past)) w (delayed_happening k h) ≡ delayed_outcome k (step_of (device_after at w past) w h)

  delayed_then : (past : List Happening) (h : Happening) → at < 2 ^ 32 → reading_of h < 2 ^ 32 → OnClock past → Delays past → DelaysThen past h
  delayed_then past h fits reading-fits on e = rw e (delayed_step k (device_after at w past) w h (timer_fits at w past fits on) reading-fits)

  -- The wrap of the clock changes nothing: of every history, all readings later by the same amount, the device is as it was but for DTimer,
  pub delayed_after : (past : List Happening) → at < 2 ^ 32 → OnClock past → Delays past
  unfolding device_after delayed_outcome
  delayed_after [] fits none = delayed-first k at
  delayed_after (h ∷ past) fits (more reading-fits on) =
      ap (λ (o : Outcome). o.device) (delayed_then past h fits reading-fits on (delayed_after past fits on))

  -- and each call's outcome is as it was.
  pub delayed_call : (past : List Happening) (h : Happening) → at < 2 ^ 32 → reading_of h < 2 ^ 32 → OnClock past → DelaysThen past h
  delayed_call past h fits reading-fits on = delayed_then past h fits reading-fits on (delayed_after past fits on)
