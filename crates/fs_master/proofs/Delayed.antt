-- The wrap of the clock changes nothing at the FS-Master. Assumes nothing.
use Prim.Native.Nat.{ℕ, ◌<◌, ◌^◌}
use Rattle.std.specs.Prelude.{Option, Some, None}
use Rattle.scl.specs.Happenings.{is_failure, reading_of}
use Rattle.scl.specs.declared.Check.{Check}
use Rattle.scl.proofs.Cases.{cond_case, cond_both}
use Rattle.scl.proofs.Time.{shifted}
use Rattle.scl.proofs.Watchdog.{last_fits}
use mathlib.Core.Path.{◌≡◌, refl, ap}
use mathlib.Core.Bool.{Bool, false, ◌||◌}
use mathlib.Core.List.{List}
use lib.Dec.{eqb}
use Rattle.scl.specs.declared.Happening.{Happening}
use Rattle.scl.specs.declared.Happening.TheVariants as happening
use Rattle.scl.specs.declared.Response.{Response}
use Rattle.fs_master.specs.declared.Master.{Master}
use Rattle.fs_master.specs.declared.Outcome.{Outcome}
use Rattle.fs_master.specs.declared.Row.{Row}
use Rattle.fs_master.specs.declared.Row.TheVariants.{T4, T7, T8, T11, T12, T13, T14}
use Rattle.fs_master.specs.Calls.{watched, watched_by, quiet, arrived, received, clocked, operated, step_of}
use Rattle.fs_master.specs.Table38.{watchdog_row, is_old, is_admitted, has_faults, checked, from8, arrival_row, admitted, start_from, t4, t7, t8, t11, t12, t13, t14, acted, signalled, first_master}
use Rattle.scl.specs.Delayed.{delayed, delayed_happening, delayed_past, OnClock, none, more}
use Rattle.fs_master.specs.History.{master_after, arrives, watches, delayed_master, delayed_outcome}
use Rattle.fs_master.proofs.Samples.{watched-start, step_start, step_of-sent}
use Rattle.fs_master.proofs.Watchdog.{timer_reads}

module _ (k : ℕ) where
  delayed-start : (m : Master) (count at : ℕ) → start_from (delayed_master k m) count (delayed k at) ≡ delayed k (start_from m count at)
  unfolding start_from delayed_master
  delayed-start m count at = cond_both (λ (a b : ℕ). a ≡ delayed k b) (eqb count m.MCount) refl refl

  delayed-act : (m : Master) (r : Row) (at : ℕ) (SDset : Bool) → acted (delayed_master k m) r (delayed k at) SDset ≡ delayed_master k (acted m r at SDset)
  unfolding delayed_master acted t4 t7 t8 t11 t12 t13 t14
  delayed-act m T4 at SDset = simp (delayed-start m)
  delayed-act m T7 at SDset = simp (delayed-start m)
  delayed-act m T8 at SDset = simp (delayed-start m)
  delayed-act m T11 at SDset = simp (delayed-start m)
  delayed-act m T12 at SDset = simp (delayed-start m)
  delayed-act m T13 at SDset = simp (delayed-start m)
  delayed-act m T14 at SDset = simp (delayed-start m)

  delayed-by : (m : Master) (r : Option Row) (at : ℕ) → watched_by (delayed_master k m) r (delayed k at) ≡ delayed_master k (watched_by m r at)
  unfolding watched_by
  delayed-by m None at = refl
  delayed-by m (Some r) at = delayed-act m r at false

  delayed_watchdog : (m : Master) (w at : ℕ) → m.MTimer < 2 ^ 32 → at < 2 ^ 32 → watchdog_row (delayed_master k m) w (delayed k at) ≡ watchdog_row m w at
  unfolding delayed_master watchdog_row
  delayed_watchdog m w at fits reading-fits = simp (shifted at m.MTimer k reading-fits fits)

  delayed-watched : (m : Master) (w at : ℕ) → m.MTimer < 2 ^ 32 → at < 2 ^ 32 → watched (delayed_master k m) w (delayed k at) ≡ delayed_master k (watched m w at)
  unfolding watched
  delayed-watched m w at fits reading-fits = rw (delayed_watchdog m w at fits reading-fits) (delayed-by m (watchdog_row m w at) at)

  delayed-admitted : (m : Master) (f : Response) → admitted (delayed_master k m) f ≡ delayed_master k (admitted m f)
  unfolding admitted delayed_master
  delayed-admitted m f = refl

  delayed-quiet : (m : Master) (r : Option Row) (old : Bool) → quiet (delayed_master k m) r old ≡ delayed_outcome k (quiet m r old)
  unfolding quiet delayed_master delayed_outcome
  delayed-quiet m r old = refl

  delayed_arrival : (m : Master) (faults : Bool) → arrival_row (delayed_master k m) faults ≡ arrival_row m faults
  unfolding arrival_row from8 delayed_master
  delayed_arrival m faults = refl

  delayed_released : (m : Master) → (delayed_master k m).released ≡ m.released
  unfolding delayed_master
  delayed_released m = refl

  delayed-sent : (m : Master) → (delayed_master k m).start ≡ delayed k m.start
  unfolding delayed_master
  delayed-sent m = refl

  delayed-old : (m : Master) (f : Response) → is_old (delayed_master k m) f ≡ is_old m f
  unfolding is_old delayed_master
  delayed-old m f = refl

  delayed-arrived : (m : Master) (r : Option Row) (at : ℕ) (f : Response) (failed : Option Check) → arrived (delayed_master k m) r (delayed k at) f failed ≡ delayed_outcome k (arrived m r at f failed)
  unfolding arrived delayed_outcome
  delayed-arrived m r at f failed =
      simp (delayed_arrival m (has_faults (is_failure failed) f), delayed-admitted m f, delayed-act (admitted m f) (arrival_row m (has_faults (is_failure failed) f)) at f.SDset, delayed-old m f, delayed_released, delayed-sent)

  delayed_admitting : (m : Master) (f : Response) → is_admitted (delayed_master k m) f ≡ is_admitted m f
  unfolding is_admitted is_old delayed_master
  delayed_admitting m f = refl

  delayed_check : (m : Master) (f : Response) → checked (delayed_master k m) f ≡ checked m f
  unfolding checked delayed_master
  delayed_check m f = refl

  delayed-received : (m : Master) (r : Option Row) (at : ℕ) (f : Response) → received (delayed_master k m) r (delayed k at) f ≡ delayed_outcome k (received m r at f)
  unfolding received
  delayed-received m r at f =
      rw (delayed_admitting m f, delayed_check m f, delayed-old m f)
      (cond_both (λ (a b : Outcome). a ≡ delayed_outcome k b) (is_admitted m f) (delayed-arrived m r at f (checked m f)) (delayed-quiet m r (is_old m f)))

  delayed-clocked : (m : Master) (w at : ℕ) → m.MTimer < 2 ^ 32 → at < 2 ^ 32 → clocked (delayed_master k m) w (delayed k at) ≡ delayed_outcome k (clocked m w at)
  unfolding clocked
  delayed-clocked m w at fits reading-fits =
      rw (delayed-watched m w at fits reading-fits, delayed_watchdog m w at fits reading-fits)
      (delayed-quiet (watched m w at) (watchdog_row m w at) false)

  delayed-signalled : (m : Master) (setSD_C ChFAck_C : Bool) → signalled (delayed_master k m) setSD_C ChFAck_C ≡ delayed_master k (signalled m setSD_C ChFAck_C)
  unfolding signalled delayed_master
  delayed-signalled m setSD_C ChFAck_C = refl

  delayed-operated : (m : Master) (w at : ℕ) (setSD_C ChFAck_C : Bool) → m.MTimer < 2 ^ 32 → at < 2 ^ 32 → operated (delayed_master k m) w (delayed k at) setSD_C ChFAck_C ≡ delayed_outcome k (operated m w at setSD_C ChFAck_C)
  unfolding operated
  delayed-operated m w at setSD_C ChFAck_C fits reading-fits =
      rw (delayed-watched m w at fits reading-fits, delayed_watchdog m w at fits reading-fits, delayed-signalled (watched m w at) setSD_C ChFAck_C)
      (delayed-quiet (signalled (watched m w at) setSD_C ChFAck_C) (watchdog_row m w at) false)

  -- Delaying the stored readings and the happening's by the same amount on the clock delays the stored readings afterwards, and nothing else.
  pub delayed_step : (m : Master) (w : ℕ) (h : Happening) → m.MTimer < 2 ^ 32 → reading_of h < 2 ^ 32 → step_of (delayed_master k m) w (delayed_happening k h) ≡ delayed_outcome k (step_of m w h)
  unfolding step_of delayed_happening
  delayed_step m w (happening.Response at f) fits reading-fits =
      rw (delayed-watched m w at fits reading-fits, delayed_watchdog m w at fits reading-fits)
      (delayed-received (watched m w at) (watchdog_row m w at) at f)
  delayed_step m w (happening.Request at q) fits reading-fits = delayed-clocked m w at fits reading-fits
  delayed_step m w (happening.Clock at) fits reading-fits = delayed-clocked m w at fits reading-fits
  delayed_step m w (happening.Operator at setSD_C ChFAck_C) fits reading-fits = delayed-operated m w at setSD_C ChFAck_C fits reading-fits

-- and so from the block on
pub delayed-first : (k at : ℕ) → first_master (delayed k at) ≡ delayed_master k (first_master at)
unfolding delayed_master
delayed-first k at = refl

-- ---- every history: readings are of 32 bits, so what is stored of them is

module _ (k at w : ℕ) (fits : at < 2 ^ 32) where
  called : {past : List Happening} → OnClock past → master_after (delayed k at) w (delayed_past k past) ≡ delayed_master k (master_after at w past)
      → (h : Happening) → reading_of h < 2 ^ 32
      → step_of (master_after (delayed k at) w (delayed_past k past)) w (delayed_happening k h) ≡ delayed_outcome k (step_of (master_after at w past) w h)
  called {past} rest e h r = rw e (delayed_step k (master_after at w past) w h (rw (timer_reads at w past) (last_fits (master_after at w) (λ m h. arrives w m h || watches w m h) at fits rest)) r)

  -- All readings since the block delayed, and the block's: the FS-Master is the same but for its readings,
  pub delayed_after : {past : List Happening} → OnClock past → master_after (delayed k at) w (delayed_past k past) ≡ delayed_master k (master_after at w past)
  unfolding master_after delayed_outcome
  delayed_after none = delayed-first k at
  delayed_after (more {h} {past} r rest) = ap (λ (o : Outcome). o.master) (called rest (delayed_after rest) h r)

  -- and so is what each call says.
  pub delayed_call : {past : List Happening} → OnClock past → (h : Happening) → reading_of h < 2 ^ 32
      → step_of (master_after (delayed k at) w (delayed_past k past)) w (delayed_happening k h) ≡ delayed_outcome k (step_of (master_after at w past) w h)
  delayed_call rest h r = called rest (delayed_after rest) h r

-- the start that a sample's time runs from is a reading of the history
module _ (at w : ℕ) (fits : at < 2 ^ 32) where
  watched_fits : (m : Master) (h : Happening) → m.start < 2 ^ 32 → reading_of h < 2 ^ 32 → (watched m w (reading_of h)).start < 2 ^ 32
  watched_fits m h s r =
      rw (watched-start m w (reading_of h)) (cond_case (λ (n : ℕ). n < 2 ^ 32) (eqb (watched m w (reading_of h)).MCount m.MCount) (λ _. s) (λ _. r))

  start_fits : {past : List Happening} → OnClock past → (master_after at w past).start < 2 ^ 32
  unfolding master_after
  start_fits none = fits
  start_fits (more {h} {past} r rest) =
      let m = master_after at w past in
      rw (step_start m w h)
      (cond_case (λ (n : ℕ). n < 2 ^ 32) (eqb (step_of m w h).master.MCount (watched m w (reading_of h)).MCount) (λ _. watched_fits m h (start_fits rest) r) (λ _. r))

  pub sent_fits : {past : List Happening} → OnClock past → (h : Happening) → reading_of h < 2 ^ 32 → (step_of (master_after at w past) w h).sent < 2 ^ 32
  sent_fits {past} rest h r = rw (step_of-sent (master_after at w past) w h) (watched_fits (master_after at w past) h (start_fits rest) r)
