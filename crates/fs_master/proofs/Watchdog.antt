-- Release ends at W: when MTimer runs, what it reads, and what a call does that finds it above W. Assumes nothing.
use Prim.Native.Nat.{ℕ, ◌≤◌, ◌<◌, ◌^◌}
use native.Mathlib.Omega.{arith}
use mathlib.Core.Path.{◌≡◌, refl, sym, ap, ◌∙◌}
use mathlib.Core.Bool.{Bool, true, false, cond, not, ◌||◌}
use mathlib.Core.List.{List, [], ◌∷◌}
use mathlib.Core.Logic.{◌⊎◌, inl, inr}
use lib.Dec.{eqb}
use borrow.Author.Tests.{eqb-true, lt-ltb, not-true}
use Rattle.std.specs.Prelude.{Option, Some, None}
use Rattle.scl.specs.Time.{elapsed_of, expired_of}
use Rattle.scl.specs.Happenings.{reading_of, is_failure}
use Rattle.scl.specs.declared.Happening.{Happening}
use Rattle.scl.specs.declared.Happening.TheVariants as happening
use Rattle.scl.specs.declared.Response.{Response}
use Rattle.scl.proofs.Watchdog as law
use Rattle.scl.proofs.Cases.{cond_case, cond-or, no, and_left, and_right}
use Rattle.fs_master.specs.declared.Master.{Master}
use Rattle.fs_master.specs.declared.Outcome.{Outcome}
use Rattle.fs_master.specs.declared.Row.{Row}
use Rattle.fs_master.specs.declared.Row.TheVariants.{T8, T14}
use Rattle.fs_master.specs.Table38.{timeout_row, watchdog_row, is_old, is_admitted, has_faults, checked, arrival_row, admitted, t4, t7, t8, t11, t12, t13, t14, acted, signalled}
use Rattle.fs_master.specs.Calls.{watched, watched_by, quiet, arrived, received, clocked, operated, step_of}
use Rattle.fs_master.specs.History.{master_after, Held, acts, arrives, watches, last_row, last_admitted_at, times_out}
use Rattle.fs_master.proofs.Rows.{timeout_case, row_case}
use Rattle.fs_master.proofs.Counts.{always_held}
use Rattle.fs_master.proofs.Samples.{step_watchdog}

-- ---- what one call does to the timer: a row that acts restarts it, and it runs from then; without one it stays

record Timed (m : Master) (at : ℕ) (row : Bool) (n : Master) : Type 0 where
  pub reads : n.MTimer ≡ cond row at m.MTimer
  pub runs_is : n.runs ≡ cond row true m.runs
  pub goes : (m.runs ≡ not (eqb m.state 2)) → n.runs ≡ not (eqb n.state 2)

watched_timed : (m : Master) (w at : ℕ) → Timed m at (acts (watchdog_row m w at)) (watched m w at)
unfolding watched watched_by acted t8 t14
watched_timed m w at =
    timeout_case (λ (r : Option Row). Timed m at (acts r) (watched_by m r at)) m w at
    (record { reads = refl; runs_is = refl; goes = λ e. e })
    (λ _. record { reads = refl; runs_is = refl; goes = λ _. refl })
    (λ _. record { reads = refl; runs_is = refl; goes = λ _. refl })

arrived_timed : (m : Master) (r : Option Row) (at : ℕ) (f : Response) → let o = arrived m r at f (checked m f) in Timed m at (acts o.arrival) o.master
unfolding arrived acted admitted t4 t7 t11 t12 t13
arrived_timed m r at f =
    row_case (λ (x : Row). Timed m at (acts (Some x)) (acted (admitted m f) x at f.SDset)) m (has_faults (is_failure (checked m f)) f)
    (λ _ _. record { reads = refl; runs_is = refl; goes = λ _. refl })
    (λ _ _. record { reads = refl; runs_is = refl; goes = λ _. refl })
    (λ _ _ _. record { reads = refl; runs_is = refl; goes = λ _. refl })
    (λ _ _. record { reads = refl; runs_is = refl; goes = λ _. refl })
    (λ _ _ _. record { reads = refl; runs_is = refl; goes = λ _. refl })

received_timed : (m : Master) (r : Option Row) (at : ℕ) (f : Response) → let o = received m r at f in Timed m at (acts o.arrival) o.master
unfolding received quiet
received_timed m r at f =
    cond_case (λ (o : Outcome). Timed m at (acts o.arrival) o.master) (is_admitted m f) {x = arrived m r at f (checked m f)} {y = quiet m r (is_old m f)}
    (λ _. arrived_timed m r at f)
    (λ _. record { reads = refl; runs_is = refl; goes = λ e. e })

step_timed : (m : Master) (w : ℕ) (h : Happening) → let o = step_of m w h in Timed m (reading_of h) (acts o.arrival || acts o.watchdog) o.master
unfolding step_of clocked operated quiet signalled
step_timed m w (happening.Response at f) =
    let j = watched_timed m w at in
    let k = received_timed (watched m w at) (watchdog_row m w at) at f in
    let o = received (watched m w at) (watchdog_row m w at) at f in
    record {
      reads =
          k.reads ∙ ap (λ (t : ℕ). cond (acts o.arrival) at t) j.reads
          ∙ cond-or (acts o.arrival) (acts (watchdog_row m w at)) at m.MTimer
          ∙ ap (λ (r : Option Row). cond (acts o.arrival || acts r) at m.MTimer) (sym (step_watchdog m w (happening.Response at f)));
      runs_is =
          k.runs_is ∙ ap (λ (b : Bool). cond (acts o.arrival) true b) j.runs_is
          ∙ cond-or (acts o.arrival) (acts (watchdog_row m w at)) true m.runs
          ∙ ap (λ (r : Option Row). cond (acts o.arrival || acts r) true m.runs) (sym (step_watchdog m w (happening.Response at f)));
      goes = λ e. k.goes (j.goes e);
    }
step_timed m w (happening.Request at q) = watched_timed m w at
step_timed m w (happening.Clock at) = watched_timed m w at
step_timed m w (happening.Operator at setSD_C ChFAck_C) = record { reads = (watched_timed m w at).reads; runs_is = (watched_timed m w at).runs_is; goes = (watched_timed m w at).goes }

-- ---- what a call does that finds it above W

-- the watchdog's row then acts, and leaves state 7 with nothing requested and no edge awaited
pub record Ended (n : Master) : Type 0 where
  pub in7 : n.state ≡ 7
  pub no_request : n.ChFAckReq_S ≡ false
  pub no_edge : n.ChFAck_C_e ≡ false
  pub silent : n.released ≡ false

late_by : (m : Master) (at : ℕ) → Held m → eqb m.state 2 ≡ false → Ended (watched_by m (timeout_row m.state) at)
unfolding watched_by acted t8 t14
late_by m at h not2 = go (eqb m.state 5) (eqb m.state 7) refl refl h.rests
  where
    go : (in5 in7 : Bool) → eqb m.state 5 ≡ in5 → eqb m.state 7 ≡ in7 → (eqb m.state 2 || eqb m.state 5 || eqb m.state 7) ≡ true
        → Ended (watched_by m (cond in5 (Some T8) (cond in7 (Some T14) None)) at)
    go true true e5 e7 r = absurd (omega (arith, eqb-true m.state 5 e5, eqb-true m.state 7 e7))
    go true false e5 e7 r = record { in7 = refl; no_request = sym h.same ∙ h.no_request e7; no_edge = h.no_edge e7; silent = refl }
    go false true e5 e7 r = record { in7 = refl; no_request = refl; no_edge = refl; silent = refl }
    go false false e5 e7 r = no (sym (simp (not2, e5, e7) at r))

-- MTimer runs exactly outside of state 2.
pub timer_runs : (at w : ℕ) (past : List Happening) → (master_after at w past).runs ≡ not (eqb (master_after at w past).state 2)
unfolding master_after
timer_runs at w [] = refl
timer_runs at w (h ∷ past) = (step_timed (master_after at w past) w h).goes (timer_runs at w past)

-- the arrival's rows do not release from there
ended_row : (m : Master) (f : Response) (at : ℕ) (faults : Bool) → Ended m → (acted (admitted m f) (arrival_row m faults) at f.SDset).released ≡ false
unfolding acted admitted t4 t7 t11 t12 t13
ended_row m f at faults e =
    let in7 : eqb m.state 7 ≡ true = ap (λ (n : ℕ). eqb n 7) e.in7 in
    row_case (λ (r : Row). (acted (admitted m f) r at f.SDset).released ≡ false) m faults
    (λ s _. no (sym in7 ∙ s))
    (λ _ _. refl)
    (λ _ _ a. no (sym (and_right m.ChFAck_C m.ChFAck_C_e a) ∙ e.no_edge))
    (λ _ _. refl)
    (λ _ _ _. refl)

ended_received : (m : Master) (r : Option Row) (at : ℕ) (f : Response) → Ended m → (received m r at f).master.released ≡ false
unfolding received arrived quiet
ended_received m r at f e =
    cond_case (λ (o : Outcome). o.master.released ≡ false) (is_admitted m f) {x = arrived m r at f (checked m f)} {y = quiet m r (is_old m f)}
    (λ _. ended_row m f at (has_faults (is_failure (checked m f)) f) e)
    (λ _. e.silent)

pub timed_out : (m : Master) (w at : ℕ) → Held m → m.runs ≡ not (eqb m.state 2) → times_out m w at ≡ true → Ended (watched m w at)
unfolding watched watchdog_row
timed_out m w at h outside e =
    rw e (late_by m at h (not-true (eqb m.state 2) (sym outside ∙ and_left m.runs (expired_of at m.MTimer w) e)))

pub not_timed_out : (m : Master) (w at : ℕ) → times_out m w at ≡ false → watched m w at ≡ m
unfolding watched watched_by watchdog_row
not_timed_out m w at e = rw e

late-step : (m : Master) (w : ℕ) (h : Happening) → Ended (watched m w (reading_of h)) → (step_of m w h).master.released ≡ false
unfolding step_of clocked operated quiet signalled
late-step m w (happening.Response at f) e = ended_received (watched m w at) (watchdog_row m w at) at f e
late-step m w (happening.Request at q) e = e.silent
late-step m w (happening.Clock at) e = e.silent
late-step m w (happening.Operator at setSD_C ChFAck_C) e = e.silent

-- A call that finds MTimer running with elapsed above W leaves nothing released, whatever it brings.
pub late : (at w : ℕ) (past : List Happening) (h : Happening) → let m = master_after at w past in
    m.runs ≡ true → w < elapsed_of (reading_of h) m.MTimer → (master_after at w (h ∷ past)).released ≡ false
unfolding master_after
late at w past h runs over =
    let m = master_after at w past in
    late-step m w h (timed_out m w (reading_of h) (always_held at w past) (timer_runs at w past) (simp (runs, lt-ltb w (elapsed_of (reading_of h) m.MTimer) over)))

-- ---- so nothing is released longer than W after the last SPDU that was admitted

-- where a call leaves values released, its SPDU was admitted; or no row acted and they were released before
still-watched : (m : Master) (w at : ℕ) → (watched m w at).released ≡ true → (acts (watchdog_row m w at) ≡ false) × (m.released ≡ true)
unfolding watched watched_by acted t8 t14
still-watched m w at =
    timeout_case (λ (r : Option Row). (watched_by m r at).released ≡ true → (acts r ≡ false) × (m.released ≡ true)) m w at
    (λ e. (refl, e)) (λ _ e. no (sym e)) (λ _ e. no (sym e))

abbrev Still : Master → ℕ → Outcome → Type 0
Still m w o = (acts o.arrival ≡ true) ⊎ ((acts o.arrival ≡ false) × ((acts o.watchdog ≡ false) × (m.released ≡ true)))

still : (m : Master) (w : ℕ) (h : Happening) → (step_of m w h).master.released ≡ true → Still m w (step_of m w h)
unfolding step_of clocked operated quiet signalled received arrived
still m w (happening.Response at f) =
    let j = watched m w at in
    cond_case (λ (o : Outcome). o.master.released ≡ true → Still m w o) (is_admitted j f) {x = arrived j (watchdog_row m w at) at f (checked j f)} {y = quiet j (watchdog_row m w at) (is_old j f)}
    (λ _ _. inl refl)
    (λ _ e. inr (refl, still-watched m w at e))
still m w (happening.Request at q) = λ e. inr (refl, still-watched m w at e)
still m w (happening.Clock at) = λ e. inr (refl, still-watched m w at e)
still m w (happening.Operator at setSD_C ChFAck_C) = λ e. inr (refl, still-watched m w at e)

module _ (at w : ℕ) where
  timed : law.Watched (master_after at w) (λ m. m.runs) (λ m. m.released) (λ m. m.MTimer) (arrives w) (watches w) at w
  unfolding master_after
  timed = record {
    first_reads = refl;
    first-silent = refl;
    reads = λ past h. (step_timed (master_after at w past) w h).reads;
    runs_is = λ past h. (step_timed (master_after at w past) w h).runs_is;
    still = λ past h. still (master_after at w past) w h;
    late = late at w;
  }

  -- MTimer reads the last call in which a row acted.
  pub timer_reads : (past : List Happening) → (master_after at w past).MTimer ≡ last_row at w past
  timer_reads past = law.timer_reads (master_after at w) (λ m. m.runs) (λ m. m.released) (λ m. m.MTimer) (arrives w) (watches w) at w timed past

  -- After no call is a value released whose last SPDU lies more than W back.
  pub released_in_time : (past : List Happening) (h : Happening) → reading_of h < 2 ^ 32 → (master_after at w (h ∷ past)).released ≡ true
      → elapsed_of (reading_of h) (last_admitted_at at w (h ∷ past)) ≤ w
  released_in_time past h = law.released_in_time (master_after at w) (λ m. m.runs) (λ m. m.released) (λ m. m.MTimer) (arrives w) (watches w) at w timed past h
