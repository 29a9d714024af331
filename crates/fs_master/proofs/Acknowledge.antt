-- After a fault the FS-Master releases only once ChFAck_C followed ChFAckReq_S. Assumes nothing.
use Prim.Native.Nat.{ℕ}
use native.Mathlib.Omega.{arith}
use mathlib.Core.Path.{◌≡◌, refl, sym, ap, ◌∙◌}
use mathlib.Core.Bool.{Bool, true, false, cond, not, ◌&&◌, ◌||◌}
use mathlib.Core.List.{List, [], ◌∷◌}
use lib.Dec.{eqb}
use borrow.Author.Tests.{not-true}
use Rattle.std.specs.Prelude.{Option, Some}
use Rattle.std.specs.Prelude as prelude
use Rattle.scl.specs.Time.{expired_of}
use Rattle.scl.specs.Happenings.{reading_of, is_failure}
use Rattle.scl.specs.declared.Happening.{Happening}
use Rattle.scl.specs.declared.Happening.TheVariants as happening
use Rattle.scl.specs.declared.Response.{Response}
use Rattle.scl.proofs.Cases.{cond_both, no, and_left, and_right}
use Rattle.fs_master.specs.declared.Master.{Master}
use Rattle.fs_master.specs.declared.Outcome.{Outcome}
use Rattle.fs_master.specs.declared.Row.{Row}
use Rattle.fs_master.specs.declared.Row.TheVariants.{T8, T14}
use Rattle.fs_master.specs.Table38.{timeout_row, watchdog_row, is_old, is_admitted, has_faults, checked, arrival_row, admitted, t4, t7, t8, t11, t12, t13, t14, acted, signalled}
use Rattle.fs_master.specs.Calls.{watched, watched_by, quiet, arrived, received, clocked, operated, step_of}
use Rattle.fs_master.specs.History.{master_after, watched_in, Signals, signals, HasSignals, times_out, is_faulty, admitted_by, faulty_by, Fault, None, Open, Pressed, Asked, answered_by, fault, opens, is_requested, set_when_admitted, Held}
use Rattle.fs_master.proofs.Rows.{timeout_case, row_case}
use Rattle.fs_master.proofs.Counts.{watched_held, always_held}
use Rattle.fs_master.proofs.Samples.{step_watchdog}
use Rattle.fs_master.proofs.Faults.{faulty_is}
use Rattle.fs_master.proofs.Signals.{watched-signals, signals_hold}
use Rattle.fs_master.proofs.Watchdog.{timer_runs, timed_out, not_timed_out}

-- how far the acknowledgement is, by the FS-Master's variables: a fault is open in state 7 alone
abbrev stage : Master → Fault
stage m = cond (eqb m.state 7) (cond m.ChFAck_C_e Asked (cond m.ChFAckReq_S Pressed Open)) None

-- a fault that is open is not none
opened : (edge request : Bool) → cond edge Asked (cond request Pressed Open) ≡ None → true ≡ false
opened true request e = let z : ◌≡◌ {A = ℕ} 0 1 = cc in absurd (omega arith)
opened false true e = let z : ◌≡◌ {A = ℕ} 0 1 = cc in absurd (omega arith)
opened false false e = let z : ◌≡◌ {A = ℕ} 0 1 = cc in absurd (omega arith)

-- ---- one call

watched-fault : (m : Master) (w at : ℕ) (s : Fault) → Held m → m.runs ≡ not (eqb m.state 2) → s ≡ stage m → cond (times_out m w at) Open s ≡ stage (watched m w at)
watched-fault m w at s h outside p = go (times_out m w at) refl
  where
    go : (b : Bool) → times_out m w at ≡ b → cond b Open s ≡ stage (watched m w at)
    go true e = let d = timed_out m w at h outside e in simp (d.in7, d.no_edge, d.no_request)
    go false e = rw (not_timed_out m w at e) p

asked : (acknowledges edge request : Bool) → (acknowledges && edge) ≡ false
    → answered_by acknowledges (cond edge Asked (cond request Pressed Open)) ≡ cond (not acknowledges || edge) Asked Pressed
unfolding answered_by
asked true true request e = no e
asked true false true e = refl
asked true false false e = refl
asked false true request e = refl
asked false false true e = refl
asked false false false e = refl

row_fault : (m : Master) (f : Response) (at : ℕ) (faults : Bool) (s : Fault) → Held m → s ≡ stage m
    → cond faults Open (answered_by m.ChFAck_C s) ≡ stage (acted (admitted m f) (arrival_row m faults) at f.SDset)
unfolding acted admitted answered_by t4 t7 t11 t12 t13
row_fault m f at faults s h p =
    row_case (λ (r : Row). cond faults Open (answered_by m.ChFAck_C s) ≡ stage (acted (admitted m f) r at f.SDset)) m faults
    (λ n z. rw (z, simp n at p))
    (λ n z. rw z (simp (h.no_edge n, sym h.same ∙ h.no_request n)))
    (λ y z e. rw (z, and_left m.ChFAck_C m.ChFAck_C_e e, simp (y, and_right m.ChFAck_C m.ChFAck_C_e e) at p))
    (λ _ z. rw z)
    (λ y z e. rw (z, simp y at p) (asked m.ChFAck_C m.ChFAck_C_e m.ChFAckReq_S e))

received-fault : (m : Master) (r : Option Row) (at : ℕ) (f : Response) (s : Fault) → Held m → s ≡ stage m
    → cond (is_admitted m f && is_faulty m f) Open (cond (is_admitted m f) (answered_by m.ChFAck_C s) s) ≡ stage (received m r at f).master
unfolding received arrived quiet
received-fault m r at f s h p = go (is_admitted m f)
  where
    go : (b : Bool) → cond (b && is_faulty m f) Open (cond b (answered_by m.ChFAck_C s) s) ≡ stage (cond b (arrived m r at f (checked m f)) (quiet m r (is_old m f))).master
    go true = rw (faulty_is m f) (row_fault m f at (has_faults (is_failure (checked m f)) f) s h p)
    go false = p

step-fault : (m : Master) (w : ℕ) (h : Happening) (k : Signals) (s : Fault) → HasSignals k m → Held m → s ≡ stage (watched m w (reading_of h))
    → let j = watched m w (reading_of h) in
    cond (faulty_by j h) Open (cond (admitted_by j h) (answered_by k.ChFAck_C s) s) ≡ stage (step_of m w h).master
unfolding step_of clocked operated quiet signalled faulty_by admitted_by
step-fault m w (happening.Response at f) k s c i p =
    rw (sym (watched-signals m w at c).1) (received-fault (watched m w at) (watchdog_row m w at) at f s (watched_held m w at i) p)
step-fault m w (happening.Request at q) k s c i p = p
step-fault m w (happening.Clock at) k s c i p = p
step-fault m w (happening.Operator at setSD_C ChFAck_C) k s c i p = p

-- ---- every history

requested_as : (in7 edge request : Bool) → (in7 ≡ false → request ≡ false) → (edge ≡ true → request ≡ true) → request ≡ is_requested (cond in7 (cond edge Asked (cond request Pressed Open)) None)
requested_as true true request n y = y refl
requested_as true false true n y = refl
requested_as true false false n y = refl
requested_as false edge request n y = n refl

module _ (at w : ℕ) where
  stage_is : (past : List Happening) → fault at w past ≡ stage (master_after at w past)
  unfolding master_after fault watched_in
  stage_is [] = refl
  stage_is (h ∷ past) =
      let m = master_after at w past in
      step-fault m w h (signals past) _ (signals_hold at w past) (always_held at w past)
      (watched-fault m w (reading_of h) (fault at w past) (always_held at w past) (timer_runs at w past) (stage_is past))

  -- ChFAckReq_S is 1 exactly where it was asked for and not yet acknowledged.
  pub requested : (past : List Happening) → (master_after at w past).ChFAckReq_S ≡ is_requested (fault at w past)
  requested past =
      let m = master_after at w past in
      let h = always_held at w past in
      rw (stage_is past) (requested_as (eqb m.state 7) m.ChFAck_C_e m.ChFAckReq_S (λ e. sym h.same ∙ h.no_request e) h.requested)

  -- While values are released no fault is open: since the last one a response without FAULTS came while ChFAck_C was 0, and later one while it was 1.
  pub acknowledged : (past : List Happening) → (master_after at w past).released ≡ true → fault at w past ≡ None
  acknowledged past e = go (eqb (master_after at w past).state 7) refl
    where
      go : (b : Bool) → eqb (master_after at w past).state 7 ≡ b → fault at w past ≡ None
      go true s = no (sym e ∙ (always_held at w past).safe s)
      go false s = simp s at (stage_is past)

  -- While a fault is open setSD is 1 in what goes out, and SDset_S with it;
  pub sends_safe : (past : List Happening) → (fault at w past ≡ None → ⊥) → ((master_after at w past).setSD ≡ true) × ((master_after at w past).SDset_S ≡ true)
  sends_safe past faulty = go (eqb (master_after at w past).state 7) refl
    where
      go : (b : Bool) → eqb (master_after at w past).state 7 ≡ b → ((master_after at w past).setSD ≡ true) × ((master_after at w past).SDset_S ≡ true)
      go true s = let h = always_held at w past in (h.sent s, h.set (h.sent s))
      go false s = absurd (faulty (simp s at (stage_is past)))

-- while none is, it is the setSD_C there was when the last response was admitted.

abbrev SetBy : Master → Bool → Type 0
SetBy m b = eqb m.state 7 ≡ false → m.setSD ≡ b

watched-set : (m : Master) (w at : ℕ) (b : Bool) → SetBy m b → SetBy (watched m w at) b
unfolding watched watched_by acted t8 t14
watched-set m w at b s = timeout_case (λ (r : Option Row). SetBy (watched_by m r at) b) m w at s (λ _ e. no e) (λ _ e. no e)

received-set : (m : Master) (r : Option Row) (at : ℕ) (f : Response) (b : Bool) → SetBy m b → SetBy (received m r at f).master (cond (is_admitted m f) m.setSD_C b)
unfolding received arrived quiet acted admitted t4 t7 t11 t12 t13
received-set m r at f b s =
    cond_both (λ (o : Outcome) (x : Bool). SetBy o.master x) (is_admitted m f)
    (row_case (λ (x : Row). SetBy (acted (admitted m f) x at f.SDset) m.setSD_C) m (has_faults (is_failure (checked m f)) f)
    (λ _ _ _. refl) (λ _ _ e. no e) (λ _ _ _ _. refl) (λ _ _ e. no e) (λ _ _ _ e. no e))
    s

step_set : (m : Master) (w : ℕ) (h : Happening) (k : Signals) (b : Bool) → HasSignals k m → SetBy m b
    → SetBy (step_of m w h).master (cond (admitted_by (watched m w (reading_of h)) h) k.setSD_C b)
unfolding step_of clocked operated quiet signalled admitted_by
step_set m w (happening.Response at f) k b c s =
    rw (sym (watched-signals m w at c).0) (received-set (watched m w at) (watchdog_row m w at) at f b (watched-set m w at b s))
step_set m w (happening.Request at q) k b c s = watched-set m w at b s
step_set m w (happening.Clock at) k b c s = watched-set m w at b s
step_set m w (happening.Operator at setSD_C ChFAck_C) k b c s = watched-set m w at b s

module _ (at w : ℕ) where
  set_by : (past : List Happening) → SetBy (master_after at w past) (set_when_admitted at w past)
  unfolding master_after set_when_admitted watched_in
  set_by [] e = refl
  set_by (h ∷ past) e = step_set (master_after at w past) w h (signals past) (set_when_admitted at w past) (signals_hold at w past) (set_by past) e

  pub sends_asked : (past : List Happening) → fault at w past ≡ None → (master_after at w past).setSD ≡ set_when_admitted at w past
  sends_asked past e = go (eqb (master_after at w past).state 7) refl
    where
      m : Master
      m = master_after at w past

      go : (b : Bool) → eqb m.state 7 ≡ b → m.setSD ≡ set_when_admitted at w past
      go true s = no (opened m.ChFAck_C_e m.ChFAckReq_S (sym (simp s at (stage_is at w past)) ∙ e))
      go false s = set_by past s

-- ---- FAULTS are the rows T7, T8, T12 and T14

late-opens : (state : ℕ) → (eqb state 2 || eqb state 5 || eqb state 7) ≡ true → eqb state 2 ≡ false → opens (timeout_row state) ≡ true
late-opens state rests not2 = go (eqb state 5) (eqb state 7) refl refl
  where
    go : (in5 in7 : Bool) → eqb state 5 ≡ in5 → eqb state 7 ≡ in7 → opens (cond in5 (Some T8) (cond in7 (Some T14) prelude.None)) ≡ true
    go true in7 e5 e7 = refl
    go false true e5 e7 = refl
    go false false e5 e7 = no (sym (simp (not2, e5, e7) at rests))

row_opens : (m : Master) (faults : Bool) → opens (Some (arrival_row m faults)) ≡ faults
row_opens m faults = row_case (λ (r : Row). opens (Some r) ≡ faults) m faults (λ _ e. sym e) (λ _ e. sym e) (λ _ e _. sym e) (λ _ e. sym e) (λ _ e _. sym e)

opens-late : (m : Master) (w at : ℕ) → Held m → m.runs ≡ not (eqb m.state 2) → opens (watchdog_row m w at) ≡ times_out m w at
unfolding watchdog_row
opens-late m w at h outside = go (times_out m w at) refl
  where
    go : (b : Bool) → times_out m w at ≡ b → opens (cond b (timeout_row m.state) prelude.None) ≡ b
    go true e = late-opens m.state h.rests (not-true (eqb m.state 2) (sym outside ∙ and_left m.runs (expired_of at m.MTimer w) e))
    go false e = refl

received-opens : (m : Master) (r : Option Row) (at : ℕ) (f : Response) → opens (received m r at f).arrival ≡ (is_admitted m f && is_faulty m f)
unfolding received arrived quiet
received-opens m r at f = go (is_admitted m f)
  where
    go : (b : Bool) → opens (cond b (arrived m r at f (checked m f)) (quiet m r (is_old m f))).arrival ≡ (b && is_faulty m f)
    go true = rw (faulty_is m f) (row_opens m (has_faults (is_failure (checked m f)) f))
    go false = refl

step-opens : (m : Master) (w : ℕ) (h : Happening) → opens (step_of m w h).arrival ≡ faulty_by (watched m w (reading_of h)) h
unfolding step_of clocked operated quiet faulty_by
step-opens m w (happening.Response at f) = received-opens (watched m w at) (watchdog_row m w at) at f
step-opens m w (happening.Request at q) = refl
step-opens m w (happening.Clock at) = refl
step-opens m w (happening.Operator at setSD_C ChFAck_C) = refl

module _ (at w : ℕ) (past : List Happening) (h : Happening) where
  pub timeout_rows : opens (step_of (master_after at w past) w h).watchdog ≡ times_out (master_after at w past) w (reading_of h)
  timeout_rows = ap opens (step_watchdog (master_after at w past) w h) ∙ opens-late (master_after at w past) w (reading_of h) (always_held at w past) (timer_runs at w past)

  pub faulty-rows : opens (step_of (master_after at w past) w h).arrival ≡ faulty_by (watched_in at w past h) h
  unfolding watched_in
  faulty-rows = step-opens (master_after at w past) w h
