-- The count that the FS-Master sends, and what always holds of its variables. Assumes nothing.
use Prim.Native.Nat.{ℕ, ◌+◌, ◌%◌, ◌≤◌}
use native.Mathlib.Omega.{arith}
use borrow.Author.Tests.{eqb-true, eqb-false, ne_eqb}
use Rattle.std.specs.Prelude.{Option, Some, None}
use Rattle.scl.specs.Counts.{count_after}
use Rattle.scl.specs.Happenings.{is_failure}
use Rattle.scl.proofs.Cases.{cond_case, no, or_second}
use mathlib.Core.Path.{◌≡◌, refl, sym, ap, ◌∙◌}
use mathlib.Core.Bool.{Bool, true, false}
use mathlib.Core.List.{List, [], ◌∷◌}
use lib.Dec.{eqb}
use Rattle.scl.specs.declared.Happening.{Happening}
use Rattle.scl.specs.declared.Happening.TheVariants as happening
use Rattle.scl.specs.declared.Response.{Response}
use Rattle.fs_master.specs.declared.Master.{Master}
use Rattle.fs_master.specs.declared.Outcome.{Outcome}
use Rattle.fs_master.specs.declared.Row.{Row}
use Rattle.fs_master.specs.declared.Row.TheVariants.{T4, T7, T8, T11, T12, T13, T14}
use Rattle.fs_master.specs.Calls.{watched, watched_by, quiet, arrived, received, clocked, operated, step_of}
use Rattle.fs_master.proofs.Rows.{timeout_case, row_case}
use Rattle.fs_master.proofs.Samples.{received_watchdog}
use Rattle.fs_master.specs.Table38.{watchdog_row, is_old, is_admitted, has_faults, checked, arrival_row, admitted, t4, t7, t8, t11, t12, t13, t14, acted, signalled, first_master}
use Rattle.fs_master.specs.History.{count_after_row, Held, master_after}

acted_count : (m : Master) (r : Row) (at : ℕ) (SDset : Bool) → (acted m r at SDset).MCount ≡ count_after_row (Some r) m.MCount
unfolding acted count_after_row t4 t7 t8 t11 t12 t13 t14
acted_count m T4 at SDset = refl
acted_count m T7 at SDset = refl
acted_count m T8 at SDset = refl
acted_count m T11 at SDset = refl
acted_count m T12 at SDset = refl
acted_count m T13 at SDset = refl
acted_count m T14 at SDset = refl

watched_count : (m : Master) (w at : ℕ) → (watched m w at).MCount ≡ count_after_row (watchdog_row m w at) m.MCount
unfolding watched watched_by count_after_row
watched_count m w at = go (watchdog_row m w at)
  where
    go : (r : Option Row) → (watched_by m r at).MCount ≡ count_after_row r m.MCount
    go None = refl
    go (Some r) = acted_count m r at false

arrived_count : (m : Master) (f : Response) (r : Row) (at : ℕ) → (acted (admitted m f) r at f.SDset).MCount ≡ count_after_row (Some r) m.MCount
unfolding admitted
arrived_count m f r at = acted_count (admitted m f) r at f.SDset

received_count : (m : Master) (r : Option Row) (at : ℕ) (f : Response) → (received m r at f).master.MCount ≡ count_after_row (received m r at f).arrival m.MCount
unfolding received arrived quiet count_after_row
received_count m r at f =
    cond_case (λ (o : Outcome). o.master.MCount ≡ count_after_row o.arrival m.MCount) (is_admitted m f) {x = arrived m r at f (checked m f)} {y = quiet m r (is_old m f)}
    (λ _. arrived_count m f (arrival_row m (has_faults (is_failure (checked m f)) f)) at)
    (λ _. refl)

-- MCount follows Table 33: by the watchdog's row, then by the arrival's.
pub count_by_rows : (m : Master) (w : ℕ) (h : Happening) → (step_of m w h).master.MCount ≡ count_after_row (step_of m w h).arrival (count_after_row (step_of m w h).watchdog m.MCount)
unfolding step_of clocked operated quiet count_after_row signalled
count_by_rows m w (happening.Response at f) =
    rw (received_watchdog (watched m w at) (watchdog_row m w at) at f)
    (received_count (watched m w at) (watchdog_row m w at) at f ∙ ap (count_after_row (received (watched m w at) (watchdog_row m w at) at f).arrival) (watched_count m w at))
count_by_rows m w (happening.Request at q) = watched_count m w at
count_by_rows m w (happening.Clock at) = watched_count m w at
count_by_rows m w (happening.Operator at setSD_C ChFAck_C) = watched_count m w at

below : (n : ℕ) → count_after n ≤ 7
below n =
    cond_case (λ (k : ℕ). k ≤ 7) (eqb (n % 8 + 1) 8)
    (λ _. omega arith)
    (λ e. omega (arith, eqb-false (n % 8 + 1) 8 e))

by_below : (r : Option Row) (n : ℕ) → n ≤ 7 → count_after_row r n ≤ 7
unfolding count_after_row
by_below None n b = b
by_below (Some T4) n b = below n
by_below (Some T7) n b = below n
by_below (Some T8) n b = omega arith
by_below (Some T11) n b = below n
by_below (Some T12) n b = below n
by_below (Some T13) n b = below n
by_below (Some T14) n b = omega arith

-- So it is 0 to 7.
pub count_below : (m : Master) (w : ℕ) (h : Happening) → m.MCount ≤ 7 → (step_of m w h).master.MCount ≤ 7
count_below m w h b =
    rw (count_by_rows m w h) (by_below (step_of m w h).arrival (count_after_row (step_of m w h).watchdog m.MCount) (by_below (step_of m w h).watchdog m.MCount b))

pub another : (n : ℕ) → count_after n ≡ n → ⊥
another n =
    cond_case (λ (k : ℕ). k ≡ n → ⊥) (eqb (n % 8 + 1) 8)
    (λ e k. omega (arith, eqb-true (n % 8 + 1) 8 e))
    (λ e k. omega arith)

pub never_0 : (n : ℕ) → eqb (count_after n) 0 ≡ false
never_0 n = ne_eqb (count_after n) 0 (cond_case (λ (k : ℕ). k ≡ 0 → ⊥) (eqb (n % 8 + 1) 8) (λ _ k. omega (arith, k)) (λ _ k. omega (arith, k)))

arrival_count : (m : Master) (faults : Bool) (n : ℕ) → count_after_row (Some (arrival_row m faults)) n ≡ count_after n
unfolding count_after_row
arrival_count m faults n =
    row_case (λ (r : Row). count_after_row (Some r) n ≡ count_after n) m faults (λ _ _. refl) (λ _ _. refl) (λ _ _ _. refl) (λ _ _. refl) (λ _ _ _. refl)

received_another : (m : Master) (r : Option Row) (at : ℕ) (f : Response) → is_admitted m f ≡ true → (received m r at f).master.MCount ≡ count_after m.MCount
unfolding received arrived
received_another m r at f t =
    rw t (arrived_count m f (arrival_row m (has_faults (is_failure (checked m f)) f)) at ∙ arrival_count m (has_faults (is_failure (checked m f)) f) m.MCount)

-- A response that is admitted is answered by another count, whether it passes or not; so no count sent has two that are admitted.
pub another_count : (m : Master) (w at : ℕ) (f : Response) → is_admitted (watched m w at) f ≡ true → (step_of m w (happening.Response at f)).master.MCount ≡ (watched m w at).MCount → ⊥
unfolding step_of
another_count m w at f t e =
    another (watched m w at).MCount (sym (received_another (watched m w at) (watchdog_row m w at) at f t) ∙ e)

-- R17b's invariants

pub watched_held : (m : Master) (w at : ℕ) → Held m → Held (watched m w at)
unfolding watched watched_by acted t8 t14
watched_held m w at h =
    timeout_case (λ (r : Option Row). Held (watched_by m r at)) m w at h
    (λ _. record { rests = refl; shown = refl; same = h.same; no_request = λ e. no e; no_edge = λ e. no e; safe = λ _. refl; requested = h.requested; sent = λ _. refl; set = λ _. refl })
    (λ _. record { rests = refl; shown = refl; same = refl; no_request = λ e. no e; no_edge = λ e. no e; safe = λ _. refl; requested = λ e. no (sym e); sent = λ _. refl; set = λ _. refl })

row_held : (m : Master) (f : Response) (at : ℕ) (faults : Bool) → Held m → Held (acted (admitted m f) (arrival_row m faults) at f.SDset)
unfolding acted admitted t4 t7 t11 t12 t13
row_held m f at faults h =
    row_case (λ (r : Row). Held (acted (admitted m f) r at f.SDset)) m faults
    (λ s _. record { rests = refl; shown = refl; same = h.same; no_request = λ _. h.no_request s; no_edge = λ _. h.no_edge s; safe = λ e. no (sym e); requested = h.requested; sent = λ e. no (sym e); set = λ e. or_second f.SDset m.setSD_C e })
    (λ _ _. record { rests = refl; shown = refl; same = h.same; no_request = λ e. no e; no_edge = λ e. no e; safe = λ _. refl; requested = h.requested; sent = λ _. refl; set = λ _. refl })
    (λ _ _ _. record { rests = refl; shown = refl; same = refl; no_request = λ _. refl; no_edge = λ _. refl; safe = λ e. no (sym e); requested = λ e. no (sym e); sent = λ e. no (sym e); set = λ e. or_second f.SDset m.setSD_C e })
    (λ _ _. record { rests = refl; shown = refl; same = refl; no_request = λ e. no e; no_edge = λ e. no e; safe = λ _. refl; requested = λ e. no (sym e); sent = λ _. refl; set = λ _. refl })
    (λ _ _ _. record { rests = refl; shown = refl; same = refl; no_request = λ e. no e; no_edge = λ e. no e; safe = λ _. refl; requested = λ _. refl; sent = λ _. refl; set = λ _. refl })

received_held : (m : Master) (r : Option Row) (at : ℕ) (f : Response) → Held m → Held (received m r at f).master
unfolding received arrived quiet
received_held m r at f h =
    cond_case (λ (o : Outcome). Held o.master) (is_admitted m f) (λ _. row_held m f at (has_faults (is_failure (checked m f)) f) h) (λ _. h)

signalled_held : (m : Master) (setSD_C ChFAck_C : Bool) → Held m → Held (signalled m setSD_C ChFAck_C)
unfolding signalled
signalled_held m setSD_C ChFAck_C h = record { rests = h.rests; shown = h.shown; same = h.same; no_request = h.no_request; no_edge = h.no_edge; safe = h.safe; requested = h.requested; sent = h.sent; set = h.set }

pub first_held : (at : ℕ) → Held (first_master at)
first_held at = record { rests = refl; shown = refl; same = refl; no_request = λ _. refl; no_edge = λ _. refl; safe = λ _. refl; requested = λ e. no (sym e); sent = λ _. refl; set = λ _. refl }

pub held : (m : Master) (w : ℕ) (h : Happening) → Held m → Held (step_of m w h).master
unfolding step_of clocked operated quiet
held m w (happening.Response at f) i = received_held (watched m w at) (watchdog_row m w at) at f (watched_held m w at i)
held m w (happening.Request at q) i = watched_held m w at i
held m w (happening.Clock at) i = watched_held m w at i
held m w (happening.Operator at setSD_C ChFAck_C) i = signalled_held (watched m w at) setSD_C ChFAck_C (watched_held m w at i)

pub always_held : (at w : ℕ) (past : List Happening) → Held (master_after at w past)
unfolding master_after
always_held at w [] = first_held at
always_held at w (h ∷ past) = held (master_after at w past) w h (always_held at w past)
