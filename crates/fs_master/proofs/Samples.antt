-- What a sample rests on, call by call: the start that is kept, the response that passes, and the previous SPDU. Assumes nothing.
use Prim.Native.Nat.{ℕ}
use mathlib.Core.Path.{◌≡◌, refl, sym}
use mathlib.Core.Bool.{Bool, true, false, cond, ◌&&◌}
use lib.Dec.{eqb}
use borrow.Author.Tests.{eq-eqb}
use Rattle.std.specs.Prelude.{Option}
use Rattle.scl.specs.Counts.{inverted}
use Rattle.scl.specs.Happenings.{reading_of, is_failure}
use Rattle.scl.specs.declared.Happening.{Happening}
use Rattle.scl.specs.declared.Happening.TheVariants as happening
use Rattle.scl.proofs.Cases.{cond_case}
use Rattle.scl.proofs.Checks.{passed}
use Rattle.scl.specs.declared.Response.{Response}
use Rattle.fs_master.specs.declared.Master.{Master}
use Rattle.fs_master.specs.declared.Outcome.{Outcome}
use Rattle.fs_master.specs.declared.Row.{Row}
use Rattle.fs_master.specs.declared.Row.TheVariants.{T4, T7, T8, T11, T12, T13, T14}
use Rattle.fs_master.specs.Table38.{watchdog_row, is_old, is_admitted, has_faults, checked, is_expected, arrival_row, admitted, start_from, t4, t7, t8, t11, t12, t13, t14, acted, signalled}
use Rattle.fs_master.specs.Calls.{watched, quiet, arrived, received, clocked, operated, step_of}
use Rattle.fs_master.proofs.Rows.{watched_case}
use Rattle.fs_master.specs.History.{sound, passes_by}

-- ---- the start

-- it is kept while the count is the same, and is the call's reading where the count takes another value
abbrev start_after : Master → ℕ → ℕ → ℕ
start_after m count at = cond (eqb count m.MCount) m.start at

stays : (m : Master) (at : ℕ) → m.start ≡ start_after m m.MCount at
stays m at = simp (eq-eqb m.MCount m.MCount refl)

acted-start : (m : Master) (r : Row) (at : ℕ) (SDset : Bool) → (acted m r at SDset).start ≡ start_after m (acted m r at SDset).MCount at
unfolding acted start_from t4 t7 t8 t11 t12 t13 t14
acted-start m T4 at SDset = refl
acted-start m T7 at SDset = refl
acted-start m T8 at SDset = refl
acted-start m T11 at SDset = refl
acted-start m T12 at SDset = refl
acted-start m T13 at SDset = refl
acted-start m T14 at SDset = refl

pub watched-start : (m : Master) (w at : ℕ) → (watched m w at).start ≡ start_after m (watched m w at).MCount at
watched-start m w at = watched_case (λ (n : Master). n.start ≡ start_after m n.MCount at) m w at (stays m at) (λ r. acted-start m r at false)

arrived-start : (m : Master) (f : Response) (r : Row) (at : ℕ) → (acted (admitted m f) r at f.SDset).start ≡ start_after m (acted (admitted m f) r at f.SDset).MCount at
unfolding admitted
arrived-start m f r at = acted-start (admitted m f) r at f.SDset

received-start : (m : Master) (r : Option Row) (at : ℕ) (f : Response) → (received m r at f).master.start ≡ start_after m (received m r at f).master.MCount at
unfolding received arrived quiet
received-start m r at f =
    cond_case (λ (o : Outcome). o.master.start ≡ start_after m o.master.MCount at) (is_admitted m f) {x = arrived m r at f (checked m f)} {y = quiet m r (is_old m f)}
    (λ _. arrived-start m f (arrival_row m (has_faults (is_failure (checked m f)) f)) at)
    (λ _. stays m at)

pub step_start : (m : Master) (w : ℕ) (h : Happening) → (step_of m w h).master.start ≡ start_after (watched m w (reading_of h)) (step_of m w h).master.MCount (reading_of h)
unfolding step_of clocked operated quiet signalled
step_start m w (happening.Response at f) = received-start (watched m w at) (watchdog_row m w at) at f
step_start m w (happening.Request at q) = stays (watched m w at) at
step_start m w (happening.Clock at) = stays (watched m w at) at
step_start m w (happening.Operator at setSD_C ChFAck_C) = stays (watched m w at) at

-- ---- the start that a response's time runs from: the one that is kept once the watchdog has been looked at

received-sent : (m : Master) (r : Option Row) (at : ℕ) (f : Response) → (received m r at f).sent ≡ m.start
unfolding received arrived quiet
received-sent m r at f = cond_case (λ (o : Outcome). o.sent ≡ m.start) (is_admitted m f) (λ _. refl) (λ _. refl)

pub step_of-sent : (m : Master) (w : ℕ) (h : Happening) → (step_of m w h).sent ≡ (watched m w (reading_of h)).start
unfolding step_of clocked operated quiet signalled
step_of-sent m w (happening.Response at f) = received-sent (watched m w at) (watchdog_row m w at) at f
step_of-sent m w (happening.Request at q) = refl
step_of-sent m w (happening.Clock at) = refl
step_of-sent m w (happening.Operator at setSD_C ChFAck_C) = refl

-- ---- the watchdog's row

pub received_watchdog : (m : Master) (r : Option Row) (at : ℕ) (f : Response) → (received m r at f).watchdog ≡ r
unfolding received arrived quiet
received_watchdog m r at f = cond_case (λ (o : Outcome). o.watchdog ≡ r) (is_admitted m f) (λ _. refl) (λ _. refl)

pub step_watchdog : (m : Master) (w : ℕ) (h : Happening) → (step_of m w h).watchdog ≡ watchdog_row m w (reading_of h)
unfolding step_of clocked operated quiet
step_watchdog m w (happening.Response at f) = received_watchdog (watched m w at) (watchdog_row m w at) at f
step_watchdog m w (happening.Request at q) = refl
step_watchdog m w (happening.Clock at) = refl
step_watchdog m w (happening.Operator at setSD_C ChFAck_C) = refl

-- ---- what passes

received_passed : (m : Master) (r : Option Row) (at : ℕ) (f : Response) → (received m r at f).passed ≡ (is_admitted m f && sound m f)
unfolding received arrived quiet checked
received_passed m r at f = go (is_admitted m f)
  where
    go : (b : Bool) → (cond b (arrived m r at f (checked m f)) (quiet m r (is_old m f))).passed ≡ (b && sound m f)
    go true = passed f.signature_holds f.port_holds (is_expected m f)
    go false = refl

pub step_passed : (m : Master) (w at : ℕ) (f : Response) → (step_of m w (happening.Response at f)).passed ≡ (is_admitted (watched m w at) f && sound (watched m w at) f)
unfolding step_of
step_passed m w at f = received_passed (watched m w at) (watchdog_row m w at) at f

pub passes_as : (m : Master) (w : ℕ) (h : Happening) → passes_by (watched m w (reading_of h)) h ≡ (step_of m w h).passed
unfolding passes_by step_of clocked operated quiet
passes_as m w (happening.Response at f) = sym (step_passed m w at f)
passes_as m w (happening.Request at q) = refl
passes_as m w (happening.Clock at) = refl
passes_as m w (happening.Operator at setSD_C ChFAck_C) = refl

-- ---- the previous SPDU

-- kept of it: whether there was one, the DCount_i that it carried and the one awaited
pub record Kept (previous : Bool) (carried awaited : ℕ) (m : Master) : Type 0 where
  pub previous_is : m.previous ≡ previous
  pub carried_is : m.carried ≡ carried
  pub awaited_is : m.awaited ≡ awaited

acted_kept : (m : Master) (r : Row) (at : ℕ) (SDset : Bool) {previous : Bool} {carried awaited : ℕ} → Kept previous carried awaited m → Kept previous carried awaited (acted m r at SDset)
unfolding acted t4 t7 t8 t11 t12 t13 t14
acted_kept m T4 at SDset k = record { previous_is = k.previous_is; carried_is = k.carried_is; awaited_is = k.awaited_is }
acted_kept m T7 at SDset k = record { previous_is = k.previous_is; carried_is = k.carried_is; awaited_is = k.awaited_is }
acted_kept m T8 at SDset k = record { previous_is = k.previous_is; carried_is = k.carried_is; awaited_is = k.awaited_is }
acted_kept m T11 at SDset k = record { previous_is = k.previous_is; carried_is = k.carried_is; awaited_is = k.awaited_is }
acted_kept m T12 at SDset k = record { previous_is = k.previous_is; carried_is = k.carried_is; awaited_is = k.awaited_is }
acted_kept m T13 at SDset k = record { previous_is = k.previous_is; carried_is = k.carried_is; awaited_is = k.awaited_is }
acted_kept m T14 at SDset k = record { previous_is = k.previous_is; carried_is = k.carried_is; awaited_is = k.awaited_is }

-- the watchdog leaves it
pub watched_kept : (m : Master) (w at : ℕ) {previous : Bool} {carried awaited : ℕ} → Kept previous carried awaited m → Kept previous carried awaited (watched m w at)
watched_kept m w at {previous} {carried} {awaited} k = watched_case (Kept previous carried awaited) m w at k (λ r. acted_kept m r at false k)

received_kept : (m : Master) (r : Option Row) (at : ℕ) (f : Response) {previous : Bool} {carried awaited : ℕ} → Kept previous carried awaited m → Kept (cond (is_admitted m f) true previous) (cond (is_admitted m f) f.DCount_i carried) (cond (is_admitted m f) (inverted m.MCount) awaited) (received m r at f).master
unfolding received arrived quiet admitted
received_kept m r at f {previous} {carried} {awaited} k = go (is_admitted m f)
  where
    go : (b : Bool) → Kept (cond b true previous) (cond b f.DCount_i carried) (cond b (inverted m.MCount) awaited) (cond b (arrived m r at f (checked m f)) (quiet m r (is_old m f))).master
    go true = acted_kept (admitted m f) (arrival_row m (has_faults (is_failure (checked m f)) f)) at f.SDset (record { previous_is = refl; carried_is = refl; awaited_is = refl })
    go false = k

-- a response that is admitted is the previous SPDU from then on; nothing else is
pub response_kept : (m : Master) (w at : ℕ) (f : Response) {previous : Bool} {carried awaited : ℕ} → Kept previous carried awaited m → Kept (cond (is_admitted (watched m w at) f) true previous) (cond (is_admitted (watched m w at) f) f.DCount_i carried) (cond (is_admitted (watched m w at) f) (inverted (watched m w at).MCount) awaited) (step_of m w (happening.Response at f)).master
unfolding step_of
response_kept m w at f k = received_kept (watched m w at) (watchdog_row m w at) at f (watched_kept m w at k)
