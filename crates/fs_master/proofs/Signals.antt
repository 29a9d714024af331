-- 01: "Operator signals hold until the next operator happening, and are both off after an accepted block." Assumes nothing.
use Prim.Native.Nat.{ℕ}
use mathlib.Core.Path.{refl}
use mathlib.Core.Bool.{Bool, false}
use mathlib.Core.List.{List, [], ◌∷◌}
use Rattle.std.specs.Prelude.{Option}
use Rattle.scl.specs.Happenings.{is_failure}
use Rattle.scl.specs.declared.Happening.{Happening}
use Rattle.scl.specs.declared.Happening.TheVariants as happening
use Rattle.scl.specs.declared.Response.{Response}
use Rattle.scl.proofs.Cases.{cond_case}
use Rattle.fs_master.specs.declared.Master.{Master}
use Rattle.fs_master.specs.declared.Outcome.{Outcome}
use Rattle.fs_master.specs.declared.Row.{Row}
use Rattle.fs_master.specs.declared.Row.TheVariants.{T4, T7, T8, T11, T12, T13, T14}
use Rattle.fs_master.specs.Table38.{watchdog_row, is_admitted, has_faults, checked, arrival_row, admitted, t4, t7, t8, t11, t12, t13, t14, acted, signalled}
use Rattle.fs_master.specs.Calls.{watched, quiet, arrived, received, clocked, operated, step_of}
use Rattle.fs_master.proofs.Rows.{watched_case}
use Rattle.fs_master.specs.History.{master_after, Signals, signals_after, signals, HasSignals}

-- no row sets them
acted-signals : (m : Master) (r : Row) (at : ℕ) (SDset : Bool) {s : Signals} → HasSignals s m → HasSignals s (acted m r at SDset)
unfolding acted t4 t7 t8 t11 t12 t13 t14
acted-signals m T4 at SDset h = h
acted-signals m T7 at SDset h = h
acted-signals m T8 at SDset h = h
acted-signals m T11 at SDset h = h
acted-signals m T12 at SDset h = h
acted-signals m T13 at SDset h = h
acted-signals m T14 at SDset h = h

pub watched-signals : (m : Master) (w at : ℕ) {s : Signals} → HasSignals s m → HasSignals s (watched m w at)
watched-signals m w at {s} h = watched_case (HasSignals s) m w at h (λ r. acted-signals m r at false h)

received-signals : (m : Master) (r : Option Row) (at : ℕ) (f : Response) {s : Signals} → HasSignals s m → HasSignals s (received m r at f).master
unfolding received arrived quiet admitted
received-signals m r at f {s} h =
    cond_case (λ (o : Outcome). HasSignals s o.master) (is_admitted m f)
    (λ _. acted-signals (admitted m f) (arrival_row m (has_faults (is_failure (checked m f)) f)) at f.SDset h)
    (λ _. h)

step-signals : (m : Master) (w : ℕ) (h : Happening) {s : Signals} → HasSignals s m → HasSignals (signals_after h s) (step_of m w h).master
unfolding step_of clocked operated quiet signalled signals_after
step-signals m w (happening.Response at f) k = received-signals (watched m w at) (watchdog_row m w at) at f (watched-signals m w at k)
step-signals m w (happening.Request at q) k = watched-signals m w at k
step-signals m w (happening.Clock at) k = watched-signals m w at k
step-signals m w (happening.Operator at setSD_C ChFAck_C) k = (refl, refl)

-- What the FS-Master holds of them is what they are.
pub signals_hold : (at w : ℕ) (past : List Happening) → HasSignals (signals past) (master_after at w past)
unfolding master_after signals
signals_hold at w [] = (refl, refl)
signals_hold at w (h ∷ past) = step-signals (master_after at w past) w h (signals_hold at w past)
