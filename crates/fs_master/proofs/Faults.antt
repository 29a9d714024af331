-- What the FS-Master makes of responses with FAULTS, and of those that it does not admit. Assumes nothing.
use Prim.Native.Nat.{ℕ}
use mathlib.Core.Path.{◌≡◌, refl, sym, ◌∙◌}
use mathlib.Core.Bool.{Bool, true, false}
use Rattle.std.specs.Prelude.{Option}
use Rattle.scl.specs.Happenings.{is_failure}
use Rattle.scl.specs.declared.Happening.TheVariants as happening
use Rattle.scl.specs.declared.Mark.TheVariants.{Safe}
use Rattle.scl.specs.declared.Response.{Response}
use Rattle.scl.proofs.Cases.{no}
use Rattle.scl.proofs.Checks.{failed}
use Rattle.fs_master.specs.declared.Master.{Master}
use Rattle.fs_master.specs.declared.Outcome.{Outcome}
use Rattle.fs_master.specs.declared.Row.{Row}
use Rattle.fs_master.specs.Table38.{watchdog_row, is_expected, is_admitted, has_faults, checked, arrival_row, admitted, t7, t12, acted}
use Rattle.fs_master.specs.Calls.{watched, quiet, arrived, received, step_of}
use Rattle.fs_master.specs.History.{is_faulty}
use Rattle.fs_master.proofs.Rows.{row_case}

-- FAULTS of a response, as the table's guard has them
pub faulty_is : (m : Master) (f : Response) → is_faulty m f ≡ has_faults (is_failure (checked m f)) f
unfolding checked
faulty_is m f = rw (failed f.signature_holds f.port_holds (is_expected m f))

-- not released, and safe values handed on
abbrev Safely : Outcome → Type 0
Safely o = (o.mark ≡ Safe) × (o.master.released ≡ false)

fault-safe : (m : Master) (f : Response) (at : ℕ) → (acted (admitted m f) (arrival_row m true) at f.SDset).released ≡ false
unfolding acted t7 t12
fault-safe m f at =
    row_case (λ (r : Row). (acted (admitted m f) r at f.SDset).released ≡ false) m true (λ _ e. no e) (λ _ _. refl) (λ _ e _. no e) (λ _ _. refl) (λ _ e _. no e)

received-safe : (m : Master) (r : Option Row) (at : ℕ) (f : Response) → is_admitted m f ≡ true → is_faulty m f ≡ true → Safely (received m r at f)
unfolding received arrived
received-safe m r at f t s = rw (t, sym (faulty_is m f) ∙ s) (simp (fault-safe m f at), fault-safe m f at)

-- A response with FAULTS that is admitted, damaged, misaddressed or miscounted, or one that reports an error or a timeout, leads to safe values in that call,
pub faulty_safe : (m : Master) (w at : ℕ) (f : Response) → is_admitted (watched m w at) f ≡ true → is_faulty (watched m w at) f ≡ true → Safely (step_of m w (happening.Response at f))
unfolding step_of
faulty_safe m w at f t s = received-safe (watched m w at) (watchdog_row m w at) at f t s

-- and where it is not admitted, nothing but the watchdog acts.
pub discarded : (m : Master) (w at : ℕ) (f : Response) → is_admitted (watched m w at) f ≡ false → (step_of m w (happening.Response at f)).master ≡ watched m w at
unfolding step_of received quiet
discarded m w at f e = rw e

pub all_zero_lem : (m : Master) (f : Response) → f.all_zero ≡ true → is_admitted m f ≡ false
unfolding is_admitted
all_zero_lem m f z = simp z

pub not-all-zero : (m : Master) (f : Response) → is_admitted m f ≡ true → f.all_zero ≡ false
not-all-zero m f e = go f.all_zero refl
  where
    go : (zero : Bool) → f.all_zero ≡ zero → zero ≡ false
    go true z = no (sym e ∙ all_zero_lem m f z)
    go false z = refl
