-- What the FS-Device reports in the SPDUs that it builds: errors, timeouts and safe values. Assumes nothing.
use Prim.Native.Nat.{ℕ, ◌≤◌}
use native.Mathlib.Omega.{arith}
use mathlib.Core.Path.{◌≡◌, refl, sym, ap, ◌∙◌}
use mathlib.Core.Bool.{Bool, true, false, cond, not, ◌&&◌, ◌||◌}
use mathlib.Core.List.{List, [], ◌∷◌}
use lib.Dec.{eqb}
use Rattle.scl.specs.Time.{expired_of}
use Rattle.scl.specs.Counts.{inverted}
use Rattle.scl.specs.Happenings.{reading_of}
use Rattle.scl.specs.declared.Happening.{Happening}
use Rattle.scl.proofs.Cases.{and_left, no}
use Rattle.fs_device.specs.declared.Device.{Device}
use Rattle.fs_device.specs.Table40.{admitted, t22, t25, t28, t29, t30t31}
use Rattle.fs_device.specs.Calls.{watched, step_of}
use Rattle.fs_device.specs.History.{device_after, times_out, errs_by, passes_by, had_timeout, cycles_since_timeout, has_admitted, last_admitted}
use Rattle.fs_device.proofs.Rows.{watched_case, call_case}
use Rattle.fs_device.proofs.Faults.{mirrored, last_admitted_lem}
use Rattle.fs_device.proofs.Watchdog.{timeout_after}
use Rattle.fs_device.proofs.Cycles.{timeout_shown}

-- ---- released: then nothing is wrong in what it builds

abbrev Sound : Device → Type 0
Sound d = d.released ≡ true → (d.SDset ≡ false) × ((d.DCommErr ≡ false) × ((d.DTimeout ≡ false) × (d.setSD_DC ≡ false)))

watched-sound : (d : Device) (w at : ℕ) → Sound d → Sound (watched d w at)
unfolding t30t31
watched-sound d w at h = watched_case d w at (λ _ n. Sound n) h (λ e. no (sym e)) (λ e. no (sym e))

-- T22: SDset, and setSD_DC, where it releases
neither : (counting set : Bool) → (not counting && not set) ≡ true → (counting ≡ false) × ((counting || set) ≡ false)
neither true set e = no (sym e)
neither false true e = no (sym e)
neither false false e = (refl, refl)

t22-sound : (d : Device) (at : ℕ) (setSD : Bool) → Sound (t22 d at setSD)
unfolding t22
t22-sound d at setSD e = let both = neither (not (eqb d.SDcycles 0)) setSD e in (both.0, (refl, (refl, both.1)))

step-sound : (d : Device) (w : ℕ) (h : Happening) → Sound d → Sound (step_of d w h).device
unfolding t25 t28 t29
step-sound d w h s =
    let j = watched d w (reading_of h) in
    call_case d w h (λ _ _ n. Sound n) (record {
      none = watched-sound d w (reading_of h) s;
      by22 = λ at q _. t22-sound (admitted j q) at q.setSD;
      by25 = λ _ _ _ e. no (sym e);
      by28 = λ _ _ _ _ e. no (sym e);
      by29 = λ _ _ _ _ e. no (sym e);
    })

-- While it releases, SDset, DCommErr, DTimeout and setSD_DC are 0.
pub released_sound : (at w : ℕ) (past : List Happening) → Sound (device_after at w past)
unfolding device_after
released_sound at w [] e = no (sym e)
released_sound at w (h ∷ past) e = step-sound (device_after at w past) w h (released_sound at w past) e

-- ---- it responds once an SPDU was admitted (R23: until then zeros are sent), with the mirror of the MCount last admitted (R21)

record Responds (d : Device) (has : Bool) : Type 0 where
  pub prepared : d.responded ≡ has
  pub timed : d.runs ≡ has

watched_responds : (at w : ℕ) (past : List Happening) (h : Happening) (has : Bool) → let d = device_after at w past in
    Responds d has → Responds (watched d w (reading_of h)) has
unfolding t30t31
watched_responds at w past h has k =
    let d = device_after at w past in
    timeout_after at w past h (λ out j. (out ≡ true → has ≡ true) → Responds j has)
    (λ _. k)
    (λ once. record { prepared = sym (once refl); timed = sym (once refl) })
    (λ out. sym k.timed ∙ and_left d.runs (expired_of (reading_of h) d.DTimer w) out)

admitted-one : (CommErr has : Bool) → true ≡ (CommErr || not CommErr || has)
admitted-one true has = refl
admitted-one false has = refl

step_responds : (d : Device) (w : ℕ) (h : Happening) (has : Bool) → let j = watched d w (reading_of h) in
    Responds j has → Responds (step_of d w h).device (errs_by j h || passes_by j h || has)
unfolding t22 t25 t28 t29
step_responds d w h has k =
    call_case d w h (λ e p n. Responds n (e || p || has)) (record {
      none = k;
      by22 = λ _ _ _. record { prepared = refl; timed = refl };
      by25 = λ _ _ _. record { prepared = refl; timed = refl };
      by28 = λ _ _ _ _. record { prepared = refl; timed = refl };
      by29 = λ _ _ CommErr _. record { prepared = admitted-one CommErr has; timed = admitted-one CommErr has };
    })

module _ (at w : ℕ) where
  responds : (past : List Happening) → Responds (device_after at w past) (has_admitted at w past)
  unfolding device_after has_admitted
  responds [] = record { prepared = refl; timed = refl }
  responds (h ∷ past) =
      step_responds (device_after at w past) w h (has_admitted at w past) (watched_responds at w past h (has_admitted at w past) (responds past))

  pub responds_once : (past : List Happening) → (device_after at w past).responded ≡ has_admitted at w past
  responds_once past = (responds past).prepared

  pub mirrors_last : (past : List Happening) → has_admitted at w past ≡ true → (device_after at w past).DCount_i ≡ inverted (last_admitted at w past)
  mirrors_last past has = mirrored at w past (responds_once past ∙ has) ∙ ap inverted (last_admitted_lem at w past)

-- ---- an error and a timeout are in the next SPDU that it builds

pub error_told : (d : Device) (w : ℕ) (h : Happening) → errs_by (watched d w (reading_of h)) h ≡ true → (step_of d w h).device.DCommErr ≡ true
unfolding t25 t29
error_told d w h =
    call_case d w h (λ e _ n. e ≡ true → n.DCommErr ≡ true) (record {
      none = λ e. no (sym e);
      by22 = λ _ _ _ e. no (sym e);
      by25 = λ _ _ _ _. refl;
      by28 = λ _ _ _ _ e. no (sym e);
      by29 = λ _ _ _ _ e. simp e;
    })

pub timeout_told : (at w : ℕ) (past : List Happening) (h : Happening) → times_out (device_after at w past) w (reading_of h) ≡ true → (device_after at w (h ∷ past)).DTimeout ≡ true
unfolding had_timeout cycles_since_timeout
timeout_told at w past h e =
    timeout_shown at w (h ∷ past) (rw e) (rw e (at_most (errs_by j h || passes_by j h)))
  where
    j : Device
    j = watched (device_after at w past) w (reading_of h)

    at_most : (admitted : Bool) → cond admitted 1 0 ≤ 1
    at_most true = omega arith
    at_most false = omega arith
