-- How long DCommErr and DTimeout are shown (000 Table 40, CommErrCount and TimeoutCount: "at least for 1 cycle or for a maximum of 2 cycles").
-- A cycle is an SPDU admitted. Assumes nothing.
use Prim.Native.Nat.{ℕ, ◌+◌, ◌≤◌, ◌<◌}
use native.Mathlib.Omega.{arith}
use mathlib.Core.Path.{◌≡◌, refl, sym, ◌∙◌}
use mathlib.Core.Bool.{Bool, true, false, cond, not, ◌||◌}
use mathlib.Core.List.{List, [], ◌∷◌}
use lib.Dec.{eqb}
use borrow.Author.Tests.{eqb-false}
use Rattle.scl.specs.Happenings.{reading_of}
use Rattle.scl.specs.declared.Happening.{Happening}
use Rattle.scl.specs.declared.Request.{Request}
use Rattle.scl.proofs.Cases.{no}
use Rattle.fs_device.specs.declared.Device.{Device}
use Rattle.fs_device.specs.Table40.{admitted, t22, t25, t28, t29, t30t31}
use Rattle.fs_device.specs.Calls.{watched, step_of}
use Rattle.fs_device.specs.History.{device_after, times_out, errs_by, passes_by, had_error, had_timeout, cycles_since_error, cycles_since_timeout}
use Rattle.fs_device.proofs.Rows.{call_case}
use Rattle.fs_device.proofs.Watchdog.{timeout_after}

-- a bit and its counter, n cycles after the last event, if there was one: the bit is shown for so many cycles at least, and for two at most
data Shown (least : ℕ) (d : Device) (bit : Bool) (count : ℕ) (had : Bool) (n : ℕ) : Type 0 where
  over : bit ≡ false → count ≡ 0 → (had ≡ true → least ≤ n) → Shown least d bit count had n
  first : bit ≡ true → count ≡ 1 → d.state ≡ 26 → d.SDcycles ≡ 3 → had ≡ true → n ≡ 0 → Shown least d bit count had n
  last : bit ≡ true → count ≡ 0 → d.state ≡ 26 → had ≡ true → n ≤ 1 → least ≤ n + 1 → Shown least d bit count had n

module _ {least : ℕ} {d : Device} {bit : Bool} {count : ℕ} {had : Bool} {n : ℕ} where
  -- T29 without an event: "if .. = 1 then .. = 1, .. = 0 else .. = 0"
  fades : (m : Device) → m.state ≡ 26 → least ≤ 2 → Shown least d bit count had n
      → Shown least m (eqb count 1) (cond (eqb count 1) 0 count) had (n + 1)
  fades m in26 two (over b c o) = over (rw c) (rw c) (λ e. omega (arith, o e))
  fades m in26 two (first b c s k h e) = last (rw c) (rw c) in26 h (omega arith) (omega arith)
  fades m in26 two (last b c s h e l) = over (rw c) (rw c) (λ _. l)

  -- T22, T28: the bit is 0
  cleared : (m : Device) → (d.state ≡ 26 → d.SDcycles ≡ 3 → ⊥) → Shown least d bit count had n → Shown least m false count had (n + 1)
  cleared m not_first (over b c o) = over refl c (λ e. omega (arith, o e))
  cleared m not_first (first b c s k h e) = absurd (not_first s k)
  cleared m not_first (last b c s h e l) = over refl c (λ _. l)

  -- T25, which is never in 26 and leaves DTimeout as it is: 0
  stays_over : (m : Device) → (d.state ≡ 26 → ⊥) → Shown least d bit count had n → Shown least m bit count had (n + 1)
  stays_over m not26 (over b c o) = over b c (λ e. omega (arith, o e))
  stays_over m not26 (first b c s k h e) = absurd (not26 s)
  stays_over m not26 (last b c s h e l) = absurd (not26 s)

  -- T30, T31, which leave DCommErr as it is
  stays : (m : Device) → m.state ≡ 26 → m.SDcycles ≡ 3 → Shown least d bit count had n → Shown least m bit count had n
  stays m in26 three (over b c o) = over b c o
  stays m in26 three (first b c s k h e) = first b c in26 three h e
  stays m in26 three (last b c s h e l) = last b c in26 h e l

  at_least : Shown least d bit count had n → had ≡ true → n < least → bit ≡ true
  at_least (over b c o) there few = absurd (omega (arith, o there))
  at_least (first b c s k h e) there few = b
  at_least (last b c s h e l) there few = b

  at_most : Shown least d bit count had n → bit ≡ true → (had ≡ true) × (n ≤ 1)
  at_most (over b c o) shown = no (sym shown ∙ b)
  at_most (first b c s k h e) shown = (h, omega arith)
  at_most (last b c s h e l) shown = (h, e)

-- ---- DCommErr: an error in T29 is shown for one cycle, and one in T25 for two (R20)

abbrev Errors : Device → Bool → ℕ → Type 0
Errors d had n = Shown 1 d d.DCommErr d.CommErrCount had n

t29_errors : (d : Device) (at : ℕ) (q : Request) (had : Bool) (n : ℕ) (CommErr : Bool) → Errors d had n
    → Errors (t29 (admitted d q) at CommErr) (CommErr || had) (cond CommErr 0 (cond (not CommErr) (n + 1) n))
unfolding admitted t29
t29_errors d at q had n true k = last refl refl refl refl (omega arith) (omega arith)
t29_errors d at q had n false k = fades (t29 (admitted d q) at false) refl (omega arith) k

step_errors : (d : Device) (w : ℕ) (h : Happening) (had : Bool) (n : ℕ) → let j = watched d w (reading_of h) in
    Errors j had n → Errors (step_of d w h).device (errs_by j h || had) (cond (errs_by j h) 0 (cond (passes_by j h) (n + 1) n))
unfolding admitted t22 t25 t28
step_errors d w h had n k =
    let j = watched d w (reading_of h) in
    call_case d w h (λ e p m. Errors m (e || had) (cond e 0 (cond p (n + 1) n))) (record {
      none = k;
      by22 = λ at q s. cleared (t22 (admitted j q) at q.setSD) (λ in26 _. eqb-false j.state 26 s in26) k;
      by25 = λ _ _ _. first refl refl refl refl refl refl;
      by28 = λ at q _ none. cleared (t28 (admitted j q) at) (λ _ three. omega (arith, none, three)) k;
      by29 = λ at q CommErr _. t29_errors j at q had n CommErr k;
    })

-- ---- DTimeout: a timeout is shown for two

abbrev Timeouts : Device → Bool → ℕ → Type 0
Timeouts d had n = Shown 2 d d.DTimeout d.TimeoutCount had n

t29_timeouts : (d : Device) (at : ℕ) (q : Request) (had : Bool) (n : ℕ) (CommErr : Bool) → Timeouts d had n
    → Timeouts (t29 (admitted d q) at CommErr) had (cond (CommErr || not CommErr) (n + 1) n)
unfolding admitted t29
t29_timeouts d at q had n true k = fades (t29 (admitted d q) at true) refl (omega arith) k
t29_timeouts d at q had n false k = fades (t29 (admitted d q) at false) refl (omega arith) k

step_timeouts : (d : Device) (w : ℕ) (h : Happening) (had : Bool) (n : ℕ) → let j = watched d w (reading_of h) in
    Timeouts j had n → Timeouts (step_of d w h).device had (cond (errs_by j h || passes_by j h) (n + 1) n)
unfolding admitted t22 t25 t28
step_timeouts d w h had n k =
    let j = watched d w (reading_of h) in
    call_case d w h (λ e p m. Timeouts m had (cond (e || p) (n + 1) n)) (record {
      none = k;
      by22 = λ at q s. cleared (t22 (admitted j q) at q.setSD) (λ in26 _. eqb-false j.state 26 s in26) k;
      by25 = λ at q s. stays_over (t25 (admitted j q) at) (eqb-false j.state 26 s) k;
      by28 = λ at q _ none. cleared (t28 (admitted j q) at) (λ _ three. omega (arith, none, three)) k;
      by29 = λ at q CommErr _. t29_timeouts j at q had n CommErr k;
    })

module _ (at w : ℕ) where
  errors : (past : List Happening) → Errors (device_after at w past) (had_error at w past) (cycles_since_error at w past)
  unfolding device_after had_error cycles_since_error t30t31
  errors [] = over refl refl (λ e. no (sym e))
  errors (h ∷ past) =
      let d = device_after at w past in
      let had = had_error at w past in
      let n = cycles_since_error at w past in
      step_errors d w h had n
      (timeout_after at w past h (λ _ j. Errors j had n) (errors past) (stays (t30t31 d (reading_of h)) refl refl (errors past)))

  timeouts : (past : List Happening) → Timeouts (device_after at w past) (had_timeout at w past) (cycles_since_timeout at w past)
  unfolding device_after had_timeout cycles_since_timeout t30t31
  timeouts [] = over refl refl (λ e. no (sym e))
  timeouts (h ∷ past) =
      let d = device_after at w past in
      let had = had_timeout at w past in
      let n = cycles_since_timeout at w past in
      let out = times_out d w (reading_of h) in
      step_timeouts d w h (out || had) (cond out 0 n)
      (timeout_after at w past h (λ out j. Timeouts j (out || had) (cond out 0 n)) (timeouts past) (first refl refl refl refl refl refl))

  -- DCommErr is 1 for one cycle at least,
  pub error_shown : (past : List Happening) → had_error at w past ≡ true → cycles_since_error at w past ≡ 0 → (device_after at w past).DCommErr ≡ true
  error_shown past had none = at_least (errors past) had (omega arith)

  -- and for two at most;
  pub error_over : (past : List Happening) → (device_after at w past).DCommErr ≡ true → (had_error at w past ≡ true) × (cycles_since_error at w past ≤ 1)
  error_over past e = at_most (errors past) e

  -- DTimeout for two,
  pub timeout_shown : (past : List Happening) → had_timeout at w past ≡ true → cycles_since_timeout at w past ≤ 1 → (device_after at w past).DTimeout ≡ true
  timeout_shown past had few = at_least (timeouts past) had (omega arith)

  -- and no longer.
  pub timeout_over : (past : List Happening) → (device_after at w past).DTimeout ≡ true → (had_timeout at w past ≡ true) × (cycles_since_timeout at w past ≤ 1)
  timeout_over past e = at_most (timeouts past) e
