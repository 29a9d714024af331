-- What the FS-Device makes of counts, of damaged SPDUs and of time. Assumes nothing.
use Prim.Native.Nat.{ℕ, ◌≤◌}
use mathlib.Core.Path.{◌≡◌, refl, sym, ap, ◌∙◌}
use mathlib.Core.Bool.{Bool, true, false, cond, not, ◌&&◌, ◌||◌}
use mathlib.Core.List.{List, [], ◌∷◌}
use mathlib.Core.Logic.{◌⊎◌, inl, inr}
use lib.Dec.{eqb}
use borrow.Author.Tests.{eqb-true, le-ltb, not-true}
use Rattle.std.specs.Prelude.{Option, None}
use Rattle.scl.specs.Time.{elapsed_of, expired_of}
use Rattle.scl.specs.Happenings.{reading_of, is_failure}
use Rattle.scl.specs.declared.Happening.{Happening}
use Rattle.scl.specs.declared.Happening.TheVariants as happening
use Rattle.scl.specs.declared.Check.{Check}
use Rattle.scl.specs.declared.Mark.TheVariants.{Safe}
use Rattle.scl.proofs.Cases.{cond_case, no}
use Rattle.scl.proofs.Checks.{failed}
use Rattle.scl.specs.declared.Request.{Request}
use Rattle.fs_device.specs.declared.Device.{Device}
use Rattle.fs_device.specs.declared.Outcome.{Outcome}
use Rattle.fs_device.specs.declared.Row.{Row}
use Rattle.fs_device.specs.Table40.{timeout_row, watchdog_row, is_old, is_admitted, count_holds, checked, arrival_row, admitted, t22, t25, t28, t29, t30t31, acted}
use Rattle.fs_device.specs.Calls.{watched, watched_by, quiet, arrived, received, clocked, step_of, unchanged}
use Rattle.fs_device.proofs.Rows.{watched_case, row_case, call_case}
use Rattle.fs_device.specs.History.{device_after, Mirrors, admitted_by, last_admitted, asked_by, last_asked, waits, sound}

-- Time

stays : (runs expired : Bool) (r : Option Row) → expired ≡ false → cond (runs && expired) r None ≡ None
stays true expired r e = simp e
stays false expired r e = refl

-- With elapsed at most W no watchdog row acts.
pub in_time : (d : Device) (w at : ℕ) → elapsed_of at d.DTimer ≤ w → watchdog_row d w at ≡ None
unfolding watchdog_row
in_time d w at h = stays d.runs (expired_of at d.DTimer w) (timeout_row d.state) (le-ltb w (elapsed_of at d.DTimer) h)

pub in_time_watched : (d : Device) (w at : ℕ) → elapsed_of at d.DTimer ≤ w → watched d w at ≡ d
unfolding watched watched_by
in_time_watched d w at h = rw (in_time d w at h)

watched-unchanged : (d : Device) (w at : ℕ) → not (d.runs && expired_of at d.DTimer w) ≡ true → watched d w at ≡ d
unfolding watched watched_by watchdog_row
watched-unchanged d w at e = rw (not-true (d.runs && expired_of at d.DTimer w) e)

-- Where no SPDU came for it and its watchdog is not over, the device is as it was.
pub unchanged_same : (d : Device) (w : ℕ) (h : Happening) → unchanged d w h ≡ true → (step_of d w h).device ≡ d
unfolding unchanged step_of clocked quiet
unchanged_same d w (happening.Request at q) e = no (cc)
unchanged_same d w (happening.Response at f) e = watched-unchanged d w at e
unchanged_same d w (happening.Clock at) e = watched-unchanged d w at e
unchanged_same d w (happening.Operator at setSD_C ChFAck_C) e = watched-unchanged d w at e

-- Counts

watched_mirrors : (d : Device) (w at : ℕ) → Mirrors d → Mirrors (watched d w at)
unfolding t30t31
watched_mirrors d w at h = watched_case d w at (λ _ e. Mirrors e) h (λ _. refl) (λ _. refl)

step_mirrors : (d : Device) (w : ℕ) (h : Happening) → Mirrors d → Mirrors (step_of d w h).device
unfolding t22 t25 t28 t29
step_mirrors d w h m =
    call_case d w h (λ _ _ n. Mirrors n) (record {
      none = watched_mirrors d w (reading_of h) m;
      by22 = λ _ _ _ _. refl;
      by25 = λ _ _ _ _. refl;
      by28 = λ _ _ _ _ _. refl;
      by29 = λ _ _ _ _ _. refl;
    })

-- DCount_i mirrors the last MCount admitted, once there is a response,
pub mirrored : (at w : ℕ) (past : List Happening) → Mirrors (device_after at w past)
unfolding device_after
mirrored at w [] = λ e. no (cc)
mirrored at w (h ∷ past) = step_mirrors (device_after at w past) w h (mirrored at w past)

-- of the last SPDU admitted the device keeps MCount and ChFAckReq
record Keeps (d : Device) (count : ℕ) (asked : Bool) : Type 0 where
  pub counted : d.MCount ≡ count
  pub asks : d.ChFAckReq_DC ≡ asked

watched_keeps : (d : Device) (w at n : ℕ) (asked : Bool) → Keeps d n asked → Keeps (watched d w at) n asked
unfolding t30t31
watched_keeps d w at n asked k = watched_case d w at (λ _ j. Keeps j n asked) k late late
  where
    late : Keeps (t30t31 d at) n asked
    late = record { counted = k.counted; asks = k.asks }

received_keeps : (d : Device) (r : Option Row) (at n : ℕ) (q : Request) (asked : Bool) → Keeps d n asked
    → Keeps (received d r at q).device (cond (is_admitted d q) q.MCount n) (cond (is_admitted d q) q.ChFAckReq asked)
unfolding received arrived quiet t22 t25 t28 t29 admitted
received_keeps d r at n q asked k = go (is_admitted d q)
  where
    go : (t : Bool) → Keeps (cond t (arrived d r at q (checked d q)) (quiet d r (is_old d q))).device (cond t q.MCount n) (cond t q.ChFAckReq asked)
    go true =
        row_case d at q (λ _ _ j. Keeps j q.MCount q.ChFAckReq) (is_failure (checked d q))
        (λ _. record { counted = refl; asks = refl })
        (λ _. record { counted = refl; asks = refl })
        (λ _ _. record { counted = refl; asks = refl })
        (λ _. record { counted = refl; asks = refl })
    go false = k

step_keeps : (d : Device) (w n : ℕ) (asked : Bool) (h : Happening) → Keeps d n asked → let j = watched d w (reading_of h) in
    Keeps (step_of d w h).device (admitted_by j h n) (asked_by j h asked)
unfolding step_of clocked quiet admitted_by asked_by
step_keeps d w n asked (happening.Request at q) k = received_keeps (watched d w at) (watchdog_row d w at) at n q asked (watched_keeps d w at n asked k)
step_keeps d w n asked (happening.Response at f) k = watched_keeps d w at n asked k
step_keeps d w n asked (happening.Clock at) k = watched_keeps d w at n asked k
step_keeps d w n asked (happening.Operator at setSD_C ChFAck_C) k = watched_keeps d w at n asked k

pub step_count : (d : Device) (w n : ℕ) (h : Happening) → d.MCount ≡ n → (step_of d w h).device.MCount ≡ admitted_by (watched d w (reading_of h)) h n
step_count d w n h e = (step_keeps d w n d.ChFAckReq_DC h (record { counted = e; asks = refl })).counted

keeps : (at w : ℕ) (past : List Happening) → Keeps (device_after at w past) (last_admitted at w past) (last_asked at w past)
unfolding device_after last_admitted last_asked
keeps at w [] = record { counted = refl; asks = refl }
keeps at w (h ∷ past) = step_keeps (device_after at w past) w (last_admitted at w past) (last_asked at w past) h (keeps at w past)

-- which is that of the last SPDU admitted;
pub last_admitted_lem : (at w : ℕ) (past : List Happening) → (device_after at w past).MCount ≡ last_admitted at w past
last_admitted_lem at w past = (keeps at w past).counted

-- and ChFAckReq_DC is its ChFAckReq, also where it failed a check (R22a).
pub asks_last : (at w : ℕ) (past : List Happening) → (device_after at w past).ChFAckReq_DC ≡ last_asked at w past
asks_last at w past = (keeps at w past).asks

-- Damage

watched-waits : (d : Device) (w at : ℕ) → waits d ≡ true → waits (watched d w at) ≡ true
unfolding t30t31
watched-waits d w at h = watched_case d w at (λ _ e. waits e ≡ true) h refl refl

-- The FS-Device rests in 21, 24 or 26, from a block on.
waiting : (d : Device) (w : ℕ) (h : Happening) → waits d ≡ true → waits (step_of d w h).device ≡ true
unfolding t22 t25 t28 t29
waiting d w h e =
    call_case d w h (λ _ _ n. waits n ≡ true) (record {
      none = watched-waits d w (reading_of h) e;
      by22 = λ _ _ _. refl;
      by25 = λ _ _ _. refl;
      by28 = λ _ _ _ _. refl;
      by29 = λ _ _ _ _. refl;
    })

pub waits_always : (at w : ℕ) (past : List Happening) → waits (device_after at w past) ≡ true
unfolding device_after
waits_always at w [] = refl
waits_always at w (h ∷ past) = waiting (device_after at w past) w h (waits_always at w past)

-- which SPDU is admitted: in 21, and in 24 and 26
in21 : (zero same : Bool) → (not zero && true && not (not zero && false && same)) ≡ not zero
in21 true same = refl
in21 false same = refl

later : (zero same : Bool) → (not zero && true && not (not zero && true && same)) ≡ (not zero && not same)
later true same = refl
later false same = refl

rests : (d : Device) → waits d ≡ true → eqb d.state 21 ≡ false → (d.state ≡ 24) ⊎ (d.state ≡ 26)
rests d wait e = go (eqb d.state 24) (eqb d.state 26) refl refl
  where
    go : (in24 in26 : Bool) → eqb d.state 24 ≡ in24 → eqb d.state 26 ≡ in26 → (d.state ≡ 24) ⊎ (d.state ≡ 26)
    go true in26 a b = inl (eqb-true d.state 24 a)
    go false true a b = inr (eqb-true d.state 26 b)
    go false false a b = no (sym (simp (e, a, b) at wait))

module _ (at w : ℕ) (past : List Happening) (reading : ℕ) (q : Request) where
  abbrev here : Device
  here = watched (device_after at w past) w reading

  -- In 21 every SPDU is admitted that is not all zero (R12, T21);
  pub admitted_in_21 : here.state ≡ 21 → is_admitted here q ≡ not q.all_zero
  unfolding is_admitted
  admitted_in_21 s = rw s (in21 q.all_zero (eqb q.MCount here.MCount))

  -- in 24 and 26, each that does not carry the MCount of the last admitted either (R18, T24, T27).
  pub admitted-later : eqb here.state 21 ≡ false → is_admitted here q ≡ (not q.all_zero && not (eqb q.MCount (last_admitted at w past)))
  unfolding is_admitted
  admitted-later e =
      rw (← (watched_keeps (device_after at w past) w reading (last_admitted at w past) (last_asked at w past) (keeps at w past)).counted)
      (go (rests here (watched-waits (device_after at w past) w reading (waits_always at w past)) e))
    where
      go : (here.state ≡ 24) ⊎ (here.state ≡ 26) → is_admitted here q ≡ (not q.all_zero && not (eqb q.MCount here.MCount))
      go (inl s) = rw s (later q.all_zero (eqb q.MCount here.MCount))
      go (inr s) = rw s (later q.all_zero (eqb q.MCount here.MCount))

admitted_there : (zero old wait : Bool) → wait ≡ true → zero ≡ false → old ≡ false → (not zero && wait && not old) ≡ true
admitted_there zero old wait a b c = simp (a, b, c)

-- In a wait, every SPDU is admitted that is neither all zero nor old.
admitted_unless : (d : Device) (q : Request) → waits d ≡ true → q.all_zero ≡ false → is_old d q ≡ false → is_admitted d q ≡ true
unfolding is_admitted
admitted_unless d q h z o = admitted_there q.all_zero (is_old d q) (waits d) h z o

-- not released, and safe values handed on
abbrev Safely : Outcome → Type 0
Safely o = (o.mark ≡ Safe) × (o.device.released ≡ false)

error_safe : (d : Device) (at : ℕ) (q : Request) → (acted (admitted d q) (arrival_row d true) at q.setSD true).released ≡ false
unfolding arrival_row acted t25 t29
error_safe d at q = cond_case (λ (r : Row). (acted (admitted d q) r at q.setSD true).released ≡ false) (eqb d.state 26) (λ _. refl) (λ _. refl)

arrived-safe : (d : Device) (r : Option Row) (at : ℕ) (q : Request) (failed : Option Check) → is_failure failed ≡ true → Safely (arrived d r at q failed)
unfolding arrived
arrived-safe d r at q failed e = rw e (simp (error_safe d at q), error_safe d at q)

received-safe : (d : Device) (r : Option Row) (at : ℕ) (q : Request) → is_admitted d q ≡ true → sound d q ≡ false → Safely (received d r at q)
unfolding received checked
received-safe d r at q t s = rw t (arrived-safe d r at q (checked d q) (failed q.signature_holds q.port_holds (count_holds d q) ∙ ap not s))

-- A damaged, misaddressed or miscounted SPDU leads to safe values in that call, unless it is all zero or old;
pub damaged_safe : (d : Device) (w at : ℕ) (q : Request) → waits d ≡ true → q.all_zero ≡ false → is_old (watched d w at) q ≡ false → sound (watched d w at) q ≡ false → Safely (step_of d w (happening.Request at q))
unfolding step_of
damaged_safe d w at q h z o s =
    received-safe (watched d w at) (watchdog_row d w at) at q (admitted_unless (watched d w at) q (watched-waits d w at h) z o) s

not-admitted : (zero old wait : Bool) → (zero || old) ≡ true → (not zero && wait && not old) ≡ false
not-admitted true old wait e = refl
not-admitted false true true e = refl
not-admitted false true false e = refl
not-admitted false false wait e = no (cc)

quiet-device : (d : Device) (r : Option Row) (at : ℕ) (q : Request) → (q.all_zero || is_old d q) ≡ true → (received d r at q).device ≡ d
unfolding received is_admitted quiet
quiet-device d r at q e = rw (not-admitted q.all_zero (is_old d q) (waits d) e)

-- and then nothing but the watchdog acts.
pub discarded : (d : Device) (w at : ℕ) (q : Request) → (q.all_zero || is_old (watched d w at) q) ≡ true → (step_of d w (happening.Request at q)).device ≡ watched d w at
unfolding step_of
discarded d w at q e = quiet-device (watched d w at) (watchdog_row d w at) at q e
