-- The bins of a port hold exactly the samples that 01 counts since its last accepted block. Assumes nothing.
use Prim.Native.Nat.{ℕ}
use mathlib.Core.Path.{◌≡◌, refl, sym, ap, ◌∙◌}
use mathlib.Core.Bool.{Bool, true, false, not, ◌&&◌, ◌||◌}
use mathlib.Core.List.{List, [], ◌∷◌}
use mathlib.Core.Logic.{◌⊎◌, inl, inr}
use lib.Dec.{eqb, leb}
use borrow.Author.Tests.{eqb-true, eq-eqb}
use Rattle.std.specs.Prelude.{Option}
use Rattle.scl.specs.Time.{elapsed_of}
use Rattle.scl.specs.Counts.{inverted}
use Rattle.scl.specs.Happenings.{reading_of, is_failure, mark_of, is_fresh}
use Rattle.scl.specs.declared.Happening.{Happening}
use Rattle.scl.specs.declared.Happening.TheVariants as happening
use Rattle.scl.specs.declared.Mark.{Mark}
use Rattle.scl.specs.declared.Mark.TheVariants.{Fresh, GoesOn, Safe, Nothing}
use Rattle.scl.specs.declared.Response.{Response}
use Rattle.scl.proofs.Cases.{cond_case, no, and_left, or_second}
use Rattle.fs_master.specs.declared.Master.{Master}
use Rattle.fs_master.specs.declared.Outcome.{Outcome}
use Rattle.fs_master.specs.declared.Row.{Row}
use Rattle.fs_master.specs.Table38.{watchdog_row, is_old, is_admitted, has_faults, checked, arrival_row, admitted, t4, t7, t11, t12, t13, acted, signalled}
use Rattle.fs_master.specs.Calls.{watched, quiet, arrived, received, clocked, operated, step_of}
use Rattle.fs_master.specs.History.{FreshBy, sound, master_after, watched_in, passes_by, Signals, HasSignals, fault, None, last_admitted_at, Previous, last_admitted, is_old_after}
use Rattle.fs_master.proofs.Rows.{row_case}
use Rattle.fs_master.proofs.Counts.{another_count}
use Rattle.fs_master.proofs.Samples.{watched-start, step_start, step_of-sent}
use Rattle.fs_master.proofs.Signals.{watched-signals, signals_hold}
use Rattle.fs_master.proofs.Release.{fresh_only, fresh_passes, fresh_releases}
use Rattle.fs_master.proofs.Acknowledge.{acknowledged}
use Rattle.fs_master.proofs.Faults.{not-all-zero}
use Rattle.fs_master.proofs.Fresh.{fresh_not_old, fresh_since}
use Rattle.samples.specs.Samples.{uses_PDin, releases_by, while_same, sent_since, passed_for_count, time_of, is_sample}

-- ---- what releases, as the FS-Master's outcome says it

is_fresh_lem : (x : Mark) → is_fresh x ≡ true → x ≡ Fresh
is_fresh_lem Fresh e = refl
is_fresh_lem GoesOn e = no (sym e)
is_fresh_lem Safe e = no (sym e)
is_fresh_lem Nothing e = no (sym e)

fresh_as : (released : Bool) → released ≡ is_fresh (mark_of true released)
fresh_as true = refl
fresh_as false = refl

none_as : (released : Bool) → false ≡ is_fresh (mark_of false released)
none_as true = refl
none_as false = refl

row_releases : (m : Master) (f : Response) (at : ℕ) (faults : Bool)
    → uses_PDin (arrival_row m faults) f.SDset m.setSD_C ≡ is_fresh (mark_of true (acted (admitted m f) (arrival_row m faults) at f.SDset).released)
unfolding acted admitted t4 t7 t11 t12 t13
row_releases m f at faults =
    row_case (λ (r : Row). uses_PDin r f.SDset m.setSD_C ≡ is_fresh (mark_of true (acted (admitted m f) r at f.SDset).released)) m faults
    (λ _ _. fresh_as (not (f.SDset || m.setSD_C))) (λ _ _. refl) (λ _ _ _. fresh_as (not (f.SDset || m.setSD_C))) (λ _ _. refl) (λ _ _ _. refl)

received_releases : (m : Master) (r : Option Row) (at : ℕ) (f : Response) → releases_by (received m r at f).arrival m.setSD_C (happening.Response at f) ≡ is_fresh (received m r at f).mark
unfolding releases_by received arrived quiet
received_releases m r at f =
    cond_case (λ (o : Outcome). releases_by o.arrival m.setSD_C (happening.Response at f) ≡ is_fresh o.mark) (is_admitted m f) {x = arrived m r at f (checked m f)} {y = quiet m r (is_old m f)}
    (λ _. row_releases m f at (has_faults (is_failure (checked m f)) f))
    (λ _. none_as m.released)

step_releases : (m : Master) (w : ℕ) (h : Happening) {s : Signals} → HasSignals s m → releases_by (step_of m w h).arrival s.setSD_C h ≡ is_fresh (step_of m w h).mark
unfolding releases_by step_of clocked operated quiet signalled
step_releases m w (happening.Response at f) k = rw (sym (watched-signals m w at k).0) (received_releases (watched m w at) (watchdog_row m w at) at f)
step_releases m w (happening.Request at q) k = none_as (watched m w at).released
step_releases m w (happening.Clock at) k = none_as (watched m w at).released
step_releases m w (happening.Operator at setSD_C ChFAck_C) k = none_as (watched m w at).released

module _ (at w : ℕ) where
  -- ---- the stored start is the reading of the last call since the block in which MCount took another value, or the block's
  pub start_is : (past : List Happening) → (master_after at w past).start ≡ sent_since at w past
  unfolding master_after sent_since watched_in
  start_is [] = refl
  start_is (h ∷ past) =
      step_start (master_after at w past) w h
      ∙ ap (λ (s : ℕ). while_same (watched_in at w past h).MCount (master_after at w (h ∷ past)).MCount s (reading_of h))
      (watched-start (master_after at w past) w (reading_of h)
      ∙ ap (λ (s : ℕ). while_same (master_after at w past).MCount (watched_in at w past h).MCount s (reading_of h)) (start_is past))

  -- ---- no count that is sent now has been answered: a response that passes is followed by another count
  passes_no : (m : Master) (h : Happening) → (step_of m w h).master.MCount ≡ (watched m w (reading_of h)).MCount → passes_by (watched m w (reading_of h)) h ≡ false
  unfolding passes_by
  passes_no m (happening.Response at f) e = go (is_admitted (watched m w at) f && sound (watched m w at) f) refl
    where
      go : (b : Bool) → (is_admitted (watched m w at) f && sound (watched m w at) f) ≡ b → b ≡ false
      go true z = absurd (another_count m w at f (and_left (is_admitted (watched m w at) f) (sound (watched m w at) f) z) e)
      go false z = refl
  passes_no m (happening.Request at q) e = refl
  passes_no m (happening.Clock at) e = refl
  passes_no m (happening.Operator at setSD_C ChFAck_C) e = refl

  both_no : (a b : Bool) → a ≡ false → b ≡ false → (a || b) ≡ false
  both_no true b e f = e
  both_no false b e f = f

  kept_no : (before later : ℕ) (b : Bool) → b ≡ false → while_same before later b false ≡ false
  kept_no before later b e = cond_case (λ (z : Bool). z ≡ false) (eqb later before) (λ _. e) (λ _. refl)

  pub not-answered : (past : List Happening) → passed_for_count at w past ≡ false
  unfolding passed_for_count master_after watched_in
  not-answered [] = refl
  not-answered (h ∷ past) =
      cond_case (λ (z : Bool). z ≡ false) (eqb (master_after at w (h ∷ past)).MCount (watched_in at w past h).MCount)
      (λ e. both_no (passes_by (watched_in at w past h) h) (while_same (master_after at w past).MCount (watched_in at w past h).MCount (passed_for_count at w past) false) (passes_no (master_after at w past) h (eqb-true (master_after at w (h ∷ past)).MCount (watched_in at w past h).MCount e)) (kept_no (master_after at w past).MCount (watched_in at w past h).MCount (passed_for_count at w past) (not-answered past)))
      (λ _. refl)

  -- ---- the time of a response
  pub time_is : (past : List Happening) (h : Happening) → elapsed_of (reading_of h) (watched (master_after at w past) w (reading_of h)).start ≡ time_of at w past h
  unfolding time_of watched_in
  time_is past h =
      let m = master_after at w past in
      ap (elapsed_of (reading_of h))
      (watched-start m w (reading_of h)
      ∙ ap (λ (s : ℕ). while_same m.MCount (watched_in at w past h).MCount s (reading_of h)) (start_is past))

  pub time_by : (past : List Happening) (h : Happening) → time_of at w past h ≡ elapsed_of (reading_of h) (step_of (master_after at w past) w h).sent
  time_by past h = sym (ap (elapsed_of (reading_of h)) (step_of-sent (master_after at w past) w h) ∙ time_is past h)

  -- ---- a sample: its call hands on fresh octets, and t is at most W. That it passes, and is the first for its count, is in that.
  sample_by : (c : Bool) {p b r x : Bool} → (x ≡ true → p ≡ true) → b ≡ false → r ≡ x → (p && not b && r && c) ≡ (x && c)
  sample_by c {p} {x = x} e f g = rw (f, g) (go p x e)
    where
      go : (p x : Bool) → (x ≡ true → p ≡ true) → (p && true && x && c) ≡ (x && c)
      go true x e = refl
      go false true e = no (sym (e refl))
      go false false e = refl

  pub sample_is : (past : List Happening) (h : Happening) → is_sample at w past h ≡ (is_fresh (step_of (master_after at w past) w h).mark && leb (time_of at w past h) w)
  unfolding is_sample watched_in
  sample_is past h =
      let m = master_after at w past in
      sample_by (leb (time_of at w past h) w) (λ e. fresh_passes m w h (fresh_only m w h (is_fresh_lem (step_of m w h).mark e)))
      (kept_no m.MCount (watched_in at w past h).MCount (passed_for_count at w past) (not-answered past)) (step_releases m w h (signals_hold at w past))

  pub sample_fresh : (past : List Happening) (h : Happening) → is_sample at w past h ≡ true → (step_of (master_after at w past) w h).mark ≡ Fresh
  sample_fresh past h e =
      let mark = (step_of (master_after at w past) w h).mark in
      is_fresh_lem mark (and_left (is_fresh mark) (leb (time_of at w past h) w) (sym (sample_is past h) ∙ e))

  -- Its time runs from the reading of the call that admitted the response before it, or from the block: never from a watchdog's row.
  pub sample_since : (past : List Happening) (h : Happening) → is_sample at w past h ≡ true → time_of at w past h ≡ elapsed_of (reading_of h) (last_admitted_at at w past)
  sample_since past h e = time_by past h ∙ ap (elapsed_of (reading_of h)) (fresh_since at w past h (sample_fresh past h e))

  -- No fault is open after its call: of a port that is late nothing counts before it is acknowledged.
  pub sample_acknowledged : (past : List Happening) (h : Happening) → is_sample at w past h ≡ true → fault at w (h ∷ past) ≡ None
  unfolding master_after
  sample_acknowledged past h e =
      acknowledged at w (h ∷ past) (fresh_releases (master_after at w past) w h (sample_fresh past h e))

  -- ---- "A repeated response isn't a second sample": one with the count that the last one admitted carried, or that was awaited of it. What R14's
  -- exception admits though it is old leads to no release (Q2.2).
  old-again : (r : Previous) (f : Response) → r.previous ≡ true → f.all_zero ≡ false
      → (f.DCount_i ≡ r.carried) ⊎ (f.DCount_i ≡ inverted r.MCount) → is_old_after r f ≡ true
  unfolding is_old_after
  old-again r f p z (inl e) = simp (p, z, eq-eqb f.DCount_i r.carried e)
  old-again r f p z (inr e) = simp (p, z, eq-eqb f.DCount_i (inverted r.MCount) e) (or_second (eqb f.DCount_i r.carried) true refl)

  pub repeated : (past : List Happening) (reading : ℕ) (f : Response) → let last = last_admitted at w past in
      last.previous ≡ true → (f.DCount_i ≡ last.carried) ⊎ (f.DCount_i ≡ inverted last.MCount) → is_sample at w past (happening.Response reading f) ≡ false
  unfolding FreshBy
  repeated past reading f p e = go (is_sample at w past h) refl
    where
      h : Happening
      h = happening.Response reading f

      go : (b : Bool) → is_sample at w past h ≡ b → b ≡ false
      go true s =
          let fresh = sample_fresh past h s in
          let m = master_after at w past in
          let not_zero = not-all-zero (watched m w reading) f (fresh_only m w h fresh).0.admitted in
          no (sym (old-again (last_admitted at w past) f p not_zero e) ∙ fresh_not_old at w past reading f fresh)
      go false s = refl
