-- What a response that leads to a release answers: the count that was sent when the last one was admitted, or the block's; and it is not old.
-- Assumes nothing.
use Prim.Native.Nat.{ℕ}
use mathlib.Core.Path.{◌≡◌, refl, sym, ◌∙◌}
use mathlib.Core.Bool.{Bool, true, false, cond, not, ◌&&◌, ◌||◌}
use mathlib.Core.List.{List, [], ◌∷◌}
use lib.Dec.{eqb}
use borrow.Author.Tests.{ne_eqb}
use Rattle.std.specs.Prelude.{Option, Some}
use Rattle.scl.specs.Counts.{count_after}
use Rattle.scl.specs.Happenings.{reading_of, is_failure}
use Rattle.scl.specs.Readings.{last_reading}
use Rattle.scl.specs.declared.Happening.{Happening}
use Rattle.scl.specs.declared.Happening.TheVariants as happening
use Rattle.scl.specs.declared.Mark.TheVariants.{Fresh}
use Rattle.scl.specs.declared.Response.{Response}
use Rattle.scl.proofs.Cases.{cond_case, no, and_left, and_right}
use Rattle.fs_master.specs.declared.Master.{Master}
use Rattle.fs_master.specs.declared.Outcome.{Outcome}
use Rattle.fs_master.specs.declared.Row.{Row}
use Rattle.fs_master.specs.Table38.{watchdog_row, is_old, is_expected, is_admitted, has_faults, checked, arrival_row, admitted, start_from, t4, t7, t8, t11, t12, t13, t14, acted, signalled}
use Rattle.fs_master.specs.Calls.{watched, watched_by, quiet, arrived, received, clocked, operated, step_of}
use Rattle.fs_master.specs.History.{Releases, FreshBy, master_after, watched_in, Held, acts, arrives, last_admitted_at, last_admitted, is_old_after}
use Rattle.fs_master.proofs.Rows.{timeout_case, row_case}
use Rattle.fs_master.proofs.Counts.{another, never_0, watched_held, always_held}
use Rattle.fs_master.proofs.Samples.{step_of-sent}
use Rattle.fs_master.proofs.Release.{fresh_only}
use Rattle.fs_master.proofs.Admitted.{old_is}

-- ---- Where an edge of ChFAck_C has been seen, and everywhere but in 7, the count was sent when the last response was admitted: a watchdog's row
-- leaves 7 with no edge seen.
abbrev Since : Master → ℕ → Type 0
Since m s = (eqb m.state 7 && not m.ChFAck_C_e) ≡ false → m.start ≡ s

watched_since : (m : Master) (w at : ℕ) {s : ℕ} → Held m → Since m s → Since (watched m w at) s
unfolding watched watched_by acted t8 t14
watched_since m w at {s} h k =
    timeout_case (λ (r : Option Row). Since (watched_by m r at) s) m w at k (λ not7 e. no (rw (h.no_edge not7) at e)) (λ _ e. no e)

sends_anew : (m : Master) (at : ℕ) → start_from m (count_after m.MCount) at ≡ at
unfolding start_from
sends_anew m at = simp (ne_eqb (count_after m.MCount) m.MCount (another m.MCount))

arrived_since : (m : Master) (r : Option Row) (at : ℕ) (f : Response) (s : ℕ) → let o = arrived m r at f (checked m f) in Since o.master (cond (acts o.arrival) at s)
unfolding arrived acted admitted t4 t7 t11 t12 t13
arrived_since m r at f s =
    row_case (λ (x : Row). Since (acted (admitted m f) x at f.SDset) (cond (acts (Some x)) at s)) m (has_faults (is_failure (checked m f)) f)
    (λ _ _ _. sends_anew (admitted m f) at)
    (λ _ _ _. sends_anew (admitted m f) at)
    (λ _ _ _ _. sends_anew (admitted m f) at)
    (λ _ _ _. sends_anew (admitted m f) at)
    (λ _ _ _ _. sends_anew (admitted m f) at)

received_since : (m : Master) (r : Option Row) (at : ℕ) (f : Response) {s : ℕ} → Since m s → let o = received m r at f in Since o.master (cond (acts o.arrival) at s)
unfolding received quiet
received_since m r at f {s} k =
    cond_case (λ (o : Outcome). Since o.master (cond (acts o.arrival) at s)) (is_admitted m f) {x = arrived m r at f (checked m f)} {y = quiet m r (is_old m f)}
    (λ _. arrived_since m r at f s)
    (λ _. k)

step_since : (m : Master) (w : ℕ) (h : Happening) {s : ℕ} → Held m → Since m s → Since (step_of m w h).master (cond (arrives w m h) (reading_of h) s)
unfolding step_of clocked operated quiet signalled
step_since m w (happening.Response at f) i k = received_since (watched m w at) (watchdog_row m w at) at f (watched_since m w at i k)
step_since m w (happening.Request at q) i k = watched_since m w at i k
step_since m w (happening.Clock at) i k = watched_since m w at i k
step_since m w (happening.Operator at setSD_C ChFAck_C) i k = watched_since m w at i k

-- ---- Nothing was admitted in 2; and where MCount is 0 in 7, after T8 or T14, no edge has been seen.
record Begins (m : Master) : Type 0 where
  pub first : eqb m.state 2 ≡ true → m.previous ≡ false
  pub again : eqb m.state 7 ≡ true → eqb m.MCount 0 ≡ true → m.ChFAck_C_e ≡ false

watched_begins : (m : Master) (w at : ℕ) → Held m → Begins m → Begins (watched m w at)
unfolding watched watched_by acted t8 t14
watched_begins m w at h b =
    timeout_case (λ (r : Option Row). Begins (watched_by m r at)) m w at b
    (λ not7. record { first = λ e. no (sym e); again = λ _ _. h.no_edge not7 })
    (λ _. record { first = λ e. no (sym e); again = λ _ _. refl })

arrived_begins : (m : Master) (f : Response) (at : ℕ) (faults : Bool) → Held m → Begins (acted (admitted m f) (arrival_row m faults) at f.SDset)
unfolding acted admitted t4 t7 t11 t12 t13
arrived_begins m f at faults h =
    row_case (λ (r : Row). Begins (acted (admitted m f) r at f.SDset)) m faults
    (λ _ _. record { first = λ e. no (sym e); again = λ e _. no (sym e) })
    (λ not7 _. record { first = λ e. no (sym e); again = λ _ _. h.no_edge not7 })
    (λ _ _ _. record { first = λ e. no (sym e); again = λ e _. no (sym e) })
    (λ _ _. record { first = λ e. no (sym e); again = λ _ _. refl })
    (λ _ _ _. record { first = λ e. no (sym e); again = λ _ e. no (sym e ∙ never_0 m.MCount) })

received_begins : (m : Master) (r : Option Row) (at : ℕ) (f : Response) → Held m → Begins m → Begins (received m r at f).master
unfolding received arrived quiet
received_begins m r at f h b =
    cond_case (λ (o : Outcome). Begins o.master) (is_admitted m f) (λ _. arrived_begins m f at (has_faults (is_failure (checked m f)) f) h) (λ _. b)

step_begins : (m : Master) (w : ℕ) (h : Happening) → Held m → Begins m → Begins (step_of m w h).master
unfolding step_of clocked operated quiet signalled
step_begins m w (happening.Response at f) i b =
    received_begins (watched m w at) (watchdog_row m w at) at f (watched_held m w at i) (watched_begins m w at i b)
step_begins m w (happening.Request at q) i b = watched_begins m w at i b
step_begins m w (happening.Clock at) i b = watched_begins m w at i b
step_begins m w (happening.Operator at setSD_C ChFAck_C) i b =
    let j = watched_begins m w at i b in record { first = j.first; again = j.again }

-- ---- So a response that is released is not old,

-- an old one that is admitted came in 7 with MCount 0
admitted-old : (zero previous in2 in5 in7 restarted expected : Bool) → (in2 ≡ true → previous ≡ false) → previous ≡ true
    → (not zero && (in2 && expected || in5 && false || in7 && (false || restarted && expected))) ≡ true → (in7 && restarted) ≡ true
admitted-old true previous in2 in5 in7 restarted expected first p e = no (sym e)
admitted-old false previous true in5 in7 restarted expected first p e = no (sym p ∙ first refl)
admitted-old false previous false true true true expected first p e = refl
admitted-old false previous false false true true expected first p e = refl
admitted-old false previous false true true false expected first p e = no (sym e)
admitted-old false previous false false true false expected first p e = no (sym e)
admitted-old false previous false true false restarted expected first p e = no (sym e)
admitted-old false previous false false false restarted expected first p e = no (sym e)

old_previous : (m : Master) (f : Response) → is_old m f ≡ true → m.previous ≡ true
unfolding is_old
old_previous m f e =
    let again = eqb f.DCount_i m.carried || eqb f.DCount_i m.awaited in
    and_right (not f.all_zero) m.previous (and_left (not f.all_zero && m.previous) again e)

released_not_old : (m : Master) (f : Response) → Begins m → Releases m f → is_old m f ≡ false
unfolding is_admitted
released_not_old m f b r = go (is_old m f) refl
  where
    go : (old : Bool) → is_old m f ≡ old → old ≡ false
    go true e =
        let in7 = eqb m.state 7 in
        let restarted = eqb m.MCount 0 in
        let both = admitted-old f.all_zero m.previous (eqb m.state 2) (eqb m.state 5) in7 restarted (is_expected m f) b.first (old_previous m f e) (rw e at r.admitted) in
        let there = and_left in7 restarted both in
        no (sym (and_right m.ChFAck_C m.ChFAck_C_e (r.acknowledged there)) ∙ b.again there (and_right in7 restarted both))
    go false e = refl

edge_seen : (m : Master) (f : Response) → Releases m f → (eqb m.state 7 && not m.ChFAck_C_e) ≡ false
edge_seen m f r = go (eqb m.state 7) refl
  where
    go : (in7 : Bool) → eqb m.state 7 ≡ in7 → (in7 && not m.ChFAck_C_e) ≡ false
    go true e = simp (and_right m.ChFAck_C m.ChFAck_C_e (r.acknowledged e))
    go false e = refl

module _ (at w : ℕ) where
  begins : (past : List Happening) → Begins (master_after at w past)
  unfolding master_after
  begins [] = record { first = λ _. refl; again = λ e _. no (sym e) }
  begins (h ∷ past) = step_begins (master_after at w past) w h (always_held at w past) (begins past)

  since : (past : List Happening) → Since (master_after at w past) (last_admitted_at at w past)
  unfolding master_after last_reading
  since [] e = refl
  since (h ∷ past) e = step_since (master_after at w past) w h (always_held at w past) (since past) e

  -- by the last one admitted (Q2.2);
  pub fresh_not_old : (past : List Happening) (reading : ℕ) (f : Response) → (step_of (master_after at w past) w (happening.Response reading f)).mark ≡ Fresh → is_old_after (last_admitted at w past) f ≡ false
  unfolding FreshBy watched_in
  fresh_not_old past reading f e =
      let m = master_after at w past in
      let h = happening.Response reading f in
      sym (old_is at w past h f) ∙ released_not_old (watched m w reading) f (watched_begins m w reading (always_held at w past) (begins past)) (fresh_only m w h e).0

  released_since : (past : List Happening) (h : Happening) → FreshBy (master_after at w past) w h → (watched (master_after at w past) w (reading_of h)).start ≡ last_admitted_at at w past
  unfolding FreshBy
  released_since past (happening.Response reading f) c =
      let m = master_after at w past in
      watched_since m w reading (always_held at w past) (since past) (edge_seen (watched m w reading) f c.0)
  released_since past (happening.Request reading q) c = absurd c
  released_since past (happening.Clock reading) c = absurd c
  released_since past (happening.Operator reading setSD_C ChFAck_C) c = absurd c

  -- and the time that it took runs from the reading of the call that admitted the last one, or the block's (Q2.3).
  pub fresh_since : (past : List Happening) (h : Happening) → (step_of (master_after at w past) w h).mark ≡ Fresh → (step_of (master_after at w past) w h).sent ≡ last_admitted_at at w past
  fresh_since past h e = let m = master_after at w past in step_of-sent m w h ∙ released_since past h (fresh_only m w h e)
