-- Release ends at W, at either end: a machine whose rows restart its timer. Assumes nothing.
use Rattle.std.proofs.Common.{◌≡◌, ℕ, ◌^◌, ◌<◌, ◌≤◌, Bool, true, false, cond, ◌||◌, ltb, ◌⊎◌, List, [], ◌∷◌, sym, refl, ap, ◌∙◌, inl, inr, arith, ltb-false, ltb-true}
use Rattle.scl.specs.Time.{elapsed_of}
use Rattle.scl.specs.Happenings.{reading_of}
use Rattle.scl.specs.Delayed.{OnClock, none, more}
use Rattle.scl.specs.Readings.{last_reading}
use Rattle.scl.specs.declared.Happening.{Happening}
use Rattle.scl.proofs.Cases.{no, cond_case}
use Rattle.scl.proofs.Time.{forward}

-- the machine after what happened since a block, its timer, and whether the arrival's row and the watchdog's act in a call
module _ {M : Type 0} (after : List Happening → M) (runs released : M → Bool) (timer : M → ℕ) (arrives watches : M → Happening → Bool) (at w : ℕ) where
  abbrev acts : M → Happening → Bool
  acts m h = arrives m h || watches m h

  -- where a call leaves values released, its SPDU was admitted; or no row acted and they were released before
  abbrev Still : M → Happening → Type 0
  Still m h = (arrives m h ≡ true) ⊎ ((arrives m h ≡ false) × ((watches m h ≡ false) × (released m ≡ true)))

  pub record Watched : Type 0 where
    pub first_reads : timer (after []) ≡ at
    pub first-silent : released (after []) ≡ false
    -- a row that acts restarts the timer, and it runs from then; without one it stays
    pub reads : (past : List Happening) (h : Happening) → timer (after (h ∷ past)) ≡ cond (acts (after past) h) (reading_of h) (timer (after past))
    pub runs_is : (past : List Happening) (h : Happening) → runs (after (h ∷ past)) ≡ cond (acts (after past) h) true (runs (after past))
    pub still : (past : List Happening) (h : Happening) → released (after (h ∷ past)) ≡ true → Still (after past) h
    -- a call that finds it running with elapsed above W leaves nothing released
    pub late : (past : List Happening) (h : Happening) → runs (after past) ≡ true → w < elapsed_of (reading_of h) (timer (after past)) → released (after (h ∷ past)) ≡ false

  module _ (r : Watched) where
    pub timer_reads : (past : List Happening) → timer (after past) ≡ last_reading after acts at past
    unfolding last_reading
    timer_reads [] = r.first_reads
    timer_reads (h ∷ past) = r.reads past h ∙ ap (λ (t : ℕ). cond (acts (after past) h) (reading_of h) t) (timer_reads past)

    released_runs : (past : List Happening) → released (after past) ≡ true → runs (after past) ≡ true
    released_runs [] e = no (sym e ∙ r.first-silent)
    released_runs (h ∷ past) e = go (released_runs past) (r.still past h e)
      where
        go : (released (after past) ≡ true → runs (after past) ≡ true) → Still (after past) h → runs (after (h ∷ past)) ≡ true
        go before (inl a) = r.runs_is past h ∙ simp a
        go before (inr n) = r.runs_is past h ∙ simp (n.0, n.1.0) (before n.1.1)

    released_last : (past : List Happening) → released (after past) ≡ true → last_reading after acts at past ≡ last_reading after arrives at past
    unfolding last_reading
    released_last [] e = refl
    released_last (h ∷ past) e = go (released_last past) (r.still past h e)
      where
        go : (released (after past) ≡ true → last_reading after acts at past ≡ last_reading after arrives at past) → Still (after past) h
            → last_reading after acts at (h ∷ past) ≡ last_reading after arrives at (h ∷ past)
        go before (inl a) = simp a
        go before (inr n) = simp (n.0, n.1.0) (before n.1.1)

    not_late : (past : List Happening) (h : Happening) → runs (after past) ≡ true → released (after (h ∷ past)) ≡ true → elapsed_of (reading_of h) (timer (after past)) ≤ w
    not_late past h running e = go (ltb w elapsed) refl
      where
        elapsed : ℕ
        elapsed = elapsed_of (reading_of h) (timer (after past))

        go : (b : Bool) → ltb w elapsed ≡ b → elapsed ≤ w
        go true over = no (sym e ∙ r.late past h running (ltb-true w elapsed over))
        go false over = ltb-false w elapsed over

    -- After no call is a value released whose last SPDU lies more than W back.
    pub released_in_time : (past : List Happening) (h : Happening) → reading_of h < 2 ^ 32 → released (after (h ∷ past)) ≡ true
        → elapsed_of (reading_of h) (last_reading after arrives at (h ∷ past)) ≤ w
    unfolding last_reading
    released_in_time past h small e = go (r.still past h e)
      where
        go : Still (after past) h → elapsed_of (reading_of h) (last_reading after arrives at (h ∷ past)) ≤ w
        go (inl a) = simp a (rw (forward (reading_of h) (reading_of h) small (omega arith)) (omega arith))
        go (inr n) =
            simp n.0
            (rw (sym (released_last past n.1.1), sym (timer_reads past)) (not_late past h (released_runs past n.1.1) e))

-- readings of 32 bits, and the last of them
module _ {M : Type 0} (after : List Happening → M) (test : M → Happening → Bool) (at : ℕ) (fits : at < 2 ^ 32) where
  pub last_fits : {past : List Happening} → OnClock past → last_reading after test at past < 2 ^ 32
  unfolding last_reading
  last_fits none = fits
  last_fits (more {h} {past} r rest) = cond_case (λ (n : ℕ). n < 2 ^ 32) (test (after past) h) (λ _. r) (λ _. last_fits rest)
