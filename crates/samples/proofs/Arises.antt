-- A worked course of responses after a block, computed: which of them are samples, and of what time. Assumes nothing.
use Prim.Native.Nat.{ℕ}
use native.Mathlib.Omega.{arith}
use mathlib.Core.Path.{◌≡◌, refl}
use mathlib.Core.Bool.{Bool, true, false, not, ◌&&◌}
use mathlib.Core.List.{List, [], ◌∷◌, map}
use mathlib.Core.Logic.{inl, inr}
use lib.Dec.{leb}
use lib.ListN.{drop}
use Rattle.scl.specs.Time.{elapsed_of}
use Rattle.scl.specs.Delayed.{delayed_past, OnClock, none, more}
use Rattle.scl.specs.declared.Happening.{Happening}
use Rattle.scl.specs.declared.Happening.TheVariants as happening
use Rattle.scl.specs.declared.Mark.TheVariants.{Fresh}
use Rattle.scl.specs.declared.Response.{Response}
use Rattle.fs_master.specs.Table38.{watchdog_row, is_old, is_admitted, checked, from8, arrival_row, admitted, start_from, t4, t8, t11, t12, t13, t14, acted, signalled}
use Rattle.fs_master.specs.Calls.{watched, watched_by, quiet, arrived, received, clocked, operated, step_of}
use Rattle.fs_master.specs.History.{master_after, watched_in, passes_by, signals, signals_after, previous_by, last_admitted, last_admitted_at, fault, None, Asked, answered_by, admitted_by, faulty_by}
use Rattle.samples.specs.Samples.{releases_by, sent_since, passed_for_count, time_of, is_sample, samples}
use Rattle.samples.proofs.Samples.{sample_fresh, sample_since, sample_acknowledged, repeated}
use Rattle.samples.proofs.Wrap.{delayed_samples}

-- a response of this DCount_i, with this SDset, whose signature holds or not
abbrev response : ℕ → Bool → Bool → Response
response count SDset signature = record {
  length = 5;
  DCount_i = count;
  SDset = SDset;
  DCommErr = false;
  DTimeout = false;
  port_holds = true;
  signature_holds = signature;
  all_zero = false;
  unused = 0;
}

abbrev answers : ℕ → ℕ → Happening
answers at count = happening.Response at (response count false true)

-- a call, the time since the count was sent that it answers, whether 01 alone would count it, "in any state", and whether it is a sample
pub record Line : Type 0 where
  happens : Happening
  t : ℕ
  by_01 : Bool
  sample : Bool

abbrev line : Happening → ℕ → Bool → Bool → Line
line h t by_01 sample = record { happens = h; t = t; by_01 = by_01; sample = sample }

abbrev happenings : List Line → List Happening
happenings lines = map (λ l. l.happens) lines

-- 01's sentence without 02's: it passes, is not old (R14a), and t is at most W; each count sent has at most one that passes
abbrev by01 : ℕ → ℕ → List Happening → Happening → Bool
by01 at w past h = let o = step_of (master_after at w past) w h in o.passed && not o.old && leb (time_of at w past h) w

pub seen : ℕ → List Happening → List Line
seen at [] = []
seen at (h ∷ past) = line h (time_of at 100 past h) (by01 at 100 past h) (is_sample at 100 past h) ∷ seen at past

-- ---- The block's reading; W is 100, and the clock wraps before the second response.
abbrev block : ℕ
block = 4294967200

-- the latest first
abbrev table : List Line
table =
    line (answers 620 1) 10 true true
    -- SDset, then setSD_C: T4 with safe values
    ∷ line (happening.Response 610 (response 2 true true)) 10 true false
    ∷ line (happening.Operator 605 false false) 5 false false
    ∷ line (answers 600 3) 10 true false
    ∷ line (happening.Operator 595 true false) 5 false false
    -- T11: acknowledged
    ∷ line (answers 590 4) 10 true true
    ∷ line (happening.Operator 585 false true) 5 false false
    -- T13, as those at 330, 450 and 565: acknowledgement is awaited
    ∷ line (answers 580 5) 10 true false
    -- damaged
    ∷ line (happening.Response 570 (response 6 false false)) 5 false false
    -- admitted, as MCount is 0 again, and passes; but 7 was the last one's count too
    ∷ line (answers 565 7) 5 false false
    ∷ line (happening.Clock 560) 0 false false
    -- the watchdog sends 0 in this very call, and the answer to an earlier 0 passes (R17)
    ∷ line (answers 450 7) 0 true false
    ∷ line (answers 330 6) 10 true false
    -- above W since T8: T14 left MCount at 0
    ∷ line (answers 320 7) 114 false false
    ∷ line (happening.Clock 310) 104 false false
    ∷ line (happening.Clock 206) 0 false false
    -- W itself is in time
    ∷ line (answers 105 6) 100 true true
    -- the same once more
    ∷ line (answers 5 7) 0 false false
    -- T4 releases it, but above W after the block
    ∷ line (answers 5 7) 101 false false
    -- not expected
    ∷ line (answers 4294967250 3) 50 false false
    ∷ []

abbrev course : List Happening
course = happenings table

pub course_arises : (seen block course ≡ table) × (samples block 100 course ≡ 100 ∷ 10 ∷ 10 ∷ [])
unfolding seen samples is_sample releases_by time_of sent_since passed_for_count master_after watched_in passes_by signals signals_after step_of clocked operated quiet received arrived watched watched_by acted t4 t8 t11 t12 t13 t14 signalled admitted is_old is_admitted checked from8 arrival_row watchdog_row start_from elapsed_of
course_arises = (refl, refl)

-- ---- Q2.3: a port that is always late. The block's reading is 0, W is 100, and every answer comes 102 ms after its count was sent. By then the watchdog
-- has begun anew, and the same count was sent again 1 ms ago (305, 509): 01 alone would count 1 ms.
abbrev late_table : List Line
late_table =
    -- to the 1 of 408
    line (answers 510 6) 1 true false
    -- to the 0 of 407
    ∷ line (answers 509 7) 0 false false
    -- to the 2 of 306
    ∷ line (answers 408 5) 1 false false
    -- to the 1 of 305
    ∷ line (answers 407 6) 0 false false
    -- to the 1 of 204
    ∷ line (answers 306 6) 1 true false
    -- to the 0 of 203
    ∷ line (answers 305 7) 0 false false
    -- to the 1 of 102
    ∷ line (answers 204 6) 1 false false
    ∷ line (happening.Clock 203) 0 false false
    -- to the 0 of the block
    ∷ line (answers 102 7) 102 false false
    ∷ []

abbrev late : List Happening
late = happenings late_table

pub late_arises : (seen 0 late ≡ late_table) × ((samples 0 100 late ≡ []) × (fault 0 100 late ≡ Asked))
unfolding seen samples is_sample releases_by time_of sent_since passed_for_count master_after watched_in passes_by signals signals_after fault admitted_by faulty_by answered_by step_of clocked operated quiet received arrived watched watched_by acted t4 t8 t11 t12 t13 t14 signalled admitted is_old is_admitted checked from8 arrival_row watchdog_row start_from elapsed_of
late_arises = (refl, (refl, refl))

-- ---- The theorems of these names, of calls of the course.

-- before the call that was admitted though old, and before the two that are samples by T11 and by T4
abbrev past : List Happening
past = drop 10 course

abbrev acknowledging : List Happening
acknowledging = drop 6 course

abbrev going : List Happening
going = drop 1 course

-- the first two calls of it, on another clock
on-clock : OnClock (drop 18 course)
on-clock = more {h = answers 5 7} (omega arith) (more {h = answers 4294967250 3} (omega arith) none)

pub record Met : Type 0 where
  sample_fresh : (step_of (master_after block 100 acknowledging) 100 (answers 590 4)).mark ≡ Fresh
  sample_since : time_of block 100 going (answers 620 1) ≡ elapsed_of 620 (last_admitted_at block 100 going)
  sample_acknowledged : fault block 100 (answers 590 4 ∷ acknowledging) ≡ None
  repeated_carried : is_sample block 100 past (answers 565 7) ≡ false
  repeated_awaited : is_sample block 100 past (answers 565 7) ≡ false
  delayed_samples : samples 4 100 (delayed_past 100 (drop 18 course)) ≡ samples block 100 (drop 18 course)

pub premises_met : Met
unfolding is_sample releases_by time_of sent_since passed_for_count passes_by signals signals_after master_after watched_in previous_by last_admitted step_of clocked operated quiet received arrived watched watched_by acted t4 t8 t11 t12 t13 t14 signalled admitted is_old is_admitted checked from8 arrival_row watchdog_row start_from elapsed_of
premises_met = record {
  sample_fresh = sample_fresh block 100 acknowledging (answers 590 4) refl;
  sample_since = sample_since block 100 going (answers 620 1) refl;
  sample_acknowledged = sample_acknowledged block 100 acknowledging (answers 590 4) refl;
  repeated_carried = repeated block 100 past 565 (response 7 false true) refl (inl refl);
  repeated_awaited = repeated block 100 past 565 (response 7 false true) refl (inr refl);
  delayed_samples = delayed_samples 100 block 100 (omega arith) on-clock;
}
