-- Which response is admitted (R12, R14), by what happened since the block. Assumes nothing.
use Prim.Native.Nat.{ℕ}
use mathlib.Core.Path.{◌≡◌, refl, ap, ◌∙◌}
use mathlib.Core.Bool.{Bool, true, false, cond, not, ◌&&◌, ◌||◌}
use mathlib.Core.List.{List, [], ◌∷◌}
use lib.Dec.{eqb}
use borrow.Author.Tests.{eqb-true}
use Rattle.scl.specs.Counts.{inverted}
use Rattle.scl.specs.Happenings.{reading_of}
use Rattle.scl.specs.declared.Happening.{Happening}
use Rattle.scl.specs.declared.Happening.TheVariants as happening
use Rattle.scl.specs.declared.Response.{Response}
use Rattle.fs_master.specs.declared.Master.{Master}
use Rattle.fs_master.specs.Table38.{is_expected, is_old, is_admitted, signalled}
use Rattle.fs_master.specs.Calls.{watched, quiet, clocked, operated, step_of}
use Rattle.fs_master.specs.History.{master_after, watched_in, Previous, previous_by, last_admitted, is_old_after}
use Rattle.fs_master.proofs.Samples.{Kept, watched_kept, response_kept}

-- where one of three tests holds and the others do not, the choice is its arm
abbrev choice : Bool → Bool → Bool → Bool → Bool → Bool → Bool → Bool
choice zero in2 a in5 b in7 c = not zero && (in2 && a || in5 && b || in7 && c)

first_arm : (zero a b c : Bool) {in2 in5 in7 : Bool} → in2 ≡ true → in5 ≡ false → in7 ≡ false → choice zero in2 a in5 b in7 c ≡ (not zero && a)
first_arm zero a b c e2 e5 e7 = rw (e2, e5, e7) (go zero a)
  where
    go : (zero a : Bool) → choice zero true a false b false c ≡ (not zero && a)
    go true a = refl
    go false true = refl
    go false false = refl

second_arm : (zero a b c : Bool) {in2 in5 in7 : Bool} → in2 ≡ false → in5 ≡ true → in7 ≡ false → choice zero in2 a in5 b in7 c ≡ (not zero && b)
second_arm zero a b c e2 e5 e7 = rw (e2, e5, e7) (go zero b)
  where
    go : (zero b : Bool) → choice zero false a true b false c ≡ (not zero && b)
    go true b = refl
    go false true = refl
    go false false = refl

third_arm : (zero a b c : Bool) {in2 in5 in7 : Bool} → in2 ≡ false → in5 ≡ false → in7 ≡ true → choice zero in2 a in5 b in7 c ≡ (not zero && c)
third_arm zero a b c e2 e5 e7 = rw (e2, e5, e7)

-- old by what is kept of the previous SPDU
kept_old : (m : Master) (f : Response) (r : Previous) → Kept r.previous r.carried (inverted r.MCount) m
    → (not f.all_zero && m.previous && (eqb f.DCount_i m.carried || eqb f.DCount_i m.awaited)) ≡ is_old_after r f
unfolding is_old_after
kept_old m f r k = rw (k.previous_is, k.carried_is, k.awaited_is)

module _ (at w : ℕ) where
  kept_by : (m : Master) (h : Happening) (r : Previous) → Kept r.previous r.carried (inverted r.MCount) m
      → Kept (previous_by (watched m w (reading_of h)) h r).previous (previous_by (watched m w (reading_of h)) h r).carried (inverted (previous_by (watched m w (reading_of h)) h r).MCount) (step_of m w h).master
  unfolding previous_by step_of clocked operated quiet signalled watched
  kept_by m (happening.Response at f) r k = go (is_admitted (watched m w at) f) (response_kept m w at f k)
    where
      go : (b : Bool) → Kept (cond b true r.previous) (cond b f.DCount_i r.carried) (cond b (inverted (watched m w at).MCount) (inverted r.MCount)) (step_of m w (happening.Response at f)).master
          → Kept (cond b (record { previous = true; carried = f.DCount_i; MCount = (watched m w at).MCount }) r).previous (cond b (record { previous = true; carried = f.DCount_i; MCount = (watched m w at).MCount }) r).carried (inverted (cond b (record { previous = true; carried = f.DCount_i; MCount = (watched m w at).MCount }) r).MCount) (step_of m w (happening.Response at f)).master
      go true z = z
      go false z = z
  kept_by m (happening.Request at q) r k = watched_kept m w at k
  kept_by m (happening.Clock at) r k = watched_kept m w at k
  kept_by m (happening.Operator at setSD_C ChFAck_C) r k =
      let j = watched_kept m w at k in record { previous_is = j.previous_is; carried_is = j.carried_is; awaited_is = j.awaited_is }

  -- The stored previous counts are those of the last SPDU admitted.
  pub previous_is : (past : List Happening) → Kept (last_admitted at w past).previous (last_admitted at w past).carried (inverted (last_admitted at w past).MCount) (master_after at w past)
  unfolding master_after last_admitted watched_in
  previous_is [] = record { previous_is = refl; carried_is = refl; awaited_is = refl }
  previous_is (h ∷ past) = kept_by (master_after at w past) h (last_admitted at w past) (previous_is past)

  module _ (past : List Happening) (h : Happening) (f : Response) where
    abbrev m : Master
    m = watched_in at w past h

    abbrev old : Bool
    old = is_old_after (last_admitted at w past) f

    -- Old is what the last SPDU admitted makes old.
    pub old_is : is_old m f ≡ old
    unfolding is_old watched_in
    old_is = kept_old m f (last_admitted at w past) (watched_kept (master_after at w past) w (reading_of h) (previous_is past))

    in_state : (s : ℕ) → eqb m.state s ≡ true → (n : ℕ) → eqb m.state n ≡ eqb s n
    in_state s e n = ap (λ (x : ℕ). eqb x n) (eqb-true m.state s e)

    abbrev expected : Bool
    expected = is_expected m f

    abbrev again : Bool
    again = not (is_old m f) || eqb m.MCount 0 && expected

    -- In 2 the expected one is admitted; an SPDU of zeros alone never is.
    pub admitted_in_2 : eqb m.state 2 ≡ true → is_admitted m f ≡ (not f.all_zero && expected)
    unfolding is_admitted
    admitted_in_2 e = first_arm f.all_zero expected (not (is_old m f)) again e (in_state 2 e 5) (in_state 2 e 7)

    -- In 5 one that is not old is,
    pub admitted_in_5 : eqb m.state 5 ≡ true → is_admitted m f ≡ (not f.all_zero && not old)
    unfolding is_admitted
    admitted_in_5 e =
        second_arm f.all_zero expected (not (is_old m f)) again (in_state 5 e 2) e (in_state 5 e 7)
        ∙ ap (λ (b : Bool). not f.all_zero && not b) old_is

    -- and in 7, where also the expected one is once MCount is 0 again.
    pub admitted_in_7 : eqb m.state 7 ≡ true → is_admitted m f ≡ (not f.all_zero && (not old || eqb m.MCount 0 && expected))
    unfolding is_admitted
    admitted_in_7 e =
        third_arm f.all_zero expected (not (is_old m f)) again (in_state 7 e 2) (in_state 7 e 5) e
        ∙ ap (λ (b : Bool). not f.all_zero && (not b || eqb m.MCount 0 && expected)) old_is
