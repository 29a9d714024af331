-- The FS-Master's rows one by one: what holds of each holds of a call. Assumes nothing.
use Prim.Native.Nat.{ℕ, ◌≤◌}
use mathlib.Core.Path.{◌≡◌, refl}
use mathlib.Core.Bool.{Bool, true, false, cond, ◌&&◌}
use lib.Dec.{eqb}
use borrow.Author.Tests.{le-ltb, ne_eqb, eqb-true}
use native.Mathlib.Omega.{arith}
use Rattle.std.specs.Prelude.{Option, Some, None}
use Rattle.scl.specs.Time.{elapsed_of, expired_of}
use Rattle.scl.proofs.Cases.{cond_case}
use Rattle.fs_master.specs.declared.Master.{Master}
use Rattle.fs_master.specs.declared.Row.{Row}
use Rattle.fs_master.specs.declared.Row.TheVariants.{T4, T7, T8, T11, T12, T13, T14}
use Rattle.fs_master.specs.Table38.{timeout_row, watchdog_row, is_acknowledged, from8, arrival_row, acted}
use Rattle.fs_master.specs.Calls.{watched, watched_by}

stays : (runs expired : Bool) (r : Option Row) → expired ≡ false → cond (runs && expired) r None ≡ None
stays true expired r e = simp e
stays false expired r e = refl

-- With elapsed at most W no watchdog row acts.
pub in_time : (m : Master) (w at : ℕ) → elapsed_of at m.MTimer ≤ w → watchdog_row m w at ≡ None
unfolding watchdog_row
in_time m w at h = stays m.runs (expired_of at m.MTimer w) (timeout_row m.state) (le-ltb w (elapsed_of at m.MTimer) h)

pub in_time_watched : (m : Master) (w at : ℕ) → elapsed_of at m.MTimer ≤ w → watched m w at ≡ m
unfolding watched watched_by
in_time_watched m w at h = rw (in_time m w at h)

five : (n : ℕ) → eqb n 5 ≡ true → eqb n 7 ≡ false
five n e = ne_eqb n 7 (λ s. absurd (omega (arith, eqb-true n 5 e)))

-- the watchdog's rows
pub timeout_case : (P : Option Row → Type 0) (m : Master) (w at : ℕ) → P None → (eqb m.state 7 ≡ false → P (Some T8)) → (eqb m.state 7 ≡ true → P (Some T14)) → P (watchdog_row m w at)
unfolding watchdog_row
timeout_case P m w at stay late8 late14 =
    cond_case P (m.runs && expired_of at m.MTimer w)
    (λ _. cond_case P (eqb m.state 5) (λ e. late8 (five m.state e)) (λ _. cond_case P (eqb m.state 7) late14 (λ _. stay)))
    (λ _. stay)

-- what holds of a master, and of what any row makes of it, holds once its watchdog has been looked at
pub watched_case : (P : Master → Type 0) (m : Master) (w at : ℕ) → P m → ((r : Row) → P (acted m r at false)) → P (watched m w at)
unfolding watched watched_by
watched_case P m w at none some = go (watchdog_row m w at)
  where
    go : (r : Option Row) → P (watched_by m r at)
    go None = none
    go (Some r) = some r

-- the rows of a response that is admitted
pub row_case : (P : Row → Type 0) (m : Master) (faults : Bool) → (eqb m.state 7 ≡ false → faults ≡ false → P T4) → (eqb m.state 7 ≡ false → faults ≡ true → P T7) → (eqb m.state 7 ≡ true → faults ≡ false → is_acknowledged m ≡ true → P T11) → (eqb m.state 7 ≡ true → faults ≡ true → P T12) → (eqb m.state 7 ≡ true → faults ≡ false → is_acknowledged m ≡ false → P T13) → P (arrival_row m faults)
unfolding arrival_row from8
row_case P m faults p4 p7 p11 p12 p13 =
    cond_case P (eqb m.state 7)
    (λ s. cond_case P faults (p12 s) (λ f. cond_case P (is_acknowledged m) (p11 s f) (p13 s f)))
    (λ s. cond_case P faults (p7 s) (p4 s))
