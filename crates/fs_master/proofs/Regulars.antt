-- The call that nearly every response makes does what `step_of` says: it may be told first, and only T4 acted. Assumes nothing.
use Prim.Native.Nat.{ℕ}
use mathlib.Core.Path.{◌≡◌, refl}
use mathlib.Core.Bool.{Bool, true, false, not, ◌&&◌, ◌||◌}
use lib.Dec.{eqb}
use borrow.Author.Tests.{not-true, ne_eqb}
use Rattle.std.specs.Prelude.{Some, None}
use Rattle.scl.specs.Time.{expired_of}
use Rattle.scl.specs.Happenings.{mark_of}
use Rattle.scl.specs.declared.Happening.TheVariants as happening
use Rattle.scl.specs.declared.Response.{Response}
use Rattle.scl.proofs.Cases.{and_left, and_right, or_left, or_right, no}
use Rattle.fs_master.specs.declared.Master.{Master}
use Rattle.fs_master.specs.declared.Outcome.{Outcome}
use Rattle.fs_master.specs.declared.Row.TheVariants.{T4}
use Rattle.fs_master.specs.Table38.{watchdog_row, is_old, is_expected, is_admitted, checked, arrival_row, admitted, t4, acted}
use Rattle.fs_master.specs.Calls.{watched, watched_by, arrived, received, step_of}
use Rattle.fs_master.specs.Regular.{is_regular}

-- what is_regular asks, one by one
record Asked (m : Master) (w at : ℕ) (f : Response) : Type 0 where
  pub in_time : (m.runs && expired_of at m.MTimer w) ≡ false
  pub waits : (eqb m.state 2 || eqb m.state 5) ≡ true
  pub signature : f.signature_holds ≡ true
  pub port : f.port_holds ≡ true
  pub count : is_expected m f ≡ true
  pub not_zero : f.all_zero ≡ false
  pub no_error : f.DCommErr ≡ false
  pub no_timeout : f.DTimeout ≡ false
  pub not_old : is_old m f ≡ false

asked : (m : Master) (w at : ℕ) (f : Response) → is_regular m w at f ≡ true → Asked m w at f
unfolding is_regular
asked m w at f e =
    let over = m.runs && expired_of at m.MTimer w in
    let waits = eqb m.state 2 || eqb m.state 5 in
    let signed = f.signature_holds && f.port_holds in
    let failed = f.all_zero || f.DCommErr in
    let first = and_left (not over && waits && (signed && is_expected m f)) (not (failed || f.DTimeout || is_old m f)) e in
    let begun = and_left (not over && waits) (signed && is_expected m f) first in
    let sound = and_right (not over && waits) (signed && is_expected m f) first in
    let both = and_left signed (is_expected m f) sound in
    let none = not-true (failed || f.DTimeout || is_old m f) (and_right (not over && waits && (signed && is_expected m f)) (not (failed || f.DTimeout || is_old m f)) e) in
    let three = or_left (failed || f.DTimeout) (is_old m f) none in
    let two = or_left failed f.DTimeout three in
    record {
      in_time = not-true over (and_left (not over) waits begun);
      waits = and_right (not over) waits begun;
      signature = and_left f.signature_holds f.port_holds both;
      port = and_right f.signature_holds f.port_holds both;
      count = and_right signed (is_expected m f) sound;
      not_zero = or_left f.all_zero f.DCommErr two;
      no_error = or_right f.all_zero f.DCommErr two;
      no_timeout = or_right failed f.DTimeout three;
      not_old = or_right (failed || f.DTimeout) (is_old m f) none;
    }

-- in 2 and in 5, by T3 and T6, not by T10
waits_case : (P : Bool → Bool → Type 0) (two five : Bool) → (two || five) ≡ true → P true five → P false true → P two five
waits_case P true five e p q = p
waits_case P false five e p q = rw e q

not_7 : (n : ℕ) → (eqb n 2 || eqb n 5) ≡ true → eqb n 7 ≡ false
not_7 n e = ne_eqb n 7 (λ s. let z : (eqb 7 2 || eqb 7 5) ≡ true = rw s at e in no (cc))

is_admitted_lem : (m : Master) (w at : ℕ) (f : Response) → Asked m w at f → is_admitted m f ≡ true
unfolding is_admitted
is_admitted_lem m w at f a =
    simp (a.not_zero, a.count, a.not_old)
    (waits_case (λ (two five : Bool). (two && true || five && true || eqb m.state 7 && true) ≡ true) (eqb m.state 2) (eqb m.state 5) a.waits refl refl)

abbrev pub regular_outcome : Master → ℕ → Response → Outcome
regular_outcome m at f = record {
  master = t4 (admitted m f) at f.SDset;
  watchdog = None;
  arrival = Some T4;
  check = None;
  old = false;
  passed = true;
  sent = m.start;
  mark = mark_of true (t4 (admitted m f) at f.SDset).released;
}

-- A regular call has no row but T4, and what it makes of the master is that row's.
pub regular_step : (m : Master) (w at : ℕ) (f : Response) → is_regular m w at f ≡ true → step_of m w (happening.Response at f) ≡ regular_outcome m at f
unfolding step_of watched watched_by watchdog_row received arrived checked arrival_row acted
regular_step m w at f e =
    let a = asked m w at f e in
    simp (a.in_time, is_admitted_lem m w at f a, a.signature, a.port, a.count, a.no_error, a.no_timeout, a.not_old, not_7 m.state a.waits)
