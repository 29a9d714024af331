-- When the FS-Master releases. Assumes nothing.
use Prim.Native.Nat.{ℕ}
use native.Mathlib.Omega.{arith}
use mathlib.Core.Path.{◌≡◌, refl, ap}
use mathlib.Core.Bool.{Bool, true, false, not, ◌&&◌, ◌||◌}
use mathlib.Core.List.{List, [], ◌∷◌}
use mathlib.Core.Logic.{◌⊎◌, inl, inr, ⊎_elim}
use lib.Dec.{eqb}
use borrow.Author.Tests.{not-true}
use Rattle.std.specs.Prelude.{Option, Some}
use Rattle.scl.specs.Happenings.{reading_of, check_of, is_failure, mark_of}
use Rattle.scl.specs.declared.Happening.{Happening}
use Rattle.scl.specs.declared.Happening.TheVariants as happening
use Rattle.scl.specs.declared.Mark.{Mark}
use Rattle.scl.specs.declared.Mark.TheVariants.{Fresh, GoesOn, Safe}
use Rattle.scl.proofs.Cases.{cond_case, no, or_left, or_right, or_second}
use Rattle.scl.proofs.Checks.{all_hold}
use Rattle.scl.specs.declared.Response.{Response}
use Rattle.fs_master.specs.declared.Master.{Master}
use Rattle.fs_master.specs.declared.Outcome.{Outcome}
use Rattle.fs_master.specs.declared.Row.{Row}
use Rattle.fs_master.specs.Table38.{watchdog_row, is_old, is_expected, is_admitted, has_faults, checked, arrival_row, admitted, t4, t7, t8, t11, t12, t13, t14, acted, signalled}
use Rattle.fs_master.specs.Calls.{watched, watched_by, quiet, arrived, received, clocked, operated, step_of}
use Rattle.fs_master.specs.History.{Releases, releasing_row, FreshBy, master_after, watched_in, passes_by, has_passed}
use Rattle.fs_master.proofs.Rows.{timeout_case, row_case}

goes_on : {A : Type 0} → GoesOn ≡ Fresh → A
goes_on e = let z : ◌≡◌ {A = ℕ} 0 1 = cc in absurd (omega arith)

safe : {A : Type 0} → Safe ≡ Fresh → A
safe e = let z : ◌≡◌ {A = ℕ} 0 1 = cc in absurd (omega arith)

quiet-not : (m : Master) (r : Option Row) (old : Bool) {A : Type 0} → (quiet m r old).mark ≡ Fresh → A
unfolding quiet
quiet-not m r old {A} =
    cond_case (λ (x : Mark). x ≡ Fresh → A) (not m.released) (λ _ e. safe e) (λ _ e. goes_on e)

fresh_released : (b : Bool) → mark_of true b ≡ Fresh → b ≡ true
fresh_released true e = refl
fresh_released false e = safe e

-- what is asked of a response that leads to a release
record Asked (m : Master) (f : Response) (faults : Bool) (r : Row) : Type 0 where
  pub row : r ≡ releasing_row m
  pub none : faults ≡ false
  pub not_set : f.SDset ≡ false
  pub not_asked : m.setSD_C ≡ false
  pub acknowledged : eqb m.state 7 ≡ true → (m.ChFAck_C && m.ChFAck_C_e) ≡ true

row_asks : (m : Master) (f : Response) (at : ℕ) (faults : Bool) → (acted (admitted m f) (arrival_row m faults) at f.SDset).released ≡ true → Asked m f faults (arrival_row m faults)
unfolding acted admitted t4 t7 t11 t12 t13
row_asks m f at faults =
    row_case (λ (r : Row). (acted (admitted m f) r at f.SDset).released ≡ true → Asked m f faults r) m faults
    (λ s n e. let z = not-true (f.SDset || m.setSD_C) e in record { row = simp s; none = n; not_set = or_left f.SDset m.setSD_C z; not_asked = or_right f.SDset m.setSD_C z; acknowledged = λ t. no (cc) })
    (λ s t e. no (cc))
    (λ s n a e. let z = not-true (f.SDset || m.setSD_C) e in record { row = simp s; none = n; not_set = or_left f.SDset m.setSD_C z; not_asked = or_right f.SDset m.setSD_C z; acknowledged = λ t. a })
    (λ s t e. no (cc))
    (λ s n a e. no (cc))

answered_fresh : (m : Master) (r : Option Row) (at : ℕ) (f : Response) → is_admitted m f ≡ true → (arrived m r at f (checked m f)).mark ≡ Fresh → Releases m f × ((arrived m r at f (checked m f)).arrival ≡ Some (releasing_row m))
unfolding arrived checked
answered_fresh m r at f t e =
    let MCommErr = is_failure (check_of f.signature_holds f.port_holds (is_expected m f)) in
    let faults = has_faults MCommErr f in
    let a : Asked m f faults (arrival_row m faults) = row_asks m f at faults (fresh_released (acted (admitted m f) (arrival_row m faults) at f.SDset).released e) in
    let h = all_hold f.signature_holds f.port_holds (is_expected m f) (or_left MCommErr f.DCommErr (or_left (MCommErr || f.DCommErr) f.DTimeout a.none)) in (
      record {
        admitted = t;
        signature = h.0;
        port = h.1.0;
        count = h.1.1;
        no_error = or_right MCommErr f.DCommErr (or_left (MCommErr || f.DCommErr) f.DTimeout a.none);
        no_timeout = or_right (MCommErr || f.DCommErr) f.DTimeout a.none;
        not_set = a.not_set;
        not_asked = a.not_asked;
        acknowledged = a.acknowledged;
      },
      ap (λ (x : Row). Some x) a.row,
    )

received_fresh : (m : Master) (r : Option Row) (at : ℕ) (f : Response) → (received m r at f).mark ≡ Fresh → Releases m f × ((received m r at f).arrival ≡ Some (releasing_row m))
unfolding received
received_fresh m r at f =
    cond_case (λ (o : Outcome). o.mark ≡ Fresh → Releases m f × (o.arrival ≡ Some (releasing_row m))) (is_admitted m f) (answered_fresh m r at f) (λ _. quiet-not m r (is_old m f))

-- Fresh octets are handed on in T4 and T11 alone, under the row's conditions;
pub fresh_only : (m : Master) (w : ℕ) (h : Happening) → (step_of m w h).mark ≡ Fresh → FreshBy m w h
unfolding step_of FreshBy clocked operated
fresh_only m w (happening.Response at f) e = received_fresh (watched m w at) (watchdog_row m w at) at f e
fresh_only m w (happening.Request at q) e = quiet-not (watched m w at) (watchdog_row m w at) false e
fresh_only m w (happening.Clock at) e = quiet-not (watched m w at) (watchdog_row m w at) false e
fresh_only m w (happening.Operator at setSD_C ChFAck_C) e = quiet-not (signalled (watched m w at) setSD_C ChFAck_C) (watchdog_row m w at) false e

fresh_row : (m : Master) (f : Response) (at : ℕ) → Releases m f → (acted (admitted m f) (arrival_row m false) at f.SDset).released ≡ true
unfolding acted admitted t4 t7 t11 t12 t13
fresh_row m f at c =
    row_case (λ (r : Row). (acted (admitted m f) r at f.SDset).released ≡ true) m false
    (λ s n. simp (c.not_set, c.not_asked))
    (λ s t. no (cc))
    (λ s n a. simp (c.not_set, c.not_asked))
    (λ s t. no (cc))
    (λ s n a. no (cc (c.acknowledged s)))

arrived_fresh : (m : Master) (r : Option Row) (at : ℕ) (f : Response) → Releases m f → (arrived m r at f (checked m f)).mark ≡ Fresh
unfolding arrived checked
arrived_fresh m r at f c = simp (c.signature, c.port, c.count, c.no_error, c.no_timeout, fresh_row m f at c)

-- and under these conditions they are.
pub fresh_if : (m : Master) (w at : ℕ) (f : Response) → Releases (watched m w at) f → (step_of m w (happening.Response at f)).mark ≡ Fresh
unfolding step_of received
fresh_if m w at f c = rw c.admitted (arrived_fresh (watched m w at) (watchdog_row m w at) at f c)

-- release ends or goes on
watched_released : (m : Master) (w at : ℕ) → (watched m w at).released ≡ true → m.released ≡ true
unfolding watched watched_by acted t8 t14
watched_released m w at =
    timeout_case (λ (r : Option Row). (watched_by m r at).released ≡ true → m.released ≡ true) m w at (λ e. e) (λ _ e. no (cc)) (λ _ e. no (cc))

handed_fresh : (b : Bool) → b ≡ true → mark_of true b ≡ Fresh
handed_fresh b e = simp e

received_released : (m : Master) (r : Option Row) (at : ℕ) (f : Response) → (received m r at f).master.released ≡ true → ((received m r at f).mark ≡ Fresh) ⊎ (m.released ≡ true)
unfolding received arrived quiet
received_released m r at f =
    cond_case (λ (o : Outcome). o.master.released ≡ true → (o.mark ≡ Fresh) ⊎ (m.released ≡ true)) (is_admitted m f) (λ _ e. inl (handed_fresh _ e)) (λ _ e. inr e)

-- Where an end releases after a call, the call handed on fresh octets or it released before: no other row releases.
pub release_begins : (m : Master) (w : ℕ) (h : Happening) → (step_of m w h).master.released ≡ true → ((step_of m w h).mark ≡ Fresh) ⊎ (m.released ≡ true)
unfolding step_of clocked operated quiet signalled
release_begins m w (happening.Response at f) e = ⊎_elim (λ x. inl x) (λ j. inr (watched_released m w at j)) (received_released (watched m w at) (watchdog_row m w at) at f e)
release_begins m w (happening.Request at q) e = inr (watched_released m w at e)
release_begins m w (happening.Clock at) e = inr (watched_released m w at e)
release_begins m w (happening.Operator at setSD_C ChFAck_C) e = inr (watched_released m w at e)

-- A call that hands on fresh octets leaves them released.
pub fresh_releases : (m : Master) (w : ℕ) (h : Happening) → (step_of m w h).mark ≡ Fresh → (step_of m w h).master.released ≡ true
unfolding step_of clocked operated received arrived
fresh_releases m w (happening.Response at f) =
    let j = watched m w at in
    cond_case (λ (o : Outcome). o.mark ≡ Fresh → o.master.released ≡ true) (is_admitted j f) {x = arrived j (watchdog_row m w at) at f (checked j f)} {y = quiet j (watchdog_row m w at) (is_old j f)}
    (λ _ e. fresh_released _ e)
    (λ _ e. quiet-not j (watchdog_row m w at) (is_old j f) e)
fresh_releases m w (happening.Request at q) = λ e. quiet-not (watched m w at) (watchdog_row m w at) false e
fresh_releases m w (happening.Clock at) = λ e. quiet-not (watched m w at) (watchdog_row m w at) false e
fresh_releases m w (happening.Operator at setSD_C ChFAck_C) = λ e. quiet-not (signalled (watched m w at) setSD_C ChFAck_C) (watchdog_row m w at) false e

-- ---- 01: "no release between an accepted block and the first response that passes"

pub fresh_passes : (m : Master) (w : ℕ) (h : Happening) → FreshBy m w h → passes_by (watched m w (reading_of h)) h ≡ true
unfolding FreshBy passes_by
fresh_passes m w (happening.Response at f) c = let r = c.0 in simp (r.admitted, r.signature, r.port, r.count)
fresh_passes m w (happening.Request at q) c = absurd c
fresh_passes m w (happening.Clock at) c = absurd c
fresh_passes m w (happening.Operator at setSD_C ChFAck_C) c = absurd c

module _ (at w : ℕ) where
  pub passed_first : (past : List Happening) → (master_after at w past).released ≡ true → has_passed at w past ≡ true
  unfolding master_after has_passed watched_in
  passed_first [] e = no (cc)
  passed_first (h ∷ past) e =
      let m = master_after at w past in
      ⊎_elim (λ f. simp (fresh_passes m w h (fresh_only m w h f)))
      (λ r. or_second (passes_by (watched m w (reading_of h)) h) (has_passed at w past) (passed_first past r))
      (release_begins m w h e)
