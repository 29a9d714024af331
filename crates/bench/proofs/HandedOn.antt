-- What a call that is not refused hands on, and what a refused one does. Assumes nothing.
use Prim.Native.Nat.{ℕ}
use mathlib.Core.Path.{◌≡◌, refl, ap, ap₂, ◌∙◌}
use mathlib.Core.Bool.{Bool, true, false, cond, ◌&&◌, true≢false, false≢true}
use Rattle.std.specs.Prelude.{Ok, Err}
use mathlib.Core.List.{List, [], ◌∷◌}
use lib.Dec.{eqb}
use lib.ListN.{length, replicate}
use borrow.Author.Tests.{eqb-true, not-false}
use Rattle.std.specs.Prelude.{Option}
use Rattle.answer.specs.Answers.{Answer, Taken, is_taken}
use Rattle.answer.specs.Rules.{Kept, answer_by}
use Rattle.scl.specs.declared.Request.{Request}
use Rattle.scl.specs.declared.Response.{Response}
use Rattle.scl.specs.declared.Mark.{Mark}
use Rattle.scl.specs.declared.Mark.TheVariants.{Fresh}
use Rattle.spdu.specs.Signature.{by_bits}
use Rattle.spdu.specs.Fields.{response_by, request_by}
use Rattle.spdu.specs.Places.{process_octets, process_of, is_all_zero}
use Rattle.spdu.specs.Image as image
use Rattle.scl.specs.Happenings.{mark_of}
use Rattle.scl.specs.declared.Happening.{Happening}
use Rattle.scl.specs.declared.Happening.TheVariants as happening
use Rattle.scl.proofs.Cases.{and_left, and_right}
use Rattle.fs_master.specs.declared.Master.{Master}
use Rattle.fs_master.specs.declared.Row as masterRow
use Rattle.fs_master.specs.Table38 as table38
use Rattle.fs_master.specs.Calls as masters
use Rattle.fs_master.specs.History as masterSpecs
use Rattle.fs_master.proofs.Release as masterRelease
use Rattle.fs_device.specs.declared.Device.{Device}
use Rattle.fs_device.specs.declared.Row as deviceRow
use Rattle.fs_device.specs.Table40 as table40
use Rattle.fs_device.specs.Calls as devices
use Rattle.fs_device.specs.History as deviceSpecs
use Rattle.fs_device.proofs.Release as deviceRelease
use Rattle.bench.specs.declared.Port.{Port}
use Rattle.bench.specs.Methods.{annex_d}
use Rattle.bench.specs.Ports.{turn_of, stored, said, step_of, silent}
use Rattle.bench.specs.Calls.{response_rules, request_rules, clock_rules, operator_rules, safe_in_hold, safe_out_hold, asked, done, response_at, request_at, clock_at, operator_at}
use Rattle.bench.specs.History.{octets_handed_on, octets_in, octets_out, response_admitted, request_admitted}
use Rattle.answer.proofs.Exact.{taken_exactly}

-- ---- the mark of each end

received_mark : (m : Master) (r : Option masterRow.Row) (at : ℕ) (f : Response) → (masters.received m r at f).mark ≡ mark_of (table38.is_admitted m f) (masters.received m r at f).master.released
unfolding masters.received masters.arrived masters.quiet
received_mark m r at f = go (table38.is_admitted m f)
  where
    go : (b : Bool) → (cond b (masters.arrived m r at f (table38.checked m f)) (masters.quiet m r (table38.is_old m f))).mark ≡ mark_of b (cond b (masters.arrived m r at f (table38.checked m f)) (masters.quiet m r (table38.is_old m f))).master.released
    go true = refl
    go false = refl

pub response_mark : (m : Master) (w at : ℕ) (f : Response) → (masters.step_of m w (happening.Response at f)).mark ≡ mark_of (table38.is_admitted (masters.watched m w at) f) (masters.step_of m w (happening.Response at f)).master.released
unfolding masters.step_of
response_mark m w at f = received_mark (masters.watched m w at) (table38.watchdog_row m w at) at f

requested_mark : (d : Device) (r : Option deviceRow.Row) (at : ℕ) (q : Request) → (devices.received d r at q).mark ≡ mark_of (table40.is_admitted d q) (devices.received d r at q).device.released
unfolding devices.received devices.arrived devices.quiet
requested_mark d r at q = go (table40.is_admitted d q)
  where
    go : (b : Bool) → (cond b (devices.arrived d r at q (table40.checked d q)) (devices.quiet d r (table40.is_old d q))).mark ≡ mark_of b (cond b (devices.arrived d r at q (table40.checked d q)) (devices.quiet d r (table40.is_old d q))).device.released
    go true = refl
    go false = refl

pub request_mark : (d : Device) (w at : ℕ) (q : Request) → (devices.step_of d w (happening.Request at q)).mark ≡ mark_of (table40.is_admitted (devices.watched d w at) q) (devices.step_of d w (happening.Request at q)).device.released
unfolding devices.step_of
request_mark d w at q = requested_mark (devices.watched d w at) (table40.watchdog_row d w at) at q

-- ---- the part that a mark hands on

part : (row releases : Bool) (mode : ℕ) (spdu safe : List ℕ) → image.handed_on (mark_of row releases) mode spdu safe ≡ cond releases (cond row (process_of mode spdu) []) safe
part true true mode spdu safe = refl
part false true mode spdu safe = refl
part row false mode spdu safe = refl

-- safe values that hold are zeros
all-zeros : (s : List ℕ) → is_all_zero s ≡ true → s ≡ replicate (length s) 0
all-zeros [] e = refl
all-zeros (x ∷ xs) e =
    ap₂ (λ (y : ℕ) (ys : List ℕ). y ∷ ys) (eqb-true x 0 (and_left (eqb x 0) (is_all_zero xs) e)) (all-zeros xs (and_right (eqb x 0) (is_all_zero xs) e))

zeros : (mode n : ℕ) (safe : List ℕ) → image.safe_values_hold mode n safe ≡ true → safe ≡ replicate (process_octets mode n) 0
zeros mode n safe e =
    let l : length safe ≡ process_octets mode n = eqb-true (length safe) (process_octets mode n) (and_left (eqb (length safe) (process_octets mode n)) (is_all_zero safe) e) in
    all-zeros safe (and_right (eqb (length safe) (process_octets mode n)) (is_all_zero safe) e) ∙ ap (λ (k : ℕ). replicate k 0) l

hands : {mark : Mark} (row releases : Bool) (mode n : ℕ) (spdu safe : List ℕ) → mark ≡ mark_of row releases → image.safe_values_hold mode n safe ≡ true → image.handed_on mark mode spdu safe ≡ octets_handed_on releases row (process_of mode spdu) (process_octets mode n)
hands {mark} row releases mode n spdu safe e s =
    ap (λ (k : Mark). image.handed_on k mode spdu safe) e ∙ part row releases mode spdu safe ∙ ap (λ (z : List ℕ). cond releases (cond row (process_of mode spdu) []) z) (zeros mode n safe s)

-- ---- each call that is not refused

pub asked_taken : (p : Port) (at : ℕ) (a : Answer) (h : Happening) → is_taken a ≡ true → done p at (asked a h) ≡ step_of p h
unfolding done asked
asked_taken p at (Ok t) h e = refl
asked_taken p at (Err r) h e = absurd (false≢true e)

module _ (port : ℕ) (p : Port) (at : ℕ) where
  abbrev handed : Mark → List ℕ → List ℕ → List ℕ
  handed mark spdu safe = image.handed_on mark p.setting.params.FSP_ProtMode spdu safe

  -- an SPDU as FS-Master
  pub response_hands_on : (spdu safe : List ℕ) → is_taken (answer_by Taken (response_rules port p.setting (length spdu) safe)) ≡ true
      → let r = (response_at annex_d port p at spdu safe).reply in
      let f = response_by by_bits p.setting.params spdu in
      handed r.master spdu safe ≡ octets_handed_on r.master_releases (response_admitted p at f) (process_of p.setting.params.FSP_ProtMode spdu) (octets_in p)
  unfolding step_of stored said turn_of
  response_hands_on spdu safe t =
      let f = response_by by_bits p.setting.params spdu in
      let rules = response_rules port p.setting (length spdu) safe in
      let kept : Kept rules = (taken_exactly rules).0 t in
      rw (asked_taken p at (answer_by Taken rules) (happening.Response at f) t)
      (hands (response_admitted p at f) (step_of p (happening.Response at f)).reply.master_releases p.setting.params.FSP_ProtMode p.setting.params.SPDUInLength spdu safe (response_mark p.live.master p.setting.params.FSP_WatchdogTime at f) (not-false (safe_in_hold p.setting.params safe) (kept.each 3)))

  -- an SPDU as FS-Device
  pub request_hands_on : (spdu safe : List ℕ) → is_taken (answer_by Taken (request_rules port p.setting (length spdu) safe)) ≡ true
      → let r = (request_at annex_d port p at spdu safe).reply in
      let q = request_by by_bits p.setting.params spdu in
      handed r.device spdu safe ≡ octets_handed_on r.device_releases (request_admitted p at q) (process_of p.setting.params.FSP_ProtMode spdu) (octets_out p)
  unfolding step_of stored said turn_of
  request_hands_on spdu safe t =
      let q = request_by by_bits p.setting.params spdu in
      let rules = request_rules port p.setting (length spdu) safe in
      let kept : Kept rules = (taken_exactly rules).0 t in
      rw (asked_taken p at (answer_by Taken rules) (happening.Request at q) t)
      (hands (request_admitted p at q) (step_of p (happening.Request at q)).reply.device_releases p.setting.params.FSP_ProtMode p.setting.params.SPDUOutLength spdu safe (request_mark p.live.device p.setting.params.FSP_WatchdogTime at q) (not-false (safe_out_hold p.setting.params safe) (kept.each 3)))

  -- a clock reading, for both ends
  module _ (safe_in safe_out : List ℕ) (t : is_taken (answer_by Taken (clock_rules port p.setting safe_in safe_out)) ≡ true) where
    pub both_hold : (safe_in_hold p.setting.params safe_in && safe_out_hold p.setting.params safe_out) ≡ true
    both_hold =
        let kept : Kept (clock_rules port p.setting safe_in safe_out) = (taken_exactly (clock_rules port p.setting safe_in safe_out)).0 t in
        not-false (safe_in_hold p.setting.params safe_in && safe_out_hold p.setting.params safe_out) (kept.each 2)

    pub clock_hands_on_in : let r = (clock_at port p at safe_in safe_out).reply in handed r.master [] safe_in ≡ octets_handed_on r.master_releases false [] (octets_in p)
    unfolding step_of stored said turn_of masters.step_of masters.clocked masters.quiet
    clock_hands_on_in =
        rw (asked_taken p at (answer_by Taken (clock_rules port p.setting safe_in safe_out)) (happening.Clock at) t)
        (hands false (step_of p (happening.Clock at)).reply.master_releases p.setting.params.FSP_ProtMode p.setting.params.SPDUInLength [] safe_in refl (and_left (safe_in_hold p.setting.params safe_in) (safe_out_hold p.setting.params safe_out) both_hold))

    pub clock_hands_on_out : let r = (clock_at port p at safe_in safe_out).reply in handed r.device [] safe_out ≡ octets_handed_on r.device_releases false [] (octets_out p)
    unfolding step_of stored said turn_of devices.step_of devices.clocked devices.quiet
    clock_hands_on_out =
        rw (asked_taken p at (answer_by Taken (clock_rules port p.setting safe_in safe_out)) (happening.Clock at) t)
        (hands false (step_of p (happening.Clock at)).reply.device_releases p.setting.params.FSP_ProtMode p.setting.params.SPDUOutLength [] safe_out refl (and_right (safe_in_hold p.setting.params safe_in) (safe_out_hold p.setting.params safe_out) both_hold))

  -- operator signals
  pub operator_hands_on : (setSD_C ChFAck_C : Bool) (safe : List ℕ) → is_taken (answer_by Taken (operator_rules port p.setting safe)) ≡ true
      → let r = (operator_at port p at setSD_C ChFAck_C safe).reply in
      handed r.master [] safe ≡ octets_handed_on r.master_releases false [] (octets_in p)
  unfolding step_of stored said turn_of masters.step_of masters.operated masters.quiet
  operator_hands_on setSD_C ChFAck_C safe t =
      let rules = operator_rules port p.setting safe in
      let kept : Kept rules = (taken_exactly rules).0 t in
      rw (asked_taken p at (answer_by Taken rules) (happening.Operator at setSD_C ChFAck_C) t)
      (hands false (step_of p (happening.Operator at setSD_C ChFAck_C)).reply.master_releases p.setting.params.FSP_ProtMode p.setting.params.SPDUInLength [] safe refl (not-false (safe_in_hold p.setting.params safe) (kept.each 2)))

-- ---- a refused call hands on nothing, and says that nothing is released
pub refused_hands_on : (p : Port) (at : ℕ) (a : Answer) (h : Happening) → is_taken a ≡ false → (done p at (asked a h)).reply ≡ silent a
unfolding done asked
refused_hands_on p at (Ok t) h e = absurd (true≢false e)
refused_hands_on p at (Err r) h e = refl

-- ---- fresh octets are handed on exactly in the rows that release

-- At the FS-Master: T4 and T11 under their conditions (`Releases`), and then always.
pub master_fresh_only : (p : Port) (h : Happening) → (step_of p h).reply.master ≡ Fresh → masterSpecs.FreshBy p.live.master p.setting.params.FSP_WatchdogTime h
unfolding step_of stored said turn_of
master_fresh_only p h e = masterRelease.fresh_only p.live.master p.setting.params.FSP_WatchdogTime h e

pub master_fresh_if : (p : Port) (at : ℕ) (f : Response) → masterSpecs.Releases (masters.watched p.live.master p.setting.params.FSP_WatchdogTime at) f → (step_of p (happening.Response at f)).reply.master ≡ Fresh
unfolding step_of stored said turn_of
master_fresh_if p at f r = masterRelease.fresh_if p.live.master p.setting.params.FSP_WatchdogTime at f r

-- At the FS-Device: T22 with SDcycles 0 and setSD 0, and then always.
pub device_fresh_only : (p : Port) (h : Happening) → (step_of p h).reply.device ≡ Fresh → deviceSpecs.FreshBy p.live.device p.setting.params.FSP_WatchdogTime h
unfolding step_of stored said turn_of
device_fresh_only p h e = deviceRelease.fresh_only p.live.device p.setting.params.FSP_WatchdogTime h e

pub device_fresh_if : (p : Port) (at : ℕ) (q : Request) → deviceSpecs.Releases (devices.watched p.live.device p.setting.params.FSP_WatchdogTime at) q → (step_of p (happening.Request at q)).reply.device ≡ Fresh
unfolding step_of stored said turn_of
device_fresh_if p at q r = deviceRelease.fresh_if p.live.device p.setting.params.FSP_WatchdogTime at q r
