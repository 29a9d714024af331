-- A call, and the handing on that follows it on the bench that the call returned: what is written is what 01 says of that call. Assumes nothing.
use Prim.Native.Nat.{ℕ, ◌≤◌}
use mathlib.Core.Path.{◌≡◌, refl, sym, ap, ◌∙◌}
use mathlib.Core.Bool.{Bool, true, false, cond, not, ◌&&◌}
use mathlib.Core.List.{List, [], ◌++◌}
use lib.Dec.{eqb, leb}
use lib.ListN.{length, drop}
use borrow.Author.Tests.{not-false, le-leb, eq-eqb}
use Rattle.std.specs.Prelude.{Ok}
use Rattle.answer.specs.Answers.{Answer, Taken, is_taken, with_value}
use Rattle.answer.proofs.Values.{answer_taken}
use Rattle.answer.specs.Rules.{Kept, answer_by}
use Rattle.answer.proofs.Exact.{taken_exactly}
use Rattle.ranges.specs.Fields.{outside}
use Rattle.scl.specs.Happenings.{mark_of, is_fresh}
use Rattle.scl.proofs.Cases.{no, and_left, and_right}
use Rattle.scl.specs.declared.Mark.{Mark}
use Rattle.scl.specs.declared.Mark.TheVariants.{Fresh, GoesOn, Safe, Nothing}
use Rattle.scl.specs.declared.Happening.TheVariants as happening
use Rattle.scl.specs.declared.Response.{Response}
use Rattle.scl.specs.declared.Request.{Request}
use Rattle.spdu.specs.Signature.{by_bits}
use Rattle.spdu.specs.Fields.{response_by, request_by}
use Rattle.spdu.specs.Places.{process_octets, process_of, is_all_zero}
use Rattle.spdu.specs.Image as image
use Rattle.fs_master.specs.Calls as masters
use Rattle.fs_master.specs.History as masterSpecs
use Rattle.fs_master.proofs.Samples.{response_kept}
use Rattle.fs_device.specs.Calls as devices
use Rattle.fs_device.specs.History as deviceSpecs
use Rattle.fs_device.proofs.Faults.{step_count}
use Rattle.bench.specs.declared.Port.{Port}
use Rattle.bench.specs.declared.Bench.{Bench}
use Rattle.bench.specs.declared.End.{End}
use Rattle.bench.specs.declared.End.TheVariants as end
use Rattle.bench.specs.declared.Reply.{Reply}
use Rattle.bench.specs.Methods.{annex_d}
use Rattle.bench.specs.Ports.{PortAfter, port_at, turn_of, stored, said, step_of}
use Rattle.bench.specs.Calls as calls
use Rattle.bench.specs.Handing.{length_at, safe_holds_at, releases_at, is_last_at, unless_safe, allowed_mark, part_at, hand_rules, handed_to, handed_out}
use Rattle.bench.specs.History.{octets_handed_on, octets_in, octets_out, response_admitted, request_admitted}
use Rattle.bench.proofs.Index.{placed_same}
use Rattle.bench.proofs.HandedOn as handing

-- a handing on that is not refused, and what it writes
pub record Hands (port : ℕ) (p : Port) (e : End) (mark : Mark) (spdu safe out part : List ℕ) : Type 0 where
  pub told : handed_to annex_d port p e mark spdu safe (length out) ≡ Ok (length part)
  pub written : handed_out annex_d port p e mark spdu safe out ≡ part ++ drop (length part) out

-- ---- the mark that a port's own call gave is allowed

mark_allowed : (e : End) (p : Port) (spdu : List ℕ) (row : Bool) → (mark_of row (releases_at e p) ≡ Fresh → is_last_at annex_d e p spdu ≡ true)
    → allowed_mark annex_d e p (mark_of row (releases_at e p)) spdu ≡ mark_of row (releases_at e p)
mark_allowed e p spdu row last = go (releases_at e p) refl row last
  where
    go : (r : Bool) → releases_at e p ≡ r → (row : Bool) → (mark_of row r ≡ Fresh → is_last_at annex_d e p spdu ≡ true) → allowed_mark annex_d e p (mark_of row r) spdu ≡ mark_of row r
    go false is row last = refl
    go true is false last = simp is
    go true is true last = simp (is, last refl)

-- ---- Whatever is told: octets of an SPDU go out only where the end releases, of the last SPDU that it admitted

not_fresh : (mark : Mark) (allowed : Bool) → is_fresh mark ≡ false → unless_safe mark allowed ≡ Fresh → ⊥
not_fresh mark true h e = no (sym (ap is_fresh e) ∙ h)
not_fresh mark false h e = no (sym (ap is_fresh e))

allowed_fresh : (allowed : Bool) → unless_safe Fresh allowed ≡ Fresh → allowed ≡ true
allowed_fresh true e = refl
allowed_fresh false e = no (sym (ap is_fresh e))

pub only_released : (e : End) (p : Port) (mark : Mark) (spdu : List ℕ) → allowed_mark annex_d e p mark spdu ≡ Fresh → (releases_at e p && is_last_at annex_d e p spdu) ≡ true
only_released e p Fresh spdu h = allowed_fresh (releases_at e p && is_last_at annex_d e p spdu) h
only_released e p GoesOn spdu h = absurd (not_fresh GoesOn (releases_at e p) refl h)
only_released e p Safe spdu h = no (sym (ap is_fresh h))
only_released e p Nothing spdu h = no (sym (ap is_fresh h))

-- and where it does not release, nothing but zeros
pub zeros-only : (port : ℕ) (e : End) (p : Port) (mark : Mark) (spdu safe : List ℕ) (room : ℕ) → releases_at e p ≡ false
    → is_taken (handed_to annex_d port p e mark spdu safe room) ≡ true → is_all_zero (part_at annex_d e p mark spdu safe) ≡ true
unfolding handed_to
zeros-only port e p mark spdu safe room silent taken = go mark
  where
    kept : Kept (hand_rules annex_d port p e mark spdu safe room)
    kept =
        let rules = hand_rules annex_d port p e mark spdu safe room in
        (taken_exactly rules).0 (sym (answer_taken (answer_by Taken rules) (length (part_at annex_d e p mark spdu safe))) ∙ taken)

    holds : safe_holds_at e p.setting.params safe ≡ true
    holds = and_left (safe_holds_at e p.setting.params safe) (leb (length (part_at annex_d e p mark spdu safe)) room) (not-false (safe_holds_at e p.setting.params safe && leb (length (part_at annex_d e p mark spdu safe)) room) (kept.each 3))

    zero : is_all_zero safe ≡ true
    zero = and_right (eqb (length safe) (process_octets p.setting.params.FSP_ProtMode (length_at e p.setting.params))) (is_all_zero safe) holds

    go : (mark : Mark) → is_all_zero (part_at annex_d e p mark spdu safe) ≡ true
    go Fresh = simp silent zero
    go GoesOn = simp silent zero
    go Safe = zero
    go Nothing = refl

-- ---- a happening at a port that runs, and the handing on for one of its ends

abbrev mark_in : End → Reply → Mark
mark_in end.Master r = r.master
mark_in end.Device r = r.device

lengths_of : (mark : Mark) (same : Bool) → (mark ≡ Fresh → same ≡ true) → (is_fresh mark && not same) ≡ false
lengths_of Fresh same h = simp (h refl)
lengths_of GoesOn same h = refl
lengths_of Safe same h = refl
lengths_of Nothing same h = refl

-- p is the port after the call
module _ (port : ℕ) (known : outside 1 8 port ≡ false) (p : Port) (runs : p.setting.running ≡ true) (e : End) (row : Bool) {mark : Mark} (is : mark ≡ mark_of row (releases_at e p)) where
  abbrev mode : ℕ
  mode = p.setting.params.FSP_ProtMode

  module _ (spdu safe out part : List ℕ) (fresh : mark ≡ Fresh → (is_last_at annex_d e p spdu ≡ true) × (eqb (length spdu) (length_at e p.setting.params) ≡ true)) where
    part-at : image.handed_on mark mode spdu safe ≡ part → part_at annex_d e p mark spdu safe ≡ part
    part-at part-is =
        ap (λ (m : Mark). image.handed_on m mode spdu safe)
        (ap (λ (m : Mark). allowed_mark annex_d e p m spdu) is ∙ mark_allowed e p spdu row (λ f. (fresh (is ∙ f)).0) ∙ sym is)
        ∙ part-is

    hands : safe_holds_at e p.setting.params safe ≡ true → image.handed_on mark mode spdu safe ≡ part → length part ≤ length out
        → Hands port p e mark spdu safe out part
    unfolding handed_to handed_out
    hands safes part-is fits =
        let same = part-at part-is in
        let room : leb (length (part_at annex_d e p mark spdu safe)) (length out) ≡ true = ap (λ (l : List ℕ). leb (length l) (length out)) same ∙ le-leb (length part) (length out) fits in
        let lengths = lengths_of mark (eqb (length spdu) (length_at e p.setting.params)) (λ f. (fresh f).1) in
        let taken : answer_by Taken (hand_rules annex_d port p e mark spdu safe (length out)) ≡ Taken = simp (known, runs, lengths, safes, room) in
        record {
          told = ap (λ (a : Answer). with_value a (length (part_at annex_d e p mark spdu safe))) taken ∙ ap (λ (l : List ℕ). Ok (length l)) same;
          written = ap (λ (a : Answer). cond (is_taken a) (part_at annex_d e p mark spdu safe ++ drop (length (part_at annex_d e p mark spdu safe)) out) out) taken ∙ ap (λ (l : List ℕ). l ++ drop (length l) out) same;
        }

-- ---- each call that is not refused, at its port

module _ (port : ℕ) (p : Port) (at : ℕ) where
  abbrev w : ℕ
  w = p.setting.params.FSP_WatchdogTime

  -- an SPDU as FS-Master: where it is handed on it holds, and its count is kept
  last_response : (f : Response) → (step_of p (happening.Response at f)).reply.master ≡ Fresh
      → (f.signature_holds && f.port_holds && eqb f.DCount_i (step_of p (happening.Response at f)).port.live.master.carried) ≡ true
  unfolding step_of stored said turn_of masterSpecs.FreshBy
  last_response f e =
      let r = (handing.master_fresh_only p (happening.Response at f) e).0 in
      let m = p.live.master in
      let count : (masters.step_of m w (happening.Response at f)).master.carried ≡ f.DCount_i =
      (response_kept m w at f (record { previous_is = refl; carried_is = refl; awaited_is = refl })).carried_is
      ∙ ap (λ (t : Bool). cond t f.DCount_i m.carried) r.admitted in
      simp (r.signature, r.port) (eq-eqb _ _ (sym count))

  -- an SPDU as FS-Device likewise
  last_request : (q : Request) → (step_of p (happening.Request at q)).reply.device ≡ Fresh
      → (q.signature_holds && q.port_holds && eqb q.MCount (step_of p (happening.Request at q)).port.live.device.MCount) ≡ true
  unfolding step_of stored said turn_of deviceSpecs.FreshBy deviceSpecs.admitted_by
  last_request q e =
      let r = (handing.device_fresh_only p (happening.Request at q) e).0 in
      let d = p.live.device in
      let count : (devices.step_of d w (happening.Request at q)).device.MCount ≡ q.MCount =
      step_count d w d.MCount (happening.Request at q) refl ∙ ap (λ (t : Bool). cond t q.MCount d.MCount) r.admitted in
      simp (r.signature, r.port) (eq-eqb _ _ (sym count))

  pub response-handed : (spdu safe out : List ℕ) → is_taken (answer_by Taken (calls.response_rules port p.setting (length spdu) safe)) ≡ true
      → let r = calls.response_at annex_d port p at spdu safe in
      let part = octets_handed_on r.reply.master_releases (response_admitted p at (response_by by_bits p.setting.params spdu)) (process_of p.setting.params.FSP_ProtMode spdu) (octets_in p) in
      length part ≤ length out → Hands port r.port end.Master r.reply.master spdu safe out part
  unfolding step_of stored said turn_of
  response-handed spdu safe out t =
      let f = response_by by_bits p.setting.params spdu in
      let h = happening.Response at f in
      let rules = calls.response_rules port p.setting (length spdu) safe in
      let kept : Kept rules = (taken_exactly rules).0 t in
      let handed = handing.response_hands_on port p at spdu safe t in
      rw (handing.asked_taken p at (answer_by Taken rules) h t)
      (λ fits. hands port (kept.each 0) (step_of p h).port (not-false p.setting.running (kept.each 1)) end.Master (response_admitted p at f)
      (handing.response_mark p.live.master w at f) spdu safe out _
      (λ e. (last_response f e, not-false (eqb (length spdu) p.setting.params.SPDUInLength) (kept.each 2)))
      (not-false (calls.safe_in_hold p.setting.params safe) (kept.each 3))
      (rw (handing.asked_taken p at (answer_by Taken rules) h t) at handed) fits)

  pub request-handed : (spdu safe out : List ℕ) → is_taken (answer_by Taken (calls.request_rules port p.setting (length spdu) safe)) ≡ true
      → let r = calls.request_at annex_d port p at spdu safe in
      let part = octets_handed_on r.reply.device_releases (request_admitted p at (request_by by_bits p.setting.params spdu)) (process_of p.setting.params.FSP_ProtMode spdu) (octets_out p) in
      length part ≤ length out → Hands port r.port end.Device r.reply.device spdu safe out part
  unfolding step_of stored said turn_of
  request-handed spdu safe out t =
      let q = request_by by_bits p.setting.params spdu in
      let h = happening.Request at q in
      let rules = calls.request_rules port p.setting (length spdu) safe in
      let kept : Kept rules = (taken_exactly rules).0 t in
      let handed = handing.request_hands_on port p at spdu safe t in
      rw (handing.asked_taken p at (answer_by Taken rules) h t)
      (λ fits. hands port (kept.each 0) (step_of p h).port (not-false p.setting.running (kept.each 1)) end.Device (request_admitted p at q)
      (handing.request_mark p.live.device w at q) spdu safe out _
      (λ e. (last_request q e, not-false (eqb (length spdu) p.setting.params.SPDUOutLength) (kept.each 2)))
      (not-false (calls.safe_out_hold p.setting.params safe) (kept.each 3))
      (rw (handing.asked_taken p at (answer_by Taken rules) h t) at handed) fits)

  -- clock and operator calls have no SPDU, and none is looked at
  module _ (safe_in safe_out out : List ℕ) (t : is_taken (answer_by Taken (calls.clock_rules port p.setting safe_in safe_out)) ≡ true) where
    pub clock_handed_in : let r = calls.clock_at port p at safe_in safe_out in
        let part = octets_handed_on r.reply.master_releases false [] (octets_in p) in
        length part ≤ length out → Hands port r.port end.Master r.reply.master [] safe_in out part
    unfolding step_of stored said turn_of masters.step_of masters.clocked masters.quiet masterSpecs.FreshBy
    clock_handed_in =
        let rules = calls.clock_rules port p.setting safe_in safe_out in
        let h = happening.Clock at in
        let kept : Kept rules = (taken_exactly rules).0 t in
        let handed = handing.clock_hands_on_in port p at safe_in safe_out t in
        rw (handing.asked_taken p at (answer_by Taken rules) h t)
        (λ fits. hands port (kept.each 0) (step_of p h).port (not-false p.setting.running (kept.each 1)) end.Master false refl [] safe_in out _
        (λ e. absurd (handing.master_fresh_only p h e))
        (and_left (calls.safe_in_hold p.setting.params safe_in) (calls.safe_out_hold p.setting.params safe_out) (handing.both_hold port p at safe_in safe_out t))
        (rw (handing.asked_taken p at (answer_by Taken rules) h t) at handed) fits)

    pub clock_handed_out : let r = calls.clock_at port p at safe_in safe_out in
        let part = octets_handed_on r.reply.device_releases false [] (octets_out p) in
        length part ≤ length out → Hands port r.port end.Device r.reply.device [] safe_out out part
    unfolding step_of stored said turn_of devices.step_of devices.clocked devices.quiet deviceSpecs.FreshBy
    clock_handed_out =
        let rules = calls.clock_rules port p.setting safe_in safe_out in
        let h = happening.Clock at in
        let kept : Kept rules = (taken_exactly rules).0 t in
        let handed = handing.clock_hands_on_out port p at safe_in safe_out t in
        rw (handing.asked_taken p at (answer_by Taken rules) h t)
        (λ fits. hands port (kept.each 0) (step_of p h).port (not-false p.setting.running (kept.each 1)) end.Device false refl [] safe_out out _
        (λ e. absurd (handing.device_fresh_only p h e))
        (and_right (calls.safe_in_hold p.setting.params safe_in) (calls.safe_out_hold p.setting.params safe_out) (handing.both_hold port p at safe_in safe_out t))
        (rw (handing.asked_taken p at (answer_by Taken rules) h t) at handed) fits)

  pub operator-handed : (setSD_C ChFAck_C : Bool) (safe out : List ℕ) → is_taken (answer_by Taken (calls.operator_rules port p.setting safe)) ≡ true
      → let r = calls.operator_at port p at setSD_C ChFAck_C safe in
      let part = octets_handed_on r.reply.master_releases false [] (octets_in p) in
      length part ≤ length out → Hands port r.port end.Master r.reply.master [] safe out part
  unfolding step_of stored said turn_of masters.step_of masters.operated masters.quiet masterSpecs.FreshBy
  operator-handed setSD_C ChFAck_C safe out t =
      let rules = calls.operator_rules port p.setting safe in
      let h = happening.Operator at setSD_C ChFAck_C in
      let kept : Kept rules = (taken_exactly rules).0 t in
      let handed = handing.operator_hands_on port p at setSD_C ChFAck_C safe t in
      rw (handing.asked_taken p at (answer_by Taken rules) h t)
      (λ fits. hands port (kept.each 0) (step_of p h).port (not-false p.setting.running (kept.each 1)) end.Master false refl [] safe out _
      (λ e. absurd (handing.master_fresh_only p h e))
      (not-false (calls.safe_in_hold p.setting.params safe) (kept.each 2))
      (rw (handing.asked_taken p at (answer_by Taken rules) h t) at handed) fits)

-- ---- and at the bench that the call returned, where its port is the one that the call made

pub at_bench : (b : Bench) → length b.ports ≡ 8 → (port : ℕ) → outside 1 8 port ≡ false → (r : PortAfter) → is_taken r.reply.answer ≡ true
    → {e : End} {mark : Mark} {spdu safe out part : List ℕ} → Hands port r.port e mark spdu safe out part
    → Hands port (port_at (calls.placed b port r).bench port) e mark spdu safe out part
at_bench b eight port known r t h = rw (placed_same b eight port known r t) h
