-- Values that never arise do not arise, in any history. Assumes nothing.
use Prim.Native.Nat.{ℕ, ◌-◌, ◌≤◌, ◌<◌}
use native.Mathlib.Omega.{arith}
use mathlib.Core.Path.{◌≡◌, refl, sym, ap, ◌∙◌}
use mathlib.Core.Bool.{Bool, true, false, cond, ◌&&◌}
use mathlib.Core.List.{List, [], ◌∷◌}
use lib.Dec.{eqb}
use lib.ListN.{length, get_or}
use borrow.Author.Tests.{eqb-true}
use Rattle.std.specs.Prelude.{Option, Some, None}
use Rattle.answer.specs.Answers.{is_taken}
use Rattle.ranges.specs.Fields.{outside}
use Rattle.block.specs.declared.Params.{Params}
use Rattle.block.specs.Accepted.{Accepted}
use Rattle.block.specs.Table22.{params_of}
use Rattle.block.specs.Rules.{judged}
use Rattle.block.proofs.Answered.{taken_params}
use Rattle.block.proofs.Bounds.{accepted}
use Rattle.scl.specs.declared.Request.{Request}
use Rattle.scl.specs.declared.Response.{Response}
use Rattle.spdu.specs.Signature.{by_bits}
use Rattle.spdu.specs.Places.{control_of}
use Rattle.spdu.specs.Fields.{count_in, response_by, request_by}
use Rattle.scl.specs.Counts.{inverted}
use Rattle.scl.specs.Happenings.{is_failure}
use Rattle.scl.specs.declared.Happening.{Happening}
use Rattle.scl.specs.declared.Happening.TheVariants as happening
use Rattle.scl.proofs.Cases.{cond_case, no}
use Rattle.fs_master.specs.declared.Master.{Master}
use Rattle.fs_master.specs.Table38 as table38
use Rattle.fs_master.specs.History.{master_after, watched_in, Previous, previous_by, last_admitted}
use Rattle.fs_master.proofs.Counts.{count_below, always_held}
use Rattle.fs_master.proofs.Admitted.{previous_is}
use Rattle.fs_device.specs.declared.Device.{Device}
use Rattle.fs_device.specs.declared.Outcome.{Outcome}
use Rattle.fs_device.specs.declared.Row.{Row}
use Rattle.fs_device.specs.declared.Row.TheVariants.{T22, T25, T28, T29, T30, T31}
use Rattle.fs_device.specs.Table40 as table40
use Rattle.fs_device.specs.Calls as devices
use Rattle.fs_device.specs.History.{device_after}
use Rattle.fs_device.proofs.Faults.{waits_always}
use Rattle.histogram.proofs.Counting.{nothing_wraps}
use Rattle.bench.specs.declared.Port.{Port}
use Rattle.bench.specs.Ports.{new_port, port_at}
use Rattle.bench.specs.Calls.{placed}
use Rattle.bench.specs.History.{Call, SetParameters, ReceiveResponse, ReceiveRequest, Clock, Operator, WithoutReading, addressed, answer_of, history, Since, never, since, goes_on, extended, since_block, Matches, Arising, block_in, OctetsIn, no_call, one_more, result_of}
use Rattle.bench.proofs.AtPort.{block-taken}
use Rattle.bench.proofs.History.{matches}

-- ---- what is read of an SPDU

-- its count is of three bits
Read : Happening → Type 0
Read (happening.Response at f) = f.DCount_i ≤ 7
Read (happening.Request at q) = q.MCount ≤ 7
Read (happening.Clock at) = true ≡ true
Read (happening.Operator at setSD_C ChFAck_C) = true ≡ true

data AllRead : List Happening → Type 0 where
  none : AllRead []
  more : {h : Happening} {past : List Happening} → Read h → AllRead past → AllRead (h ∷ past)

in_count : (x : ℕ) → count_in x ≤ 7
in_count x = omega arith

response-read : (p : Params) (s : List ℕ) → (response_by by_bits p s).DCount_i ≤ 7
response-read p s =
    cond_case (λ (r : Response). r.DCount_i ≤ 7) (eqb (length s) p.SPDUInLength) (λ _. in_count (control_of p.FSP_ProtMode s)) (λ _. omega arith)

request-read : (p : Params) (s : List ℕ) → (request_by by_bits p s).MCount ≤ 7
request-read p s =
    cond_case (λ (r : Request). r.MCount ≤ 7) (eqb (length s) p.SPDUOutLength) (λ _. in_count (control_of p.FSP_ProtMode s)) (λ _. omega arith)

-- ---- the FS-Master

inverted-below : (n : ℕ) → inverted n ≤ 7
inverted-below n = omega arith

module _ (at w : ℕ) where
  count_always : (past : List Happening) → (master_after at w past).MCount ≤ 7
  unfolding master_after
  count_always [] = omega arith
  count_always (h ∷ past) = count_below (master_after at w past) w h (count_always past)

  carried_by : (m : Master) (h : Happening) (r : Previous) → Read h → r.carried ≤ 7 → (previous_by m h r).carried ≤ 7
  unfolding previous_by Read
  carried_by m (happening.Response at f) r h c = cond_case (λ (z : Previous). z.carried ≤ 7) (table38.is_admitted m f) (λ _. h) (λ _. c)
  carried_by m (happening.Request at q) r h c = c
  carried_by m (happening.Clock at) r h c = c
  carried_by m (happening.Operator at setSD_C ChFAck_C) r h c = c

  carried_always : {past : List Happening} → AllRead past → (last_admitted at w past).carried ≤ 7
  unfolding last_admitted
  carried_always none = omega arith
  carried_always (more {h} {past} r rest) = carried_by (watched_in at w past h) h (last_admitted at w past) r (carried_always rest)

-- ---- the FS-Device

record Bounded (d : Device) : Type 0 where
  admitted_count : d.MCount ≤ 7
  mirrored : d.DCount_i ≤ 7
  cycles : d.SDcycles ≤ 3
  errors : d.CommErrCount ≤ 1
  timeouts : d.TimeoutCount ≤ 1

at_most_3 : (b : Bool) (n : ℕ) → n ≤ 3 → cond b 3 (n - 1) ≤ 3
at_most_3 true n h = omega arith
at_most_3 false n h = omega arith

at_most_1 : (b : Bool) (n : ℕ) → n ≤ 1 → cond b 1 n ≤ 1
at_most_1 true n h = omega arith
at_most_1 false n h = h

cleared_1 : (n : ℕ) → n ≤ 1 → cond (eqb n 1) 0 n ≤ 1
cleared_1 n h = cond_case (λ (k : ℕ). k ≤ 1) (eqb n 1) (λ _. omega arith) (λ _. h)

acted_bounded : (d : Device) (r : Row) (at : ℕ) (setSD CommErr : Bool) → Bounded d → Bounded (table40.acted d r at setSD CommErr)
unfolding table40.acted table40.t22 table40.t25 table40.t28 table40.t29 table40.t30t31
acted_bounded d T22 at setSD CommErr b = record { admitted_count = b.admitted_count; mirrored = inverted-below d.MCount; cycles = omega (arith, b.cycles); errors = b.errors; timeouts = b.timeouts }
acted_bounded d T25 at setSD CommErr b = record { admitted_count = b.admitted_count; mirrored = inverted-below d.MCount; cycles = omega arith; errors = omega arith; timeouts = b.timeouts }
acted_bounded d T28 at setSD CommErr b = record { admitted_count = b.admitted_count; mirrored = inverted-below d.MCount; cycles = b.cycles; errors = b.errors; timeouts = b.timeouts }
acted_bounded d T29 at setSD CommErr b = record {
  admitted_count = b.admitted_count;
  mirrored = inverted-below d.MCount;
  cycles = at_most_3 CommErr d.SDcycles b.cycles;
  errors = cleared_1 (cond CommErr 1 d.CommErrCount) (at_most_1 CommErr d.CommErrCount b.errors);
  timeouts = cleared_1 d.TimeoutCount b.timeouts;
}
acted_bounded d T30 at setSD CommErr b = record { admitted_count = b.admitted_count; mirrored = inverted-below d.MCount; cycles = omega arith; errors = b.errors; timeouts = omega arith }
acted_bounded d T31 at setSD CommErr b = record { admitted_count = b.admitted_count; mirrored = inverted-below d.MCount; cycles = omega arith; errors = b.errors; timeouts = omega arith }

watched_bounded : (d : Device) (w at : ℕ) → Bounded d → Bounded (devices.watched d w at)
unfolding devices.watched devices.watched_by
watched_bounded d w at b = go (table40.watchdog_row d w at)
  where
    go : (r : Option Row) → Bounded (devices.watched_by d r at)
    go None = b
    go (Some r) = acted_bounded d r at false false b

admitted_bounded : (d : Device) (q : Request) → q.MCount ≤ 7 → Bounded d → Bounded (table40.admitted d q)
unfolding table40.admitted
admitted_bounded d q h b = record { admitted_count = h; mirrored = b.mirrored; cycles = b.cycles; errors = b.errors; timeouts = b.timeouts }

received_bounded : (d : Device) (r : Option Row) (at : ℕ) (q : Request) → q.MCount ≤ 7 → Bounded d → Bounded (devices.received d r at q).device
unfolding devices.received devices.arrived devices.quiet
received_bounded d r at q h b =
    cond_case (λ (o : Outcome). Bounded o.device) (table40.is_admitted d q)
    (λ _. acted_bounded (table40.admitted d q) (table40.arrival_row d (is_failure (table40.checked d q))) at q.setSD (is_failure (table40.checked d q)) (admitted_bounded d q h b))
    (λ _. b)

step_bounded : (d : Device) (w : ℕ) (h : Happening) → Read h → Bounded d → Bounded (devices.step_of d w h).device
unfolding devices.step_of devices.clocked devices.quiet Read
step_bounded d w (happening.Request at q) r b = received_bounded (devices.watched d w at) (table40.watchdog_row d w at) at q r (watched_bounded d w at b)
step_bounded d w (happening.Response at f) r b = watched_bounded d w at b
step_bounded d w (happening.Clock at) r b = watched_bounded d w at b
step_bounded d w (happening.Operator at setSD_C ChFAck_C) r b = watched_bounded d w at b

module _ (at w : ℕ) where
  bounded_always : {past : List Happening} → AllRead past → Bounded (device_after at w past)
  unfolding device_after
  bounded_always none = record { admitted_count = omega arith; mirrored = omega arith; cycles = omega arith; errors = omega arith; timeouts = omega arith }
  bounded_always (more {h} {past} r rest) = step_bounded (device_after at w past) w h r (bounded_always rest)

-- ---- since the last accepted block

record Sound (q : ℕ) (params : Params) (past : List Happening) : Type 0 where
  accepted_block : Accepted q params
  all_read : AllRead past

Sounds : ℕ → Since → Type 0
Sounds q never = true ≡ true
Sounds q (since at params past) = Sound q params past

goes_sound : (q : ℕ) (s : Since) (h : Params → Happening) → ((params : Params) → Read (h params)) → Sounds q s → Sounds q (goes_on s h)
unfolding Sounds goes_on
goes_sound q never h r z = refl
goes_sound q (since at params past) h r z = record { accepted_block = z.accepted_block; all_read = more (r params) z.all_read }

block-sound : (octets : List ℕ) (port : ℕ) → ((i : ℕ) → get_or octets i 0 < 256) → is_taken (judged octets port) ≡ true → Sound port (params_of octets) []
block-sound octets port o t = record { accepted_block = rw (taken_params octets port t) at (accepted octets port o t); all_read = none }

extended-sound : (q : ℕ) (past : List Call) (c : Call) (s : Since) → addressed c ≡ q → is_taken (answer_of (history past) c) ≡ true → ((i : ℕ) → get_or (block_in c) i 0 < 256) → Sounds q s → Sounds q (extended s c)
unfolding extended block_in Sounds addressed result_of placed Read
extended-sound q past (SetParameters port at octets) s e t o z =
    rw (sym e) (block-sound octets port o (sym (block-taken (port_at (history past) port) at (judged octets port)) ∙ t))
extended-sound q past (ReceiveResponse port at spdu safe) s e t o z = goes_sound q s (λ p. happening.Response at (response_by by_bits p spdu)) (λ p. response-read p spdu) z
extended-sound q past (ReceiveRequest port at spdu safe) s e t o z = goes_sound q s (λ p. happening.Request at (request_by by_bits p spdu)) (λ p. request-read p spdu) z
extended-sound q past (Clock port at safe_in safe_out) s e t o z = goes_sound q s (λ p. happening.Clock at) (λ p. refl) z
extended-sound q past (Operator port at setSD_C ChFAck_C safe) s e t o z = goes_sound q s (λ p. happening.Operator at setSD_C ChFAck_C) (λ p. refl) z
extended-sound q past (WithoutReading port act) s e t o z = z

sounds : (q : ℕ) (past : List Call) → OctetsIn past → Sounds q (since_block q past)
unfolding since_block Sounds
sounds q [] no_call = refl
sounds q (c ∷ past) (one_more o rest) = go (eqb (addressed c) q) refl (is_taken (answer_of (history past) c)) refl (sounds q past rest)
  where
    go : (same : Bool) → eqb (addressed c) q ≡ same → (t : Bool) → is_taken (answer_of (history past) c) ≡ t → Sounds q (since_block q past) → Sounds q (cond (same && t) (extended (since_block q past) c) (since_block q past))
    go false e t f z = z
    go true e false f z = z
    go true e true f z = extended-sound q past c (since_block q past) (eqb-true (addressed c) q e) f o z

arises : (q : ℕ) (p : Port) (s : Since) → p.setting.running ≡ true → Matches p s → Sounds q s → Arising q p
unfolding Matches Sounds new_port
arises q p never r z y = let e : true ≡ false = sym r ∙ ap (λ (n : Port). n.setting.running) z in no e
arises q p (since at params past) r z y =
    let w = params.FSP_WatchdogTime in
    let b = bounded_always at w y.all_read in
    let k = previous_is at w past in
    record {
      parameters = rw z.parameters y.accepted_block;
      master = rw z.master (always_held at w past);
      count = rw z.master (count_always at w past);
      carried = rw z.master (rw k.carried_is (carried_always at w y.all_read));
      awaited = rw z.master (rw k.awaited_is (inverted-below (last_admitted at w past).MCount));
      device = rw z.device (waits_always at w past);
      admitted_count = rw z.device b.admitted_count;
      mirrored = rw z.device b.mirrored;
      cycles = rw z.device b.cycles;
      errors = rw z.device b.errors;
      timeouts = rw z.device b.timeouts;
      bins = z.counted.size;
      fits = nothing_wraps z.small z.within z.counted;
    }

-- A port that runs, after every history of octets.
pub arising : (q : ℕ) → outside 1 8 q ≡ false → (past : List Call) → OctetsIn past → (port_at (history past) q).setting.running ≡ true → Arising q (port_at (history past) q)
arising q known past o r = arises q (port_at (history past) q) (since_block q past) r (matches q known past) (sounds q past o)
