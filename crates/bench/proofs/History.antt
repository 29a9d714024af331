-- After every list of calls from the new bench, a port holds what 01 says of the calls since its last accepted block. Assumes nothing.
use Prim.Native.Nat.{ℕ, ◌≤◌}
use mathlib.Core.Path.{◌≡◌, refl, sym, ap, ap₂, subst, ◌∙◌}
use mathlib.Core.Bool.{Bool, true, false, cond, not, ◌&&◌}
use mathlib.Core.List.{List, [], ◌∷◌}
use lib.Dec.{eqb, leb}
use lib.ListN.{length}
use borrow.Author.Tests.{eqb-true, leb-true, not-false}
use Rattle.answer.specs.Answers.{Taken, is_taken}
use Rattle.answer.specs.Rules.{Kept, answer_by}
use Rattle.ranges.specs.Fields.{outside}
use Rattle.block.specs.declared.Params.{Params}
use Rattle.block.specs.Table22.{params_of}
use Rattle.spdu.specs.Signature.{by_bits}
use Rattle.spdu.specs.Fields.{response_by, request_by}
use Rattle.scl.specs.declared.Happening.{Happening}
use Rattle.scl.specs.declared.Happening.TheVariants as happening
use Rattle.scl.specs.declared.Response.{Response}
use Rattle.scl.specs.declared.Request.{Request}
use Rattle.scl.proofs.Cases.{cond_case, no, and_right}
use Rattle.fs_master.specs.declared.Master.{Master}
use Rattle.fs_master.specs.Calls as masters
use Rattle.fs_master.specs.History.{master_after}
use Rattle.fs_device.specs.declared.Device.{Device}
use Rattle.fs_device.specs.Calls as devices
use Rattle.fs_device.specs.History.{device_after}
use Rattle.histogram.specs.declared.Histogram.{Histogram}
use Rattle.histogram.specs.Samples.{none}
use Rattle.histogram.proofs.Counting.{cleared_holds}
use Rattle.samples.specs.Tallied.{master_turn_of, stepped}
use Rattle.samples.specs.Samples.{samples, histogram_after}
use Rattle.samples.proofs.Counted.{samples_within, samples_held, tallied_parts}
use Rattle.bench.specs.declared.Port.{Port}
use Rattle.bench.specs.Ports.{histogram_of, new_port, accepted_port, port_at, turn_of, stored, said, step_of}
use Rattle.bench.specs.History.{Call, SetParameters, ReceiveResponse, ReceiveRequest, Clock, Operator, WithoutReading, addressed, rules_of, answer_of, after, history, Since, never, since, goes_on, extended, since_block, ConfiguredLength, nothing_came, came, MatchesSince, Matches, history_by}
use Rattle.bench.proofs.Index.{new_at}
use Rattle.bench.proofs.Answers.{answer_is, exactly, refused_same}
use Rattle.bench.proofs.AtPort.{eight, taken_at, taken_at_lem, other_at}

-- ---- one happening

module _ (p : Port) (at : ℕ) (params : Params) (past : List Happening) (s : MatchesSince p at params past) (h : Happening) where
  watchdog_is : p.setting.params.FSP_WatchdogTime ≡ params.FSP_WatchdogTime
  watchdog_is = ap (λ (q : Params). q.FSP_WatchdogTime) s.parameters

  histogram_is : histogram_of (step_of p h).port ≡ histogram_after at params.FSP_WatchdogTime (h ∷ past)
  unfolding step_of stored said turn_of histogram_after
  histogram_is =
      sym (tallied_parts p.live.totals p.bins p.setting.params.FSP_WatchdogTime (master_turn_of p.live.master p.setting.params.FSP_WatchdogTime h).t)
      ∙ ap (λ (k : Histogram). stepped k p.live.master p.setting.params.FSP_WatchdogTime h) s.histogram
      ∙ ap₂ (λ (m : Master) (w : ℕ). stepped (histogram_after at params.FSP_WatchdogTime past) m w h) s.master watchdog_is

  step_matches : ConfiguredLength params h → MatchesSince (step_of p h).port at params (h ∷ past)
  unfolding step_of stored said turn_of master_after device_after
  step_matches length-is = record {
    running = s.running;
    parameters = s.parameters;
    lengths = came length-is s.lengths;
    master = ap₂ (λ (m : Master) (w : ℕ). (masters.step_of m w h).master) s.master watchdog_is;
    device = ap₂ (λ (d : Device) (w : ℕ). (devices.step_of d w h).device) s.device watchdog_is;
    histogram = histogram_is;
    counted = rw histogram_is (samples_held at params.FSP_WatchdogTime (h ∷ past) s.small);
    within = samples_within at params.FSP_WatchdogTime (h ∷ past);
    small = s.small;
  }

-- ---- one call that is not refused

goes_matches : (p : Port) (h : Params → Happening) (s : Since) → p.setting.running ≡ true → ConfiguredLength p.setting.params (h p.setting.params) → Matches p s → Matches (step_of p (h p.setting.params)).port (goes_on s h)
unfolding Matches goes_on new_port
goes_matches p h never r l z = let e : true ≡ false = sym r ∙ ap (λ (q : Port). q.setting.running) z in no e
goes_matches p h (since at params past) r l z =
    rw (ap h z.parameters) (step_matches p at params past z (h params) (subst (λ (q : Params). ConfiguredLength q (h q)) z.parameters l))

-- an SPDU that 10 does not refuse, read
not_other : (n m : ℕ) → not (eqb n m) ≡ false → n ≡ m
not_other n m e = eqb-true n m (not-false (eqb n m) e)

response-length : (p : Params) (at : ℕ) (spdu : List ℕ) → length spdu ≡ p.SPDUInLength → ConfiguredLength p (happening.Response at (response_by by_bits p spdu))
unfolding ConfiguredLength
response-length p at spdu is = cond_case (λ (f : Response). f.length ≡ p.SPDUInLength) (eqb (length spdu) p.SPDUInLength) (λ _. is) (λ _. is)

request-length : (p : Params) (at : ℕ) (spdu : List ℕ) → length spdu ≡ p.SPDUOutLength → ConfiguredLength p (happening.Request at (request_by by_bits p spdu))
unfolding ConfiguredLength
request-length p at spdu is = cond_case (λ (q : Request). q.length ≡ p.SPDUOutLength) (eqb (length spdu) p.SPDUOutLength) (λ _. is) (λ _. is)

small_watchdog : (octets : List ℕ) (port : ℕ) (p : Port) (at : ℕ) → Kept (rules_of p (SetParameters port at octets)) → (params_of octets).FSP_WatchdogTime ≤ 65535
unfolding rules_of
small_watchdog octets port p at k = let w = (params_of octets).FSP_WatchdogTime in leb-true w 65535 (and_right (leb 1 w) (leb w 65535) (not-false (leb 1 w && leb w 65535) (k.each 14)))

taken_matches : (p : Port) (s : Since) (c : Call) → Kept (rules_of p c) → Matches p s → Matches (taken_at p c) (extended s c)
unfolding taken_at extended rules_of Matches ConfiguredLength accepted_port master_after device_after samples histogram_after
taken_matches p s (SetParameters port at octets) k z = record {
  running = refl;
  parameters = refl;
  lengths = nothing_came;
  master = refl;
  device = refl;
  histogram = refl;
  counted = cleared_holds (params_of octets).FSP_WatchdogTime;
  within = none;
  small = small_watchdog octets port p at k;
}
taken_matches p s (ReceiveResponse port at spdu safe) k z = goes_matches p (λ q. happening.Response at (response_by by_bits q spdu)) s (not-false p.setting.running (k.each 1)) (response-length p.setting.params at spdu (not_other (length spdu) p.setting.params.SPDUInLength (k.each 2))) z
taken_matches p s (ReceiveRequest port at spdu safe) k z = goes_matches p (λ q. happening.Request at (request_by by_bits q spdu)) s (not-false p.setting.running (k.each 1)) (request-length p.setting.params at spdu (not_other (length spdu) p.setting.params.SPDUOutLength (k.each 2))) z
taken_matches p s (Clock port at safe_in safe_out) k z = goes_matches p (λ q. happening.Clock at) s (not-false p.setting.running (k.each 1)) refl z
taken_matches p s (Operator port at setSD_C ChFAck_C safe) k z = goes_matches p (λ q. happening.Operator at setSD_C ChFAck_C) s (not-false p.setting.running (k.each 1)) refl z
taken_matches p s (WithoutReading port act) k z = z

-- ---- every history

module _ (q : ℕ) (known : outside 1 8 q ≡ false) where
  call_matches : (past : List Call) (c : Call) → addressed c ≡ q → is_taken (answer_of (history past) c) ≡ true → Matches (port_at (history past) q) (since_block q past) → Matches (port_at (after (history past) c) q) (extended (since_block q past) c)
  call_matches past c z t s =
      let b = history past in
      let kept : Kept (rules_of (port_at b q) c) = (exactly (port_at b q) c).0.0 (sym (ap is_taken (answer_is b c ∙ ap (λ (n : ℕ). answer_by Taken (rules_of (port_at b n) c)) z)) ∙ t) in
      let later : port_at (after b c) q ≡ taken_at (port_at b q) c = rw z at (taken_at_lem b (eight past) c (rw z known) t) in
      rw later (taken_matches (port_at b q) (since_block q past) c kept s)

  -- Demand 2: bins, total, sum, lowest, highest and both ends are those of the calls since the last accepted block.
  pub matches : (past : List Call) → Matches (port_at (history past) q) (since_block q past)
  unfolding history_by since_block Matches
  matches [] = new_at q
  matches (c ∷ past) = go (eqb (addressed c) q) refl (is_taken (answer_of (history past) c)) refl (matches past)
    where
      go : (same : Bool) → eqb (addressed c) q ≡ same → (t : Bool) → is_taken (answer_of (history past) c) ≡ t → Matches (port_at (history past) q) (since_block q past) → Matches (port_at (after (history past) c) q) (cond (same && t) (extended (since_block q past) c) (since_block q past))
      go false e t f s = rw (other_at (history past) (eight past) q known c e) s
      go true e false f s = rw (refused_same (history past) c f) s
      go true e true f s = call_matches past c (eqb-true (addressed c) q e) f s
