-- Demand 2, from the theorems of the machines and the bench. Assumes nothing.
use Prim.Native.Nat.{ℕ, ◌≤◌, ◌<◌, ◌^◌}
use mathlib.Core.Path.{◌≡◌}
use mathlib.Core.Bool.{true, false}
use mathlib.Core.List.{List, ◌∷◌}
use Rattle.ranges.specs.Fields.{outside}
use Rattle.block.specs.declared.Params.{Params}
use Rattle.scl.specs.Time.{elapsed_of}
use Rattle.scl.specs.Happenings.{reading_of}
use Rattle.scl.specs.declared.Happening.{Happening}
use Rattle.fs_master.specs.History as masters
use Rattle.fs_master.proofs.Watchdog as masterWatchdog
use Rattle.fs_device.specs.History as devices
use Rattle.fs_device.proofs.Watchdog as deviceWatchdog
use Rattle.samples.proofs.Samples as samples
use Rattle.bench.specs.declared.Port.{Port}
use Rattle.bench.specs.Ports.{new_port, port_at}
use Rattle.bench.specs.History.{Call, history, never, since, since_block, Matches}
use Rattle.bench.proofs.History.{matches}
use Rattle.bench.proofs.Release as release
use Rattle.bench.proofs.Showing as showing
use Rattle.bench.proofs.Sent as sent
use Rattle.bench.proofs.HandedOn as handing
use Rattle.claims.specs.Demand2.{PortHolds, Sends, HandsOn, Demand2}

module _ (at w : ℕ) (past : List Happening) (h : Happening) (earlier : List Happening) (latest : past ≡ h ∷ earlier) (small : reading_of h < 2 ^ 32) where
  master_in_time : (masters.master_after at w past).released ≡ true → elapsed_of (reading_of h) (masters.last_admitted_at at w past) ≤ w
  master_in_time e = rw latest (masterWatchdog.released_in_time at w earlier h small (rw latest at e))

  device_in_time : (devices.device_after at w past).released ≡ true → elapsed_of (reading_of h) (devices.last_admitted_at at w past) ≤ w
  device_in_time e = rw latest (deviceWatchdog.released_in_time at w earlier h small (rw latest at e))

module _ (q : ℕ) (known : outside 1 8 q ≡ false) (calls : List Call) where
  since_a_block : (at : ℕ) (params : Params) (past : List Happening) → since_block q calls ≡ since at params past → PortHolds q (port_at (history calls) q) at params past
  since_a_block at params past block =
      let p = port_at (history calls) q in
      let w = params.FSP_WatchdogTime in
      let s = release.matching q known calls at params past block in
      record {
        master = s.master;
        device = s.device;
        lengths = s.lengths;
        passed_first = release.passed_first q known calls at params past block;
        acknowledged = release.acknowledged q known calls at params past block;
        cycles_first = release.cycles_first q known calls at params past block;
        master_in_time = λ h earlier latest small e. master_in_time at w past h earlier latest small (rw s.master at e);
        device_in_time = λ h earlier latest small e. device_in_time at w past h earlier latest small (rw s.device at e);
        sampled = showing.sampled q known p at params past s;
        sampled_since = samples.sample_since at w past;
        sampled_acknowledged = samples.sample_acknowledged at w past;
        at_most_w = s.within;
        bins = showing.bins_shown q known p at params past s;
        total = showing.total_shown q known p at params past s;
        frozen = showing.frozen_shown q known p at params past s;
        trend = showing.trend_shown q known p at params past s;
      }

  before_a_block : since_block q calls ≡ never → port_at (history calls) q ≡ new_port
  unfolding Matches
  before_a_block none = rw none at (matches q known calls)

sends : (q : ℕ) (p : Port) → Sends q p
sends q p = record {
  request = λ process other octets taken. (sent.request_sent q p process other octets taken, sent.process_sent_lem q p process other octets taken);
  response = λ process out taken responded. (sent.response_sent q p process out taken responded, sent.process_answered q p process out taken responded);
  no_response = λ process out taken not_yet. sent.zeros_first q p process out taken not_yet;
}

hands_on : (q : ℕ) (p : Port) (at : ℕ) → HandsOn q p at
hands_on q p at = record {
  response = handing.response_hands_on q p at;
  request = handing.request_hands_on q p at;
  clock = λ safe_in safe_out taken. (handing.clock_hands_on_in q p at safe_in safe_out taken, handing.clock_hands_on_out q p at safe_in safe_out taken);
  operator = handing.operator_hands_on q p at;
  master_rows = handing.master_fresh_only p;
  device_rows = handing.device_fresh_only p;
}

pub demand2 : Demand2
demand2 = record { since_a_block = since_a_block; before_a_block = before_a_block; sends = sends; hands_on = hands_on }
