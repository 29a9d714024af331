-- What the rows come to at both ends of a port, after every list of calls from the new bench. Assumes nothing.
use Prim.Native.Nat.{ℕ, ◌<◌}
use mathlib.Core.Path.{◌≡◌}
use mathlib.Core.Bool.{true, false}
use mathlib.Core.List.{List}
use Rattle.ranges.specs.Fields.{outside}
use Rattle.block.specs.declared.Params.{Params}
use Rattle.scl.specs.declared.Happening.{Happening}
use Rattle.fs_master.specs.declared.Master.{Master}
use Rattle.fs_master.specs.History.{has_passed, signals, HasSignals, None, fault}
use Rattle.fs_master.proofs.Release as released
use Rattle.fs_master.proofs.Acknowledge as acknowledge
use Rattle.fs_master.proofs.Signals as held
use Rattle.fs_device.specs.declared.Device.{Device}
use Rattle.fs_device.specs.History.{passed_since, had_error_or_timeout}
use Rattle.fs_device.proofs.Release as cycles
use Rattle.bench.specs.Ports.{port_at}
use Rattle.bench.specs.History.{Call, history, since, since_block, MatchesSince, Matches}
use Rattle.bench.proofs.History.{matches}

-- a port of the bench, what happened at it since its last accepted block, and the block
module _ (q : ℕ) (known : outside 1 8 q ≡ false) (calls : List Call) (at : ℕ) (params : Params) (past : List Happening) (block : since_block q calls ≡ since at params past) where
  abbrev master : Master
  master = (port_at (history calls) q).live.master

  abbrev device : Device
  device = (port_at (history calls) q).live.device

  abbrev w : ℕ
  w = params.FSP_WatchdogTime

  pub matching : MatchesSince (port_at (history calls) q) at params past
  unfolding Matches
  matching = rw block at (matches q known calls)

  -- "no release between an accepted block and the first response that passes"
  pub passed_first : master.released ≡ true → has_passed at w past ≡ true
  passed_first e = released.passed_first at w past (rw matching.master at e)

  -- "after a fault, and with no new accepted block, values return only once ChFAck_C followed ChFAckReq_S"
  pub acknowledged : master.released ≡ true → fault at w past ≡ None
  acknowledged e = acknowledge.acknowledged at w past (rw matching.master at e)

  -- "Operator signals hold until the next operator happening, and are both off after an accepted block"
  pub signals_hold : HasSignals (signals past) master
  signals_hold = rw matching.master (held.signals_hold at w past)

  -- the FS-Device releases no process values before SDcycles has run from 3 to 0: since the block, or the last error or timeout, SPDUs passed,
  pub cycles_first : device.released ≡ true → 3 < passed_since at w past
  cycles_first e = cycles.cycles_first at w past (rw matching.device at e)

  -- and one more where there was an error or a timeout
  pub after_error : had_error_or_timeout at w past ≡ true → device.released ≡ true → 4 < passed_since at w past
  after_error had e = cycles.after_error at w past had (rw matching.device at e)
