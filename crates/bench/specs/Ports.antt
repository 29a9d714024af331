-- A port, a bench of eight, and one happening at a port. Assumes nothing.
use Rattle.std.specs.Prelude.{ℕ, ◌-◌, true, false, cond, [], get_or, set, replicate, Option, Some, None, unwrap_or, option_map}
use Rattle.std.specs.Option.{option_and}
use Rattle.answer.specs.Answers.{Answer, Taken}
use Rattle.ranges.specs.Fields.{outside}
use Rattle.block.specs.declared.Params.{Params}
use Rattle.block.specs.Rules.{no_params}
use Rattle.scl.specs.declared.Mark.TheVariants.{Nothing}
use Rattle.scl.specs.declared.Happening.{Happening}
use Rattle.fs_master.specs.Table38.{first_master}
use Rattle.fs_device.specs.Table40.{first_device}
use Rattle.fs_device.specs.Calls as devices
use Rattle.histogram.specs.declared.Histogram.{Histogram}
use Rattle.histogram.specs.Samples.{bin_count, bin_of}
use Rattle.histogram.specs.Counted.{cleared_of, totals_of, with_bins, raised_if}
use Rattle.samples.specs.Tallied.{master_turn_of, tallied_by}
use Rattle.bench.specs.declared.Setting.{Setting}
use Rattle.bench.specs.declared.Live.{Live}
use Rattle.bench.specs.declared.Port.{Port}
use Rattle.bench.specs.declared.Bench.{Bench}
use Rattle.bench.specs.declared.Turned.{Turned}
use Rattle.bench.specs.declared.Reply.{Reply}

-- the histogram of a port, whose totals change with the ends and whose bins stand apart
abbrev pub histogram_of : Port → Histogram
histogram_of p = with_bins p.live.totals p.bins

-- both ends in their first state, no sample
abbrev pub first_live : ℕ → Live
first_live at = record { totals = totals_of cleared_of; device = first_device at; master = first_master at; unused = 0 }

-- what an accepted block makes of each part, from the old one
abbrev pub accepted : Setting → Params → Setting
accepted s params = record { params = params; running = true; unused = s.unused }

abbrev pub begun : Live → ℕ → Live
begun l at = record { totals = totals_of cleared_of; device = first_device at; master = first_master at; unused = l.unused }

-- "An accepted block .. puts both ends of the port in their first state, clears bins, total, trend and frozen mark, and takes W"
unfoldable pub accepted_port : Port → Params → ℕ → Port
accepted_port p params at = record { setting = accepted p.setting params; live = begun p.live at; bins = replicate bin_count 0 }

-- no accepted parameters
unfoldable pub new_port : Port
new_port = record {
  setting = record { params = no_params; running = false; unused = replicate 7 0 };
  live = first_live 0;
  bins = replicate bin_count 0;
}

unfoldable pub new_bench : Bench
new_bench = record { ports = replicate 8 new_port }

-- what a list of ports is read as past its end: no index gets there
unfoldable pub no_port : Port
no_port = record {
  setting = record { params = no_params; running = false; unused = [] };
  live = record {
    unused = 0;
    totals = record { sum = 0; total = 0; lowest = 0; highest = 0 };
    device = record {
      state = 0;
      SDcycles = 0;
      CommErrCount = 0;
      TimeoutCount = 0;
      DCommErr = false;
      DTimeout = false;
      SDset = false;
      setSD_DC = false;
      ChFAckReq_DC = false;
      DCount_i = 0;
      MCount = 0;
      DTimer = 0;
      runs = false;
      released = false;
      responded = false;
    };
    master = record {
      state = 0;
      MCount = 0;
      setSD = false;
      SDset_S = false;
      ChFAckReq = false;
      ChFAckReq_S = false;
      ChFAck_C_e = false;
      setSD_C = false;
      ChFAck_C = false;
      previous = false;
      carried = 0;
      awaited = 0;
      MTimer = 0;
      runs = false;
      start = 0;
      released = false;
    };
  };
  bins = [];
}

-- where the port of a number stands; none where no port has the number
abbrev pub place_of : ℕ → Option ℕ
place_of port = cond (outside 1 8 port) None (Some (port - 1))

-- its index; where no port has the number the first one's, which is then not looked at
abbrev pub index_of : ℕ → ℕ
index_of port = unwrap_or (place_of port) 0

-- the port of a number; of a number that no port has, a port that never ran
unfoldable pub port_at : Bench → ℕ → Port
port_at b port = cond (outside 1 8 port) new_port (get_or b.ports (port - 1) no_port)

-- the bench with another port of that number, the others as they were
unfoldable pub with_port : Bench → ℕ → Port → Bench
with_port b port p = cond (outside 1 8 port) b (record { ports = set b.ports (port - 1) p })

-- Every happening looks at the watchdog of both ends, then what arrived goes to the end it is for (R11). A sample raises its bin.
unfoldable pub turn_of : Setting → Live → Happening → Turned
turn_of s l h =
    let w = s.params.FSP_WatchdogTime in
    let m = master_turn_of l.master w h in
    let d = devices.step_of l.device w h in
    let c = tallied_by l.totals w m.t in
    record {
      live = record { totals = unwrap_or c l.totals; device = d.device; master = m.master; unused = l.unused };
      elapsed = m.elapsed;
      bin = option_and c (option_map (bin_of w) m.t);
      master = m.mark;
      device = d.mark;
    }

-- the port with what a turn changes
unfoldable pub stored : Port → Turned → Port
stored p t = record { setting = p.setting; live = t.live; bins = raised_if p.bins t.bin }

-- what the call says
unfoldable pub said : Turned → Reply
said t = record {
  answer = Taken;
  master = t.master;
  device = t.device;
  master_releases = t.live.master.released;
  device_releases = t.live.device.released;
}

-- a call at one port
pub record PortAfter : Type 0 where
  pub port : Port
  pub reply : Reply

unfoldable pub step_of : Port → Happening → PortAfter
step_of p h = let t = turn_of p.setting p.live h in record { port = stored p t; reply = said t }

-- nothing is handed on: in a refusal, and in a parameter block, which lends no safe values
unfoldable pub silent : Answer → Reply
silent a = record { answer = a; master = Nothing; device = Nothing; master_releases = false; device_releases = false }
