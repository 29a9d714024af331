-- A machine's outcome in numbers, for other languages. Assumes nothing.
use Rattle.std.specs.Prelude.{replicate}
use Rattle.scl.specs.Happenings.{check_number_of, mark_number_of}
use Rattle.fs_device.specs.Table40 as table40
use Rattle.fs_device.specs.declared.Outcome as device
use Rattle.fs_master.specs.Table38 as table38
use Rattle.fs_master.specs.declared.Outcome as master
use Rattle.export.specs.declared.machines.DeviceOutcome.{DeviceOutcome}
use Rattle.export.specs.declared.machines.MasterOutcome.{MasterOutcome}

abbrev pub device_told : device.Outcome → DeviceOutcome
device_told o = record {
  device = o.device;
  watchdog = table40.row_number_of o.watchdog;
  arrival = table40.row_number_of o.arrival;
  check = check_number_of o.check;
  old = o.old;
  passed = o.passed;
  mark = mark_number_of o.mark;
  unused = replicate 2 0;
}

abbrev pub master_told : master.Outcome → MasterOutcome
master_told o = record {
  master = o.master;
  watchdog = table38.row_number_of o.watchdog;
  arrival = table38.row_number_of o.arrival;
  check = check_number_of o.check;
  old = o.old;
  passed = o.passed;
  mark = mark_number_of o.mark;
  unused = replicate 2 0;
}
