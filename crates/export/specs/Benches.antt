-- The bench's results in numbers, for other languages. Assumes nothing.
use Rattle.std.specs.Prelude.{ℕ, Bool, cond, List, eqb, length, replicate, Result, Ok, Err}
use Rattle.answer.specs.Answers.{number_of, offset_of}
use Rattle.scl.specs.declared.Mark.{Mark}
use Rattle.scl.specs.declared.Mark.TheVariants.{Fresh, GoesOn, Safe, Nothing}
use Rattle.scl.specs.Happenings.{mark_number_of}
use Rattle.answer.specs.declared.Refusal.{Refusal}
use Rattle.fs_master.specs.declared.Master.{Master}
use Rattle.fs_device.specs.declared.Device.{Device}
use Rattle.histogram.specs.declared.TrendPoint.{TrendPoint}
use Rattle.histogram.specs.Trends.{point_in}
use Rattle.bench.specs.declared.Port.{Port}
use Rattle.bench.specs.declared.Reply.{Reply}
use Rattle.bench.specs.declared.BenchAfter.{BenchAfter}
use Rattle.bench.specs.declared.End.{End}
use Rattle.bench.specs.declared.End.TheVariants as end
use Rattle.bench.specs.declared.Bins.{Bins}
use Rattle.bench.specs.Shown.{told_bins, told_master, told_device}
use Rattle.bench.specs.Images.{split_answer, spdu_part, other_part}
use Rattle.export.specs.declared.histograms.NumberedTrend.{NumberedTrend}
use Rattle.export.specs.declared.benches.ReplyTold.{ReplyTold}
use Rattle.export.specs.declared.benches.BenchTold.{BenchTold}
use Rattle.export.specs.declared.benches.SplitTold.{SplitTold}
use Rattle.export.specs.declared.benches.HandedTold.{HandedTold}
use Rattle.export.specs.declared.benches.BinsTold.{BinsTold}
use Rattle.export.specs.declared.benches.MasterTold.{MasterTold}
use Rattle.export.specs.declared.benches.DeviceTold.{DeviceTold}

abbrev pub reply_told : Reply → ReplyTold
reply_told r = record {
  number = number_of r.answer;
  offset = offset_of r.answer;
  master = mark_number_of r.master;
  device = mark_number_of r.device;
  master_releases = r.master_releases;
  device_releases = r.device_releases;
  unused = replicate 2 0;
}

abbrev pub bench_told : BenchAfter → BenchTold
bench_told a = record { bench = a.bench; reply = reply_told a.reply }

abbrev pub split_told : ℕ → Port → List ℕ → SplitTold
split_told port p octets = record {
  number = number_of (split_answer port p octets);
  spdu = length (spdu_part port p octets);
  other = length (other_part port p octets);
  unused = replicate 7 0;
}

-- the mark of a number (`mark_number_of`); a number of none hands on nothing
unfoldable pub mark_numbered : ℕ → Mark
mark_numbered n = cond (eqb n 0) Fresh (cond (eqb n 1) GoesOn (cond (eqb n 2) Safe Nothing))

abbrev pub end_of : Bool → End
end_of device = cond device end.Device end.Master

-- of a refusal no octet is handed on
abbrev pub octets_in : Result ℕ Refusal → ℕ
octets_in (Ok n) = n
octets_in (Err r) = 0

abbrev pub handed_told : Result ℕ Refusal → HandedTold
handed_told h = record { number = number_of h; octets = octets_in h; unused = replicate 7 0 }

abbrev pub trend_told : Result TrendPoint Refusal → NumberedTrend
trend_told t = record { number = number_of t; point = point_in t; unused = replicate 7 0 }

abbrev pub bins_told : Result Bins Refusal → BinsTold
bins_told b = let told = told_bins b in record { number = number_of b; bins = told.bins; total = told.total; frozen = told.frozen; unused = replicate 2 0 }

abbrev pub master_shown : Result Master Refusal → MasterTold
master_shown m = record { number = number_of m; master = told_master m; unused = replicate 3 0 }

abbrev pub device_shown : Result Device Refusal → DeviceTold
device_shown d = record { number = number_of d; device = told_device d; unused = replicate 3 0 }
