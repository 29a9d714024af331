-- What is told outside, of results whose fields all differ: each stands in the field of its name, with 01's and 000's numbers. Computed. Assumes nothing.
use mathlib.Core.Path.{◌≡◌, refl}
use mathlib.Core.Bool.{true, false}
use mathlib.Core.List.{[], ◌∷◌, map}
use lib.ListN.{replicate}
use Rattle.std.specs.Prelude.{Ok, Err, Some, None}
use Rattle.answer.specs.declared.Refusal.TheVariants.{FieldRange, Signature, Buffer, NotRunning, NoSamples}
use Rattle.block.specs.Rules.{no_params}
use Rattle.histogram.specs.Samples.{limit}
use Rattle.histogram.specs.Counted.{frozen_of}
use Rattle.histogram.specs.Trends.{zero}
use Rattle.bench.specs.Ports.{new_port}
use Rattle.signature.specs.declared.Engine.TheVariants as engines
use Rattle.block.specs.declared.Params.{Params}
use Rattle.scl.specs.declared.Mark.TheVariants.{Fresh, GoesOn, Safe}
use Rattle.scl.specs.declared.Check.TheVariants as check
use Rattle.fs_device.specs.declared.Device.{Device}
use Rattle.fs_device.specs.declared.Row.TheVariants as row40
use Rattle.fs_master.specs.declared.Master.{Master}
use Rattle.fs_master.specs.declared.Row.TheVariants as row38
use Rattle.histogram.specs.declared.TrendPoint.{TrendPoint}
use Rattle.bench.specs.declared.End.TheVariants as end
use Rattle.bench.specs.Images.{split_answer, spdu_part, other_part}
use Rattle.bench.proofs.Arises.{running}
use Rattle.session.specs.declared.State.{State}
use Rattle.std.specs.Prelude.{Option, None, Some}
use Rattle.record.specs.declared.NoRecord.TheVariants.{Bad, Cut, End}
use Rattle.export.specs.Told.{told_of, engine_of}
use Rattle.export.specs.Outcomes.{device_told, master_told}
use Rattle.export.specs.Sessions.{stop_number_of, fed_told}
use Rattle.export.specs.Benches.{reply_told, split_told, end_of, handed_told, trend_told, bins_told, master_shown, device_shown}

-- of any parameters, machines, point and state
pub record Told (p : Params) (m : Master) (d : Device) (t : TrendPoint) (st : State) : Type 0 where
  pub block : told_of (Ok p) ≡ record { number = 0; offset = 0; params = p; unused = replicate 2 0 }
  pub block_refused : told_of (Err (Signature 29)) ≡ record { number = 6; offset = 29; params = no_params; unused = replicate 2 0 }
  pub reply :
      reply_told (record { answer = Err (FieldRange 38); master = Safe; device = Fresh; master_releases = false; device_releases = true })
      ≡ record { number = 5; offset = 38; master = 2; device = 0; master_releases = false; device_releases = true; unused = replicate 2 0 }
  pub master :
      master_told (record { master = m; watchdog = Some row38.T14; arrival = Some row38.T12; check = Some check.Port; old = true; passed = false; sent = 9; mark = GoesOn })
      ≡ record { master = m; watchdog = 14; arrival = 12; check = 2; old = true; passed = false; mark = 1; unused = replicate 2 0 }
  pub device :
      device_told (record { device = d; watchdog = Some row40.T30; arrival = Some row40.T29; check = Some check.Count; old = false; passed = true; mark = Safe })
      ≡ record { device = d; watchdog = 30; arrival = 29; check = 3; old = false; passed = true; mark = 2; unused = replicate 2 0 }
  pub split : split_told 1 running (replicate 6 0) ≡ record { number = 0; spdu = 6; other = 0; unused = replicate 7 0 }
  pub split_refused : split_told 1 running [] ≡ record { number = 7; spdu = 0; other = 0; unused = replicate 7 0 }
  pub handed : handed_told (Ok 3) ≡ record { number = 0; octets = 3; unused = replicate 7 0 }
  pub handed_refused : handed_told (Err Buffer) ≡ record { number = 7; octets = 0; unused = replicate 7 0 }
  pub trend : trend_told (Ok t) ≡ record { number = 0; point = t; unused = replicate 7 0 }
  pub trend_refused : trend_told (Err NoSamples) ≡ record { number = 11; point = record { mean = zero; lowest = zero; highest = zero }; unused = replicate 7 0 }
  pub bins :
      bins_told (Ok (record { bins = 1 ∷ []; total = 2; frozen = true }))
      ≡ record { number = 0; bins = 1 ∷ []; total = 2; frozen = true; unused = replicate 2 0 }
  pub bins_refused : bins_told (Err NotRunning) ≡ record { number = 9; bins = replicate 32 0; total = 0; frozen = false; unused = replicate 2 0 }
  pub shown_master : master_shown (Ok m) ≡ record { number = 0; master = m; unused = replicate 3 0 }
  pub master_refused : master_shown (Err NotRunning) ≡ record { number = 9; master = new_port.live.master; unused = replicate 3 0 }
  pub shown_device : device_shown (Ok d) ≡ record { number = 0; device = d; unused = replicate 3 0 }
  pub device_refused : device_shown (Err NotRunning) ≡ record { number = 9; device = new_port.live.device; unused = replicate 3 0 }
  pub fed : fed_told (record { state = st; used = 5; written = 6; stop = Some Cut }) ≡ record { state = st; used = 5; written = 6; stop = 2; unused = replicate 7 0 }
  pub stops : map stop_number_of (None ∷ Some Bad ∷ Some Cut ∷ Some End ∷ []) ≡ 0 ∷ 1 ∷ 2 ∷ 3 ∷ []
  pub engines : map engine_of (false ∷ true ∷ []) ≡ engines.Table ∷ engines.Shift ∷ []
  pub ends : map end_of (false ∷ true ∷ []) ≡ end.Master ∷ end.Device ∷ []

pub told : (p : Params) (m : Master) (d : Device) (t : TrendPoint) (st : State) → Told p m d t st
unfolding split_answer spdu_part other_part new_port frozen_of limit
told p m d t st = record {
  block = refl;
  block_refused = refl;
  reply = refl;
  master = refl;
  device = refl;
  split = refl;
  split_refused = refl;
  handed = refl;
  handed_refused = refl;
  trend = refl;
  trend_refused = refl;
  bins = refl;
  bins_refused = refl;
  shown_master = refl;
  master_refused = refl;
  shown_device = refl;
  device_refused = refl;
  fed = refl;
  stops = refl;
  engines = refl;
  ends = refl;
}
