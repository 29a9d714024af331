-- Method: one happening at a port's FS-Master and its histogram. What is meant is in Samples.antt. Assumes nothing.
use Rattle.std.specs.Prelude.{ℕ, cond, leb, Option, None, Some}
use Rattle.std.specs.Bool.{then_some}
use Rattle.scl.specs.Time.{elapsed_of}
use Rattle.scl.specs.Happenings.{reading_of, is_fresh}
use Rattle.scl.specs.declared.Happening.{Happening}
use Rattle.fs_master.specs.declared.Master.{Master}
use Rattle.fs_master.specs.Calls as masters
use Rattle.histogram.specs.declared.Histogram.{Histogram}
use Rattle.histogram.specs.declared.Totals.{Totals}
use Rattle.histogram.specs.Counted.{counted_of, totalled_of}
use Rattle.samples.specs.declared.MasterTurn.{MasterTurn}

-- A happening at the FS-Master. `elapsed`: the ms since the count that is awaited was first sent, which is the sample's start once the watchdog has been
-- looked at (R17). `t`: those, where a response has come that led to a release.
abbrev pub master_turn_of : Master → ℕ → Happening → MasterTurn
master_turn_of m w h =
    let o = masters.step_of m w h in
    let releases = is_fresh o.mark in
    let t = elapsed_of (reading_of h) o.sent in
    record {
      master = o.master;
      mark = o.mark;
      elapsed = t;
      t = then_some releases t;
    }

-- "with elapsed t at most W"; 01's whole sentence is `samples`
unfoldable pub tallied : Histogram → ℕ → Option ℕ → Histogram
tallied h w None = h
tallied h w (Some t) = cond (leb t w) (counted_of h w t) h

-- the same of the totals alone: none where nothing is counted
unfoldable pub tallied_by : Totals → ℕ → Option ℕ → Option Totals
tallied_by a w None = None
tallied_by a w (Some t) = cond (leb t w) (totalled_of a t) None

-- the histogram of a port after a happening, its FS-Master before it being m
abbrev pub stepped : Histogram → Master → ℕ → Happening → Histogram
stepped k m w h = tallied k w (master_turn_of m w h).t
