-- `histogram::counted` meets its contract: it is `counted_parts`. Assumes nothing.
use Rattle.std.proofs.Common.{◌≡◌, None, Some, sym, ◌∙◌}
use Rattle.histogram.specs.Counted.{totals_of, totalled_of}
use Rattle.histogram.proofs.Parts.{counted_parts}
use Rattle.histogram.proofs.counted.Goals as goal

pub returns-in-Some : goal.returns-in-Some
returns-in-Some c =
    let args = c.args in
    let is : totalled_of (totals_of args.h) args.t ≡ Some c.in-Some.totals = cc in
    c.with_bins.ensures ∙ simp (c.raised.ensures, c.bin.ensures, c.from-in-Some.ensures) (sym (rw is at (counted_parts (totals_of args.h) args.h.bins args.w args.t)))

pub returns-in-None : goal.returns-in-None
returns-in-None c =
    let args = c.args in
    let is : totalled_of (totals_of args.h) args.t ≡ None = cc in
    sym (rw is at (counted_parts (totals_of args.h) args.h.bins args.w args.t))
