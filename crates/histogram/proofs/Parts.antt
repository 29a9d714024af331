-- A sample counted in a histogram is counted in its two parts, the totals and the bins. Assumes nothing.
use Rattle.std.proofs.Common.{◌≡◌, ℕ, Bool, true, false, cond, eqb, List, Option, None, Some, refl}
use Rattle.std.specs.Option.{unwrap_or, option_and}
use Rattle.histogram.specs.declared.Totals.{Totals}
use Rattle.histogram.specs.Samples.{bin_of, limit}
use Rattle.histogram.specs.Counted.{frozen_of, with_bins, added, raised_if, with_sample, counted_of, totalled_of}

pub counted_parts : (a : Totals) (bins : List ℕ) (w t : ℕ) → counted_of (with_bins a bins) w t ≡ with_bins (unwrap_or (totalled_of a t) a) (raised_if bins (option_and (totalled_of a t) (Some (bin_of w t))))
unfolding frozen_of with_sample counted_of totalled_of
counted_parts a bins w t = go (eqb a.total limit)
  where
    after : Bool → Option Totals
    after full = cond full None (Some (added a t))

    go : (full : Bool) → cond full (with_bins a bins) (with_bins (added a t) (raised_if bins (Some (bin_of w t)))) ≡ with_bins (unwrap_or (after full) a) (raised_if bins (option_and (after full) (Some (bin_of w t))))
    go true = refl
    go false = refl
