-- A turn that raises a bin raises one of the port's. Assumes nothing.
use Prim.Native.Nat.{ℕ}
use mathlib.Core.Path.{◌≡◌, refl, sym, ap, ◌∙◌}
use mathlib.Core.Bool.{true}
use lib.Dec.{leb}
use borrow.Author.Tests.{leb-true}
use Rattle.std.specs.Prelude.{Option, None, Some, option_map}
use Rattle.std.specs.Option.{option_and}
use Rattle.scl.specs.declared.Happening.{Happening}
use Rattle.scl.proofs.Cases.{cond_case}
use Rattle.histogram.specs.declared.Totals.{Totals}
use Rattle.histogram.specs.Samples.{bin_of}
use Rattle.histogram.proofs.Samples.{bin_below}
use Rattle.samples.specs.Tallied.{master_turn_of, tallied_by}
use Rattle.bench.specs.declared.Setting.{Setting}
use Rattle.bench.specs.declared.Live.{Live}
use Rattle.bench.specs.declared.Turned.{Turned}
use Rattle.bench.specs.Ports.{turn_of}
use Rattle.bench.specs.Columns.{IsBin}

in_time : (a : Totals) (w : ℕ) (t : ℕ) {b : Totals} → tallied_by a w (Some t) ≡ Some b → leb t w ≡ true
unfolding tallied_by
in_time a w t {b} = cond_case (λ (c : Option Totals). c ≡ Some b → leb t w ≡ true) (leb t w) (λ e _. e) (λ _ e. cc)

counted_below : (a : Totals) (w : ℕ) (t : Option ℕ) (i : ℕ) → option_and (tallied_by a w t) (option_map (bin_of w) t) ≡ Some i → IsBin i
unfolding tallied_by
counted_below a w None i e = absurd (cc)
counted_below a w (Some t) i e = go (tallied_by a w (Some t)) refl e
  where
    go : (c : Option Totals) → tallied_by a w (Some t) ≡ c → option_and c (Some (bin_of w t)) ≡ Some i → IsBin i
    go None h e = absurd (cc)
    go (Some b) h e =
        let is : bin_of w t ≡ i = cc in
        rw (← is) (bin_below w t (leb-true t w (in_time a w t h)))

-- a bin that a turn raises is one of the 32
pub below : (s : Setting) (l : Live) (h : Happening) {t : Turned} → t ≡ turn_of s l h → (i : ℕ) → t.bin ≡ Some i → IsBin i
unfolding turn_of
below s l h {t} e i raised =
    let w = s.params.FSP_WatchdogTime in
    counted_below l.totals w (master_turn_of l.master w h).t i (ap (λ (t : Turned). t.bin) (sym e) ∙ raised)
