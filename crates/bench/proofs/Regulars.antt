-- The turn that is written apart is the turn. Assumes nothing.
use Prim.Native.Nat.{ℕ}
use mathlib.Core.Path.{◌≡◌, refl, sym, ap, ap₂, ◌∙◌}
use mathlib.Core.Bool.{Bool, true, false, ◌&&◌}
use Rattle.std.specs.Bool.{then_some}
use Rattle.std.specs.Prelude.{Option, None, Some, is_some, unwrap_or, option_map}
use Rattle.std.specs.Option.{option_and}
use Rattle.scl.specs.Time.{elapsed_of}
use Rattle.scl.specs.Happenings.{mark_of, is_fresh}
use Rattle.scl.specs.declared.Response.{Response}
use Rattle.scl.specs.declared.Happening.{Happening}
use Rattle.scl.specs.declared.Happening.TheVariants as happening
use Rattle.scl.proofs.Cases.{no, and_left, and_right}
use Rattle.fs_master.specs.declared.Master.{Master}
use Rattle.fs_master.specs.declared.Outcome.{Outcome}
use Rattle.fs_master.specs.declared.Row.TheVariants.{T4}
use Rattle.fs_master.specs.Table38.{admitted, t4}
use Rattle.fs_master.specs.Regular as masters
use Rattle.fs_master.proofs.Regulars.{regular_outcome, regular_step}
use Rattle.fs_device.specs.declared.Device.{Device}
use Rattle.fs_device.specs.Calls as devices
use Rattle.fs_device.proofs.Faults.{unchanged_same}
use Rattle.histogram.specs.declared.Totals.{Totals}
use Rattle.histogram.specs.Samples.{bin_of}
use Rattle.samples.specs.Tallied.{tallied_by}
use Rattle.samples.specs.Samples.{uses_PDin}
use Rattle.bench.specs.declared.Setting.{Setting}
use Rattle.bench.specs.declared.Live.{Live}
use Rattle.bench.specs.declared.Turned.{Turned}
use Rattle.bench.specs.Ports.{turn_of}
use Rattle.bench.specs.Regular.{elapsed_at, is_regular, regular_of}

-- the turn of a response that did this at the FS-Master, led to a release or not, and left this FS-Device
abbrev turned : Setting → Live → ℕ → Bool → Outcome → Device → Turned
turned s l at releases o d =
    let w = s.params.FSP_WatchdogTime in
    let t = then_some releases (elapsed_of at o.sent) in
    let c = tallied_by l.totals w t in
    record {
      live = record { totals = unwrap_or c l.totals; device = d; master = o.master; unused = l.unused };
      elapsed = elapsed_of at o.sent;
      bin = option_and c (option_map (bin_of w) t);
      master = o.mark;
      device = mark_of false d.released;
    }

counted_in : (c : Option Totals) (bin : ℕ) → option_map (λ _. bin) c ≡ option_and c (Some bin)
counted_in None bin = refl
counted_in (Some a) bin = refl

released_fresh : (m : Master) (at : ℕ) (f : Response) → uses_PDin T4 f.SDset m.setSD_C ≡ true → is_fresh (mark_of true (t4 (admitted m f) at f.SDset).released) ≡ true
unfolding t4 admitted
released_fresh m at f e = rw e

module _ (s : Setting) (l : Live) where
  response_turn : (at : ℕ) (f : Response) → is_regular s l (happening.Response at f) ≡ true → regular_of s l (happening.Response at f) ≡ turn_of s l (happening.Response at f)
  unfolding is_regular regular_of turn_of devices.step_of devices.clocked devices.quiet
  response_turn at f e =
      let w = s.params.FSP_WatchdogTime in
      let h = happening.Response at f in
      let m = masters.is_regular l.master w at f in
      let d = devices.unchanged l.device w h in
      let u = uses_PDin T4 f.SDset l.master.setSD_C in
      let c = is_some (tallied_by l.totals w (Some (elapsed_at l at))) in
      let released = and_left (m && d && u) c e in
      let both = and_left (m && d) u released in
      rw (counted_in (tallied_by l.totals w (Some (elapsed_at l at))) (bin_of w (elapsed_at l at)))
      (sym
      (ap₂ (λ (o : Outcome) (d : Device). turned s l at (is_fresh o.mark) o d) (regular_step l.master w at f (and_left m d both)) (unchanged_same l.device w h (and_right m d both))
      ∙ ap (λ (b : Bool). turned s l at b (regular_outcome l.master at f) l.device) (released_fresh l.master at f (and_right (m && d) u released))))

  pub regular_turn : (h : Happening) → is_regular s l h ≡ true → regular_of s l h ≡ turn_of s l h
  unfolding is_regular
  regular_turn (happening.Response at f) e = response_turn at f e
  regular_turn (happening.Request at q) e = no (sym e)
  regular_turn (happening.Clock at) e = no (sym e)
  regular_turn (happening.Operator at setSD_C ChFAck_C) e = no (sym e)
