-- Method: the turn that nearly every record of a session takes: a response in time, by T4, that is a sample, at a port whose FS-Device is unchanged. It is said here
-- as it is worked out; proofs/Regulars.antt has that it is `turn_of`. Assumes nothing.
use Rattle.std.specs.Prelude.{ℕ, Bool, true, false, ◌&&◌, Some, None, is_some, unwrap_or, option_map}
use Rattle.scl.specs.Time.{elapsed_of}
use Rattle.scl.specs.Happenings.{mark_of}
use Rattle.scl.specs.declared.Mark.TheVariants.{Nothing}
use Rattle.scl.specs.declared.Response.{Response}
use Rattle.scl.specs.declared.Happening.{Happening}
use Rattle.scl.specs.declared.Happening.TheVariants as happening
use Rattle.fs_master.specs.declared.Row.TheVariants.{T4}
use Rattle.fs_master.specs.Table38.{admitted, t4}
use Rattle.fs_master.specs.Regular as masters
use Rattle.fs_device.specs.Calls as devices
use Rattle.histogram.specs.Samples.{bin_of}
use Rattle.samples.specs.Tallied.{tallied_by}
use Rattle.samples.specs.Samples.{uses_PDin}
use Rattle.bench.specs.declared.Setting.{Setting}
use Rattle.bench.specs.declared.Live.{Live}
use Rattle.bench.specs.declared.Turned.{Turned}

-- from the reading of the count that was sent
abbrev pub elapsed_at : Live → ℕ → ℕ
elapsed_at l at = elapsed_of at l.master.start

abbrev pub is_regular_response : Setting → Live → ℕ → Response → Bool
is_regular_response s l at f =
    let w = s.params.FSP_WatchdogTime in
    masters.is_regular l.master w at f
    && devices.unchanged l.device w (happening.Response at f)
    && uses_PDin T4 f.SDset l.master.setSD_C
    && is_some (tallied_by l.totals w (Some (elapsed_at l at)))

unfoldable pub is_regular : Setting → Live → Happening → Bool
is_regular s l (happening.Response at f) = is_regular_response s l at f
is_regular s l (happening.Request at q) = false
is_regular s l (happening.Clock at) = false
is_regular s l (happening.Operator at setSD_C ChFAck_C) = false

abbrev pub regular_response : Setting → Live → ℕ → Response → Turned
regular_response s l at f =
    let w = s.params.FSP_WatchdogTime in
    let c = tallied_by l.totals w (Some (elapsed_at l at)) in
    let m = t4 (admitted l.master f) at f.SDset in
    record {
      live = record { totals = unwrap_or c l.totals; device = l.device; master = m; unused = l.unused };
      elapsed = elapsed_at l at;
      bin = option_map (λ _. bin_of w (elapsed_at l at)) c;
      master = mark_of true m.released;
      device = mark_of false l.device.released;
    }

-- nothing changes
abbrev pub still : Live → Turned
still l = record { live = l; elapsed = 0; bin = None; master = Nothing; device = Nothing }

unfoldable pub regular_of : Setting → Live → Happening → Turned
regular_of s l (happening.Response at f) = regular_response s l at f
regular_of s l (happening.Request at q) = still l
regular_of s l (happening.Clock at) = still l
regular_of s l (happening.Operator at setSD_C ChFAck_C) = still l
