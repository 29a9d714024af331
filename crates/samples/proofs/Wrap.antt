-- The wrap of the clock changes no sample and no histogram: all readings since a block delayed, and the block's. Assumes nothing.
use Prim.Native.Nat.{ℕ, ◌<◌, ◌^◌}
use mathlib.Core.Path.{◌≡◌, refl, sym, ap, ap₂, ◌∙◌}
use mathlib.Core.Bool.{Bool, cond, ◌&&◌}
use mathlib.Core.List.{List, [], ◌∷◌, ◌++◌}
use lib.Dec.{leb}
use Rattle.scl.specs.Time.{elapsed_of}
use Rattle.scl.specs.Happenings.{reading_of, is_fresh}
use Rattle.scl.specs.Delayed.{delayed, delayed_happening, delayed_past, OnClock, none, more}
use Rattle.scl.specs.declared.Happening.{Happening}
use Rattle.scl.specs.declared.Happening.TheVariants as happening
use Rattle.scl.proofs.Time.{shifted}
use Rattle.fs_master.specs.declared.Outcome.{Outcome}
use Rattle.fs_master.specs.Calls.{step_of}
use Rattle.fs_master.specs.History.{master_after, delayed_outcome}
use Rattle.fs_master.proofs.Delayed.{delayed_call, sent_fits}
use Rattle.histogram.specs.declared.Histogram.{Histogram}
use Rattle.histogram.specs.Counted.{counted_of}
use Rattle.samples.specs.Samples.{time_of, is_sample, samples, histogram_after}
use Rattle.samples.proofs.Samples.{time_by, sample_is}
use Rattle.samples.proofs.Counted.{counts}

delayed_reading : (k : ℕ) (h : Happening) → reading_of (delayed_happening k h) ≡ delayed k (reading_of h)
unfolding delayed_happening
delayed_reading k (happening.Response at f) = refl
delayed_reading k (happening.Request at q) = refl
delayed_reading k (happening.Clock at) = refl
delayed_reading k (happening.Operator at setSD_C ChFAck_C) = refl

module _ (k at w : ℕ) (fits : at < 2 ^ 32) where
  pub delayed_time : {past : List Happening} → OnClock past → (h : Happening) → reading_of h < 2 ^ 32
      → time_of (delayed k at) w (delayed_past k past) (delayed_happening k h) ≡ time_of at w past h
  unfolding delayed_outcome
  delayed_time {past} rest h r =
      let o = step_of (master_after at w past) w h in
      time_by (delayed k at) w (delayed_past k past) (delayed_happening k h)
      ∙ ap₂ elapsed_of (delayed_reading k h) (ap (λ (x : Outcome). x.sent) (delayed_call k at w fits rest h r))
      ∙ shifted (reading_of h) o.sent k r (sent_fits at w fits rest h r)
      ∙ sym (time_by at w past h)

  pub delayed_sample : {past : List Happening} → OnClock past → (h : Happening) → reading_of h < 2 ^ 32
      → is_sample (delayed k at) w (delayed_past k past) (delayed_happening k h) ≡ is_sample at w past h
  unfolding delayed_outcome
  delayed_sample {past} rest h r =
      sample_is (delayed k at) w (delayed_past k past) (delayed_happening k h)
      ∙ ap₂ (λ (o : Outcome) (t : ℕ). is_fresh o.mark && leb t w) (delayed_call k at w fits rest h r) (delayed_time rest h r)
      ∙ sym (sample_is at w past h)

  -- The samples since the block are the same,
  pub delayed_samples : {past : List Happening} → OnClock past → samples (delayed k at) w (delayed_past k past) ≡ samples at w past
  unfolding samples
  delayed_samples none = refl
  delayed_samples (more {h} {past} r rest) =
      ap₂ (λ (a b : List ℕ). a ++ b) (delayed_samples rest)
      (ap₂ (λ (b : Bool) (t : ℕ). cond b (t ∷ []) []) (delayed_sample rest h r) (delayed_time rest h r))

  -- and so is the histogram.
  pub delayed_histogram : {past : List Happening} → OnClock past → histogram_after (delayed k at) w (delayed_past k past) ≡ histogram_after at w past
  unfolding histogram_after
  delayed_histogram none = refl
  delayed_histogram (more {h} {past} r rest) =
      counts (delayed k at) w (delayed_past k past) (delayed_happening k h) (histogram_after (delayed k at) w (delayed_past k past))
      ∙ ap (λ (g : Histogram). cond (is_sample (delayed k at) w (delayed_past k past) (delayed_happening k h)) (counted_of g w (time_of (delayed k at) w (delayed_past k past) (delayed_happening k h))) g) (delayed_histogram rest)
      ∙ ap₂ (λ (b : Bool) (t : ℕ). cond b (counted_of (histogram_after at w past) w t) (histogram_after at w past)) (delayed_sample rest h r) (delayed_time rest h r)
      ∙ sym (counts at w past h (histogram_after at w past))
