-- A histogram that counts its samples one by one holds what document 01 says of the list of them, and nothing in it wraps. Assumes nothing.
use Rattle.std.proofs.Common.{◌≡◌, ℕ, ◌+◌, ◌%◌, ◌^◌, ◌<◌, ◌≤◌, Bool, true, false, cond, eqb, leb, List, [], ◌∷◌, ◌++◌, length, get_or, set, sym, refl, ◌∙◌, append-nil, mul-le-mul_left, arith, length-append, length-set, length-take, take_all, get_or-set_other, get_or-set_same, eq-eqb, ne_eqb, eqb-true, leb-false, leb-true}
use mathlib.Core.List.{foldl}
use borrow.Author.Tests.{eqb-false}
use lib.ListN.{get_or-replicate}
use lib.Seq.{append_snoc, take-append-le, take-nil}
use Rattle.histogram.specs.declared.Histogram.{Histogram}
use Rattle.histogram.specs.Samples.{bin_count, bin_of, Within, none, more, in_bin, Counts, limit, CountsToLimit, Fits}
use Rattle.histogram.specs.Counted.{frozen_of, cleared_of, with_sample, counted_of, counted_all}
use Rattle.histogram.proofs.Samples.{in_bin_more, sum_more, lowest_more, highest_more, within_more, in_bin_below, sum_below, lowest_within, highest_within, within_take}

-- ---- nothing wraps
module _ {w : ℕ} {samples : List ℕ} {h : Histogram} (small : w ≤ 65535) (within : Within w samples) where
  fits : length samples ≤ limit → Counts w samples h → Fits h
  unfolding limit
  fits few counts =
      record {
        total = omega (arith, counts.total);
        bins = λ i l. omega (arith, counts.bins i l, counts.total, in_bin_below w i samples);
        sum = omega (arith, sum_below within, mul-le-mul_left (length samples) small, counts.sum);
        lowest = omega (arith, lowest_within within, counts.lowest);
        highest = omega (arith, highest_within within, counts.highest);
      }

-- ---- one sample more, below the limit
module _ {w : ℕ} {samples : List ℕ} {h : Histogram} (small : w ≤ 65535) (room : length samples < limit) (within : Within w samples) (counts : Counts w samples h) (t : ℕ) (l : t ≤ w) where
  one_more : (i : ℕ) → i < bin_count → (get_or h.bins i 0 + 1) % 2 ^ 32 ≡ in_bin w i samples + 1
  unfolding limit
  one_more i b = omega (arith, counts.bins i b, in_bin_below w i samples)

  bins_at : (i : ℕ) → i < bin_count → (same : Bool) → eqb (bin_of w t) i ≡ same → get_or (set h.bins (bin_of w t) ((get_or h.bins (bin_of w t) 0 + 1) % 2 ^ 32)) i 0 ≡ in_bin w i samples + cond same 1 0
  bins_at i b true e = rw (eqb-true (bin_of w t) i e) (get_or-set_same h.bins i _ 0 (omega (arith, counts.size)) ∙ one_more i b)
  bins_at i b false e = get_or-set_other h.bins (bin_of w t) i _ 0 (λ d. eqb-false (bin_of w t) i e (sym d)) ∙ omega (arith, counts.bins i b)

  with_sample_lem : Counts w (samples ++ t ∷ []) (with_sample h w t)
  unfolding with_sample
  with_sample_lem =
      record {
        size = simp length-set counts.size;
        bins = λ i b. bins_at i b (eqb (bin_of w t) i) refl ∙ sym (in_bin_more t w i samples);
        total = omega (arith, counts.total, length-append samples (t ∷ []));
        sum = omega (arith, (fits small within (omega arith) counts).sum, counts.sum, sum_more t samples);
        lowest = simp (counts.total, counts.lowest) (sym (lowest_more t samples));
        highest = simp (counts.total, counts.highest) (sym (highest_more t samples));
      }

-- ---- one sample more, at the limit or below
module _ {w : ℕ} {samples : List ℕ} {h : Histogram} (small : w ≤ 65535) (within : Within w samples) (holds : CountsToLimit w samples h) (t : ℕ) (l : t ≤ w) where
  at-limit : limit ≤ length samples → CountsToLimit w (samples ++ t ∷ []) h
  at-limit full = rw (take-append-le limit samples (t ∷ [])) holds

  below-limit : length samples < limit → CountsToLimit w (samples ++ t ∷ []) (with_sample h w t)
  below-limit room =
      let all : length (samples ++ t ∷ []) ≤ limit = simp length-append (omega arith) in
      rw (take_all limit (samples ++ t ∷ [])) (with_sample_lem small room within (rw (take_all limit samples (omega arith)) at holds) t l)

  pub counted-holds : CountsToLimit w (samples ++ t ∷ []) (counted_of h w t)
  unfolding counted_of frozen_of
  counted-holds = go (eqb h.total limit) refl
    where
      go : (b : Bool) → eqb h.total limit ≡ b → CountsToLimit w (samples ++ t ∷ []) (cond b h (with_sample h w t))
      go true e = at-limit (omega (arith, eqb-true h.total limit e, holds.total, length-take limit samples))
      go false e = below-limit (omega (arith, eqb-false h.total limit e, holds.total, length-take limit samples))

-- ---- any number of samples
pub cleared_holds : (w : ℕ) → CountsToLimit w [] cleared_of
unfolding in_bin
cleared_holds w = rw (take-nil limit) (record { size = refl; bins = λ i l. get_or-replicate bin_count i 0 0 l; total = refl; sum = refl; lowest = refl; highest = refl })

module _ (w : ℕ) (small : w ≤ 65535) where
  then_all : (done : List ℕ) (h : Histogram) (rest : List ℕ) → Within w done → Within w rest → CountsToLimit w done h → CountsToLimit w (done ++ rest) (foldl (λ h t. counted_of h w t) h rest)
  then_all done h [] a none holds = rw append-nil holds
  then_all done h (t ∷ rest) a (more l b) holds =
      rw append_snoc at (then_all (done ++ t ∷ []) (counted_of h w t) rest (within_more t a l) b (counted-holds small a holds t l))

  pub all-counted : (samples : List ℕ) → Within w samples → CountsToLimit w samples (counted_all w samples)
  all-counted samples within = then_all [] cleared_of samples none within (cleared_holds w)

pub nothing_wraps : {w : ℕ} {samples : List ℕ} {h : Histogram} → w ≤ 65535 → Within w samples → CountsToLimit w samples h → Fits h
nothing_wraps {w} {samples} {h} small within holds = fits small (within_take limit within) (omega (arith, length-take limit samples)) holds

module _ {w : ℕ} (samples : List ℕ) {h : Histogram} (holds : CountsToLimit w samples h) where
  -- the frozen mark is set exactly where there are as many samples as the limit, or more
  pub frozen_mark : frozen_of h ≡ leb limit (length samples)
  unfolding frozen_of
  frozen_mark = go (leb limit (length samples)) refl
    where
      go : (b : Bool) → leb limit (length samples) ≡ b → eqb h.total limit ≡ b
      go true e = eq-eqb h.total limit (omega (arith, leb-true limit (length samples) e, holds.total, length-take limit samples))
      go false e = ne_eqb h.total limit (λ z. omega (arith, leb-false limit (length samples) e, holds.total, length-take limit samples))
