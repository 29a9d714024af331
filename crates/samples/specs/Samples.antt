-- 01, "The histogram and the trend", with 02, item 2: which responses since an accepted block are samples, and of what time. The block has this reading
-- and this W; in every list of happenings the latest stands first. Assumes nothing.
use Rattle.std.specs.Prelude.{ℕ, Bool, false, cond, not, ◌&&◌, ◌||◌, List, [], ◌∷◌, ◌++◌, eqb, leb, Option, Some, None}
use Rattle.scl.specs.Time.{elapsed_of}
use Rattle.scl.specs.Happenings.{reading_of}
use Rattle.scl.specs.declared.Happening.{Happening}
use Rattle.scl.specs.declared.Happening.TheVariants as happening
use Rattle.fs_master.specs.declared.Row.{Row}
use Rattle.fs_master.specs.declared.Row.TheVariants.{T4, T7, T8, T11, T12, T13, T14}
use Rattle.fs_master.specs.Calls.{step_of}
use Rattle.fs_master.specs.History.{master_after, watched_in, passes_by, signals}
use Rattle.histogram.specs.declared.Histogram.{Histogram}
use Rattle.histogram.specs.Counted.{cleared_of}
use Rattle.samples.specs.Tallied.{stepped}

-- ---- Samples: "A sample is the first response that passes for each count sent, with elapsed t at most W" (01), and "a sample counts only if the machine
-- releases process values at that step" (02, item 2, in the place of 01's "in any state").

-- 000 Table 38: "use PDin" stands in T4 and T11 alone, where neither the SDset of the SPDU nor setSD_C is 1
abbrev pub uses_PDin : Row → Bool → Bool → Bool
uses_PDin T4 SDset setSD_C = not (SDset || setSD_C)
uses_PDin T7 SDset setSD_C = false
uses_PDin T8 SDset setSD_C = false
uses_PDin T11 SDset setSD_C = not (SDset || setSD_C)
uses_PDin T12 SDset setSD_C = false
uses_PDin T13 SDset setSD_C = false
uses_PDin T14 SDset setSD_C = false

-- "at that step": by the row that the response of this call led to, if any, and setSD_C as it is in this call
unfoldable pub releases_by : Option Row → Bool → Happening → Bool
releases_by None setSD_C h = false
releases_by (Some row) setSD_C (happening.Response at f) = uses_PDin row f.SDset setSD_C
releases_by (Some row) setSD_C (happening.Request at q) = false
releases_by (Some row) setSD_C (happening.Clock at) = false
releases_by (Some row) setSD_C (happening.Operator at _ _) = false

abbrev pub releases_in : ℕ → ℕ → List Happening → Happening → Bool
releases_in at w past h = releases_by (step_of (master_after at w past) w h).arrival (signals past).setSD_C h

-- what is kept while a count stays, and begins anew where it takes another value
abbrev pub while_same : {A : Type 0} → ℕ → ℕ → A → A → A
while_same before later kept anew = cond (eqb later before) kept anew

-- "the reading of the call in which the FS-Master first put that count, since its last change or block, in an outgoing SPDU": for the count that
-- is sent after the calls. Two rows of one call are two changes (R17).
unfoldable pub sent_since : ℕ → ℕ → List Happening → ℕ
sent_since at w [] = at
sent_since at w (h ∷ past) =
    let before = (master_after at w past).MCount in
    let watched = (watched_in at w past h).MCount in
    let later = (master_after at w (h ∷ past)).MCount in
    while_same watched later (while_same before watched (sent_since at w past) (reading_of h)) (reading_of h)

-- a response has passed for the count that is sent after the calls
unfoldable pub passed_for_count : ℕ → ℕ → List Happening → Bool
passed_for_count at w [] = false
passed_for_count at w (h ∷ past) =
    let before = (master_after at w past).MCount in
    let watched = (watched_in at w past h).MCount in
    let later = (master_after at w (h ∷ past)).MCount in
    while_same watched later (passes_by (watched_in at w past h) h || while_same before watched (passed_for_count at w past) false) false

-- "t runs .. to the reading of the call that takes the response"
unfoldable pub time_of : ℕ → ℕ → List Happening → Happening → ℕ
time_of at w past h =
    let before = (master_after at w past).MCount in
    let watched = (watched_in at w past h).MCount in
    elapsed_of (reading_of h) (while_same before watched (sent_since at w past) (reading_of h))

unfoldable pub is_sample : ℕ → ℕ → List Happening → Happening → Bool
is_sample at w past h =
    let before = (master_after at w past).MCount in
    let watched = (watched_in at w past h).MCount in
    let first = not (while_same before watched (passed_for_count at w past) false) in
    passes_by (watched_in at w past h) h && first && releases_in at w past h && leb (time_of at w past h) w

-- the samples, here the first first
unfoldable pub samples : ℕ → ℕ → List Happening → List ℕ
samples at w [] = []
samples at w (h ∷ past) = samples at w past ++ cond (is_sample at w past h) (time_of at w past h ∷ []) []

-- the histogram after what happened since the block, which cleared it
unfoldable pub histogram_after : ℕ → ℕ → List Happening → Histogram
histogram_after at w [] = cleared_of
histogram_after at w (h ∷ past) = stepped (histogram_after at w past) (master_after at w past) w h
