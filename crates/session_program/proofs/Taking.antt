-- The records of a chunk, used by one call of `feed` after the other. Assumes nothing.
use Prim.Native.Nat.{ℕ, ◌+◌, ◌-◌, ◌/◌, ◌≤◌, ◌<◌}
use native.Mathlib.Omega.{arith}
use mathlib.Core.Path.{◌≡◌, refl, sym, ap, ◌∙◌}
use mathlib.Core.Bool.{false}
use mathlib.Core.List.{List, [], ◌++◌}
use lib.ListN.{length, take, drop, get_or}
use lib.Seq.{length-take-le, slice, length-slice, take-add, take_at, drop_at, drop-drop, get_or-take, get_or-drop}
use Rattle.record.specs.Format.{Form, nothing, part, bad, whole, form, length_of, head_octets, most_octets}
use Rattle.record.proofs.Form.{part-short, nothing_none}
use Rattle.session.specs.declared.State.{State}
use Rattle.std.specs.Prelude.{Option, Some, None}
use Rattle.record.specs.declared.NoRecord.{NoRecord}
use Rattle.record.specs.declared.NoRecord.TheVariants.{Bad, Cut, End}
use Rattle.session.specs.declared.Fed.{Fed}
use Rattle.session.specs.Run.{Entry, is_whole, records_of, rest_of, ran, line_room, stop_of, fed_of}
use Rattle.session.proofs.Chunks.{Reads, here, reads_of, joined, fewer, all_of, ran_append, rest_unused, full_used}
use Rattle.session_program.specs.declared.Chunk.{Chunk}
use Rattle.session_program.specs.declared.Going.TheVariants.{On}
use Rattle.session_program.specs.Kept.{to_front, going_on, chunk_of, Used, used}

-- the form of what stands where a call of `feed` stopped
abbrev form_at : Option NoRecord → Form
form_at None = whole
form_at (Some Bad) = bad
form_at (Some Cut) = part
form_at (Some End) = nothing

form-at : (f : Form) → f ≡ form_at (stop_of f)
form-at nothing = refl
form-at part = refl
form-at bad = refl
form-at whole = refl

part_of : (from to : ℕ) (buf : List ℕ) → from ≤ to → to ≤ length buf → take (to - from) (drop from buf) ≡ slice from to buf
part_of from to buf h k =
    let sum : to ≡ from + (to - from) = omega arith in
    sym
    (ap (λ (n : ℕ). slice from n buf) sum
    ∙ ap (λ (l : List ℕ). drop from l) (take-add from (to - from) buf)
    ∙ drop_at (take from buf) (take (to - from) (drop from buf)) from (length-take-le from buf (omega arith)))

-- of the octets before `to`, the records before `from` are used: they led from st to st'
pub record Way (st : State) (to : ℕ) (buf₀ buf : List ℕ) (st' : State) (from : ℕ) : Type 0 where
  pub same : buf ≡ buf₀
  pub fits : to ≤ length buf
  pub within : from ≤ to
  pub octets : (k : ℕ) → get_or buf k 0 < 256
  pub records : List Entry
  pub reads : Reads (take to buf) records (slice from to buf)
  pub state : ran st records ≡ st'

pub begin : (st : State) (to : ℕ) (buf : List ℕ) → to ≤ length buf → ((k : ℕ) → get_or buf k 0 < 256) → Way st to buf buf st 0
begin st to buf h o = record { same = refl; fits = h; within = omega arith; octets = o; records = []; reads = here; state = refl }

module _ {st : State} {to : ℕ} {buf₀ buf : List ℕ} {st' : State} {from : ℕ} (w : Way st to buf₀ buf st' from) where
  here_are : take (to - from) (drop from buf) ≡ slice from to buf
  here_are = part_of from to buf w.within w.fits

  size : length (slice from to buf) ≡ to - from
  size = length-slice from to buf w.fits

  length-octet : head_octets ≤ length (slice from to buf) → length_of (slice from to buf) < 256
  length-octet h =
      let e : length_of (slice from to buf) ≡ get_or buf (from + 8) 0 =
      get_or-drop from (take to buf) 8 0 ∙ get_or-take to buf (from + 8) 0 (omega (arith, size)) in
      omega (arith, w.octets (from + 8))

  -- where there is more to read, what is left is no record
  short : (f : Form) → form (slice from to buf) ≡ f → is_whole f ≡ false → going_on f ≡ On → to - from < most_octets
  short nothing e n g = omega (arith, size, nothing_none (slice from to buf) e)
  short part e n g = omega (arith, size, part-short (slice from to buf) length-octet e)
  short bad e n g = let z : ◌≡◌ {A = ℕ} 0 1 = cc in absurd (omega arith)
  short whole e n g = let z : ◌≡◌ {A = ℕ} 0 1 = cc in absurd (omega arith)

  -- where no whole record stands, all are used
  done : {f : Form} → form (slice from to buf) ≡ f → is_whole f ≡ false → {r : Chunk} → r ≡ record { state = st'; left = to - from; going = going_on f }
      → (buf' : List ℕ) → buf' ≡ to_front from (to - from) buf → Used st (take to buf₀) r buf'
  done {f} e none {r} hr buf' hb =
      let s = take to buf in
      let last : is_whole (form (slice from to buf)) ≡ false = ap is_whole e ∙ none in
      let all = all_of (length s) w.reads last (fewer w.reads) in
      let chunk : chunk_of st s ≡ record { state = st'; left = to - from; going = going_on f } = rw (all.0, all.1, w.state, e, size) in
      let front : take (to - from) (to_front from (to - from) buf) ≡ slice from to buf =
      take_at (take (to - from) (drop from buf)) (drop (to - from) buf) (to - from) (ap length here_are ∙ size) ∙ here_are in
      let room : r.going ≡ On → r.left < most_octets = λ g. rw hr (short f e none (rw hr at g)) in
      rw (← w.same) (used (hr ∙ sym chunk) (rw all.1 last) (rw (hr, hb, all.1) front) room)

-- a call of `feed`
module _ {st : State} {to : ℕ} {buf₀ buf : List ℕ} {st' : State} {from : ℕ} (w : Way st to buf₀ buf st' from) (room : ℕ) (fed : Fed)
    (e : fed ≡ fed_of st' (take (to - from) (drop from buf)) room) where
  called : fed ≡ fed_of st' (slice from to buf) room
  called = e ∙ ap (λ (l : List ℕ). fed_of st' l room) (here_are w)

  behind : slice (from + fed.used) to buf ≡ rest_of (room / line_room) (slice from to buf)
  behind =
      ap (λ (f : Fed). slice (from + f.used) to buf) called
      ∙ sym (drop-drop (fed_of st' (slice from to buf) room).used from (take to buf))
      ∙ rest_unused st' (slice from to buf) room

  form_behind : form (slice (from + fed.used) to buf) ≡ form_at fed.stop
  unfolding fed_of
  form_behind = ap form behind ∙ form-at (form (rest_of (room / line_room) (slice from to buf))) ∙ ap (λ (f : Fed). form_at f.stop) (sym called)

  pub again : Way st to buf₀ buf fed.state (from + fed.used)
  unfolding fed_of
  again =
      let n = room / line_room in
      let rs = records_of n (slice from to buf) in
      let used : fed.used ≡ length (slice from to buf) - length (rest_of n (slice from to buf)) = ap (λ (f : Fed). f.used) called in
      record {
        same = w.same;
        fits = w.fits;
        within = omega (arith, size w, w.within);
        octets = w.octets;
        records = w.records ++ rs;
        reads = rw behind (joined w.reads (reads_of n (slice from to buf)));
        state = ran_append st w.records rs ∙ ap (λ (s : State). ran s rs) w.state ∙ ap (λ (f : Fed). f.state) (sym called);
      }

  -- one that was out of room leaves less
  pub falls : line_room ≤ room → fed.stop ≡ None → to - (from + fed.used) < to - from
  falls h g =
      let f : form (rest_of (room / line_room) (slice from to buf)) ≡ whole = sym (ap form behind) ∙ form_behind ∙ ap form_at g in
      let used : 0 < fed.used = rw called (full_used st' (slice from to buf) room h f) in
      omega (arith, again.within)

  -- one that was not is the last
  pub ends : {x : Option NoRecord} → fed.stop ≡ x → is_whole (form_at x) ≡ false → {r : Chunk}
      → r ≡ record { state = fed.state; left = to - (from + fed.used); going = going_on (form_at x) }
      → (buf' : List ℕ) → buf' ≡ to_front (from + fed.used) (to - (from + fed.used)) buf → Used st (take to buf₀) r buf'
  ends g none = done again (form_behind ∙ ap form_at g) none
