-- The octets that one read after the other brings are one session, and at its end the text is that of the session. Assumes nothing.
use Prim.Native.Nat.{ℕ, zero, suc, ◌+◌, ◌-◌, ◌≤◌, ◌<◌}
use native.Mathlib.Omega.{arith}
use native.Mathlib.Numerals.{add-one}
use mathlib.Core.Path.{◌≡◌, refl, sym, ap, ◌∙◌}
use mathlib.Core.Bool.{false, not}
use mathlib.Core.List.{List, [], ◌++◌}
use lib.Dec.{eqb, ltb}
use lib.ListN.{length, take, drop}
use lib.Seq.{take-append_seam, take-add}
use borrow.Author.Tests.{lt-ltb, le-ltb, ne_eqb}
use Rattle.std.specs.Prelude.{Result, Ok}
use Rattle.std.specs.declared.io.Error.{Error}
use Rattle.record.specs.Format.{form, most_octets}
use Rattle.session.specs.declared.State.{State}
use Rattle.session.specs.Run.{Entry, is_whole, start, ran, closing, closing_room, finish_text, fronted, printed_by}
use Rattle.session.proofs.Chunks.{Reads, reads_of, extended, joined, fewer, all_of, ran_append}
use Rattle.session_program.specs.declared.Chunk.{Chunk}
use Rattle.session_program.specs.declared.Going.TheVariants.{On, Over, Stopped}
use Rattle.session_program.specs.Kept.{records_in, left_of, chunk_of, Used, unwritten, used, Brought, unread, none, some, Read, read, first, After, none_yet, one_more, most_reads, Closed, Ran}

-- ---- What `read` answered

module _ {last r : Chunk} {buf buf' : List ℕ} {got : Result ℕ Error} (n : ℕ) (is : got ≡ Ok n) where
  pub at_zero : n ≡ 0 → r ≡ record { state = last.state; left = last.left; going = Over } → Brought last got buf r buf'
  at_zero z h = none (is ∙ ap Ok z) h

  pub above_zero : (n ≡ 0 → ⊥) → Used last.state (take (last.left + n) buf) r buf' → Brought last got buf r buf'
  above_zero z h =
      let e : n ≡ suc (n - 1) = omega arith in
      some (n - 1) (is ∙ ap Ok e) (rw e at h)

-- ---- One read after the other

-- Up to this chunk, these octets have been read.
record Session (last : Chunk) : Type 0 where
  pub octets : List ℕ
  pub state : last.state ≡ ran start (records_in octets)
  pub left : last.left ≡ length (left_of octets)

-- and what is left of them is at the front of the buffer, with room behind it
record Carried (last : Chunk) (buf : List ℕ) : Type 0 where
  pub session : Session last
  pub kept : take last.left buf ≡ left_of session.octets
  pub short : last.going ≡ On → last.left < most_octets

nothing_read : (buf : List ℕ) → Carried first buf
nothing_read buf = record { session = record { octets = []; state = refl; left = refl }; kept = refl; short = λ g. omega arith }

-- octets behind a session's are those behind what is left of it
grown : (s t : List ℕ) → is_whole (form (left_of (left_of s ++ t))) ≡ false
    → (records_in (s ++ t) ≡ records_in s ++ records_in (left_of s ++ t)) × (left_of (s ++ t) ≡ left_of (left_of s ++ t))
grown s t e =
    let reads : Reads (s ++ t) (records_in s ++ records_in (left_of s ++ t)) (left_of (left_of s ++ t)) =
    joined (extended t (reads_of (length s) s)) (reads_of (length (left_of s ++ t)) (left_of s ++ t)) in
    all_of (length (s ++ t)) reads e (fewer reads)

goes : {r b : Chunk} → r ≡ b → r.going ≡ b.going
goes e = ap (λ (x : Chunk). x.going) e

module _ {last r : Chunk} {buf buf' : List ℕ} (k : Carried last buf) where
  longer : (t : List ℕ) → r ≡ chunk_of last.state (take last.left buf ++ t) → is_whole (form (left_of (take last.left buf ++ t))) ≡ false
      → take r.left buf' ≡ left_of (take last.left buf ++ t) → (r.going ≡ On → r.left < most_octets) → Carried r buf'
  longer t e w b l =
      let octets = k.session.octets in
      let rest = left_of octets in
      let e' : r ≡ chunk_of last.state (rest ++ t) = rw k.kept at e in
      let g = grown octets t (rw k.kept at w) in
      record {
        session = record {
          octets = octets ++ t;
          state = ap (λ (x : Chunk). x.state) e'
              ∙ ap (λ (x : State). ran x (records_in (rest ++ t))) k.session.state
              ∙ sym (ran_append start (records_in octets) (records_in (rest ++ t)))
              ∙ ap (λ (l : List Entry). ran start l) (sym g.0);
          left = ap (λ (x : Chunk). x.left) e' ∙ ap length (sym g.1);
        };
        kept = rw k.kept at b ∙ sym g.1;
        short = l;
      }

  -- the octets of a read
  brought : (n : ℕ) (now : List ℕ) → take last.left now ≡ take last.left buf → r ≡ chunk_of last.state (take (last.left + n) now)
      → is_whole (form (left_of (take (last.left + n) now))) ≡ false → take r.left buf' ≡ left_of (take (last.left + n) now)
      → (r.going ≡ On → r.left < most_octets) → Carried r buf'
  brought n now e f w b l =
      let split : take (last.left + n) now ≡ take last.left buf ++ take n (drop last.left now) = rw (take-add last.left n now, e) in
      longer (take n (drop last.left now)) (rw split at f) (rw split at w) (rw split at b) l

  next : Read last (take last.left buf) r buf' → r.going ≡ On → Carried r buf'
  next (read got now h e (unread m z f)) g = let z : ◌≡◌ {A = ℕ} 0 1 = cc (goes f) in absurd (omega arith)
  next (read got now h e (none z f)) g = let z : ◌≡◌ {A = ℕ} 0 1 = cc (goes f) in absurd (omega arith)
  next (read got now h e (some n z (unwritten f))) g = let z : ◌≡◌ {A = ℕ} 0 1 = cc (goes f) in absurd (omega arith)
  next (read got now h e (some n z (used f w b l))) g = brought (suc n) now e f w b l

  over : Read last (take last.left buf) r buf' → r.going ≡ Over → Session r
  over (read got now h e (unread m z f)) g = let z : ◌≡◌ {A = ℕ} 0 1 = cc (goes f) in absurd (omega arith)
  over (read got now h e (none z f)) g = rw f (record { octets = k.session.octets; state = k.session.state; left = k.session.left })
  over (read got now h e (some n z (unwritten f))) g = let z : ◌≡◌ {A = ℕ} 0 1 = cc (goes f) in absurd (omega arith)
  over (read got now h e (some n z (used f w b l))) g = (brought (suc n) now e f w b l).session

-- ---- All reads

carried : {n : ℕ} {last : Chunk} {buf : List ℕ} → After n last buf → last.going ≡ On → Carried last buf
carried (none_yet {buf}) g = nothing_read buf
carried (one_more a h r) g = next (carried a h) r g

pub short : {n : ℕ} {last : Chunk} {buf : List ℕ} → After n last buf → last.going ≡ On → last.left < most_octets
short a g = (carried a g).short g

-- after so many reads there is more to read
pub record Turned (reads : ℕ) (last : Chunk) (buf : List ℕ) : Type 0 where
  pub after : After reads last buf
  pub going : last.going ≡ On

pub begin : (last : Chunk) (buf : List ℕ) → last ≡ first → Turned 0 last buf
begin last buf e = rw e (record { after = none_yet; going = refl })

module _ {reads : ℕ} {last r : Chunk} {buf buf' : List ℕ} (t : Turned reads last buf) (b : Read last (take last.left buf) r buf') where
  pub again : r.going ≡ On → Turned (reads + 1) r buf'
  again g = rw (add-one reads) (record { after = one_more t.after t.going b; going = g })

  pub failed : r.going ≡ Stopped → (out : List ℕ) → Ran r buf' out
  failed g out =
      record {
        reads = suc reads;
        after = one_more t.after t.going b;
        most = λ o. let z : ◌≡◌ {A = ℕ} 0 1 = cc in absurd (omega arith);
        closed = λ o. let z : ◌≡◌ {A = ℕ} 0 1 = cc in absurd (omega arith);
      }

pub unended : {reads : ℕ} {last : Chunk} {buf : List ℕ} → Turned reads last buf → reads ≡ most_reads → (out : List ℕ) → Ran last buf out
unended {reads} t h out =
    record {
      reads = reads;
      after = t.after;
      most = λ o. h;
      closed = λ o. let z : ◌≡◌ {A = ℕ} 0 1 = cc t.going in absurd (omega arith);
    }

some_left : (n : ℕ) → not (eqb n 0) ≡ ltb 0 n
some_left zero = refl
some_left (suc n) = rw (ne_eqb (suc n) 0 (λ e. omega arith), lt-ltb 0 (suc n) (omega arith))

-- what `finish` writes is the end of what is printed
closes : {last : Chunk} → Session last → (out out' : List ℕ) → closing_room ≤ length out
    → out' ≡ fronted (finish_text last.state (ltb 0 last.left) (length out)) out → Closed last out'
unfolding finish_text printed_by
closes {last} s out out' h e =
    let text = closing last.state (ltb 0 last.left) in
    let front : out' ≡ fronted text out = rw (le-ltb (length out) closing_room h) at e in
    record {
      session = s.octets;
      state = s.state;
      left = s.left;
      text = text;
      end = rw (s.state, s.left, ← some_left (length (left_of s.octets))) refl;
      front = rw front (take-append_seam text (drop (length text) out));
    }

pub ended : {reads : ℕ} {last r : Chunk} {buf buf' : List ℕ} → Turned reads last buf → Read last (take last.left buf) r buf' → r.going ≡ Over
    → (out out' : List ℕ) → closing_room ≤ length out → out' ≡ fronted (finish_text r.state (ltb 0 r.left) (length out)) out → Ran r buf' out'
ended {reads} t b g out out' h e =
    record {
      reads = suc reads;
      after = one_more t.after t.going b;
      most = λ o. let z : ◌≡◌ {A = ℕ} 0 1 = cc in absurd (omega arith);
      closed = λ o. closes (over (carried t.after t.going) b g) out out' h e;
    }
