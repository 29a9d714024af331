-- Blocks of any sizes, with buffers of any sizes lent for the lines, lead where all their octets at once lead, and print the same; behind a 13
-- nothing is read; and the bench is that of the history of the records' calls. Assumes nothing.
use Rattle.std.proofs.Common.{◌≡◌, ℕ, zero, suc, ◌+◌, ◌-◌, ◌/◌, ◌<◌, ◌≤◌, true, false, not, eqb, List, [], ◌∷◌, ◌++◌, length, drop, sym, refl, ap, ◌∙◌, append_assoc, append-nil, arith, length-drop, drop-drop, ltb-false}
use lib.Seq.{drop-append-le, take-append-le}
use Rattle.bench.specs.declared.Bench.{Bench}
use Rattle.bench.specs.History.{Call, history, after, history_by}
use Rattle.session.specs.declared.State.{State}
use Rattle.record.specs.Format.{kind_of, port_of, clock_of, length_of, octets_of, size_of, Form, nothing, part, bad, whole, form}
use Rattle.session.specs.Text.{line_room}
use Rattle.session.specs.Run.{Entry, entry, entry_of, is_whole, records_of, rest_of, call_of, calls_of, start, applied, record_line, ran, lines_of, closing, printed, fed_of, applied_by, printed_by}
use Rattle.session.specs.Chunks.{InChunks, none, chunk, together}
use Rattle.record.proofs.Form.{at_kept, whole_kept, bad_kept, bad_some, tests_of, whole_fits}
use Rattle.session.proofs.Link.{no_record, no_rest, first_record, first_rest}

-- s begins with the whole records rs, and r stands behind them
pub data Reads : List ℕ → List Entry → List ℕ → Type 0 where
  here : {s : List ℕ} → Reads s [] s
  next : {s r : List ℕ} {rs : List Entry} → form s ≡ whole → Reads (drop (size_of s) s) rs r → Reads s (entry_of s ∷ rs) r

reads_of_by : (n : ℕ) (s : List ℕ) (f : Form) → form s ≡ f → Reads s (records_of n s) (rest_of n s)
reads_of_by zero s f e = here
reads_of_by (suc n) s nothing e = rw e here
reads_of_by (suc n) s part e = rw e here
reads_of_by (suc n) s bad e = rw e here
reads_of_by (suc n) s whole e =
    let d : Reads (drop (size_of s) s) (records_of n (drop (size_of s) s)) (rest_of n (drop (size_of s) s)) = reads_of_by n (drop (size_of s) s) (form (drop (size_of s) s)) refl in
    rw e (next e d)

pub reads_of : (n : ℕ) (s : List ℕ) → Reads s (records_of n s) (rest_of n s)
reads_of n s = reads_of_by n s (form s) refl

-- more octets behind a whole record leave it
entry_kept : (a b : List ℕ) → form a ≡ whole → entry_of (a ++ b) ≡ entry_of a
entry_kept a b f =
    let h : 9 ≤ length a = ltb-false (length a) 9 (tests_of a f).headed in
    let g = whole_fits a f in
    let o : octets_of (a ++ b) ≡ octets_of a =
    rw (at_kept a b 8 (omega arith), drop-append-le 9 a b h)
    (take-append-le (length_of a) (drop 9 a) b (omega (arith, length-drop 9 a))) in
    ap (λ (l : List ℕ). entry (kind_of (a ++ b)) (port_of (a ++ b)) (clock_of (a ++ b)) l) o
    ∙ simp (at_kept a b 2 (omega arith), at_kept a b 3 (omega arith), at_kept a b 4 (omega arith), at_kept a b 5 (omega arith), at_kept a b 6 (omega arith), at_kept a b 7 (omega arith))

pub extended : (b : List ℕ) {a r : List ℕ} {rs : List Entry} → Reads a rs r → Reads (a ++ b) rs (r ++ b)
extended b here = here
extended b {a} {r} (next {rs = rs} f d) =
    let h : 9 ≤ length a = ltb-false (length a) 9 (tests_of a f).headed in
    let tail : Reads (drop (size_of (a ++ b)) (a ++ b)) rs (r ++ b) = rw (at_kept a b 8 (omega arith), drop-append-le (size_of a) a b (whole_fits a f)) (extended b d) in
    rw (← entry_kept a b f) (next (whole_kept a b f) tail)

pub joined : {s r r₂ : List ℕ} {rs rs₂ : List Entry} → Reads s rs r → Reads r rs₂ r₂ → Reads s (rs ++ rs₂) r₂
joined here e = e
joined (next f d) e = next f (joined d e)

-- a record has octets
pub fewer : {s r : List ℕ} {rs : List Entry} → Reads s rs r → length rs ≤ length s
fewer here = omega arith
fewer {s} (next f d) = omega (arith, fewer d, whole_fits s f, length-drop (size_of s) s)

-- where no whole record follows, these are all
pub all_of : (n : ℕ) {s r : List ℕ} {rs : List Entry} → Reads s rs r → is_whole (form r) ≡ false → length rs ≤ n → (records_of n s ≡ rs) × (rest_of n s ≡ r)
all_of n {s} here e h = (no_record n s e, no_rest n s e)
all_of n {s} (next {rs = rs} f d) e h =
    let i = all_of (n - 1) d e (omega arith) in
    let pos : 0 < n = omega arith in
    (first_record n s f pos ∙ ap (λ (l : List Entry). entry_of s ∷ l) i.0, first_rest n s f pos ∙ i.1)

pub ran_append : (st : State) (rs rs₂ : List Entry) → ran st (rs ++ rs₂) ≡ ran (ran st rs) rs₂
ran_append st [] rs₂ = refl
ran_append st (e ∷ rs) rs₂ = ran_append (applied st e) rs rs₂

lines_append : (st : State) (rs rs₂ : List Entry) → lines_of st (rs ++ rs₂) ≡ lines_of st rs ++ lines_of (ran st rs) rs₂
lines_append st [] rs₂ = refl
lines_append st (e ∷ rs) rs₂ =
    ap (λ (l : List ℕ). record_line st e ++ l) (lines_append (applied st e) rs rs₂)
    ∙ sym (append_assoc (record_line st e) (lines_of (applied st e) rs) (lines_of (ran (applied st e) rs) rs₂))

-- the records that the chunks hold
pub record Held (s r : List ℕ) (st st₂ : State) (o : List ℕ) : Type 0 where
  pub records : List Entry
  pub reads : Reads s records r
  pub state : ran st records ≡ st₂
  pub text : lines_of st records ≡ o

pub held : {bs : List (List ℕ)} {r r₂ o : List ℕ} {st st₂ : State} → InChunks bs st r st₂ r₂ o → Held (r ++ together bs) r₂ st st₂ o
held {r = r} none = record { records = []; reads = rw append-nil here; state = refl; text = refl }
held {r = r} {r₂} {st = st} (chunk n {b} {o = o} {bs = bs} d) =
    let i = held d in
    let rs = records_of n (r ++ b) in
    let first : Reads (r ++ b ++ together bs) rs (rest_of n (r ++ b) ++ together bs) = extended (together bs) (reads_of n (r ++ b)) in
    record {
      records = rs ++ i.records;
      reads = rw (← append_assoc r b (together bs)) (joined first i.reads);
      state = ran_append st rs i.records ∙ i.state;
      text = lines_append st rs i.records ∙ ap (λ (l : List ℕ). lines_of st rs ++ l) i.text;
    }

-- what is printed, where what the chunks left, with octets behind it that were not read, begins with no whole record
pub at_once : (bs : List (List ℕ)) (more : List ℕ) {st : State} {r o : List ℕ} → InChunks bs start [] st r o → is_whole (form (r ++ more)) ≡ false
    → printed (together bs ++ more) ≡ o ++ closing st (not (eqb (length (r ++ more)) 0))
unfolding printed_by
at_once bs more {st} {r} {o} d e =
    let i = held d in
    let s = together bs ++ more in
    let reads : Reads s i.records (r ++ more) = extended more i.reads in
    let all = all_of (length s) reads e (fewer reads) in
    rw (all.0, all.1, i.state, i.text)

-- the input has ended
pub at_end : (bs : List (List ℕ)) {st : State} {r o : List ℕ} → InChunks bs start [] st r o → is_whole (form r) ≡ false
    → printed (together bs) ≡ o ++ closing st (not (eqb (length r) 0))
at_end bs {st} {r} {o} d e = rw (append-nil (together bs), append-nil r) at (at_once bs [] d (rw (append-nil r) e))

-- a bad record stands there: whatever follows it, a 13 ends reading
pub at_bad : (bs : List (List ℕ)) (more : List ℕ) {st : State} {r o : List ℕ} → InChunks bs start [] st r o → form r ≡ bad
    → printed (together bs ++ more) ≡ o ++ closing st true
at_bad bs more {st} {r} {o} d f =
    let g = bad_kept r more f in
    rw (bad_some (r ++ more) g) at (at_once bs more d (rw g))

-- ---- The bench

one-call : (past : List Call) (st : State) (x : Entry) → st.bench ≡ history past → (applied st x).bench ≡ history (call_of (history past) x ∷ past)
unfolding applied_by history_by
one-call past st x e = ap (λ (b : Bench). after b (call_of b x)) e

history_from : (past : List Call) (st : State) (rs : List Entry) → st.bench ≡ history past → (ran st rs).bench ≡ history (calls_of past rs)
history_from past st [] e = e
history_from past st (x ∷ rs) e = history_from (call_of (history past) x ∷ past) (applied st x) rs (one-call past st x e)

-- The bench after the records is that of their calls: what holds of every history holds of every session.
pub bench_of_history : (rs : List Entry) → (ran start rs).bench ≡ history (calls_of [] rs)
unfolding history_by
bench_of_history rs = history_from [] start rs refl

-- ---- What `feed` uses up

shorter : {s r : List ℕ} {rs : List Entry} → Reads s rs r → length r ≤ length s
shorter here = omega arith
shorter {s} (next f d) = omega (arith, shorter d, length-drop (size_of s) s)

dropped : {s r : List ℕ} {rs : List Entry} → Reads s rs r → drop (length s - length r) s ≡ r
dropped {s} here = let e : length s - length s ≡ 0 = omega arith in rw e
dropped {s} {r} (next f d) =
    let x = drop (size_of s) s in
    let e : length s - length r ≡ size_of s + (length x - length r) = omega (arith, shorter d, length-drop (size_of s) s, whole_fits s f) in
    rw (e, ← drop-drop (length x - length r) (size_of s) s) (dropped d)

-- what stands behind the octets used up is the rest
pub rest_unused : (st : State) (s : List ℕ) (room : ℕ) → drop (fed_of st s room).used s ≡ rest_of (room / line_room) s
unfolding fed_of
rest_unused st s room = dropped (reads_of (room / line_room) s)

used_by : (n : ℕ) (s : List ℕ) (f : Form) → form s ≡ f → 0 < n → form (rest_of n s) ≡ whole → length (rest_of n s) < length s
used_by n s nothing e h g = let z : ◌≡◌ {A = ℕ} 0 1 = cc (no_rest n s (rw e)) in omega arith
used_by n s part e h g = let z : ◌≡◌ {A = ℕ} 0 1 = cc (no_rest n s (rw e)) in omega arith
used_by n s bad e h g = let z : ◌≡◌ {A = ℕ} 0 1 = cc (no_rest n s (rw e)) in omega arith
used_by n s whole e h g =
    let x = drop (size_of s) s in
    omega (arith, ap length (first_rest n s e h), shorter (reads_of (n - 1) x), length-drop (size_of s) s, whole_fits s e)

-- a call that was out of room, and had room for a line, has used up a record
pub full_used : (st : State) (s : List ℕ) (room : ℕ) → line_room ≤ room → form (rest_of (room / line_room) s) ≡ whole → 0 < (fed_of st s room).used
unfolding fed_of
full_used st s room h g =
    let some : 0 < room / line_room = omega arith in
    omega (arith, used_by (room / line_room) s (form s) refl some g)
