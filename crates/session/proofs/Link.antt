-- A run from its middle on: what the records read and the records to come make of the start. Assumes nothing.
use Rattle.std.proofs.Common.{◌≡◌, ℕ, zero, suc, ◌+◌, ◌-◌, ◌/◌, ◌^◌, ◌<◌, ◌≤◌, Bool, true, false, cond, ◌⊎◌, List, [], ◌∷◌, ◌++◌, length, get_or, take, drop, sym, refl, ap, ◌∙◌, ⊎_elim, append_assoc, append-nil, arith, length-drop, take-append-drop, length-take-le, drop-drop}
use Rattle.io.specs.Counts.{IsPrefixLen}
use Rattle.std.specs.Prelude.{Result}
use Rattle.answer.specs.declared.Refusal.{Refusal}
use Rattle.answer.specs.Answers.{Answer}
use Rattle.ranges.specs.Fields.{outside}
use Rattle.bench.specs.Methods.{Method, annex_d}
use Rattle.bench.specs.declared.Setting.{Setting}
use Rattle.bench.specs.declared.Bench.{Bench}
use Rattle.bench.specs.declared.Act.{Act}
use Rattle.bench.specs.Ports.{no_port, index_of}
use Rattle.bench.specs.History.{answer_of, after}
use Rattle.session.specs.declared.State.{State}
use Rattle.std.specs.Prelude.{Option, Result}
use Rattle.std.specs.Result.{result_err}
use Rattle.std.specs.Int.{from_bool}
use Rattle.record.specs.declared.Record.{Record}
use Rattle.record.specs.declared.NoRecord.{NoRecord}
use Rattle.session.specs.declared.Fed.{Fed}
use Rattle.record.specs.Format.{number_of, length_of, size_of, Form, nothing, part, bad, whole, form, record_by}
use Rattle.session.specs.Text.{Written, line_room}
use Rattle.session.specs.Run.{Entry, entry, entry_of, is_whole, records_of, rest_of, act_by, call_of, more, plus, state_of, refused_after, applied, line_for, record_line, ran, lines_of, stop_of, fed_of, fed_text, fronted, applied_by, record_line_by}
use Rattle.record.proofs.Form.{Found, tests_of, numbered}
use Rattle.bench.proofs.Acted.{act_ports, answer_in}
use Rattle.session.proofs.Turn.{turn_bench, turn_answer}
use Rattle.lines.proofs.Written.{agree}

is_whole_lem : {f : Form} → f ≡ whole → is_whole f ≡ true
is_whole_lem e = rw e

-- where a whole record stands, it is the first
pub first_record : (n : ℕ) (s : List ℕ) → form s ≡ whole → 0 < n → records_of n s ≡ entry_of s ∷ records_of (n - 1) (drop (size_of s) s)
first_record zero s e h = absurd (omega arith)
first_record (suc n) s e h = let m : suc n - 1 ≡ n = omega arith in rw (m, is_whole_lem e)

pub first_rest : (n : ℕ) (s : List ℕ) → form s ≡ whole → 0 < n → rest_of n s ≡ rest_of (n - 1) (drop (size_of s) s)
first_rest zero s e h = absurd (omega arith)
first_rest (suc n) s e h = let m : suc n - 1 ≡ n = omega arith in rw (m, is_whole_lem e)

-- where none stands, or none is asked for, there is none
pub no_record : (n : ℕ) (s : List ℕ) → is_whole (form s) ≡ false → records_of n s ≡ []
no_record zero s e = refl
no_record (suc n) s e = rw e

pub no_rest : (n : ℕ) (s : List ℕ) → is_whole (form s) ≡ false → rest_of n s ≡ s
no_rest zero s e = refl
no_rest (suc n) s e = rw e

-- of a run from st₀ over s of at most n records, which writes to out₀: st, at and w are how far it has come, and n' records may follow
pub record Link (st₀ : State) (s out₀ : List ℕ) (n : ℕ) (out : List ℕ) (st : State) (n' at w : ℕ) : Type 0 where
  pub state : ran st₀ (records_of n s) ≡ ran st (records_of n' (drop at s))
  pub rest : rest_of n s ≡ rest_of n' (drop at s)
  pub text : lines_of st₀ (records_of n s) ≡ take w out ++ lines_of st (records_of n' (drop at s))
  pub behind : drop w out ≡ drop w out₀

pub begin : (st₀ : State) (s out₀ : List ℕ) (n : ℕ) → Link st₀ s out₀ n out₀ st₀ n 0 0
begin st₀ s out₀ n = record { state = refl; rest = refl; text = refl; behind = refl }

module _ {st₀ : State} {s out₀ : List ℕ} {n : ℕ} {out : List ℕ} {st : State} {n' at w : ℕ} (l : Link st₀ s out₀ n out st n' at w) where
  pub again : {out' line : List ℕ} {st' : State} {next w' : ℕ} → form (drop at s) ≡ whole → 0 < n' → next ≡ at + size_of (drop at s)
      → st' ≡ applied st (entry_of (drop at s)) → line ≡ record_line st (entry_of (drop at s)) → Written out w line w' out'
      → Link st₀ s out₀ n out' st' (n' - 1) next w'
  again {out'} {line} {st'} {next} {w'} f h hn hs hl v =
      let x = drop at s in
      let d : drop next s ≡ drop (size_of x) x = rw hn (sym (drop-drop (size_of x) at s)) in
      let r : records_of n' x ≡ entry_of x ∷ records_of (n' - 1) (drop next s) = rw d (first_record n' x f h) in
      record {
        state = l.state ∙ rw (r, hs);
        rest = l.rest ∙ rw d (first_rest n' x f h);
        text = l.text ∙ rw (r, hs, v.front, hl) (sym (append_assoc (take w out) (record_line st (entry_of x)) (lines_of (applied st (entry_of x)) (records_of (n' - 1) (drop next s)))));
        behind = v.behind ∙ rw v.end (agree w (length line) out out₀ l.behind);
      }

  -- nothing more is read
  module _ (none : records_of n' (drop at s) ≡ []) (left : rest_of n' (drop at s) ≡ drop at s) (a : at ≤ length s) (b : w ≤ length out) where
    text_is : lines_of st₀ (records_of n s) ≡ take w out
    text_is = l.text ∙ rw none (append-nil (take w out))

    rest_is : rest_of n s ≡ drop at s
    rest_is = l.rest ∙ left

    state_is : ran st₀ (records_of n s) ≡ st
    state_is = l.state ∙ rw none

    used_is : at ≡ length s - length (rest_of n s)
    used_is = rw rest_is (omega (arith, length-drop at s))

    written_is : w ≡ length (lines_of st₀ (records_of n s))
    written_is = rw text_is (sym (length-take-le w out b))

    out_is : out ≡ fronted (lines_of st₀ (records_of n s)) out₀
    out_is = rw (← written_is, text_is, ← l.behind) (sym (take-append-drop w out))

-- ---- What `feed` gives

-- why no whole record stands there
pub stop_read : (f : Form) (s : List ℕ) (p : ℕ) {r : Result Record NoRecord} → r ≡ record_by f s p → result_err r ≡ stop_of f
stop_read nothing s p e = rw e
stop_read part s p e = rw e
stop_read bad s p e = rw e
stop_read whole s p e = rw e

same_fed : {st st' : State} {u u' w w' : ℕ} {z z' : Option NoRecord} → st ≡ st' → u ≡ u' → w ≡ w' → z ≡ z'
    → ◌≡◌ {A = Fed} (record { state = st; used = u; written = w; stop = z }) (record { state = st'; used = u'; written = w'; stop = z' })
same_fed {st} {st'} {u} {u'} {w} {w'} {z} {z'} a b c d = rw (a, b, c, d)

module _ {st₀ st₁ : State} {s out₀ : List ℕ} {n : ℕ} {out : List ℕ} {st : State} {n' at w : ℕ} (l : Link st₀ s out₀ n out st n' at w)
    (same : st₀ ≡ st₁) (room : n ≡ length out₀ / line_room)
    (none : records_of n' (drop at s) ≡ []) (left : rest_of n' (drop at s) ≡ drop at s) (a : at ≤ length s) (b : w ≤ length out) where
  fed_is : {z : Option NoRecord} → z ≡ stop_of (form (drop at s)) → ◌≡◌ {A = Fed} (record { state = st; used = at; written = w; stop = z }) (fed_of st₁ s (length out₀))
  unfolding fed_of
  fed_is {z} e =
      rw (← same, ← room)
      (same_fed (sym (state_is l none left a b)) (used_is l none left a b) (written_is l none left a b) (rw (rest_is l none left a b) e))

  text_out : out ≡ fed_text st₁ s out₀
  unfolding fed_text
  text_out = rw (← same, ← room) (out_is l none left a b)

abbrev pub fed : State → ℕ → ℕ → Option NoRecord → Fed
fed st used written stop = record { state = st; used = used; written = written; stop = stop }

-- what `feed` promises of its answer r and of the buffer after it
abbrev Promised : State → List ℕ → List ℕ → List ℕ → Fed → Type 0
Promised st s out₀ out r = (r ≡ fed_of st s (length out₀)) × ((out ≡ fed_text st s out₀) × ((r.used ≤ length s) × IsPrefixLen r.written out))

-- it is met where reading stops: there is no room for another line, or no whole record stands there
module _ {st₀ : State} {s out₀ : List ℕ} {n : ℕ} {out : List ℕ} {st : State} {n' at w : ℕ}
    (l : Link st₀ s out₀ n out st n' at w) (room : n ≡ length out₀ / line_room) (a : at ≤ length s) (c : w ≤ length out) where
  stops : records_of n' (drop at s) ≡ [] → rest_of n' (drop at s) ≡ drop at s → Promised st₀ s out₀ out (fed st at w (stop_of (form (drop at s))))
  stops none left =
      (fed_is l refl room none left a c refl, (text_out l refl room none left a c, (a, (c, sym (length-take-le w out c)))))

  pub stopped : (n' ≡ 0) ⊎ (is_whole (form (drop at s)) ≡ false) → Promised st₀ s out₀ out (fed st at w (stop_of (form (drop at s))))
  stopped e = ⊎_elim (λ z. stops (rw z) (rw z)) (λ o. stops (no_record n' (drop at s) o) (no_rest n' (drop at s) o)) e

-- ---- A record read, its act done and its line written

-- "A, B and N stop at 2^64 - 1" (R29): one more than n more is n + 1 more
pub more-plus : (records n : ℕ) → plus records (n + 1) ≡ more (plus records n)
more-plus records n = omega arith

-- one more where a 13 is told
pub one_if : (some : Bool) (n : ℕ) → n < 2 ^ 64 → plus n (from_bool some) ≡ cond some (more n) n
one_if true n h = refl
one_if false n h = omega arith

module _ (b : Bench) (records refused : ℕ) (e : Entry) (a : Result Act Refusal)
    (ha : a ≡ act_by annex_d (outside 1 8 e.port) (get_or b.ports (index_of e.port) no_port).setting e) where
  abbrev st : State
  st = state_of b records refused

  abbrev later : Bench
  later = record { ports = act_ports b.ports (index_of e.port) e.at a }

  answer_is : answer_in a ≡ answer_of b (call_of b e)
  answer_is = ap answer_in ha ∙ turn_answer b e

  bench_is : later ≡ after b (call_of b e)
  bench_is = ap (λ (a : Result Act Refusal). record { ports = act_ports b.ports (index_of e.port) e.at a }) ha ∙ turn_bench b e

  state_after : state_of later (more records) (refused_after refused (answer_in a)) ≡ applied st e
  unfolding applied_by
  state_after =
      ap (λ (z : Bench). state_of z (more records) (refused_after refused (answer_in a))) bench_is
      ∙ ap (λ (x : Answer). state_of (after b (call_of b e)) (more records) (refused_after refused x)) answer_is

  line_after : line_for (more records) (answer_in a) ≡ record_line st e
  unfolding record_line_by
  line_after = ap (λ (x : Answer). line_for (more records) x) answer_is

-- a record's octets are those between two positions of s
abbrev pub entry_in : List ℕ → Record → Entry
entry_in s r = entry (number_of r.kind) r.port r.clock (take (r.next - r.start) (drop r.start s))

-- the record that stands at a position
entry_found : (s : List ℕ) (at : ℕ) (r : Record) → Found (form (drop at s)) (drop at s) at r → entry_in s r ≡ entry_of (drop at s)
entry_found s at r f =
    let len : r.next - r.start ≡ length_of (drop at s) = omega (arith, f.start, f.next) in
    let from : drop r.start s ≡ drop 9 (drop at s) = rw f.start (sym (drop-drop 9 at s)) in
    let kind = ap number_of f.kind ∙ numbered (drop at s) (tests_of (drop at s) f.is_whole_lem).right in
    rw (len, from, kind, f.port, f.clock)

module _ (st₀ : State) (s out₀ : List ℕ) (n : ℕ) (out : List ℕ) (b : Bench) (records refused n' at w : ℕ)
    (l : Link st₀ s out₀ n out (state_of b records refused) n' at w) where
  pub stepped : (out' : List ℕ) (r : Record) (m w' : ℕ) (setting : Setting) (a : Result Act Refusal) (by : Method)
      → Found (form (drop at s)) (drop at s) at r → 0 < n' → by ≡ annex_d
      → setting ≡ (get_or b.ports (index_of r.port) no_port).setting
      → a ≡ act_by by (outside 1 8 r.port) setting (entry_in s r)
      → m ≡ more records → Written out w (line_for m (answer_in a)) w' out'
      → Link st₀ s out₀ n out' (state_of (record { ports = act_ports b.ports (index_of r.port) r.clock a }) m (refused_after refused (answer_in a))) (n' - 1) r.next w'
  stepped out' r m w' setting a by f h hs hp ha hm v =
      let e = entry_in s r in
      let is : e ≡ entry_of (drop at s) = entry_found s at r f in
      let ha' : a ≡ act_by annex_d (outside 1 8 r.port) (get_or b.ports (index_of r.port) no_port).setting e =
      ha
      ∙ ap (λ (by : Method). act_by by (outside 1 8 r.port) setting e) hs
      ∙ ap (λ (s : Setting). act_by annex_d (outside 1 8 r.port) s e) hp in
      again l f.is_whole_lem h f.next
      (ap (λ (m : ℕ). state_of (later b records refused e a ha') m (refused_after refused (answer_in a))) hm ∙ state_after b records refused e a ha' ∙ ap (λ (e : Entry). applied (state_of b records refused) e) is)
      (ap (λ (m : ℕ). line_for m (answer_in a)) hm ∙ line_after b records refused e a ha' ∙ ap (λ (e : Entry). record_line (state_of b records refused) e) is)
      v
