-- Each call's answer is the number that 01's table gives, and a refused call changes nothing and writes no buffer. Assumes nothing.
use Prim.Native.Nat.{ℕ, ◌<◌}
use mathlib.Core.Path.{◌≡◌, refl, sym, ap, ◌∙◌}
use mathlib.Core.Logic.{◌↔◌}
use mathlib.Core.Bool.{Bool, true, false, cond}
use mathlib.Core.List.{List, [], ◌∷◌, ◌++◌}
use lib.ListN.{length, take, drop, take-append-drop}
use Rattle.answer.specs.Answers.{Answer, Taken, is_taken, without_value}
use Rattle.answer.specs.Rules.{Rule, answer_by, answer_at, First, Kept}
use Rattle.answer.proofs.Exact.{given_exactly, taken_exactly}
use Rattle.std.specs.Prelude.{Result, Ok, Err}
use Rattle.answer.specs.declared.Refusal.{Refusal}
use Rattle.answer.proofs.Values.{answer_alone, answer_taken}
use Rattle.block.specs.declared.Params.{Params}
use Rattle.block.specs.Table22.{params_of}
use Rattle.block.specs.Rules.{judged, rules_on}
use Rattle.scl.specs.declared.Mark.{Mark}
use Rattle.spdu.specs.Built.{built_as, buffers_hold}
use Rattle.spdu.specs.Image as image
use Rattle.spdu.proofs.Parts.{spdu-length}
use Rattle.scl.specs.declared.Happening.{Happening}
use Rattle.scl.proofs.Cases.{no}
use Rattle.bench.specs.declared.Port.{Port}
use Rattle.bench.specs.declared.End.{End}
use Rattle.bench.specs.declared.Bench.{Bench}
use Rattle.bench.specs.Methods.{annex_d}
use Rattle.bench.specs.Ports.{port_at, step_of, stored, said, silent}
use Rattle.bench.specs.Calls.{call_rules, asked, asked_by_block, done, placed, response_at, request_at, clock_at, operator_at, parameters_at}
use Rattle.bench.specs.Images.{compose_answer, composed, build_answer, response_out, split_answer, spdu_part, other_part}
use Rattle.bench.specs.Handing.{part_at, hand_rules, handed_to, handed_out}
use Rattle.bench.specs.Shown.{trend_of, bins_of, master_of, device_of}
use Rattle.bench.specs.History.{NoReading, Compose, BuildResponse, Split, HandOn, Trend, Bins, ShowMaster, ShowDevice, Call, SetParameters, ReceiveResponse, ReceiveRequest, Clock, Operator, WithoutReading, addressed, rules_without_reading, rules_of, answer_without_reading, answer_of, after, history, result_of, history_by}
use Rattle.bench.proofs.Taken.{on_buffers_lem, both_kept}
use Rattle.bench.proofs.Index.{placed-refused}

-- ---- the answer

pub asked-answer : (p : Port) (at : ℕ) (a : Answer) (h : Happening) → (done p at (asked a h)).reply.answer ≡ a
unfolding done asked step_of stored said silent
asked-answer p at (Ok t) h = refl
asked-answer p at (Err r) h = refl

pub block-answer : (p : Port) (at : ℕ) (j : Result Params Refusal) → (done p at (asked_by_block j)).reply.answer ≡ without_value j
unfolding done asked_by_block silent
block-answer p at (Ok q) = refl
block-answer p at (Err r) = refl

answer_without_reading_lem : (port : ℕ) (p : Port) (act : NoReading) → answer_without_reading annex_d port p act ≡ answer_by Taken (rules_without_reading port p act)
unfolding answer_without_reading rules_without_reading trend_of bins_of master_of device_of compose_answer build_answer split_answer handed_to
answer_without_reading_lem port p (Compose process other octets) =
    on_buffers_lem (answer_by Taken (call_rules port p.setting)) (image.composer_holds p.setting.params (length process) (length other) (length octets))
answer_without_reading_lem port p (BuildResponse process out) =
    on_buffers_lem (answer_by Taken (call_rules port p.setting)) (buffers_hold p.setting.params.FSP_ProtMode p.setting.params.SPDUInLength (length process) (length out))
answer_without_reading_lem port p (Split octets) =
    on_buffers_lem (answer_by Taken (call_rules port p.setting)) (image.splitter_holds p.setting.params (length octets))
answer_without_reading_lem port p (HandOn end mark spdu safe out) = answer_alone (answer_by Taken (rules_without_reading port p (HandOn end mark spdu safe out))) _
answer_without_reading_lem port p Trend = answer_alone (answer_by Taken (rules_without_reading port p Trend)) _
answer_without_reading_lem port p Bins = answer_alone (answer_by Taken (rules_without_reading port p Bins)) _
answer_without_reading_lem port p ShowMaster = answer_alone (answer_by Taken (rules_without_reading port p ShowMaster)) _
answer_without_reading_lem port p ShowDevice = answer_alone (answer_by Taken (rules_without_reading port p ShowDevice)) _

pub answer_is : (b : Bench) (c : Call) → answer_of b c ≡ answer_by Taken (rules_of (port_at b (addressed c)) c)
unfolding result_of rules_of addressed placed silent
answer_is b (SetParameters port at octets) = block-answer (port_at b port) at (judged octets port) ∙ answer_alone (answer_by Taken (rules_on octets port)) (params_of octets)
answer_is b (ReceiveResponse port at spdu safe) = asked-answer (port_at b port) at _ _
answer_is b (ReceiveRequest port at spdu safe) = asked-answer (port_at b port) at _ _
answer_is b (Clock port at safe_in safe_out) = asked-answer (port_at b port) at _ _
answer_is b (Operator port at setSD_C ChFAck_C safe) = asked-answer (port_at b port) at _ _
answer_is b (WithoutReading port act) = answer_without_reading_lem port (port_at b port) act

-- ---- exactly one answer, for every call: the first rule's that is broken, and TAKEN where none is

abbrev pub Exactly : List Rule → Type 0
Exactly rules =
    ((is_taken (answer_by Taken rules) ≡ true) ↔ Kept rules)
    × ((i : ℕ) → i < length rules → (answer_by Taken rules ≡ answer_at rules i) ↔ First rules i)

exactly_without_reading : (port : ℕ) (p : Port) (act : NoReading) → Exactly (rules_without_reading port p act)
unfolding rules_without_reading
exactly_without_reading port p (Compose process other octets) = (taken_exactly _, given_exactly _ tt)
exactly_without_reading port p (BuildResponse process out) = (taken_exactly _, given_exactly _ tt)
exactly_without_reading port p (Split octets) = (taken_exactly _, given_exactly _ tt)
exactly_without_reading port p (HandOn end mark spdu safe out) = (taken_exactly _, given_exactly _ tt)
exactly_without_reading port p Trend = (taken_exactly _, given_exactly _ tt)
exactly_without_reading port p Bins = (taken_exactly _, given_exactly _ tt)
exactly_without_reading port p ShowMaster = (taken_exactly _, given_exactly _ tt)
exactly_without_reading port p ShowDevice = (taken_exactly _, given_exactly _ tt)

pub exactly : (p : Port) (c : Call) → Exactly (rules_of p c)
unfolding rules_of
exactly p (SetParameters port at octets) = (taken_exactly _, given_exactly _ tt)
exactly p (ReceiveResponse port at spdu safe) = (taken_exactly _, given_exactly _ tt)
exactly p (ReceiveRequest port at spdu safe) = (taken_exactly _, given_exactly _ tt)
exactly p (Clock port at safe_in safe_out) = (taken_exactly _, given_exactly _ tt)
exactly p (Operator port at setSD_C ChFAck_C safe) = (taken_exactly _, given_exactly _ tt)
exactly p (WithoutReading port act) = exactly_without_reading port p act

-- ---- a refused call changes nothing

pub refused_same : (b : Bench) (c : Call) → is_taken (answer_of b c) ≡ false → after b c ≡ b
unfolding result_of placed
refused_same b (SetParameters port at octets) e = placed-refused b port (parameters_at annex_d port (port_at b port) at octets) e
refused_same b (ReceiveResponse port at spdu safe) e =
    placed-refused b port (response_at annex_d port (port_at b port) at spdu safe) e
refused_same b (ReceiveRequest port at spdu safe) e =
    placed-refused b port (request_at annex_d port (port_at b port) at spdu safe) e
refused_same b (Clock port at safe_in safe_out) e = placed-refused b port (clock_at port (port_at b port) at safe_in safe_out) e
refused_same b (Operator port at setSD_C ChFAck_C safe) e = placed-refused b port (operator_at port (port_at b port) at setSD_C ChFAck_C safe) e
refused_same b (WithoutReading port act) e = refl

-- so it could be left out of the history with no difference afterwards
pub left_out : (later : List Call) (c : Call) (past : List Call) → is_taken (answer_of (history past) c) ≡ false → history (later ++ c ∷ past) ≡ history (later ++ past)
unfolding history_by
left_out [] c past e = refused_same (history past) c e
left_out (d ∷ later) c past e = ap (λ (b : Bench). after b d) (left_out later c past e)

-- ---- and writes no buffer: what stands in it later is what stood there

unwritten : (a : Answer) (hold : Bool) (written octets : List ℕ) → is_taken (cond (is_taken a) (built_as hold) a) ≡ false → cond (is_taken a) (cond hold written octets) octets ≡ octets
unwritten a hold written octets = go (is_taken a) hold
  where
    go : (t hold : Bool) → is_taken (cond t (built_as hold) a) ≡ false → cond t (cond hold written octets) octets ≡ octets
    go true true e = no e
    go true false e = refl
    go false hold e = refl

pub compose_refused : (port : ℕ) (p : Port) (process other octets : List ℕ) → is_taken (compose_answer port p process other octets) ≡ false → composed annex_d port p process other octets ≡ octets
unfolding compose_answer composed
compose_refused port p process other octets e =
    unwritten (answer_by Taken (call_rules port p.setting)) (image.composer_holds p.setting.params (length process) (length other) (length octets)) _ octets e

pub build_refused : (port : ℕ) (p : Port) (process out : List ℕ) → is_taken (build_answer port p process out) ≡ false → response_out annex_d port p process out ≡ out
unfolding build_answer response_out
build_refused port p process out e =
    unwritten (answer_by Taken (call_rules port p.setting)) (buffers_hold p.setting.params.FSP_ProtMode p.setting.params.SPDUInLength (length process) (length out)) _ out e

-- of a refused image neither part has an octet
pub split_refused : (port : ℕ) (p : Port) (octets : List ℕ) → is_taken (split_answer port p octets) ≡ false → (spdu_part port p octets ≡ []) × (other_part port p octets ≡ [])
unfolding split_answer spdu_part other_part
split_refused port p octets e =
    let a = answer_by Taken (call_rules port p.setting) in
    let hold = image.splitter_holds p.setting.params (length octets) in
    (unwritten a hold (take p.setting.params.SPDUInLength octets) [] e, unwritten a hold (drop p.setting.params.SPDUInLength octets) [] e)

-- of any other the two make up the image, the SPDU first with its length (R3)
pub split_taken : (port : ℕ) (p : Port) (octets : List ℕ) → is_taken (split_answer port p octets) ≡ true
    → (spdu_part port p octets ++ other_part port p octets ≡ octets) × (length (spdu_part port p octets) ≡ p.setting.params.SPDUInLength)
unfolding split_answer spdu_part other_part
split_taken port p octets e =
    let params = p.setting.params in
    let k = both_kept (answer_by Taken (call_rules port p.setting)) (image.splitter_holds params (length octets)) e in
    rw (k.0, k.1) (take-append-drop params.SPDUInLength octets, sym (spdu-length params octets k.1))

pub handed-refused : (port : ℕ) (p : Port) (e : End) (mark : Mark) (spdu safe out : List ℕ) → is_taken (handed_to annex_d port p e mark spdu safe (length out)) ≡ false → handed_out annex_d port p e mark spdu safe out ≡ out
unfolding handed_to handed_out
handed-refused port p e mark spdu safe out t =
    let a = answer_by Taken (hand_rules annex_d port p e mark spdu safe (length out)) in
    let f : is_taken a ≡ false = sym (answer_taken a (length (part_at annex_d e p mark spdu safe))) ∙ t in
    simp f
