-- Demand 1: "Every parameter block, SPDU, tick and operator signal gets an answer, however malformed; the caller checks nothing beforehand; a refusal
-- returns document 01's number and changes no state, no count, no buffer." Assumes nothing.
--
-- A call is a parameter block, an SPDU received at either end, a clock reading, operator signals, or one without a reading; its octets are lists of any
-- length (bench, `Call`). No field here says that nothing is checked beforehand: no public function has a `requires`, so each contract is of every input.
use Rattle.std.specs.Prelude.{ℕ, ◌<◌, ◌≡◌, ◌↔◌, true, false, List, [], ◌∷◌, ◌++◌, map, length, Err}
use Rattle.answer.specs.declared.Refusal.TheVariants.{BlockSize, BlockId, PortMode, NoScl, FieldRange, Signature, Buffer, NoPort, NotRunning, SpduLength, NoSamples, PortMismatch, Record}
use Rattle.answer.specs.Answers.{Answer, Taken, number_of, is_taken}
use Rattle.answer.specs.Rules.{answer_by, answer_at, First, Kept}
use Rattle.scl.specs.declared.Mark.{Mark}
use Rattle.bench.specs.declared.Port.{Port}
use Rattle.bench.specs.declared.Bench.{Bench}
use Rattle.bench.specs.declared.End.{End}
use Rattle.bench.specs.Methods.{annex_d}
use Rattle.bench.specs.Ports.{port_at}
use Rattle.bench.specs.Images.{compose_answer, composed, build_answer, response_out, split_answer, spdu_part, other_part}
use Rattle.bench.specs.Handing.{handed_to, handed_out}
use Rattle.bench.specs.History.{Call, addressed, rules_of, answer_of, after, history}

pub record Demand1 : Type 0 where
  -- "gets an answer": on any bench any call has one, by 01's rules for that call (`rules_of`, in 01's order) at the port it addresses
  pub answered : (b : Bench) (c : Call) → answer_of b c ≡ answer_by Taken (rules_of (port_at b (addressed c)) c)
  -- 01: "each is given exactly when its condition holds and no earlier one does"
  pub first_broken : (p : Port) (c : Call) (i : ℕ) → i < length (rules_of p c) → (answer_by Taken (rules_of p c) ≡ answer_at (rules_of p c) i) ↔ First (rules_of p c) i
  -- 01: "TAKEN: none below holds"
  pub taken : (p : Port) (c : Call) → (is_taken (answer_by Taken (rules_of p c)) ≡ true) ↔ Kept (rules_of p c)
  -- "document 01's number"
  pub numbers :
      map (λ (a : Answer). number_of a) (Taken ∷ Err BlockSize ∷ Err BlockId ∷ Err PortMode ∷ Err NoScl ∷ Err (FieldRange 3) ∷ Err (Signature 23) ∷ Err Buffer ∷ Err NoPort ∷ Err NotRunning ∷ Err SpduLength ∷ Err NoSamples ∷ Err PortMismatch ∷ Err Record ∷ [])
      ≡ 0 ∷ 1 ∷ 2 ∷ 3 ∷ 4 ∷ 5 ∷ 6 ∷ 7 ∷ 8 ∷ 9 ∷ 10 ∷ 11 ∷ 12 ∷ 13 ∷ []
  -- "changes no state, no count": the bench is the one that was given, both ends, bins and totals of every port included
  pub unchanged : (b : Bench) (c : Call) → is_taken (answer_of b c) ≡ false → after b c ≡ b
  -- so that nothing that comes later tells whether the call was made
  pub left_out : (later : List Call) (c : Call) (past : List Call) → is_taken (answer_of (history past) c) ≡ false → history (later ++ c ∷ past) ≡ history (later ++ past)
  -- "no buffer": an image that was to be composed, an SPDU that was to be built and a part that was to be copied out stay as they were
  pub image_unwritten : (port : ℕ) (p : Port) (process other octets : List ℕ) → is_taken (compose_answer port p process other octets) ≡ false → composed annex_d port p process other octets ≡ octets
  pub spdu_unwritten : (port : ℕ) (p : Port) (process out : List ℕ) → is_taken (build_answer port p process out) ≡ false → response_out annex_d port p process out ≡ out
  pub part_unwritten : (port : ℕ) (p : Port) (e : End) (mark : Mark) (spdu safe out : List ℕ) → is_taken (handed_to annex_d port p e mark spdu safe (length out)) ≡ false → handed_out annex_d port p e mark spdu safe out ≡ out
  -- and of an image that was to be split nothing is handed out
  pub no_parts : (port : ℕ) (p : Port) (octets : List ℕ) → is_taken (split_answer port p octets) ≡ false → (spdu_part port p octets ≡ []) × (other_part port p octets ≡ [])
