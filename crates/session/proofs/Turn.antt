-- What a record asks of the port in its place is what its call does to the bench. Assumes nothing.
use Rattle.std.proofs.Common.{◌≡◌, Bool, true, false, cond, ◌&&◌, eqb, get_or, sym, refl, ap, ◌∙◌}
use Rattle.std.specs.Prelude.{Result, Err}
use Rattle.answer.specs.declared.Refusal.{Refusal}
use Rattle.answer.specs.declared.Refusal.TheVariants as refusals
use Rattle.ranges.specs.Fields.{outside}
use Rattle.block.specs.declared.Params.{Params}
use Rattle.block.specs.Table22.{parameter_signature}
use Rattle.spdu.specs.Signature.{by_bits}
use Rattle.bench.specs.declared.Setting.{Setting}
use Rattle.bench.specs.declared.Port.{Port}
use Rattle.bench.specs.declared.Bench.{Bench}
use Rattle.bench.specs.declared.Act.{Act}
use Rattle.bench.specs.Methods.{Method, annex_d}
use Rattle.bench.specs.Ports.{no_port, index_of, port_at}
use Rattle.bench.specs.Calls as calls
use Rattle.bench.specs.History.{answer_of, after, result_of}
use Rattle.bench.proofs.Acted.{bench_of, act_ports, answer_in, act_bench, act-answer, nowhere_block, nowhere_response, nowhere_clock, nowhere_operator}
use Rattle.session.specs.Run.{Entry, safe_in, safe_out, setSD_in, ack_in, act_by, call_of}
use Rattle.session.proofs.Seven.{safe_in_lem, safe_out_lem, call}

-- ---- The call of a record is its act, done at the port: the safe values lent hold

module _ (b : Bench) (e : Entry) where
  abbrev p : Port
  p = port_at b e.port

  abbrev o : Bool
  o = outside 1 8 e.port

  abbrev response : Bool → Result Act Refusal
  response holds = calls.response_act by_bits o p.setting e.at e.octets holds

  abbrev clock : Bool → Result Act Refusal
  clock holds = calls.clock_act o p.setting e.at holds

  abbrev operator : Bool → Result Act Refusal
  operator holds = calls.operator_act o p.setting e.at (setSD_in e.octets) (ack_in e.octets) holds

  -- by three tests of its kind
  abbrev act : Bool → Bool → Bool → Result Act Refusal
  act k₁ k₂ k₃ = cond k₁ (calls.parameters_act parameter_signature e.port e.octets) (cond k₂ (response true) (cond k₃ (clock true) (operator true)))

  abbrev q : Params
  q = p.setting.params

  both_safe : (calls.safe_in_hold q (safe_in q) && calls.safe_out_hold q (safe_out q)) ≡ true
  both_safe = rw (safe_in_lem q, safe_out_lem q)

  module _ {A : Type 0} (f : Result Act Refusal → A) where
    by_response : f (response (calls.safe_in_hold q (safe_in q))) ≡ f (response true)
    by_response = ap (λ (h : Bool). f (response h)) (safe_in_lem q)

    by_clock : f (clock (calls.safe_in_hold q (safe_in q) && calls.safe_out_hold q (safe_out q))) ≡ f (clock true)
    by_clock = ap (λ (h : Bool). f (clock h)) both_safe

    by_operator : f (operator (calls.safe_in_hold q (safe_in q))) ≡ f (operator true)
    by_operator = ap (λ (h : Bool). f (operator h)) (safe_in_lem q)

  after_by : (k₁ k₂ k₃ : Bool) → after b (call b e k₁ k₂ k₃) ≡ (calls.placed b e.port (calls.done p e.at (act k₁ k₂ k₃))).bench
  unfolding result_of
  after_by true k₂ k₃ = refl
  after_by false true k₃ = by_response (λ (a : Result Act Refusal). (calls.placed b e.port (calls.done p e.at a)).bench)
  after_by false false true = by_clock (λ (a : Result Act Refusal). (calls.placed b e.port (calls.done p e.at a)).bench)
  after_by false false false = by_operator (λ (a : Result Act Refusal). (calls.placed b e.port (calls.done p e.at a)).bench)

  answer_by_lem : (k₁ k₂ k₃ : Bool) → answer_of b (call b e k₁ k₂ k₃) ≡ (calls.done p e.at (act k₁ k₂ k₃)).reply.answer
  unfolding result_of calls.placed
  answer_by_lem true k₂ k₃ = refl
  answer_by_lem false true k₃ = by_response (λ (a : Result Act Refusal). (calls.done p e.at a).reply.answer)
  answer_by_lem false false true = by_clock (λ (a : Result Act Refusal). (calls.done p e.at a).reply.answer)
  answer_by_lem false false false = by_operator (λ (a : Result Act Refusal). (calls.done p e.at a).reply.answer)

-- ---- A number that no port has is refused, whatever port stands in its place

-- `k₁`, `k₂`, `k₃`: the record has a block, a response, a clock reading
out_of_range : (k₁ k₂ k₃ : Bool) (s : Setting) (e : Entry) → outside 1 8 e.port ≡ true
    → cond k₁ (calls.parameters_act parameter_signature e.port e.octets) (cond k₂ (calls.response_act by_bits (outside 1 8 e.port) s e.at e.octets true) (cond k₃ (calls.clock_act (outside 1 8 e.port) s e.at true) (calls.operator_act (outside 1 8 e.port) s e.at (setSD_in e.octets) (ack_in e.octets) true)))
    ≡ Err refusals.NoPort
out_of_range true k₂ k₃ s e h = nowhere_block parameter_signature e.port e.octets h
out_of_range false true k₃ s e h = nowhere_response by_bits (outside 1 8 e.port) h s e.at e.octets true
out_of_range false false true s e h = nowhere_clock (outside 1 8 e.port) h s e.at true
out_of_range false false false s e h = nowhere_operator (outside 1 8 e.port) h s e.at (setSD_in e.octets) (ack_in e.octets) true

-- the same of any method, but for a block
pub refused_outside : (m : Method) (s : Setting) (e : Entry)
    → Err refusals.NoPort
    ≡ cond (eqb e.kind 2) (calls.response_act m.spdu true s e.at e.octets true) (cond (eqb e.kind 3) (calls.clock_act true s e.at true) (calls.operator_act true s e.at (setSD_in e.octets) (ack_in e.octets) true))
unfolding calls.asked
refused_outside m s e = go (eqb e.kind 2) (eqb e.kind 3)
  where
    go : (k₂ k₃ : Bool)
        → Err refusals.NoPort
        ≡ cond k₂ (calls.response_act m.spdu true s e.at e.octets true) (cond k₃ (calls.clock_act true s e.at true) (calls.operator_act true s e.at (setSD_in e.octets) (ack_in e.octets) true))
    go true k₃ = refl
    go false true = refl
    go false false = refl

-- ---- At the bench

module _ (b : Bench) (e : Entry) where
  abbrev act_at : Setting → Result Act Refusal
  act_at s = act_by annex_d (outside 1 8 e.port) s e

  nowhere : outside 1 8 e.port ≡ true → (s : Setting) → act_at s ≡ Err refusals.NoPort
  nowhere h s = out_of_range (eqb e.kind 1) (eqb e.kind 2) (eqb e.kind 3) s e h

  abbrev asked : Result Act Refusal
  asked = act_at (get_or b.ports (index_of e.port) no_port).setting

  pub turn_bench : bench_of (act_ports b.ports (index_of e.port) e.at asked) ≡ after b (call_of b e)
  turn_bench = act_bench b e.port e.at act_at nowhere ∙ sym (after_by b e (eqb e.kind 1) (eqb e.kind 2) (eqb e.kind 3))

  pub turn_answer : answer_in asked ≡ answer_of b (call_of b e)
  turn_answer = act-answer b e.port e.at act_at nowhere ∙ sym (answer_by_lem b e (eqb e.kind 1) (eqb e.kind 2) (eqb e.kind 3))
