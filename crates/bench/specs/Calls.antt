-- The calls with a clock reading: their rules in 01's order (R27), what they ask of a port, and what that makes of it. Assumes nothing.
use Rattle.std.specs.Prelude.{ℕ, Bool, cond, not, ◌&&◌, List, [], ◌∷◌, ◌++◌, eqb, length, Option, Some, None, Result, Ok, Err}
use Rattle.answer.specs.declared.Refusal.{Refusal}
use Rattle.answer.specs.declared.Refusal.TheVariants.{Buffer, NoPort, NotRunning, SpduLength}
use Rattle.answer.specs.Answers.{Answer, Taken, is_taken, with_value}
use Rattle.answer.specs.Rules.{Rule, rule, answer_by}
use Rattle.ranges.specs.Fields.{outside}
use Rattle.block.specs.declared.Params.{Params}
use Rattle.block.specs.Rules.{judged_by}
use Rattle.spdu.specs.Fields.{response_by, request_by, response_fields, request_fields}
use Rattle.spdu.specs.Image.{safe_values_hold}
use Rattle.scl.specs.declared.Happening.{Happening}
use Rattle.scl.specs.declared.Happening.TheVariants as happening
use Rattle.bench.specs.declared.Setting.{Setting}
use Rattle.bench.specs.declared.Port.{Port}
use Rattle.bench.specs.declared.Bench.{Bench}
use Rattle.bench.specs.declared.End.{End}
use Rattle.bench.specs.declared.End.TheVariants as end
use Rattle.bench.specs.declared.Act.{Act}
use Rattle.bench.specs.declared.Act.TheVariants.{Accepted, Happens}
use Rattle.bench.specs.declared.BenchAfter.{BenchAfter}
use Rattle.bench.specs.Methods.{Method}
use Rattle.bench.specs.Ports.{PortAfter, accepted_port, no_port, port_at, with_port, step_of, silent}

-- Rules. s is the setting of the port addressed; o says that no port has the number. "For every other call: 8, 9, 10, 7, 11."

-- as a caller hands it on: the setting, or none where no port has the number; then none of it is looked at
abbrev pub setting_in : Option Setting → Setting
setting_in None = no_port.setting
setting_in (Some s) = s

-- 8 and 9, of the port itself
abbrev pub port_rules : Bool → Setting → List Rule
port_rules o s = rule o NoPort ∷ rule (not s.running) NotRunning ∷ []

abbrev pub call_rules : ℕ → Setting → List Rule
call_rules port s = port_rules (outside 1 8 port) s

-- 10: a received SPDU of n octets, where m are configured; 7: the safe values lent do not hold
abbrev pub spdu_rules : Bool → Setting → ℕ → ℕ → Bool → List Rule
spdu_rules o s m n holds = port_rules o s ++ (rule (not (eqb n m)) SpduLength ∷ rule (not holds) Buffer ∷ [])

abbrev pub other_rules : Bool → Setting → Bool → List Rule
other_rules o s holds = port_rules o s ++ (rule (not holds) Buffer ∷ [])

-- the safe values that hold: the FS-Master's (as many zeros as its SPDU has process octets) and the FS-Device's
abbrev pub safe_in_hold : Params → List ℕ → Bool
safe_in_hold p safe = safe_values_hold p.FSP_ProtMode p.SPDUInLength safe

abbrev pub safe_out_hold : Params → List ℕ → Bool
safe_out_hold p safe = safe_values_hold p.FSP_ProtMode p.SPDUOutLength safe

abbrev pub response_rules : ℕ → Setting → ℕ → List ℕ → List Rule
response_rules port s n safe = spdu_rules (outside 1 8 port) s s.params.SPDUInLength n (safe_in_hold s.params safe)

abbrev pub request_rules : ℕ → Setting → ℕ → List ℕ → List Rule
request_rules port s n safe = spdu_rules (outside 1 8 port) s s.params.SPDUOutLength n (safe_out_hold s.params safe)

-- a clock call lends both (R26)
abbrev pub clock_rules : ℕ → Setting → List ℕ → List ℕ → List Rule
clock_rules port s safe_in safe_out = other_rules (outside 1 8 port) s (safe_in_hold s.params safe_in && safe_out_hold s.params safe_out)

abbrev pub operator_rules : ℕ → Setting → List ℕ → List Rule
operator_rules port s safe = other_rules (outside 1 8 port) s (safe_in_hold s.params safe)

-- What a call asks of its port, by a method of signing where a block or an SPDU is read.

unfoldable pub asked : Answer → Happening → Result Act Refusal
asked a h = with_value a (Happens h)

unfoldable pub asked_by_block : Result Params Refusal → Result Act Refusal
asked_by_block (Ok p) = Ok (Accepted p)
asked_by_block (Err r) = Err r

abbrev pub parameters_act : (List ℕ → ℕ) → ℕ → List ℕ → Result Act Refusal
parameters_act sign port octets = asked_by_block (judged_by sign octets port)

abbrev pub response_act : (ℕ → List ℕ → ℕ) → Bool → Setting → ℕ → List ℕ → Bool → Result Act Refusal
response_act sign o s at spdu holds =
    asked (answer_by Taken (spdu_rules o s s.params.SPDUInLength (length spdu) holds)) (happening.Response at (response_by sign s.params spdu))

abbrev pub request_act : (ℕ → List ℕ → ℕ) → Bool → Setting → ℕ → List ℕ → Bool → Result Act Refusal
request_act sign o s at spdu holds =
    asked (answer_by Taken (spdu_rules o s s.params.SPDUOutLength (length spdu) holds)) (happening.Request at (request_by sign s.params spdu))

-- the two, by the end
abbrev pub spdu_act : (ℕ → List ℕ → ℕ) → End → Bool → Setting → ℕ → List ℕ → Bool → Result Act Refusal
spdu_act sign end.Master o s at spdu holds = response_act sign o s at spdu holds
spdu_act sign end.Device o s at spdu holds = request_act sign o s at spdu holds

-- what an SPDU of the configured length is at an end
abbrev pub received : (ℕ → List ℕ → ℕ) → End → Setting → ℕ → List ℕ → Happening
received sign end.Master s at spdu = happening.Response at (response_fields sign s.params spdu)
received sign end.Device s at spdu = happening.Request at (request_fields sign s.params spdu)

abbrev pub clock_act : Bool → Setting → ℕ → Bool → Result Act Refusal
clock_act o s at holds = asked (answer_by Taken (other_rules o s holds)) (happening.Clock at)

abbrev pub operator_act : Bool → Setting → ℕ → Bool → Bool → Bool → Result Act Refusal
operator_act o s at setSD_C ChFAck_C holds = asked (answer_by Taken (other_rules o s holds)) (happening.Operator at setSD_C ChFAck_C)

-- At a port, with the reading of the call, by a method of signing. "A refusal changes no state".
unfoldable pub done : Port → ℕ → Result Act Refusal → PortAfter
done p at (Err r) = record { port = p; reply = silent (Err r) }
done p at (Ok (Accepted params)) = record { port = accepted_port p params at; reply = silent Taken }
done p at (Ok (Happens h)) = step_of p h

abbrev pub parameters_at : Method → ℕ → Port → ℕ → List ℕ → PortAfter
parameters_at m port p at octets = done p at (parameters_act m.block port octets)

abbrev pub response_at : Method → ℕ → Port → ℕ → List ℕ → List ℕ → PortAfter
response_at m port p at spdu safe = done p at (response_act m.spdu (outside 1 8 port) p.setting at spdu (safe_in_hold p.setting.params safe))

abbrev pub request_at : Method → ℕ → Port → ℕ → List ℕ → List ℕ → PortAfter
request_at m port p at spdu safe = done p at (request_act m.spdu (outside 1 8 port) p.setting at spdu (safe_out_hold p.setting.params safe))

abbrev pub clock_at : ℕ → Port → ℕ → List ℕ → List ℕ → PortAfter
clock_at port p at safe_in safe_out =
    done p at (clock_act (outside 1 8 port) p.setting at (safe_in_hold p.setting.params safe_in && safe_out_hold p.setting.params safe_out))

abbrev pub operator_at : ℕ → Port → ℕ → Bool → Bool → List ℕ → PortAfter
operator_at port p at setSD_C ChFAck_C safe =
    done p at (operator_act (outside 1 8 port) p.setting at setSD_C ChFAck_C (safe_in_hold p.setting.params safe))

-- At the bench: the same at the port's place.

unfoldable pub placed : Bench → ℕ → PortAfter → BenchAfter
placed b port r = record { bench = cond (is_taken r.reply.answer) (with_port b port r.port) b; reply = r.reply }

abbrev pub set_parameters : Method → Bench → ℕ → ℕ → List ℕ → BenchAfter
set_parameters m b port at octets = placed b port (parameters_at m port (port_at b port) at octets)

abbrev pub receive_response : Method → Bench → ℕ → ℕ → List ℕ → List ℕ → BenchAfter
receive_response m b port at spdu safe = placed b port (response_at m port (port_at b port) at spdu safe)

abbrev pub receive_request : Method → Bench → ℕ → ℕ → List ℕ → List ℕ → BenchAfter
receive_request m b port at spdu safe = placed b port (request_at m port (port_at b port) at spdu safe)

-- the two, by the end
abbrev pub receive : Method → Bench → ℕ → End → ℕ → List ℕ → List ℕ → BenchAfter
receive m b port end.Master at spdu safe = receive_response m b port at spdu safe
receive m b port end.Device at spdu safe = receive_request m b port at spdu safe

abbrev pub clock : Bench → ℕ → ℕ → List ℕ → List ℕ → BenchAfter
clock b port at safe_in safe_out = placed b port (clock_at port (port_at b port) at safe_in safe_out)

abbrev pub operator : Bench → ℕ → ℕ → Bool → Bool → List ℕ → BenchAfter
operator b port at setSD_C ChFAck_C safe = placed b port (operator_at port (port_at b port) at setSD_C ChFAck_C safe)
