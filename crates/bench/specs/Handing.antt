-- What a call handed on, at one end of a port (R26): by the mark of the call's reply, from the bench that the call returned and what was lent to the
-- call. None of these is believed (docs/DECISIONS.md). An SPDU is read by a method of signing. Assumes nothing.
use Rattle.std.specs.Prelude.{ℕ, ◌≡◌, Bool, Result, Err, cond, not, ◌&&◌, List, [], ◌∷◌, ◌++◌, eqb, leb, length, drop}
use Rattle.answer.specs.declared.Refusal.{Refusal}
use Rattle.answer.specs.declared.Refusal.TheVariants.{Buffer, SpduLength}
use Rattle.answer.specs.Answers.{Taken, is_taken, with_value}
use Rattle.answer.specs.Rules.{Rule, rule, answer_by}
use Rattle.block.specs.declared.Params.{Params}
use Rattle.scl.specs.Happenings.{is_fresh}
use Rattle.scl.specs.declared.Mark.{Mark}
use Rattle.scl.specs.declared.Mark.TheVariants.{Fresh, GoesOn, Safe, Nothing}
use Rattle.spdu.specs.Fields.{response_by, request_by}
use Rattle.spdu.specs.Image as image
use Rattle.bench.specs.declared.Port.{Port}
use Rattle.bench.specs.declared.End.{End}
use Rattle.bench.specs.declared.End.TheVariants as end
use Rattle.bench.specs.Methods.{Method}
use Rattle.bench.specs.Calls.{call_rules}

-- the length of the SPDUs that an end receives
abbrev pub length_at : End → Params → ℕ
length_at end.Master p = p.SPDUInLength
length_at end.Device p = p.SPDUOutLength

abbrev pub safe_holds_at : End → Params → List ℕ → Bool
safe_holds_at e p safe = image.safe_values_hold p.FSP_ProtMode (length_at e p) safe

abbrev pub releases_at : End → Port → Bool
releases_at end.Master p = p.live.master.released
releases_at end.Device p = p.live.device.released

-- the SPDU holds, and its count is that of the last one that the end admitted
abbrev pub is_last_response : Method → Port → List ℕ → Bool
is_last_response m p spdu =
    let f = response_by m.spdu p.setting.params spdu in
    f.signature_holds && f.port_holds && eqb f.DCount_i p.live.master.carried

abbrev pub is_last_request : Method → Port → List ℕ → Bool
is_last_request m p spdu =
    let q = request_by m.spdu p.setting.params spdu in
    q.signature_holds && q.port_holds && eqb q.MCount p.live.device.MCount

abbrev pub is_last_at : Method → End → Port → List ℕ → Bool
is_last_at m end.Master p spdu = is_last_response m p spdu
is_last_at m end.Device p spdu = is_last_request m p spdu

-- what a mark may be: octets of an SPDU, and that release goes on, only where the end releases; else safe values
abbrev pub unless_safe : Mark → Bool → Mark
unless_safe mark allowed = cond allowed mark Safe

abbrev pub allowed_mark : Method → End → Port → Mark → List ℕ → Mark
allowed_mark m e p Fresh spdu = unless_safe Fresh (releases_at e p && is_last_at m e p spdu)
allowed_mark m e p GoesOn spdu = unless_safe GoesOn (releases_at e p)
allowed_mark m e p Safe spdu = Safe
allowed_mark m e p Nothing spdu = Nothing

abbrev pub part_at : Method → End → Port → Mark → List ℕ → List ℕ → List ℕ
part_at m e p mark spdu safe = image.handed_on (allowed_mark m e p mark spdu) p.setting.params.FSP_ProtMode spdu safe

-- 8 and 9; 10 for an SPDU of n octets that process octets are asked of, where another length is configured; 7 where what is lent does not hold
abbrev pub lent_rules : ℕ → Port → End → Mark → ℕ → Bool → List Rule
lent_rules port p e mark n holds =
    call_rules port p.setting
    ++ (rule (is_fresh mark && not (eqb n (length_at e p.setting.params))) SpduLength ∷ rule (not holds) Buffer ∷ [])

-- the part, or why it is refused
abbrev pub Parted : Method → ℕ → Port → End → Mark → List ℕ → List ℕ → List ℕ → Type 0
Parted m port p e mark spdu safe part =
    (answer_by Taken (lent_rules port p e mark (length spdu) (safe_holds_at e p.setting.params safe)) ≡ Taken)
    × (part ≡ part_at m e p mark spdu safe)

abbrev pub Unparted : ℕ → Port → End → Mark → List ℕ → List ℕ → Refusal → Type 0
Unparted port p e mark spdu safe r =
    answer_by Taken (lent_rules port p e mark (length spdu) (safe_holds_at e p.setting.params safe)) ≡ Err r

-- the part; empty in a refusal
unfoldable pub handed_on : Method → ℕ → Port → End → Mark → List ℕ → List ℕ → List ℕ
handed_on m port p e mark spdu safe =
    cond (is_taken (answer_by Taken (lent_rules port p e mark (length spdu) (safe_holds_at e p.setting.params safe)))) (part_at m e p mark spdu safe) []

-- the same, copied to the front of a buffer, as a caller in C has it: 7 also where it has no room; with how many octets are handed on
abbrev pub hand_rules : Method → ℕ → Port → End → Mark → List ℕ → List ℕ → ℕ → List Rule
hand_rules m port p e mark spdu safe room =
    lent_rules port p e mark (length spdu) (safe_holds_at e p.setting.params safe && leb (length (part_at m e p mark spdu safe)) room)

unfoldable pub handed_to : Method → ℕ → Port → End → Mark → List ℕ → List ℕ → ℕ → Result ℕ Refusal
handed_to m port p e mark spdu safe room =
    with_value (answer_by Taken (hand_rules m port p e mark spdu safe room)) (length (part_at m e p mark spdu safe))

-- what stands in the buffer later
unfoldable pub handed_out : Method → ℕ → Port → End → Mark → List ℕ → List ℕ → List ℕ → List ℕ
handed_out m port p e mark spdu safe out =
    let part = part_at m e p mark spdu safe in
    cond (is_taken (answer_by Taken (hand_rules m port p e mark spdu safe (length out)))) (part ++ drop (length part) out) out
