-- 000 10.5, 9.1.2: the process data image has the SPDU first and the other data behind it (R3); and what a call hands on (R26). Assumes nothing.
use Rattle.std.specs.Prelude.{ℕ, ◌+◌, Bool, cond, ◌&&◌, List, [], ◌++◌, eqb, length, take, drop}
use Rattle.ranges.specs.Fields.{safety_octets}
use Rattle.block.specs.declared.Params.{Params}
use Rattle.scl.specs.declared.Mark.{Mark}
use Rattle.scl.specs.declared.Mark.TheVariants.{Fresh, GoesOn, Safe, Nothing}
use Rattle.spdu.specs.Places.{process_of, process_octets, is_all_zero}
use Rattle.spdu.specs.Built.{control_octet, spdu_with, process_sent}

-- the outgoing image has o + rest octets, the other data as many as the rest, and the process octets and H make up the SPDU
abbrev pub composer_fits : ℕ → ℕ → ℕ → ℕ → ℕ → ℕ → Bool
composer_fits mode o rest process other image = eqb (process + safety_octets mode) o && eqb other rest && eqb image (o + rest)

abbrev pub composer_holds : Params → ℕ → ℕ → ℕ → Bool
composer_holds p process other image = composer_fits p.FSP_ProtMode p.SPDUOutLength p.OutputDataLength process other image

abbrev pub composed : (ℕ → List ℕ → ℕ) → Params → ℕ → Bool → Bool → List ℕ → List ℕ → List ℕ → List ℕ
composed sign p mCount setSD chFAckReq process other image =
    cond (composer_holds p (length process) (length other) (length image))
    (spdu_with sign p.FSP_ProtMode (process_sent setSD process) p.FSP_Port (control_octet mCount setSD chFAckReq) ++ other) image

-- the incoming image has m + n octets
abbrev pub splitter_holds : Params → ℕ → Bool
splitter_holds p image = eqb image (p.SPDUInLength + p.InputDataLength)

-- its two parts; of an image of another length both are empty
abbrev pub spdu_part : Params → List ℕ → List ℕ
spdu_part p image = cond (splitter_holds p (length image)) (take p.SPDUInLength image) []

abbrev pub other_part : Params → List ℕ → List ℕ
other_part p image = cond (splitter_holds p (length image)) (drop p.SPDUInLength image) []

-- "a part of the received SPDU where the machine releases them, and otherwise a part of the lent safe values"; where release goes on, and in a
-- refused call, an empty part
abbrev pub handed_on : Mark → ℕ → List ℕ → List ℕ → List ℕ
handed_on Fresh mode spdu safe = process_of mode spdu
handed_on Safe mode spdu safe = safe
handed_on GoesOn mode spdu safe = []
handed_on Nothing mode spdu safe = []

-- 01's answer 7: lent safe values are zeros of as many octets as an SPDU of n octets has process octets
abbrev pub safe_values_hold : ℕ → ℕ → List ℕ → Bool
safe_values_hold mode n safe = eqb (length safe) (process_octets mode n) && is_all_zero safe
