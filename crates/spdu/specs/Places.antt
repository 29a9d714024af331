-- Where the parts of an SPDU stand (R1, R2): process octets, port number, control or status octet, signature, most significant octet first. H, the
-- octets that are not process data, is `safety_octets`. Assumes nothing.
use Rattle.std.specs.Prelude.{ℕ, ◌+◌, ◌-◌, Bool, true, cond, ◌&&◌, List, [], ◌∷◌, eqb, length, get_or, take}
use Rattle.ranges.specs.Fields.{safety_octets}
use Rattle.block.specs.Octets.{unsigned16, unsigned32}
use Rattle.spdu.specs.Signature.{replaced}

-- how many process octets an SPDU of n octets has
abbrev pub process_octets : ℕ → ℕ → ℕ
process_octets mode n = n - safety_octets mode

abbrev pub process_of : ℕ → List ℕ → List ℕ
process_of mode s = take (process_octets mode (length s)) s

abbrev pub port_number_of : ℕ → List ℕ → ℕ
port_number_of mode s = get_or s (process_octets mode (length s)) 0

-- the control octet of a request, or the status octet of a response
abbrev pub control_of : ℕ → List ℕ → ℕ
control_of mode s = get_or s (process_octets mode (length s) + 1) 0

-- all but the signature
abbrev pub contents_of : ℕ → List ℕ → List ℕ
contents_of mode s = take (process_octets mode (length s) + 2) s

-- the signature's number, where it stands from `at` on
abbrev pub carried_at : ℕ → List ℕ → ℕ → ℕ
carried_at mode s at = cond (eqb mode 1) (unsigned16 s at) (unsigned32 s at)

abbrev pub carried_of : ℕ → List ℕ → ℕ
carried_of mode s = carried_at mode s (process_octets mode (length s) + 2)

-- the signature that an SPDU carries is that of its contents
abbrev pub is_signed : (ℕ → List ℕ → ℕ) → ℕ → List ℕ → Bool
is_signed sign mode s = eqb (carried_of mode s) (replaced (sign mode (contents_of mode s)))

abbrev pub is_all_zero : List ℕ → Bool
is_all_zero [] = true
is_all_zero (x ∷ xs) = eqb x 0 && is_all_zero xs
