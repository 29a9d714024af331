-- Every kind, form and answer of reading arises. Assumes nothing.
use Prim.Native.Nat.{ℕ}
use mathlib.Core.Path.{◌≡◌, refl}
use mathlib.Core.List.{List, [], ◌∷◌}
use lib.ListN.{replicate}
use Rattle.std.specs.Prelude.{Ok, Err}
use Rattle.record.specs.declared.Kind.TheVariants.{Clock, Operator}
use Rattle.record.specs.declared.NoRecord.TheVariants.{Bad, Cut, End}
use Rattle.record.specs.Format.{octets_of, part, bad, whole, form, record_at}

-- a record to port 1 at 256 ms
abbrev octets : ℕ → ℕ → ℕ → List ℕ → List ℕ
octets mark kind length s = 0x53 ∷ mark ∷ kind ∷ 1 ∷ 0 ∷ 0 ∷ 1 ∷ 0 ∷ length ∷ s

pub each_kind :
    (form (octets 0x4C 1 0 []) ≡ whole)
    × (form (octets 0x4C 2 0 []) ≡ whole)
    × (form (octets 0x4C 3 0 []) ≡ whole)
    × (form (octets 0x4C 4 1 (3 ∷ [])) ≡ whole)
each_kind = (refl, refl, refl, refl)

-- by its mark, kind, length or operator octet
pub each_bad :
    (form (octets 0x4D 3 0 []) ≡ bad)
    × (form (octets 0x4C 5 0 []) ≡ bad)
    × (form (octets 0x4C 3 1 (0 ∷ [])) ≡ bad)
    × (form (octets 0x4C 4 1 (4 ∷ [])) ≡ bad)
each_bad = (refl, refl, refl, refl)

-- "Only kinds 3 and 4 can have a bad length; kinds 1 and 2 take any"; a kind 4 record has one octet
pub each-length :
    (form (octets 0x4C 1 255 (replicate 255 0)) ≡ whole)
    × (form (octets 0x4C 2 255 (replicate 255 0)) ≡ whole)
    × (form (octets 0x4C 4 0 []) ≡ bad)
    × (form (octets 0x4C 4 2 (0 ∷ 0 ∷ [])) ≡ bad)
each-length = (refl, refl, refl, refl)

-- each octet of the mark counts
pub each_mark : (form (0x52 ∷ 0x4C ∷ 3 ∷ 1 ∷ 0 ∷ 0 ∷ 1 ∷ 0 ∷ 0 ∷ []) ≡ bad) × (form (0x53 ∷ 0x4C ∷ 3 ∷ 1 ∷ 0 ∷ 0 ∷ 1 ∷ 0 ∷ 0 ∷ []) ≡ whole)
each_mark = (refl, refl)

-- within its head and behind it
pub each_cut : (form (0x53 ∷ []) ≡ part) × (form (octets 0x4C 1 1 []) ≡ part)
each_cut = (refl, refl)

pub each_record :
    (record_at (0 ∷ octets 0x4C 3 0 []) 1 ≡ Ok (record { kind = Clock; port = 1; clock = 256; start = 10; next = 10 }))
    × (record_at (octets 0x4C 0 0 []) 0 ≡ Err Bad)
    × (record_at (octets 0x4C 2 1 []) 0 ≡ Err Cut)
    × (record_at (octets 0x4C 3 0 []) 9 ≡ Err End)
each_record = (refl, refl, refl, refl)

-- "port (1), clock (4, most significant first), length (1), that many octets": an operator record to port 8 at 0x01020304 ms
abbrev operator : List ℕ
operator = 0x53 ∷ 0x4C ∷ 4 ∷ 8 ∷ 1 ∷ 2 ∷ 3 ∷ 4 ∷ 1 ∷ 3 ∷ 0x53 ∷ []

pub each_place : (record_at operator 0 ≡ Ok (record { kind = Operator; port = 8; clock = 0x01020304; start = 9; next = 10 })) × (octets_of operator ≡ 3 ∷ [])
each_place = (refl, refl)
