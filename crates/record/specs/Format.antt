-- 01, "The session program": the form of a record, and what stands at a position of a session. Assumes nothing.
use Rattle.std.specs.Prelude.{ℕ, ◌+◌, ◌*◌, Bool, true, false, cond, ◌&&◌, not, List, [], ◌∷◌, length, get_or, take, drop, ltb, eqb, Result, Ok, Err}
use Rattle.record.specs.declared.Kind.{Kind}
use Rattle.record.specs.declared.Kind.TheVariants.{Block, Response, Clock, Operator}
use Rattle.record.specs.declared.Record.{Record}
use Rattle.record.specs.declared.NoRecord.{NoRecord}
use Rattle.record.specs.declared.NoRecord.TheVariants.{Bad, Cut, End}

-- "mark 0x53 0x4C, kind (1 octet), port (1), clock (4, most significant first), length (1), that many octets"
abbrev pub at : List ℕ → ℕ → ℕ
at s k = get_or s k 0

abbrev pub record_mark_holds : List ℕ → Bool
record_mark_holds s = eqb (at s 0) 0x53 && eqb (at s 1) 0x4C

abbrev pub kind_of : List ℕ → ℕ
kind_of s = at s 2

abbrev pub port_of : List ℕ → ℕ
port_of s = at s 3

abbrev pub clock_of : List ℕ → ℕ
clock_of s = at s 4 * 16777216 + at s 5 * 65536 + at s 6 * 256 + at s 7

abbrev pub length_of : List ℕ → ℕ
length_of s = at s 8

-- the octets before those that the length counts
abbrev pub head_octets : ℕ
head_octets = 9

abbrev pub size_of : List ℕ → ℕ
size_of s = head_octets + length_of s

-- no record has more: its length is one octet
abbrev pub most_octets : ℕ
most_octets = head_octets + 255

abbrev pub octets_of : List ℕ → List ℕ
octets_of s = take (length_of s) (drop head_octets s)

-- a kind: its number, the lengths that it takes, and what holds of its first octet
pub data KindRow : Type 0 where
  kind : (number : ℕ) (length octet : ℕ → Bool) → KindRow

abbrev pub any : ℕ → Bool
any x = true

abbrev pub only : ℕ → ℕ → Bool
only n x = eqb x n

-- "bit 0 setSD_C, bit 1 ChFAck_C, others zero"
abbrev pub operator_bits : ℕ → Bool
operator_bits x = ltb x 4

-- 1 parameters, 2 SPDU received as FS-Master, 3 clock, 4 operator
abbrev pub kinds : List KindRow
kinds = kind 1 any any ∷ kind 2 any any ∷ kind 3 (only 0) any ∷ kind 4 (only 1) operator_bits ∷ []

-- the number of a kind
abbrev pub number_of : Kind → ℕ
number_of Block = 1
number_of Response = 2
number_of Clock = 3
number_of Operator = 4

-- the kind of a number that is one of these
abbrev pub kind_named : ℕ → Kind
kind_named n = cond (eqb n 1) Block (cond (eqb n 2) Response (cond (eqb n 3) Clock Operator))

-- of any number: no other is a kind
abbrev pub kind_read : ℕ → Result Kind NoRecord
kind_read n = cond (eqb n 1) (Ok Block) (cond (eqb n 2) (Ok Response) (cond (eqb n 3) (Ok Clock) (cond (eqb n 4) (Ok Operator) (Err Bad))))

-- the length n is one that the kind k takes; no row is a bad kind
abbrev pub length_in : List KindRow → ℕ → ℕ → Bool
length_in [] k n = false
length_in (kind number length octet ∷ rows) k n = cond (eqb k number) (length n) (length_in rows k n)

-- the same of the first octet x
abbrev pub octet_in : List KindRow → ℕ → ℕ → Bool
octet_in [] k x = false
octet_in (kind number length octet ∷ rows) k x = cond (eqb k number) (octet x) (octet_in rows k x)

abbrev pub head_holds : List ℕ → Bool
head_holds s = record_mark_holds s && length_in kinds (kind_of s) (length_of s)

-- the kind of a record whose head holds
abbrev pub head_read : List ℕ → Result Kind NoRecord
head_read s = cond (head_holds s) (Ok (kind_named (kind_of s))) (Err Bad)

abbrev pub octet_holds : List ℕ → Bool
octet_holds s = octet_in kinds (kind_of s) (at s head_octets)

-- What octets begin with: nothing; a record cut short; a bad mark, kind, length or operator octet; a whole record.
pub data Form : Type 0 where
  nothing : Form
  part : Form
  bad : Form
  whole : Form

-- by five tests in order: there is none; there are fewer than a head has; the head holds; there are fewer than the record has; the octet holds
abbrev pub form_by : Bool → Bool → Bool → Bool → Bool → Form
form_by empty noHead head short octet =
    cond empty nothing (cond noHead part (cond (not head) bad (cond short part (cond (not octet) bad whole))))

abbrev pub form : List ℕ → Form
form s = form_by (eqb (length s) 0) (ltb (length s) head_octets) (head_holds s) (ltb (length s) (size_of s)) (octet_holds s)

-- the record that s begins with, s standing at position p: a whole one's octets are from p + 9 to the position past it
abbrev pub record_by : Form → List ℕ → ℕ → Result Record NoRecord
record_by nothing s p = Err End
record_by part s p = Err Cut
record_by bad s p = Err Bad
record_by whole s p =
    Ok
    (record { kind = kind_named (kind_of s); port = port_of s; clock = clock_of s; start = p + head_octets; next = p + size_of s })

-- what stands at a position of s
abbrev pub record_at : List ℕ → ℕ → Result Record NoRecord
record_at s p = record_by (form (drop p s)) (drop p s) p
