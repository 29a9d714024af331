-- Values in a list of octets, the most significant octet first (01, "The parameter block"). Past the end an octet reads 0. Assumes nothing.
use Rattle.std.specs.Prelude.{ℕ, ◌+◌, ◌*◌, ◌-◌, ◌<◌, List, get_or, take, drop}

-- every element is an octet
abbrev pub Octets : List ℕ → Type 0
Octets s = (k : ℕ) → get_or s k 0 < 256

abbrev pub unsigned8 : List ℕ → ℕ → ℕ
unsigned8 s k = get_or s k 0

-- two octets as one number
abbrev pub word : ℕ → ℕ → ℕ
word a b = a * 256 + b

abbrev pub unsigned16 : List ℕ → ℕ → ℕ
unsigned16 s k = word (unsigned8 s k) (unsigned8 s (k + 1))

abbrev pub unsigned32 : List ℕ → ℕ → ℕ
unsigned32 s k = unsigned16 s k * 65536 + unsigned16 s (k + 2)

-- the octets at the offsets from `first` to `last`, both included
abbrev pub offsets : ℕ → ℕ → List ℕ → List ℕ
offsets first last s = take (last + 1 - first) (drop first s)
