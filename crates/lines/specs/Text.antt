-- 01, "The session program": the lines that are printed, in ASCII. Assumes nothing.
use Rattle.std.specs.Prelude.{ℕ, zero, suc, ◌+◌, ◌-◌, ◌/◌, ◌%◌, ◌≡◌, cond, List, [], ◌∷◌, ◌++◌, ltb, length, take, drop, replicate}

-- the room that is kept for a line, and for the line of a port
abbrev pub line_room : ℕ
line_room = 64

abbrev pub port_room : ℕ
port_room = 128

-- a text in a room of so many octets: zeros behind it
abbrev pub line_of : ℕ → List ℕ → List ℕ
line_of room text = text ++ replicate (room - length text) 0

-- the last decimal digit of n
abbrev pub last_digit : ℕ → List ℕ
last_digit n = (48 + n % 10) ∷ []

-- the decimal digits of n with no zeros in front, where there are at most f + 1
abbrev pub numeral_by : ℕ → ℕ → List ℕ
numeral_by zero n = last_digit n
numeral_by (suc f) n = cond (ltb n 10) (last_digit n) (numeral_by f (n / 10) ++ last_digit n)

-- a number below 2^64 has at most 20
unfoldable pub numeral : ℕ → List ℕ
numeral n = numeral_by 19 n

-- a word, and the number behind it
abbrev pub pair : List ℕ → ℕ → List ℕ
pair word n = word ++ numeral n

abbrev pub line_end : List ℕ
line_end = 10 ∷ []

-- "r N code C"
unfoldable pub refusal_line : ℕ → ℕ → List ℕ
refusal_line n code = pair (114 ∷ 32 ∷ []) n ++ pair (32 ∷ 99 ∷ 111 ∷ 100 ∷ 101 ∷ 32 ∷ []) code ++ line_end

-- "records A refused B"
unfoldable pub summary_line : ℕ → ℕ → List ℕ
summary_line a b =
    pair (114 ∷ 101 ∷ 99 ∷ 111 ∷ 114 ∷ 100 ∷ 115 ∷ 32 ∷ []) a
    ++ pair (32 ∷ 114 ∷ 101 ∷ 102 ∷ 117 ∷ 115 ∷ 101 ∷ 100 ∷ 32 ∷ []) b
    ++ line_end

-- " lo L hi U"
unfoldable pub ends_text : ℕ → ℕ → List ℕ
ends_text lo hi = pair (32 ∷ 108 ∷ 111 ∷ 32 ∷ []) lo ++ pair (32 ∷ 104 ∷ 105 ∷ 32 ∷ []) hi

abbrev pub ends_if_any : ℕ → ℕ → ℕ → List ℕ
ends_if_any t lo hi = cond (ltb 0 t) (ends_text lo hi) []

-- "port P wd W n T"
unfoldable pub port_text : ℕ → ℕ → ℕ → List ℕ
port_text port w t = pair (112 ∷ 111 ∷ 114 ∷ 116 ∷ 32 ∷ []) port ++ pair (32 ∷ 119 ∷ 100 ∷ 32 ∷ []) w ++ pair (32 ∷ 110 ∷ 32 ∷ []) t

-- with, where T is above 0, " lo L hi U"
unfoldable pub port_line : ℕ → ℕ → ℕ → ℕ → ℕ → List ℕ
port_line port w t lo hi = port_text port w t ++ ends_if_any t lo hi ++ line_end

-- Before and after a text is written from a position on: r is where it ends, and the octets from there on are as they were.
pub record Written (before : List ℕ) (at : ℕ) (text : List ℕ) (r : ℕ) (after : List ℕ) : Type 0 where
  pub end : r ≡ at + length text
  pub front : take r after ≡ take at before ++ text
  pub behind : drop r after ≡ drop r before
