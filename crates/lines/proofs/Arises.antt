-- Each line that is printed, in ASCII: computed, 01's own examples where it has them. Assumes nothing.
use mathlib.Core.Path.{◌≡◌, refl}
use mathlib.Core.List.{[], ◌∷◌}
use Rattle.lines.specs.declared.TheConstants.{LINE_ROOM, PORT_ROOM}
use Rattle.lines.specs.Text.{line_room, port_room, numeral, refusal_line, summary_line, ends_text, port_text, port_line}

-- the rooms that the lines have in code
pub rooms : (LINE_ROOM ≡ line_room) × (PORT_ROOM ≡ port_room)
rooms = (refl, refl)

-- "r 1 code 2", "r 1 code 13"
pub each_refusal :
    (refusal_line 1 2 ≡ 114 ∷ 32 ∷ 49 ∷ 32 ∷ 99 ∷ 111 ∷ 100 ∷ 101 ∷ 32 ∷ 50 ∷ 10 ∷ [])
    × (refusal_line 1 13 ≡ 114 ∷ 32 ∷ 49 ∷ 32 ∷ 99 ∷ 111 ∷ 100 ∷ 101 ∷ 32 ∷ 49 ∷ 51 ∷ 10 ∷ [])
unfolding numeral refusal_line
each_refusal = (refl, refl)

-- "records 1 refused 1", "records 0 refused 1"
pub each_summary :
    (summary_line 1 1 ≡ 114 ∷ 101 ∷ 99 ∷ 111 ∷ 114 ∷ 100 ∷ 115 ∷ 32 ∷ 49 ∷ 32 ∷ 114 ∷ 101 ∷ 102 ∷ 117 ∷ 115 ∷ 101 ∷ 100 ∷ 32 ∷ 49 ∷ 10 ∷ [])
    × (summary_line 0 1 ≡ 114 ∷ 101 ∷ 99 ∷ 111 ∷ 114 ∷ 100 ∷ 115 ∷ 32 ∷ 48 ∷ 32 ∷ 114 ∷ 101 ∷ 102 ∷ 117 ∷ 115 ∷ 101 ∷ 100 ∷ 32 ∷ 49 ∷ 10 ∷ [])
unfolding numeral summary_line
each_summary = (refl, refl)

-- "port P wd W n T" and, where T is above 0, " lo L hi U": port 8, W 65535, T 0; port 1, W 100, T 1 of 7 ms; W 99, T 30 of 0 to 99 ms
pub each-port :
    (port_line 8 65535 0 0 0 ≡ 112 ∷ 111 ∷ 114 ∷ 116 ∷ 32 ∷ 56 ∷ 32 ∷ 119 ∷ 100 ∷ 32 ∷ 54 ∷ 53 ∷ 53 ∷ 51 ∷ 53 ∷ 32 ∷ 110 ∷ 32 ∷ 48 ∷ 10 ∷ [])
    × (port_line 1 100 1 7 7 ≡ 112 ∷ 111 ∷ 114 ∷ 116 ∷ 32 ∷ 49 ∷ 32 ∷ 119 ∷ 100 ∷ 32 ∷ 49 ∷ 48 ∷ 48 ∷ 32 ∷ 110 ∷ 32 ∷ 49 ∷ 32 ∷ 108 ∷ 111 ∷ 32 ∷ 55 ∷ 32 ∷ 104 ∷ 105 ∷ 32 ∷ 55 ∷ 10 ∷ [])
    × (port_line 2 99 30 0 99 ≡ 112 ∷ 111 ∷ 114 ∷ 116 ∷ 32 ∷ 50 ∷ 32 ∷ 119 ∷ 100 ∷ 32 ∷ 57 ∷ 57 ∷ 32 ∷ 110 ∷ 32 ∷ 51 ∷ 48 ∷ 32 ∷ 108 ∷ 111 ∷ 32 ∷ 48 ∷ 32 ∷ 104 ∷ 105 ∷ 32 ∷ 57 ∷ 57 ∷ 10 ∷ [])
unfolding numeral port_text ends_text port_line
each-port = (refl, refl, refl)
