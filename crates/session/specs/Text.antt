-- 01, "The session program": the port lines, and the room for what is printed. Assumes nothing.
use Rattle.std.specs.Prelude.{ℕ, zero, suc, ◌+◌, ◌*◌, cond, List, [], ◌++◌}
use Rattle.lines.specs.Text.{port_line}
pub use Rattle.lines.specs.Text.{line_room, port_room, Written}
use Rattle.bench.specs.declared.Port.{Port}
use Rattle.bench.specs.declared.Bench.{Bench}
use Rattle.bench.specs.Ports.{port_at}

-- the room that is kept for what is printed at the end: a 13, the records, eight ports
abbrev pub closing_room : ℕ
closing_room = 2 * line_room + 8 * port_room

-- the line of a port that runs
unfoldable pub line_of_port : ℕ → Port → List ℕ
line_of_port port p =
    let t = p.live.totals in
    cond p.setting.running (port_line port p.setting.params.FSP_WatchdogTime t.total t.lowest t.highest) []

-- "for each running port, ascending": of ports 1 to n
unfoldable pub port_lines : Bench → ℕ → List ℕ
port_lines b zero = []
port_lines b (suc n) = port_lines b n ++ line_of_port (suc n) (port_at b (suc n))
