-- The session, from the theorems of the crate session. Assumes nothing.
use Rattle.lines.specs.Text.{numeral, refusal_line, summary_line}
use Rattle.session.proofs.Chunks as blocks
use Rattle.session.proofs.Shown as shown
use Rattle.session.proofs.Arises as arises
use Rattle.claims.specs.Session.{Session}

pub session : Session
unfolding numeral refusal_line summary_line
session = record {
  at_end = blocks.at_end;
  at_bad = blocks.at_bad;
  calls = blocks.bench_of_history;
  port_line_lem = shown.line_shown;
  no_line = shown.no_line;
  zero_block = arises.zero_block;
  three_octets = arises.three_octets;
}
