-- A port's place in the bench. Assumes nothing.
use Prim.Native.Nat.{ℕ, ◌-◌, ◌<◌, ◌≤◌}
use Rattle.std.specs.Prelude.{Option, Some, None, is_some}
use Rattle.std.specs.Option.{unwrap_or}
use native.Mathlib.Omega.{arith}
use mathlib.Core.Path.{◌≡◌, refl, sym, ap, ◌∙◌}
use mathlib.Core.Bool.{Bool, true, false, cond, not, ◌&&◌}
use borrow.Author.Tests.{eqb-false, leb-true}
use lib.Dec.{eqb, leb}
use lib.ListN.{length, length-set, get_or-replicate}
use lib.Seq.{get_or-set_same, get_or-set_other}
use Rattle.answer.specs.Answers.{is_taken}
use Rattle.ranges.specs.Fields.{outside}
use Rattle.scl.proofs.Cases.{cond_case, no, and_left, and_right}
use Rattle.bench.specs.declared.Port.{Port}
use Rattle.bench.specs.declared.Bench.{Bench}
use Rattle.bench.specs.Ports.{PortAfter, new_port, no_port, new_bench, place_of, index_of, port_at, with_port}
use Rattle.bench.specs.Calls.{placed}

kept : (b : Bool) → not b ≡ false → b ≡ true
kept true e = refl
kept false e = no (cc)

-- a number that a port has
pub known_range : (q : ℕ) → outside 1 8 q ≡ false → (1 ≤ q) × (q ≤ 8)
known_range q e =
    let both : (leb 1 q && leb q 8) ≡ true = kept (leb 1 q && leb q 8) e in
    (leb-true 1 q (and_left (leb 1 q) (leb q 8) both), leb-true q 8 (and_right (leb 1 q) (leb q 8) both))

pub index_below : (port : ℕ) → index_of port < 8
index_below port = go (outside 1 8 port) refl
  where
    go : (o : Bool) → outside 1 8 port ≡ o → unwrap_or (cond o None (Some (port - 1))) 0 < 8
    go true e = omega arith
    go false e = let r = known_range port e in omega (arith, r.0, r.1)

module _ (port : ℕ) {place : Option ℕ} (here : place ≡ place_of port) where
  pub place_index : unwrap_or place 0 ≡ index_of port
  place_index = ap (λ (place : Option ℕ). unwrap_or place 0) here

  pub place_outside : {o : Bool} → is_some place ≡ not o → o ≡ outside 1 8 port
  place_outside {o} e = go o (outside 1 8 port) (ap is_some (sym here) ∙ e)
    where
      go : (o p : Bool) → is_some (cond p None (Some (port - 1))) ≡ not o → o ≡ p
      go true true e = refl
      go true false e = no e
      go false true e = no (sym e)
      go false false e = refl

with-length : (b : Bench) (port : ℕ) (p : Port) → length (with_port b port p).ports ≡ length b.ports
unfolding with_port
with-length b port p =
    cond_case (λ (n : Bench). length n.ports ≡ length b.ports) (outside 1 8 port) (λ _. refl) (λ _. simp length-set)

pub new_at : (q : ℕ) → port_at new_bench q ≡ new_port
unfolding port_at new_bench
new_at q =
    cond_case (λ (p : Port). p ≡ new_port) (outside 1 8 q) (λ _. refl)
    (λ e. let r = known_range q e in get_or-replicate 8 (q - 1) new_port no_port (omega (arith, r.0, r.1)))

module _ (b : Bench) (eight : length b.ports ≡ 8) (q : ℕ) (known : outside 1 8 q ≡ false) where
  at_same : (p : Port) → port_at (with_port b q p) q ≡ p
  unfolding port_at with_port
  at_same p =
      let r = known_range q known in
      simp known (get_or-set_same b.ports (q - 1) p no_port (omega (arith, eight, r.0, r.1)))

  at_other : (port : ℕ) (p : Port) → eqb port q ≡ false → port_at (with_port b port p) q ≡ port_at b q
  unfolding port_at with_port
  at_other port p e =
      let r = known_range q known in
      cond_case (λ (n : Bench). port_at n q ≡ port_at b q) (outside 1 8 port) (λ _. refl)
      (λ k. let s = known_range port k in simp known (get_or-set_other b.ports (port - 1) (q - 1) p no_port (λ z. eqb-false port q e (omega (arith, r.0, s.0)))))

  -- a call's port in its place
  pub placed_same : (r : PortAfter) → is_taken r.reply.answer ≡ true → port_at (placed b q r).bench q ≡ r.port
  unfolding placed
  placed_same r e = simp e (at_same r.port)

  pub placed_other : (port : ℕ) (r : PortAfter) → eqb port q ≡ false → port_at (placed b port r).bench q ≡ port_at b q
  unfolding placed
  placed_other port r e =
      cond_case (λ (n : Bench). port_at n q ≡ port_at b q) (is_taken r.reply.answer) (λ _. at_other port r.port e) (λ _. refl)

pub placed-refused : (b : Bench) (port : ℕ) (r : PortAfter) → is_taken r.reply.answer ≡ false → (placed b port r).bench ≡ b
unfolding placed
placed-refused b port r e = simp e

pub placed-length : (b : Bench) (port : ℕ) (r : PortAfter) → length (placed b port r).bench.ports ≡ length b.ports
unfolding placed
placed-length b port r =
    cond_case (λ (n : Bench). length n.ports ≡ length b.ports) (is_taken r.reply.answer) (λ _. with-length b port r.port) (λ _. refl)
