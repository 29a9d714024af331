-- `session::run::feed` meets its contract. Assumes nothing.
use Rattle.std.proofs.Common.{◌≡◌, ◌⊎◌, ◌<◌, ℕ, false, List, drop, set, sym, refl, ap, ◌∙◌, inl, inr, arith, rules}
use Rattle.std.specs.Prelude.{Result, Ok}
use Rattle.answer.specs.declared.Refusal.{Refusal}
use Rattle.bench.specs.declared.Setting.{Setting}
use Rattle.bench.specs.declared.Live.{Live}
use Rattle.bench.specs.declared.Act.{Act}
use Rattle.bench.specs.Ports.{no_port}
use Rattle.bench.proofs.Engines.{right_methods}
use Rattle.bench.proofs.Index.{index_below, place_index, place_outside}
use Rattle.bench.proofs.Acted.{answer_in, refused, accepted, happened}
use Rattle.bench.proofs.Regulars.{regular_turn}
use Rattle.bench.proofs.Raised.{below}
use Rattle.record.specs.declared.Record.{Record}
use Rattle.record.specs.Format.{Form, nothing, part, bad, whole, form, record_by}
use Rattle.session.specs.Run.{is_whole, refused_after}
use Rattle.lines.proofs.Written.{none}
use Rattle.session.proofs.Link.{stopped}
use Rattle.session.proofs.Going.{starts, goes_on}
use Rattle.session.proofs.run.feed.Goals as goal
use Rattle.session.proofs.run.feed.Goals.{else-loop-left-test, then-loop-left-test+in_default}

-- what is read where the loop is left is no whole record
not_whole : (f : Form) (s : List ℕ) (p : ℕ) → ((r : Record) → record_by f s p ≡ Ok r → ⊥) → is_whole f ≡ false
not_whole nothing s p o = refl
not_whole part s p o = refl
not_whole bad s p o = refl
not_whole whole s p o = absurd (o _ refl)

pub loop-left-init : goal.loop-left-init
loop-left-init c =
    starts _ _ _ _ c.settings_of-settings.ensures c.lives_of-lives.ensures c.all_bins_of-bins.ensures (search rules) (omega arith) (omega arith)

pub loop-left-preserved-in-Err : goal.loop-left-preserved-in-Err
unfolding no_port
loop-left-preserved-in-Err c =
    let l = c.loop-left in
    let k = c.unwrap_or-k.ensures ∙ place_index c.in-Ok.found.port c.place_of-place.ensures.value in
    let below : c.unwrap_or-k.result < 8 = rw k (index_below c.in-Ok.found.port) in
    let o = place_outside c.in-Ok.found.port c.place_of-place.ensures.value c.is_none.ensures in
    let tables = right_methods _ _ _ c.table_for-short.ensures.serves c.table_for-long.ensures.serves in
    let e = c.in-Err.is in
    let said = c.say-written in
    goes_on l.invariant (omega (arith, c.loop-left-test.true)) (sym c.read_record.ensures ∙ c.in-Ok.is) k below o no_port.setting no_port.live tables c.act_of-act.ensures
    (refused _ _ _ _ _ l.invariant.eight below no_port.setting no_port.live e refl refl refl)
    (c.saturating_add-refused.ensures ∙ ap (λ (a : Result Act Refusal). refused_after l.refused (answer_in a)) (sym e))
    (rw (← c.saturating_add-number.ensures, e) said.ensures.written) said.ensures.at_most_a_line (omega (arith, said.auto))

pub loop-left-preserved-in-Ok-Accepted : goal.loop-left-preserved-in-Ok-Accepted
unfolding no_port
loop-left-preserved-in-Ok-Accepted c =
    let l = c.loop-left in
    let k = c.unwrap_or-k.ensures ∙ place_index c.in-Ok.found.port c.place_of-place.ensures.value in
    let below : c.unwrap_or-k.result < 8 = rw k (index_below c.in-Ok.found.port) in
    let o = place_outside c.in-Ok.found.port c.place_of-place.ensures.value c.is_none.ensures in
    let tables = right_methods _ _ _ c.table_for-short.ensures.serves c.table_for-long.ensures.serves in
    let e = c.in-Ok-Accepted.is ∙ ap (λ (a : Act). Ok a) (rw c.in-Ok-Accepted.is at c.in-Ok-Accepted.field-0-is) in
    goes_on l.invariant (omega (arith, c.loop-left-test.true)) (sym c.read_record.ensures ∙ c.in-Ok.is) k below o no_port.setting no_port.live tables c.act_of-act.ensures
    (accepted _ _ _ _ _ l.invariant.eight below no_port.setting no_port.live e
    (ap (λ (y : Setting). set l.settings c.unwrap_or-k.result y) c.accepted.ensures)
    (ap (λ (y : Live). set l.lives c.unwrap_or-k.result y) c.begun.ensures) refl)
    (ap (λ (a : Result Act Refusal). refused_after l.refused (answer_in a)) (sym e))
    (rw e (none _ _)) (omega arith) refl

pub raise-requires-clause-is_bin : goal.raise-requires-clause-is_bin
raise-requires-clause-is_bin c =
    let regular = sym c.is_regular.ensures ∙ c.if-is_regular.true in
    below _ _ _ (c.regular-turned.ensures ∙ regular_turn _ _ _ regular)

pub loop-left-preserved-then-is_regular : goal.loop-left-preserved-then-is_regular
unfolding no_port
loop-left-preserved-then-is_regular c =
    let l = c.loop-left in
    let k = c.unwrap_or-k.ensures ∙ place_index c.in-Ok.found.port c.place_of-place.ensures.value in
    let below : c.unwrap_or-k.result < 8 = rw k (index_below c.in-Ok.found.port) in
    let o = place_outside c.in-Ok.found.port c.place_of-place.ensures.value c.is_none.ensures in
    let tables = right_methods _ _ _ c.table_for-short.ensures.serves c.table_for-long.ensures.serves in
    let e = c.in-Ok-Happens.is ∙ ap (λ (a : Act). Ok a) (rw c.in-Ok-Happens.is at c.in-Ok-Happens.field-0-is) in
    goes_on l.invariant (omega (arith, c.loop-left-test.true)) (sym c.read_record.ensures ∙ c.in-Ok.is) k below o no_port.setting no_port.live tables c.act_of-act.ensures
    (happened _ _ _ _ _ l.invariant.eight below no_port.setting no_port.live _ _ (c.regular-turned.ensures ∙ regular_turn _ _ _ (sym c.is_regular.ensures ∙ c.if-is_regular.true)) e refl refl c.raise.ensures)
    (ap (λ (a : Result Act Refusal). refused_after l.refused (answer_in a)) (sym e))
    (rw e (none _ _)) (omega arith) refl

pub raise-requires-else-is_regular-clause-is_bin : goal.raise-requires-else-is_regular-clause-is_bin
raise-requires-else-is_regular-clause-is_bin c = below _ _ _ c.turn-turned.ensures

pub loop-left-preserved : goal.loop-left-preserved
unfolding no_port
loop-left-preserved c =
    let l = c.loop-left in
    let k = c.unwrap_or-k.ensures ∙ place_index c.in-Ok.found.port c.place_of-place.ensures.value in
    let below : c.unwrap_or-k.result < 8 = rw k (index_below c.in-Ok.found.port) in
    let o = place_outside c.in-Ok.found.port c.place_of-place.ensures.value c.is_none.ensures in
    let tables = right_methods _ _ _ c.table_for-short.ensures.serves c.table_for-long.ensures.serves in
    let e = c.in-Ok-Happens.is ∙ ap (λ (a : Act). Ok a) (rw c.in-Ok-Happens.is at c.in-Ok-Happens.field-0-is) in
    goes_on l.invariant (omega (arith, c.loop-left-test.true)) (sym c.read_record.ensures ∙ c.in-Ok.is) k below o no_port.setting no_port.live tables c.act_of-act.ensures
    (happened _ _ _ _ _ l.invariant.eight below no_port.setting no_port.live _ _ c.turn-turned.ensures e refl refl c.raise-else-is_regular.ensures)
    (ap (λ (a : Result Act Refusal). refused_after l.refused (answer_in a)) (sym e))
    (rw e (none _ _)) (omega arith) refl

pub returns : goal.returns
returns c =
    let x = c.args in
    let l = c.loop-left in
    let s = drop l.at x.s.now in
    let e : (l.left ≡ 0) ⊎ (is_whole (form s) ≡ false) =
    elim c.loop-left-test.branch [
      | else-loop-left-test w ↦ inl (omega (arith, w.loop-left-test.false))
      | then-loop-left-test+in_default w ↦ inr (not_whole (form s) s l.at (λ r h. w.in_default.not-Ok r (w.read_record.ensures ∙ h)))
    ] in
    let p = stopped l.invariant.link refl l.invariant.within (omega (arith, l.invariant.kept, l.invariant.fits)) e in
    rw (c.packed.ensures, c.saturating_add.ensures, c.stop_at.ensures)
    (record { value = p.0; out_after = p.1.0; used_in_bounds = p.1.1.0; written_in_bounds = p.1.1.1 })
