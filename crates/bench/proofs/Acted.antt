-- What an act makes of the ports of a bench, at the place of the one that it is for: in a list, and in columns. Assumes nothing.
use Prim.Native.Nat.{ℕ, ◌-◌, ◌<◌}
use mathlib.Core.Path.{◌≡◌, refl, sym, ap, ◌∙◌}
use mathlib.Core.Bool.{Bool, true, false, cond}
use mathlib.Core.List.{List, []}
use lib.ListN.{get_or, set, drop, replicate, length-set}
use lib.Seq.{set-get_or}
use Rattle.std.specs.Prelude.{Option, Some, None, Result, Ok, Err, is_some, is_none}
use Rattle.std.specs.Option.{unwrap_or}
use Rattle.answer.specs.declared.Refusal.{Refusal}
use Rattle.answer.specs.declared.Refusal.TheVariants as refusals
use Rattle.answer.specs.Answers.{Answer, Taken, is_taken, with_value, without_value}
use Rattle.answer.specs.Rules as answering
use Rattle.answer.proofs.Exact.{onward, stays}
use Rattle.ranges.specs.Fields.{outside}
use Rattle.block.specs.declared.Params.{Params}
use Rattle.block.specs.Rules.{rules_by}
use Rattle.block.specs.Table22.{params_of}
use Rattle.scl.proofs.Cases.{no}
use Rattle.scl.specs.declared.Happening.{Happening}
use Rattle.histogram.specs.Samples.{bin_count}
use Rattle.histogram.specs.Counted.{raised_if}
use Rattle.bench.specs.declared.Setting.{Setting}
use Rattle.bench.specs.declared.Live.{Live}
use Rattle.bench.specs.declared.Port.{Port}
use Rattle.bench.specs.declared.Bench.{Bench}
use Rattle.bench.specs.declared.Turned.{Turned}
use Rattle.bench.specs.declared.Reply.{Reply}
use Rattle.bench.specs.declared.BenchAfter.{BenchAfter}
use Rattle.bench.specs.declared.Act.{Act}
use Rattle.bench.specs.declared.Act.TheVariants.{Accepted, Happens}
use Rattle.bench.specs.declared.End.{End}
use Rattle.bench.specs.declared.End.TheVariants as end
use Rattle.bench.specs.Methods.{annex_d}
use Rattle.bench.specs.Handing.{safe_holds_at}
use Rattle.bench.specs.Ports as ports
use Rattle.bench.specs.Ports.{new_port, no_port, place_of, index_of, port_at, with_port, accepted_port, stored, said, step_of, silent}
use Rattle.bench.specs.Calls as calls
use Rattle.bench.specs.Storing as storing
use Rattle.bench.specs.Columns.{ports_of}
use Rattle.bench.proofs.Beside.{Eight, set_columns, get_or-columns}

-- ---- An act at the port in place k

abbrev pub act_ports : List Port → ℕ → ℕ → Result Act Refusal → List Port
act_ports l k at a = storing.acted_ports l k (get_or l k no_port) at a

abbrev pub answer_in : Result Act Refusal → Answer
answer_in a = without_value a

abbrev pub bench_of : List Port → Bench
bench_of l = record { ports = l }

placed-act : (l : List Port) (k at : ℕ) (a : Result Act Refusal)
    → bench_of (act_ports l k at a)
    ≡ cond (is_taken (calls.done (get_or l k no_port) at a).reply.answer) (bench_of (set l k (calls.done (get_or l k no_port) at a).port)) (bench_of l)
unfolding calls.done silent step_of said
placed-act l k at (Err r) = refl
placed-act l k at (Ok (Accepted params)) = refl
placed-act l k at (Ok (Happens h)) = refl

answer-act : (p : Port) (at : ℕ) (a : Result Act Refusal) → answer_in a ≡ (calls.done p at a).reply.answer
unfolding calls.done silent step_of said
answer-act p at (Err r) = refl
answer-act p at (Ok (Accepted params)) = refl
answer-act p at (Ok (Happens h)) = refl

abbrev after_of : Bench → Reply → BenchAfter
after_of b r = record { bench = b; reply = r }

module _ (l : List Port) (n at : ℕ) (act : Port → Result Act Refusal) where
  placed_by : (o : Bool) → (o ≡ true → (p : Port) → act p ≡ Err refusals.NoPort)
      → (let k = unwrap_or (cond o None (Some n)) 0 in let q = get_or l k no_port in after_of (bench_of (act_ports l k at (act q))) (calls.done q at (act q)).reply)
      ≡ (let p = cond o new_port (get_or l n no_port) in let r = calls.done p at (act p) in
      after_of (cond (is_taken r.reply.answer) (cond o (bench_of l) (bench_of (set l n r.port))) (bench_of l)) r.reply)
  unfolding calls.done silent
  placed_by true h = rw (h refl (get_or l 0 no_port), h refl new_port)
  placed_by false h =
      let p = get_or l n no_port in
      ap (λ (b : Bench). after_of b (calls.done p at (act p)).reply) (placed-act l n at (act p))

-- ---- A call that asks so of the port with its number: the port in its place, or any where the number has none

module _ (b : Bench) (port at : ℕ) (act : Setting → Result Act Refusal) (nowhere : outside 1 8 port ≡ true → (s : Setting) → act s ≡ Err refusals.NoPort) where
  abbrev in_place : Port
  in_place = get_or b.ports (index_of port) no_port

  pub act-after : storing.acted b (index_of port) in_place at (act in_place.setting) ≡ calls.placed b port (calls.done (port_at b port) at (act (port_at b port).setting))
  unfolding port_at with_port calls.placed
  act-after = placed_by b.ports (port - 1) at (λ p. act p.setting) (outside 1 8 port) (λ h p. nowhere h p.setting)

  pub act_bench : bench_of (act_ports b.ports (index_of port) at (act in_place.setting)) ≡ (calls.placed b port (calls.done (port_at b port) at (act (port_at b port).setting))).bench
  act_bench = ap (λ (r : BenchAfter). r.bench) act-after

  pub act-answer : answer_in (act in_place.setting) ≡ (calls.done (port_at b port) at (act (port_at b port).setting)).reply.answer
  unfolding calls.placed
  act-answer = answer-act in_place at (act in_place.setting) ∙ ap (λ (r : BenchAfter). r.reply.answer) act-after

-- ---- A call whose number is looked up first: where a port has it, and where none has

module _ (b : Bench) (port at : ℕ) (act : Bool → Setting → Result Act Refusal) where
  abbrev asked_at : BenchAfter
  asked_at = let p = port_at b port in calls.placed b port (calls.done p at (act (outside 1 8 port) p.setting))

  pub found : {i : ℕ} → place_of port ≡ Some i
      → (let p = get_or b.ports i no_port in storing.acted b i p at (act false p.setting)) ≡ asked_at
  unfolding port_at with_port calls.placed
  found {i} here = go (outside 1 8 port) here
    where
      go : (o : Bool) → cond o None (Some (port - 1)) ≡ Some i
          → (let q = get_or b.ports i no_port in after_of (bench_of (act_ports b.ports i at (act false q.setting))) (calls.done q at (act false q.setting)).reply)
          ≡ (let p = cond o new_port (get_or b.ports (port - 1) no_port) in let r = calls.done p at (act o p.setting) in
          after_of (cond (is_taken r.reply.answer) (cond o (bench_of b.ports) (bench_of (set b.ports (port - 1) r.port))) (bench_of b.ports)) r.reply)
      go true e = no (sym (ap is_some e))
      go false e =
          let k : port - 1 ≡ i = ap (λ z. unwrap_or z 0) e in
          rw (← k) (placed_by b.ports (port - 1) at (λ p. act false p.setting) false (λ z. no (sym z)))

  pub nowhere : ((i : ℕ) → place_of port ≡ Some i → ⊥) → ((s : Setting) → act true s ≡ Err refusals.NoPort) → after_of b (silent (Err refusals.NoPort)) ≡ asked_at
  unfolding port_at with_port calls.placed calls.done silent
  nowhere here refuses = go (outside 1 8 port) here
    where
      go : (o : Bool) → ((i : ℕ) → cond o None (Some (port - 1)) ≡ Some i → ⊥)
          → after_of b (silent (Err refusals.NoPort))
          ≡ (let p = cond o new_port (get_or b.ports (port - 1) no_port) in let r = calls.done p at (act o p.setting) in
          after_of (cond (is_taken r.reply.answer) (cond o (bench_of b.ports) (bench_of (set b.ports (port - 1) r.port))) (bench_of b.ports)) r.reply)
      go true e = rw (refuses new_port.setting) refl
      go false e = absurd (e (port - 1) refl)

-- ---- A number that no port has is refused, whatever stands in the place that is looked at; and only a block has a block

pub no_block : (a : Answer) (h : Happening) → storing.has_block (calls.asked a h) ≡ false
unfolding calls.asked
no_block (Ok t) h = refl
no_block (Err r) h = refl

pub nowhere_response : (sign : ℕ → List ℕ → ℕ) (o : Bool) → o ≡ true → (s : Setting) (at : ℕ) (spdu : List ℕ) (holds : Bool) → calls.response_act sign o s at spdu holds ≡ Err refusals.NoPort
unfolding calls.asked
nowhere_response sign true e s at spdu holds = refl
nowhere_response sign false e s at spdu holds = no (sym e)

pub nowhere_request : (sign : ℕ → List ℕ → ℕ) (o : Bool) → o ≡ true → (s : Setting) (at : ℕ) (spdu : List ℕ) (holds : Bool) → calls.request_act sign o s at spdu holds ≡ Err refusals.NoPort
unfolding calls.asked
nowhere_request sign true e s at spdu holds = refl
nowhere_request sign false e s at spdu holds = no (sym e)

-- where there is no setting
pub nowhere_spdu : (sign : ℕ → List ℕ → ℕ) (e : End) (o : Option Setting) → ((s : Setting) → o ≡ Some s → ⊥) → (at : ℕ) (spdu : List ℕ) (holds : Bool)
    → Err refusals.NoPort ≡ calls.spdu_act sign e (is_none o) (calls.setting_in o) at spdu holds
unfolding calls.asked
nowhere_spdu sign end.Master None n at spdu holds = refl
nowhere_spdu sign end.Device None n at spdu holds = refl
nowhere_spdu sign e (Some s) n at spdu holds = absurd (n s refl)

pub spdu_nowhere : (sign : ℕ → List ℕ → ℕ) (e : End) (s : Setting) (at : ℕ) (spdu : List ℕ) (holds : Bool) → calls.spdu_act sign e true s at spdu holds ≡ Err refusals.NoPort
unfolding calls.asked
spdu_nowhere sign end.Master s at spdu holds = refl
spdu_nowhere sign end.Device s at spdu holds = refl

pub no_block_at : (sign : ℕ → List ℕ → ℕ) (e : End) (o : Bool) (s : Setting) (at : ℕ) (spdu : List ℕ) (holds : Bool) → storing.has_block (calls.spdu_act sign e o s at spdu holds) ≡ false
no_block_at sign end.Master o s at spdu holds = no_block _ _
no_block_at sign end.Device o s at spdu holds = no_block _ _

-- the call of an end
pub received_at : (b : Bench) (port : ℕ) (e : End) (at : ℕ) (spdu safe : List ℕ)
    → (let p = port_at b port in calls.placed b port (calls.done p at (calls.spdu_act annex_d.spdu e (outside 1 8 port) p.setting at spdu (safe_holds_at e p.setting.params safe))))
    ≡ calls.receive annex_d b port e at spdu safe
received_at b port end.Master at spdu safe = refl
received_at b port end.Device at spdu safe = refl

pub nowhere_clock : (o : Bool) → o ≡ true → (s : Setting) (at : ℕ) (holds : Bool) → calls.clock_act o s at holds ≡ Err refusals.NoPort
unfolding calls.asked
nowhere_clock true e s at holds = refl
nowhere_clock false e s at holds = no (sym e)

pub nowhere_operator : (o : Bool) → o ≡ true → (s : Setting) (at : ℕ) (setSD_C ChFAck_C holds : Bool) → calls.operator_act o s at setSD_C ChFAck_C holds ≡ Err refusals.NoPort
unfolding calls.asked
nowhere_operator true e s at setSD_C ChFAck_C holds = refl
nowhere_operator false e s at setSD_C ChFAck_C holds = no (sym e)

pub nowhere_block : (sign : List ℕ → ℕ) (port : ℕ) (octets : List ℕ) → outside 1 8 port ≡ true → calls.parameters_act sign port octets ≡ Err refusals.NoPort
unfolding calls.asked_by_block
nowhere_block sign port octets e =
    let later = drop 1 (rules_by sign octets port) in
    ap (λ (a : Answer). calls.asked_by_block (with_value a (params_of octets)))
    (onward later (ap (λ (o : Bool). answering.refused Taken o refusals.NoPort) e) ∙ stays (Err refusals.NoPort) later refl)

pub nowhere_block_at : (b : Bench) (port at : ℕ) (sign : List ℕ → ℕ) (octets : List ℕ) → ((i : ℕ) → place_of port ≡ Some i → ⊥)
    → after_of b (silent (Err refusals.NoPort)) ≡ calls.placed b port (calls.done (port_at b port) at (calls.parameters_act sign port octets))
unfolding calls.placed calls.done silent
nowhere_block_at b port at sign octets n = go (outside 1 8 port) refl
  where
    go : (o : Bool) → outside 1 8 port ≡ o
        → after_of b (silent (Err refusals.NoPort)) ≡ calls.placed b port (calls.done (port_at b port) at (calls.parameters_act sign port octets))
    go true e = rw (nowhere_block sign port octets e) refl
    go false e = absurd (n (port - 1) (ap (λ o. cond o None (Some (port - 1))) e))

-- ---- In columns: what is stored there is what the act makes of the ports

module _ (s : List Setting) (l : List Live) (b : List (List ℕ)) (k at : ℕ) where
  pub record Acted (s' : List Setting) (l' : List Live) (b' : List (List ℕ)) (a : Result Act Refusal) : Type 0 where
    pub eight : Eight s' l' b'
    pub ports : ports_of s' l' b' ≡ act_ports (ports_of s l b) k at a

  -- xs and xl are what is read past the end of a column
  module _ (e : Eight s l b) (below : k < 8) (xs : Setting) (xl : Live) where
    abbrev setting : Setting
    setting = get_or s k xs

    abbrev live : Live
    live = get_or l k xl

    port_is : get_or (ports_of s l b) k no_port ≡ record { setting = setting; live = live; bins = get_or b k [] }
    port_is = get_or-columns s l b e k xs xl [] no_port below

    module _ {s' : List Setting} {l' : List Live} {b' : List (List ℕ)} {a : Result Act Refusal} where
      pub refused : {r : Refusal} → a ≡ Err r → s' ≡ s → l' ≡ l → b' ≡ b → Acted s' l' b' a
      refused ha hs hl hb = rw (ha, hs, hl, hb) (record { eight = e; ports = refl })

      pub accepted : {p : Params} → a ≡ Ok (Accepted p)
          → s' ≡ set s k (ports.accepted setting p) → l' ≡ set l k (ports.begun live at) → b' ≡ set b k (replicate bin_count 0) → Acted s' l' b' a
      unfolding accepted_port
      accepted {p} ha hs hl hb =
          rw (ha, hs, hl, hb)
          (record {
            eight = record {
              settings = length-set s k (ports.accepted setting p) ∙ e.settings;
              lives = length-set l k (ports.begun live at) ∙ e.lives;
              bins = length-set b k (replicate bin_count 0) ∙ e.bins;
            };
            ports =
                set_columns s l b k (ports.accepted setting p) (ports.begun live at) (replicate bin_count 0)
                ∙ ap (λ (q : Port). set (ports_of s l b) k (accepted_port q p at)) (sym port_is);
          })

      module _ (h : Happening) (t : Turned) (turned : t ≡ ports.turn_of setting live h) where
        pub happened : a ≡ Ok (Happens h) → s' ≡ s → l' ≡ set l k t.live → b' ≡ set b k (raised_if (get_or b k []) t.bin) → Acted s' l' b' a
        unfolding step_of stored
        happened ha hs hl hb =
            let bins = raised_if (get_or b k []) t.bin in
            rw (ha, hs, hl, hb)
            (record {
              eight = record {
                settings = e.settings;
                lives = length-set l k t.live ∙ e.lives;
                bins = length-set b k bins ∙ e.bins;
              };
              ports =
                  ap (λ (z : List Setting). ports_of z (set l k t.live) (set b k bins)) (sym (set-get_or s k xs))
                  ∙ set_columns s l b k setting t.live bins
                  ∙ ap (λ (t : Turned). set (ports_of s l b) k (stored (record { setting = setting; live = live; bins = get_or b k [] }) t)) turned
                  ∙ ap (λ (q : Port). set (ports_of s l b) k (step_of q h).port) (sym port_is);
            })
