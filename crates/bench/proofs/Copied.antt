-- What a call handed on, copied to a buffer. Assumes nothing.
use Prim.Native.Nat.{ℕ, ◌≤◌, ◌<◌}
use mathlib.Core.Path.{◌≡◌, refl, sym, ap, ◌∙◌}
use mathlib.Core.Bool.{Bool, true, false, cond, not, ◌&&◌, false≢true}
use Rattle.std.proofs.lemmas.Bool.{ltb-true, ltb-false}
use Rattle.answer.proofs.InTurn.{kept_rule}
use mathlib.Core.List.{List, ◌++◌}
use lib.Dec.{eqb, leb}
use lib.ListN.{length, take, drop}
use lib.Seq.{take-length}
use borrow.Author.Tests.{le-leb, lt-leb}
use Rattle.std.specs.Prelude.{Result, Ok, Err, nat_lt}
use Rattle.answer.specs.declared.Refusal.{Refusal}
use Rattle.answer.specs.declared.Refusal.TheVariants.{Buffer, SpduLength}
use Rattle.answer.specs.Answers.{Answer, Taken, is_taken, with_value}
use Rattle.answer.specs.Rules.{refused, answer_by}
use Rattle.scl.specs.Happenings.{is_fresh}
use Rattle.scl.specs.declared.Mark.{Mark}
use Rattle.bench.specs.declared.Port.{Port}
use Rattle.bench.specs.declared.End.{End}
use Rattle.bench.specs.Methods.{annex_d}
use Rattle.bench.specs.Calls.{call_rules}
use Rattle.bench.specs.Handing.{length_at, lent_rules, part_at, safe_holds_at, Parted, Unparted, handed_to, handed_out}

-- how many octets are told, and what stands in the buffer later
pub record Copied (port : ℕ) (p : Port) (e : End) (mark : Mark) (spdu safe out : List ℕ) (told : Result ℕ Refusal) (later : List ℕ) : Type 0 where
  pub told_is : told ≡ handed_to annex_d port p e mark spdu safe (length out)
  pub later_is : later ≡ handed_out annex_d port p e mark spdu safe out

-- the last rule is on two things: where the answer on the first is a refusal it stays, else the second decides
both : (a : Answer) (x y : Bool) → refused a (not (x && y)) Buffer ≡ cond (is_taken (refused a (not x) Buffer)) (cond y Taken (Err Buffer)) (refused a (not x) Buffer)
both (Ok t) true true = refl
both (Ok t) true false = refl
both (Ok t) false y = refl
both (Err r) x y = refl

-- the room that a rule asks for
pub has_room : (n room : ℕ) → Taken ≡ refused Taken (nat_lt room n) Buffer → n ≤ room
has_room n room e = ltb-false room n (kept_rule (nat_lt room n) Buffer e)

pub lacks_room : {r : Refusal} (n room : ℕ) → Err r ≡ refused Taken (nat_lt room n) Buffer → (room < n) × (◌≡◌ {A = Result ℕ Refusal} (Err r) (Err Buffer))
lacks_room {r} n room e = go (nat_lt room n) refl e
  where
    go : (b : Bool) → nat_lt room n ≡ b → Err r ≡ refused Taken b Buffer → (room < n) × (◌≡◌ {A = Result ℕ Refusal} (Err r) (Err Buffer))
    go true f e = (ltb-true room n f, ap (λ (a : Answer). with_value a 0) e)
    go false f e = absurd (false≢true (ap is_taken e))

module _ (port : ℕ) (p : Port) (e : End) (mark : Mark) (spdu safe out : List ℕ) where
  abbrev holds : Bool
  holds = safe_holds_at e p.setting.params safe

  abbrev part : List ℕ
  part = part_at annex_d e p mark spdu safe

  abbrev lent : Bool → Answer
  lent h = answer_by Taken (lent_rules port p e mark (length spdu) h)

  answer_is : lent (holds && leb (length part) (length out)) ≡ cond (is_taken (lent holds)) (cond (leb (length part) (length out)) Taken (Err Buffer)) (lent holds)
  answer_is =
      let a = answer_by Taken (call_rules port p.setting) in
      both (refused a (is_fresh mark && not (eqb (length spdu) (length_at e p.setting.params))) SpduLength) holds (leb (length part) (length out))

  abbrev told_by : Answer → Result ℕ Refusal
  told_by a = with_value a (length part)

  abbrev later_by : Answer → List ℕ
  later_by a = cond (is_taken a) (part ++ drop (length part) out) out

  by_answer : (a : Answer) → lent (holds && leb (length part) (length out)) ≡ a → Copied port p e mark spdu safe out (told_by a) (later_by a)
  unfolding handed_to handed_out
  by_answer a is = record { told_is = ap told_by (sym is); later_is = ap later_by (sym is) }

  module _ {given : List ℕ} (parted : Parted annex_d port p e mark spdu safe given) where
    room_decides : lent (holds && leb (length part) (length out)) ≡ cond (leb (length part) (length out)) Taken (Err Buffer)
    room_decides = answer_is ∙ ap (λ (b : Bool). cond b (cond (leb (length part) (length out)) Taken (Err Buffer)) (lent holds)) (ap is_taken parted.0)

    -- the part has room
    pub copied : (later : List ℕ) (n : ℕ) → length given ≤ length out → n ≡ length given → later ≡ take n given ++ drop n out
        → Copied port p e mark spdu safe out (Ok n) later
    copied later n fits count written =
        let same = parted.1 in
        let f : leb (length part) (length out) ≡ true = ap (λ (l : List ℕ). leb (length l) (length out)) (sym same) ∙ le-leb (length given) (length out) fits in
        let c = by_answer Taken (room_decides ∙ ap (λ (b : Bool). cond b Taken (Err Buffer)) f) in
        record {
          told_is = ap (λ (k : ℕ). Ok k) (count ∙ ap (λ (l : List ℕ). length l) same) ∙ c.told_is;
          later_is =
              written ∙ ap (λ (k : ℕ). take k given ++ drop k out) count
              ∙ ap (λ (l : List ℕ). l ++ drop (length given) out) (take-length given) ∙ ap (λ (l : List ℕ). l ++ drop (length l) out) same
              ∙ c.later_is;
        }

    -- it has none
    pub no_room : length out < length given → Copied port p e mark spdu safe out (Err Buffer) out
    no_room over =
        by_answer (Err Buffer) (room_decides ∙ ap (λ (b : Bool). cond b Taken (Err Buffer)) (ap (λ (l : List ℕ). leb (length l) (length out)) (sym parted.1) ∙ lt-leb (length given) (length out) over))

  -- 8, 9, 10, or 7 of the safe values
  pub refused-at : {r : Refusal} → Unparted port p e mark spdu safe r → Copied port p e mark spdu safe out (Err r) out
  refused-at {r} u =
      by_answer (Err r)
      (answer_is ∙ ap (λ (b : Bool). cond b (cond (leb (length part) (length out)) Taken (Err Buffer)) (lent holds)) (ap is_taken u) ∙ u)
