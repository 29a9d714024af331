-- What a received SPDU asks: where the rules are kept its length is the configured one, so that its fields are what is read. Assumes nothing.
use Prim.Native.Nat.{ℕ}
use mathlib.Core.Path.{◌≡◌, ap}
use mathlib.Core.Bool.{Bool, true, false, cond}
use mathlib.Core.List.{List}
use lib.Dec.{eqb}
use lib.ListN.{length}
use borrow.Author.Tests.{not-false}
use Rattle.answer.specs.Answers.{Answer, Taken, is_taken}
use Rattle.answer.specs.Rules.{answer_by}
use Rattle.answer.proofs.Exact.{taken_exactly}
use Rattle.scl.specs.declared.Happening.{Happening}
use Rattle.bench.specs.declared.Setting.{Setting}
use Rattle.std.specs.Prelude.{Ok, Err}
use Rattle.answer.specs.declared.Refusal.{Refusal}
use Rattle.bench.specs.declared.Act.TheVariants.{Happens}
use Rattle.scl.specs.declared.Happening.TheVariants as happening
use Rattle.bench.specs.declared.End.{End}
use Rattle.bench.specs.declared.End.TheVariants as end
use Rattle.bench.specs.Handing.{length_at}
use Rattle.bench.specs.Calls.{spdu_rules, asked, received, spdu_act}

-- of a method `happens` that makes a happening of what was read, and `read` of what the length leaves of the fields
module _ {A : Type 0} (happens : A → Happening) (o : Bool) (s : Setting) (m : ℕ) (spdu : List ℕ) (holds : Bool) where
  pub read : (fields none : A) → answer_by Taken (spdu_rules o s m (length spdu) holds) ≡ Taken
      → Ok (Happens (happens fields)) ≡ asked (answer_by Taken (spdu_rules o s m (length spdu) holds)) (happens (cond (eqb (length spdu) m) fields none))
  unfolding asked
  read fields none t =
      let rules = spdu_rules o s m (length spdu) holds in
      let fits : eqb (length spdu) m ≡ true = not-false (eqb (length spdu) m) (((taken_exactly rules).0 (ap is_taken t)).each 2) in
      rw (t, fits)

  pub unread : {r : Refusal} (h : Happening) → answer_by Taken (spdu_rules o s m (length spdu) holds) ≡ Err r
      → Err r ≡ asked (answer_by Taken (spdu_rules o s m (length spdu) holds)) h
  unfolding asked
  unread h e = rw e

-- the same by the end
module _ (sign : ℕ → List ℕ → ℕ) (e : End) (s : Setting) (at : ℕ) (spdu : List ℕ) (holds : Bool) where
  abbrev pub answer_at : End → Answer
  answer_at e = answer_by Taken (spdu_rules false s (length_at e s.params) (length spdu) holds)

  pub read_at : answer_at e ≡ Taken → Ok (Happens (received sign e s at spdu)) ≡ spdu_act sign e false s at spdu holds
  read_at t = go e t
    where
      go : (e : End) → answer_at e ≡ Taken → Ok (Happens (received sign e s at spdu)) ≡ spdu_act sign e false s at spdu holds
      go end.Master t = read (happening.Response at) false s s.params.SPDUInLength spdu holds _ _ t
      go end.Device t = read (happening.Request at) false s s.params.SPDUOutLength spdu holds _ _ t

  pub unread_at : {r : Refusal} → answer_at e ≡ Err r → Err r ≡ spdu_act sign e false s at spdu holds
  unread_at {r} t = go e t
    where
      go : (e : End) → answer_at e ≡ Err r → Err r ≡ spdu_act sign e false s at spdu holds
      go end.Master t = unread (happening.Response at) false s s.params.SPDUInLength spdu holds _ t
      go end.Device t = unread (happening.Request at) false s s.params.SPDUOutLength spdu holds _ t
