-- The whole answer, from the groups of rules in turn. Assumes nothing.
use mathlib.Core.Path.{◌≡◌, refl, sym, ap₂, ◌∙◌}
use mathlib.Core.Bool.{Bool, false, not}
use mathlib.Core.List.{List, ◌∷◌, ◌++◌}
use Prim.Native.Nat.{ℕ}
use lib.ListN.{length}
use borrow.Author.Tests.{eq-eqb}
use Rattle.std.specs.Prelude.{Err}
use Rattle.answer.specs.declared.Refusal.{Refusal}
use Rattle.answer.specs.declared.Refusal.TheVariants.{NoPort, BlockSize}
use Rattle.answer.specs.Answers.{Answer, Taken}
use Rattle.answer.specs.Rules.{Rule, rule, answer_by}
use Rattle.answer.proofs.Exact.{onward, stays}
use Rattle.ranges.specs.Fields.{outside}
use Rattle.block.specs.declared.Block.{Block}
use Rattle.block.specs.declared.Signatures.{Signatures}
use Rattle.block.specs.Table22.{block_of, computed}
use Rattle.block.specs.Rules.{id_rules, field_rules, agreement_rules, rules_by}

-- the groups on a block of the right size, each going on from the one before
abbrev pub in_turn : Block → Signatures → ℕ → Answer
in_turn b right port = answer_by (answer_by (answer_by Taken (id_rules b)) (field_rules b)) (agreement_rules b right port)

-- where the port is one of the bench's and the size is right, they are the whole
pub in_turn_lem : (sign : List ℕ → ℕ) (s : List ℕ) (port : ℕ) → outside 1 8 port ≡ false → length s ≡ 48
    → in_turn (block_of s) (computed sign s) port ≡ answer_by Taken (rules_by sign s port)
in_turn_lem sign s port known sized =
    let rest : List Rule = id_rules (block_of s) ++ (field_rules (block_of s) ++ agreement_rules (block_of s) (computed sign s) port) in
    ap₂ (λ (x y : Bool). answer_by Taken (rule x NoPort ∷ rule (not y) BlockSize ∷ rest)) (sym known) (sym (eq-eqb (length s) 48 sized))

-- whether the whole refuses as a group does, where those before it are kept; and TAKEN where all are
module _ (sign : List ℕ → ℕ) (s : List ℕ) (port : ℕ) (known : outside 1 8 port ≡ false) (sized : length s ≡ 48) where
  turns : {b : Block} {right : Signatures} {a : Answer} → b ≡ block_of s → right ≡ computed sign s → Taken ≡ answer_by Taken (id_rules b) → a ≡ answer_by Taken (field_rules b)
      → answer_by a (agreement_rules b right port) ≡ answer_by Taken (rules_by sign s port)
  turns {b} {right} e w i f =
      onward (agreement_rules b right port) (f ∙ onward (field_rules b) i) ∙ ap₂ (λ (x : Block) (y : Signatures). in_turn x y port) e w ∙ in_turn_lem sign s port known sized

  pub fields_refuse : {b : Block} {r : Refusal} → b ≡ block_of s → Taken ≡ answer_by Taken (id_rules b) → Err r ≡ answer_by Taken (field_rules b)
      → Err r ≡ answer_by Taken (rules_by sign s port)
  fields_refuse {b} {r} e i f = sym (stays (Err r) (agreement_rules b (computed sign s) port) refl) ∙ turns e refl i f

  pub agreement_answers : {b : Block} {right : Signatures} {a : Answer} → b ≡ block_of s → right ≡ computed sign s → Taken ≡ answer_by Taken (id_rules b)
      → Taken ≡ answer_by Taken (field_rules b) → a ≡ answer_by Taken (agreement_rules b right port) → a ≡ answer_by Taken (rules_by sign s port)
  agreement_answers e w i f g = g ∙ turns e w i f
