-- The two rules on the port mode, by which of them is broken. Assumes nothing.
use mathlib.Core.Path.{◌≡◌, sym, ap, ap₂, ◌∙◌}
use mathlib.Core.Bool.{Bool, true, false, ◌||◌}
use Prim.Native.Nat.{ℕ, ◌≤◌, ◌<◌}
use borrow.Author.Tests.{le-leb, lt-leb}
use lib.Dec.{eqb}
use Rattle.answer.specs.declared.Refusal.TheVariants.{PortMode, NoScl}
use Rattle.answer.specs.Answers.{Answer}
use Rattle.answer.specs.Rules.{refused, answer_by}
use Rattle.answer.proofs.Exact.{refused_kept}
use Rattle.ranges.specs.Fields.{inside}
use Rattle.ranges.specs.Rules.{mode_rules}

-- a range, by where the number stands
module _ (low high m : ℕ) where
  pub inside_yes : low ≤ m → m ≤ high → inside low high m ≡ true
  inside_yes h k = simp (le-leb low m h, le-leb m high k)

  pub inside-below : m < low → inside low high m ≡ false
  inside-below h = simp (lt-leb low m h)

  pub inside_above : low ≤ m → high < m → inside low high m ≡ false
  inside_above h k = simp (le-leb low m h, lt-leb m high k)

abbrev reserved : ℕ → Bool
reserved m = inside 5 48 m || inside 52 96 m || inside 97 255 m

abbrev without_scl : ℕ → Bool
without_scl m = inside 0 4 m || eqb m 51

module _ (a : Answer) (m : ℕ) where
  by_both : {t u : Bool} → reserved m ≡ t → without_scl m ≡ u → answer_by a (mode_rules m) ≡ refused (refused a t PortMode) u NoScl
  by_both h k = ap₂ (λ (t u : Bool). refused (refused a t PortMode) u NoScl) h k

  pub refuses_mode : reserved m ≡ true → without_scl m ≡ false → refused a true PortMode ≡ answer_by a (mode_rules m)
  refuses_mode h k = sym (by_both h k ∙ refused_kept (refused a true PortMode) NoScl)

  pub refuses_scl : reserved m ≡ false → without_scl m ≡ true → refused a true NoScl ≡ answer_by a (mode_rules m)
  refuses_scl h k = sym (by_both h k ∙ ap (λ (b : Answer). refused b true NoScl) (refused_kept a PortMode))

  pub goes_on : reserved m ≡ false → without_scl m ≡ false → a ≡ answer_by a (mode_rules m)
  goes_on h k = sym (by_both h k ∙ refused_kept (refused a false PortMode) NoScl ∙ refused_kept a PortMode)
