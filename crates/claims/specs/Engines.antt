-- 02, item 3, a plain signature beside the table: "It is proved to give the same signature as the lookup for every octet string, once over the width, and
-- so the same port state for every session." Assumes nothing.
--
-- Table is the look-up, Shift the loop of 000 Figures D.3 and D.5. The contracts of the calls and of `feed` say that they do what they do by Annex D's
-- method whichever engine they are given; here it is said of the two methods themselves. Shift reads no table: any two lists stand for what is lent to it.
use Rattle.std.specs.Prelude.{ℕ, ◌+◌, ◌*◌, ◌/◌, ◌^◌, ◌<◌, ◌≡◌, List}
use Rattle.gf2.specs.Generators.{generator16, generator32}
use Rattle.signature.specs.declared.Engine.{Engine}
use Rattle.signature.specs.declared.Engine.TheVariants.{Table, Shift}
use Rattle.signature.specs.Signature.{signature}
use Rattle.signature.specs.Engines.{signed_by, Serves}
use Rattle.bench.specs.Methods.{annex_d, method_of, RightTables}
use Rattle.bench.specs.History.{Call, results_of}
use Rattle.session.specs.Run.{printed_by}

pub record Engines : Type 0 where
  -- "the same signature as the lookup for every octet string, once over the width": over the width w, the generator g and the n bits of a look-up, of
  -- which a whole number makes an octet; by either engine, from every seed
  pub signatures : (w g n k : ℕ) → w ≡ n + k → g < 2 ^ w → 0 < n → n * (8 / n) ≡ 8
      → (e : Engine) (table : List ℕ) → Serves e w g n table → (seed : ℕ) (octets : List ℕ) → signed_by e w g n table seed octets ≡ signature w g seed octets
  -- so that the demands hold of either: what signs a block and what signs an SPDU are both Annex D's
  pub meant : (e : Engine) (short long : List ℕ) → Serves e 16 generator16 8 short → Serves e 32 generator32 4 long → method_of e short long ≡ annex_d
  -- "the same port state": for every list of calls the same ports, answers, replies and buffers, call for call
  pub calls : {short long : List ℕ} → RightTables short long → (any₁ any₂ : List ℕ) (calls : List Call)
      → results_of (method_of Table short long) calls ≡ results_of (method_of Shift any₁ any₂) calls
  -- "for every session": the same text
  pub text : {short long : List ℕ} → RightTables short long → (any₁ any₂ octets : List ℕ)
      → printed_by (method_of Table short long) octets ≡ printed_by (method_of Shift any₁ any₂) octets
