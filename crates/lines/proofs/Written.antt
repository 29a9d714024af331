-- Texts written one behind the other are one text. Assumes nothing.
use Prim.Native.Nat.{ℕ, ◌+◌, ◌-◌, ◌≤◌, min}
use mathlib.Core.Path.{◌≡◌, refl, sym, ap, ◌∙◌}
use mathlib.Core.List.{List, [], ◌++◌, append_assoc, append-nil}
use native.Mathlib.Omega.{arith}
use lib.ListN.{length, take, drop, replicate, length-append, length-drop, take-append-drop, drop_of_length-le}
use lib.Seq.{drop-drop, take-length, take_all, take_at, drop_at, take-append_seam, length-take-le}
use borrow.Rule.Slice.PartMut.{mid_of, put_mid}
use Rattle.std.proofs.lemmas.List.{drop-replicate, length-take}
use Rattle.lines.specs.Text.{Written, line_of}

pub none : (b : List ℕ) (at : ℕ) → Written b at [] at b
none b at = record { end = omega arith; front = sym (append-nil (take at b)); behind = refl }

-- what lies behind a place where two lists agree is the same in both
pub agree : (n m : ℕ) (a b : List ℕ) → drop n a ≡ drop n b → drop (n + m) a ≡ drop (n + m) b
agree n m a b e = rw (← drop-drop m n a, ← drop-drop m n b, e)

pub then : {b₀ b₁ b₂ t₁ t₂ : List ℕ} {at r₁ r₂ : ℕ} → Written b₀ at t₁ r₁ b₁ → Written b₁ r₁ t₂ r₂ b₂ → Written b₀ at (t₁ ++ t₂) r₂ b₂
then {b₀} {b₁} {b₂} {t₁} {t₂} {at} {r₁} {r₂} w v =
    record {
      end = omega (arith, w.end, v.end, length-append t₁ t₂);
      front = v.front ∙ rw w.front (append_assoc (take at b₀) t₁ t₂);
      behind = v.behind ∙ rw v.end (agree r₁ (length t₂) b₁ b₀ w.behind);
    }

-- from the front on: the text, and then what stood there
pub from_front : {b b' t : List ℕ} {r : ℕ} → Written b 0 t r b' → b' ≡ t ++ drop (length t) b
from_front {b} {b'} {t} {r} w =
    let e : r ≡ length t = omega (arith, w.end) in
    sym (take-append-drop r b') ∙ rw (w.front, w.behind, e)

-- copied to where it is to stand
pub copied : (b text ys : List ℕ) (at : ℕ) → at + length text ≤ length b
    → ys ≡ take (length text) text ++ drop (length text) (mid_of at (length b - at) b)
    → Written b at text (at + length text) (put_mid at (length b - at) b ys)
copied b text ys at h e =
    let left : length (drop at b) ≤ length b - at = simp length-drop (omega arith) in
    let same : put_mid at (length b - at) b ys ≡ (take at b ++ text) ++ drop (at + length text) b
    = simp (e, take-length, take_all (length b - at) (drop at b) left, drop_of_length-le (drop at b) left, append-nil, drop-drop, append_assoc) in
    let l : length (take at b ++ text) ≡ at + length text = simp (length-append, length-take-le at b (omega arith)) in
    record { end = refl; front = rw same (take_at _ _ _ l); behind = rw same (drop_at (take at b ++ text) _ _ l) }

-- what a line's length counts is its text
pub line_text : (room : ℕ) (t : List ℕ) → take (length t) (line_of room t) ≡ t
line_text room t = rw take-append_seam

-- a text t pushed behind the text v that stands in a room: copied there, as octets are
module _ (room n : ℕ) {o v : List ℕ} (t : List ℕ) (view : take n o ≡ v) (within : n ≤ room) (all : length o ≡ room) (zeros : o ≡ line_of room (take n o))
    (fits : length v + length t ≤ room) where
  size : length v ≡ n
  size = ap length (sym view) ∙ length-take-le n o (omega arith)

  post : drop (length t) (drop n o) ≡ replicate (room - length (v ++ t)) 0
  post =
      let left : room - length v - length t ≡ room - length (v ++ t) = omega (arith, length-append v t) in
      let behind : drop n o ≡ replicate (room - length v) 0 = ap (λ (x : List ℕ). drop n x) (rw view at zeros) ∙ drop_at v (replicate (room - length v) 0) n size in
      ap (λ (x : List ℕ). drop (length t) x) behind ∙ drop-replicate (length t) (room - length v) 0 ∙ ap (λ (i : ℕ). replicate i 0) left

  -- there is room for all of it
  pub fitting : {k : ℕ} → k ≡ min (length t) (length (mid_of n (length o - n) o)) → k ≡ length t
  fitting {k} h = omega (arith, size, simp (length-take, length-drop) at h)

  module _ {y : List ℕ} (stored : y ≡ take (length t) t ++ drop (length t) (mid_of n (length o - n) o)) where
    abbrev after : List ℕ
    after = put_mid n (length o - n) o y

    written : Written o n t (n + length t) after
    written = copied o t y n (omega (arith, size)) stored

    pub pushed : take (n + length t) after ≡ v ++ t
    pushed = written.front ∙ ap (λ (x : List ℕ). x ++ t) view

    line_after : after ≡ line_of room (v ++ t)
    line_after =
        let behind : drop (n + length t) after ≡ replicate (room - length (v ++ t)) 0 = written.behind ∙ sym (drop-drop (length t) n o) ∙ post in
        sym (take-append-drop (n + length t) after) ∙ rw (pushed, behind)

    pub kept : (n + length t ≤ room) × (after ≡ line_of room (take (n + length t) after))
    kept = (omega (arith, size), line_after ∙ ap (λ (x : List ℕ). line_of room x) (sym pushed))
