-- A text is refused with a number exactly under that number's condition, where no condition that comes earlier in the order holds. Assumes nothing.
use mathlib.Core.Bool.{true≢false}
use mathlib.Core.List.{List}
use mathlib.Core.Logic.{◌↔◌, ⊎_elim}
use mathlib.Core.Path.{◌≡◌, refl}
use Prim.Native.Nat.{ℕ, ◌+◌, ◌*◌, ◌≤◌, ◌<◌}
use native.Mathlib.Omega.{arith}
use native.Mathlib.Decide.{dec_lt}
use borrow.Author.Tests.{lt-ltb, le-ltb}
use Rattle.grammar.specs.Refusal.{Checked, refused, accepted, checked}
use Rattle.grammar.proofs.Refusals.{refused_exactly}
use Rattle.notation.specs.Text.{Line, allowance}
use Rattle.notation.specs.Form.{Bytes}
use Rattle.notation.specs.Scan.{lines_of}
use Rattle.notation.specs.Judged.{lines_in, text_condition, text_order, TextRefuses, judged}
use Rattle.notation.proofs.Written.{Told, lines_told}

-- The refusals of a text, both ways.
pub text_refused : (s : List ℕ) (room x l : ℕ) → judged s room ≡ refused x l ↔ TextRefuses s room x l
unfolding judged
text_refused s room x l = refused_exactly (text_condition s room) text_order (lines_in (lines_of s)) x l

-- ---- What becomes of a text, by what reading it gives.

-- A text that is refused when it is read is refused so.
pub judged_refused : (s : List ℕ) (room x l : ℕ) → Bytes s → lines_of s ≡ refused x l → judged s room ≡ refused x l
unfolding judged checked text_condition
judged_refused s room x l u e =
    let r : Told s (refused x l) = rw e at (lines_told s u) in
    let z = r.1 in
    ⊎_elim
    (λ (h : x ≡ 15). let q : lines_of s ≡ refused 15 0 = cc in rw q (cc))
    (λ (h : x ≡ 16). let q : lines_of s ≡ refused 16 0 = cc in rw q (cc))
    r.0

module _ (s : List ℕ) (room : ℕ) (ls : List Line) (e : lines_of s ≡ accepted ls) where
  pub judged_over : 256 < allowance ls → judged s room ≡ refused 17 0
  unfolding judged checked text_condition
  judged_over h = rw (e, lt-ltb 256 (allowance ls) h)

  pub judged_short : allowance ls ≤ 256 → room < 26 * (allowance ls + 1) → judged s room ≡ refused 11 0
  unfolding judged checked text_condition
  judged_short h l = rw (e, le-ltb 256 (allowance ls) h, lt-ltb room (26 * (allowance ls + 1)) l)

  pub judged_accepted : allowance ls ≤ 256 → 26 * (allowance ls + 1) ≤ room → judged s room ≡ accepted ls
  unfolding judged checked text_condition
  judged_accepted h l = rw (e, le-ltb 256 (allowance ls) h, le-ltb room (26 * (allowance ls + 1)) l)

-- The text has these lines, its allowance is not over 256, and the output has room for it.
abbrev pub Accepts : List ℕ → ℕ → List Line → Type 0
Accepts s room ls = (lines_of s ≡ accepted ls) × (allowance ls ≤ 256) × (26 * (allowance ls + 1) ≤ room)

-- A text is accepted exactly so.
pub text_accepted : (s : List ℕ) (room : ℕ) (ls : List Line) → Bytes s → judged s room ≡ accepted ls ↔ Accepts s room ls
text_accepted s room ls u = (λ e. go (lines_of s) refl e, λ h. judged_accepted s room ls h.0 h.1 h.2)
  where
    within : (ks : List Line) → lines_of s ≡ accepted ks → judged s room ≡ accepted ls → Dec (256 < allowance ks) → Dec (room < 26 * (allowance ks + 1))
        → Accepts s room ls
    within ks r e (yes h) d = let w = judged_over s room ks r h in absurd (true≢false (cc))
    within ks r e (no h) (yes l) = let w = judged_short s room ks r (omega arith) l in absurd (true≢false (cc))
    within ks r e (no h) (no l) =
        let w = judged_accepted s room ks r (omega arith) (omega arith) in
        let same : ks ≡ ls = cc in
        let h : Accepts s room ks = (r, omega arith, omega arith) in
        rw same at h

    go : (c : Checked (List Line)) → lines_of s ≡ c → judged s room ≡ accepted ls → Accepts s room ls
    go (refused x l) r e = let w = judged_refused s room x l u r in absurd (true≢false (cc))
    go (accepted ks) r e = within ks r e (dec_lt 256 (allowance ks)) (dec_lt room (26 * (allowance ks + 1)))
