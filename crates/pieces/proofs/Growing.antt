-- The rules of a row with one item more, and of a choice with one row more. Assumes nothing.
use mathlib.Core.Bool.{Bool, true, false, cond}
use mathlib.Core.List.{List}
use mathlib.Core.Path.{◌≡◌, ap, ap₂, ◌∙◌, subst}
use Prim.Native.Nat.{ℕ, ◌+◌, ◌≤◌, ◌<◌}
use native.Mathlib.Decide.{dec_le}
use native.Mathlib.Omega.{arith}
use lib.Dec.{eqb}
use Rattle.grammar.specs.Rule.{Rule, call}
use Rattle.grammar.specs.Words.{words}
use Rattle.notation.specs.Emit.{Rules, rules, Made, made, with, put, upon, joined, bracketed}
use Rattle.notation.specs.Text.{Bracket, round, square}
use Rattle.pieces.specs.Store.{Stored, StoredMade}
use Rattle.pieces.proofs.Storing.{after_step, put_same}

-- Past 256 variables, nothing is known but that.
past : (t : Bool) (f : ℕ → Rule) (n y : ℕ) (r : Rule) (variable last : ℕ) (ws : List ℕ) → 256 < n
    → StoredMade (cond t (made y (rules f n)) (put (rules f n) r)) variable last ws → last ≡ 257
past true f n y r variable last ws l h = let e = h.0 in omega arith
past false f n y r variable last ws l h = let e = h.0 in omega arith

any_past : (t : Bool) (f : ℕ → Rule) (n y : ℕ) (r : Rule) (variable last : ℕ) (ws : List ℕ) → 256 < n → last ≡ 257
    → StoredMade (cond t (made y (rules f n)) (put (rules f n) r)) variable last ws
any_past true f n y r variable last ws l e = (omega arith, λ few. absurd (omega arith))
any_past false f n y r variable last ws l e = (omega arith, λ few. absurd (omega arith))

module _ (number : ℕ → ℕ) (E F : ℕ) where
  -- One item more.
  pub joined_same : (f : ℕ → Rule) (n x y v w : ℕ) (variable last : ℕ) (ws : List ℕ) → (n ≤ 256 → (x ≡ v) × (y ≡ w)) → StoredMade (joined number E F x y (rules f n)) variable last ws
      → StoredMade (joined number E F v w (rules f n)) variable last ws
  joined_same f n x y v w variable last ws same h = go (dec_le n 256)
    where
      go : Dec (n ≤ 256) → StoredMade (joined number E F v w (rules f n)) variable last ws
      go (yes l) = subst (λ (m : Made). StoredMade m variable last ws) (ap₂ (λ (a b : ℕ). joined number E F a b (rules f n)) (same l).0 (same l).1) h
      go (no d) =
          let l : 256 < n = omega arith in
          any_past (eqb v E) f n w (call v w F) variable last ws l (past (eqb x E) f n y (call x y F) variable last ws l h)

  -- Brackets around a choice.
  pub bracket_stored : (k : Bracket) (m : Made) (y variable between last : ℕ) (ws ws' : List ℕ) → StoredMade m y between ws
      → ((z : Rules) → Stored z between ws → StoredMade (bracketed number E F k y z) variable last ws') → StoredMade (upon m (bracketed number E F k)) variable last ws'
  bracket_stored round (made v (rules f n)) y variable between last ws ws' h g =
      let b = g (rules f n) (after_step v y between ws (rules f n) h) in
      (b.0, λ l. ((b.1 l).0 ∙ (h.1 l).0, (b.1 l).1))
  bracket_stored square (made v (rules f n)) y variable between last ws ws' h g =
      let b = g (rules f n) (after_step v y between ws (rules f n) h) in
      (b.0, λ l. ((b.1 l).0, (b.1 l).1 ∙ ap (λ (a : ℕ). words (with (with f (n + 1) (call a F E)) (n + 1 + 1) (call (n + 1) F E))) (h.1 (omega arith)).0))

-- A step over two pieces does the same for the variables of the code as for those of the definition, as long as there is room.
abbrev Alike : (ℕ → ℕ → Rules → Made) → Type 0
Alike step =
    (f : ℕ → Rule) (n x y v w : ℕ) (variable last : ℕ) (ws : List ℕ) → (n ≤ 256 → (x ≡ v) × (y ≡ w)) → StoredMade (step x y (rules f n)) variable last ws
    → StoredMade (step v w (rules f n)) variable last ws

-- A first piece, a second one, and a step over both.
pub both_stored : (m : Made) (second : Rules → Made) (step : ℕ → ℕ → Rules → Made) (x y variable first between last : ℕ) (ws ws' ws'' : List ℕ) → Alike step
    → first ≤ between → StoredMade m x first ws → ((z : Rules) → Stored z first ws → StoredMade (second z) y between ws')
    → ((z : Rules) → Stored z between ws' → StoredMade (step x y z) variable last ws'')
    → StoredMade (upon m (λ a z. upon (second z) (λ b u. step a b u))) variable last ws''
both_stored (made v (rules f n)) second step x y variable first between last ws ws' ws'' alike grows h g k =
    go (second (rules f n)) (g (rules f n) (after_step v x first ws (rules f n) h))
  where
    go : (m : Made) → StoredMade m y between ws' → StoredMade (upon m (λ b u. step v b u)) variable last ws''
    go (made w (rules f' n')) h' =
        let a = h.0 in
        let b = h'.0 in
        alike f' n' x y v w variable last ws'' (λ l. ((h.1 (omega arith)).0, (h'.1 l).0)) (k (rules f' n') (after_step w y between ws' (rules f' n') h'))

-- One row more.
pub or_same : (E : ℕ) → Alike (λ x y z. put z (call x E y))
or_same E f n x y v w variable last ws same h =
    put_same f n (call x E y) (call v E w) (λ l. ap₂ (λ (a b : ℕ). call a E b) (same l).0 (same l).1) h
