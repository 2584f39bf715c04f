-- The bytes with which items begin. Assumes nothing.
use Rattle.std.specs.Prelude.{Some, None}
use mathlib.Core.Bool.{Bool, true, false, cond, ◌||◌, true≢false}
use mathlib.Core.Path.{◌≡◌, refl, sym, ap, ◌∙◌}
use Prim.Native.Nat.{ℕ, zero, suc, ◌≤◌, ◌<◌}
use native.Mathlib.Omega.{arith}
use lib.Dec.{eqb}
use borrow.Author.Tests.{eqb-true, ne_eqb}
use Rattle.std.proofs.lemmas.Option.{none-some}
use Rattle.columns.proofs.Five.{among_bounds}
use Rattle.notation.specs.Text.{Bracket, round, square, opener, closer, capital}
use Rattle.pieces.specs.Piece.{closing, begins_item}

-- With no sign, an item begins with a capital.
pub no_sign : (b : ℕ) → (b ≡ 37 → ⊥) → (b ≡ 39 → ⊥) → (b ≡ 40 → ⊥) → (b ≡ 91 → ⊥) → begins_item b ≡ capital b
no_sign b f g h k = rw (ne_eqb b 37 f, ne_eqb b 39 g, ne_eqb b 40 h, ne_eqb b 91 k)

-- So does one that is neither a percent sign, nor a quote, nor a bracket.
pub a_capital : (b : ℕ) → begins_item b ≡ true → closing b ≡ None → (b ≡ 37 → ⊥) → (b ≡ 39 → ⊥) → (65 ≤ b) × (b ≤ 90) × (capital b ≡ true)
a_capital b e c f g =
    let no_round : b ≡ 40 → ⊥ = λ h. let z = sym c ∙ ap closing h in cc in
    let no_square : b ≡ 91 → ⊥ = λ h. let z = sym c ∙ ap closing h in cc in
    let k : capital b ≡ true = sym (no_sign b f g no_round no_square) ∙ e in
    let r = among_bounds 65 90 b k in
    (r.0, r.1, k)

-- It is not 0.
pub some_byte : (b : ℕ) → begins_item b ≡ true → 0 < b
some_byte zero e = absurd (true≢false (cc))
some_byte (suc b) e = omega arith

-- ---- No item begins with the byte.

neither : (a b : Bool) → (a || b) ≡ false → (a ≡ false) × (b ≡ false)
neither true b e = absurd (true≢false (cc))
neither false b e = (refl, e)

-- Then it is none of these.
pub record Other (b : ℕ) : Type 0 where
  pub not_percent : eqb b 37 ≡ false
  pub not_quote : eqb b 39 ≡ false
  pub not_round : eqb b 40 ≡ false
  pub not_square : eqb b 91 ≡ false
  pub not_capital : capital b ≡ false

pub other : (b : ℕ) → begins_item b ≡ false → Other b
other b e =
    let f = neither (eqb b 37) _ e in
    let g = neither (eqb b 39) _ f.1 in
    let h = neither (eqb b 40) _ g.1 in
    let k = neither (eqb b 91) _ h.1 in
    record { not_percent = f.0; not_quote = g.0; not_round = h.0; not_square = k.0; not_capital = k.1 }

-- A bracket that this byte opens, and the byte that closes it.
pub record Opens (b k : ℕ) : Type 0 where
  pub bracket : Bracket
  pub opener_is : b ≡ opener bracket
  pub closer_is : k ≡ closer bracket

pub opens : (b k : ℕ) → Some k ≡ closing b → Opens b k
opens b k e = go (eqb b 40) (eqb b 91) refl refl e
  where
    go : (t u : Bool) → eqb b 40 ≡ t → eqb b 91 ≡ u → Some k ≡ cond t (Some 41) (cond u (Some 93) None) → Opens b k
    go true u p q e = record { bracket = round; opener_is = eqb-true b 40 p; closer_is = cc }
    go false true p q e = record { bracket = square; opener_is = eqb-true b 91 q; closer_is = cc }
    go false false p q e = absurd (none-some k (sym e))

-- No bracket is closed by byte 0.
pub closer_some : (k : Bracket) → 0 < closer k
closer_some round = omega arith
closer_some square = omega arith
