-- Rules that are stored one by one. Assumes nothing.
use mathlib.Core.List.{List}
use mathlib.Core.Path.{◌≡◌, refl, sym, ap, ◌∙◌, subst}
use Prim.Native.Nat.{ℕ, ◌+◌, ◌-◌, ◌≤◌}
use native.Mathlib.Omega.{arith}
use lib.ListN.{set}
use borrow.Author.Tests.{eq-eqb, ne_eqb}
use Rattle.grammar.specs.Rule.{Rule, call}
use Rattle.grammar.specs.Words.{word, words}
use Rattle.grammar.proofs.Words.{words_set}
use Rattle.notation.specs.Emit.{Rules, rules, Made, made, with, put, joined, bracketed}
use Rattle.notation.proofs.Taken.{there, elsewhere}
use Rattle.notation.specs.Text.{Bracket, round, square, closer}
use Rattle.pieces.specs.Store.{Stored, StoredMade, Few, Makes}
use Rattle.pieces.specs.declared.Piece.{Piece}

-- The words with that of one more variable.
pub words_with : (f : ℕ → Rule) (v : ℕ) (r : Rule) (ws : List ℕ) (w : ℕ) → 1 ≤ v → v ≤ 256 → w ≡ word r → ws ≡ words f → set ws (v - 1) w ≡ words (with f v r)
words_with f v r ws w low high e is =
    ap (λ (u : List ℕ). set u (v - 1) w) is ∙ words_set f (with f v r) v w low high (e ∙ ap word (sym (there f v r))) (λ X d. elsewhere f v X r d)

-- A rule is put, where there is room.
pub put_makes : (x : Rule) (w at : ℕ) (p : Piece) (ws : List ℕ) → w ≡ word x → Few p → p.last ≤ 255
    → Makes (λ z. put z x) at p ws (record { at = at; variable = p.last + 1; last = p.last + 1; cost = p.cost }) (set ws p.last w)
put_makes x w at p ws e few l =
    record {
      ends_at = refl;
      cost_is = refl;
      few = record { variable_few = omega arith; last_few = omega arith; cost_few = few.cost_few };
      grows = omega arith;
      stores = go;
    }
  where
    go : (z : Rules) → Stored z p.last ws → StoredMade (put z x) (p.last + 1) (p.last + 1) (set ws p.last w)
    go (rules f n) h =
        let c = h.0 in
        let same : p.last ≡ n + 1 - 1 = omega arith in
        (omega arith, λ few. (omega arith, ap (λ (i : ℕ). set ws i w) same ∙ words_with f (n + 1) x ws w (omega arith) (omega arith) e (h.1 (omega arith))))

-- Nothing is made, at another position.
pub makes_none : (at v : ℕ) (p : Piece) (ws : List ℕ) → Few p → v ≤ 257
    → Makes (λ z. made v z) at p ws (record { at = at; variable = v; last = p.last; cost = p.cost }) ws
makes_none at v p ws few l =
    record {
      ends_at = refl;
      cost_is = refl;
      few = record { variable_few = l; last_few = few.last_few; cost_few = few.cost_few };
      grows = omega arith;
      stores = go;
    }
  where
    go : (z : Rules) → Stored z p.last ws → StoredMade (made v z) v p.last ws
    go (rules f n) h = (h.0, λ l. (refl, h.1 l))

-- What a step makes is what an equal one does.
pub makes_same : {step step' : Rules → Made} {at : ℕ} {p r : Piece} {ws ws' : List ℕ} → ((z : Rules) → step z ≡ step' z) → Makes step at p ws r ws' → Makes step' at p ws r ws'
makes_same {step} {step'} {at} {p} {r} {ws} {ws'} e m =
    record {
      ends_at = m.ends_at;
      cost_is = m.cost_is;
      few = m.few;
      grows = m.grows;
      stores = λ z h. subst (λ (y : Made). StoredMade y r.variable r.last ws') (e z) (m.stores z h);
    }

-- The rules after a step are stored.
pub after_step : (v variable last : ℕ) (ws : List ℕ) (z : Rules) → StoredMade (made v z) variable last ws → Stored z last ws
after_step v variable last ws (rules f n) h = (h.0, λ l. (h.1 l).1)

-- A rule that is another one only where there is no room for it.
pub put_same : (f : ℕ → Rule) (n : ℕ) (x y : Rule) {variable last : ℕ} {ws : List ℕ} → (n ≤ 256 → x ≡ y) → StoredMade (put (rules f n) x) variable last ws
    → StoredMade (put (rules f n) y) variable last ws
put_same f n x y same h =
    (h.0, λ l. ((h.1 l).0, (h.1 l).1 ∙ ap (λ (r : Rule). words (with f (n + 1) r)) (same (omega arith))))

module _ (number : ℕ → ℕ) (E F : ℕ) where
  -- An item after a row: alone, and with a rule.
  pub joined_alone : (x : ℕ) (item : Piece) (ws : List ℕ) → x ≡ E → Few item → Makes (joined number E F x item.variable) item.at item ws item ws
  joined_alone x item ws e few =
      makes_same (λ z. rw (eq-eqb x E e)) (makes_none item.at item.variable item ws few few.variable_few)

  pub joined_put : (x y : ℕ) {at : ℕ} {p r : Piece} {ws ws' : List ℕ} → (x ≡ E → ⊥) → Makes (λ z. put z (call x y F)) at p ws r ws'
      → Makes (joined number E F x y) at p ws r ws'
  joined_put x y d m = makes_same (λ z. rw (ne_eqb x E d)) m

  -- A choice in brackets: round ones, and square ones, by two rules.
  pub in_round : (at : ℕ) (k : Bracket) (p : Piece) (ws : List ℕ) → 41 ≡ closer k → Few p
      → Makes (bracketed number E F k p.variable) at p ws (record { at = at; variable = p.variable; last = p.last; cost = p.cost }) ws
  in_round at round p ws e few = makes_none at p.variable p ws few few.variable_few
  in_round at square p ws e few = absurd (omega arith)

  pub in_square : (at : ℕ) (k : Bracket) (p q r : Piece) (ws ws' ws'' : List ℕ) → (41 ≡ closer k → ⊥) → Makes (λ z. put z (call p.variable F E)) at p ws q ws'
      → Makes (λ z. put z (call q.variable F E)) at q ws' r ws'' → Makes (bracketed number E F k p.variable) at p ws r ws''
  in_square at round p q r ws ws' ws'' d m n = absurd (d refl)
  in_square at square p q r ws ws' ws'' d m n =
      let a = m.grows in
      let b = n.grows in
      record {
        ends_at = n.ends_at;
        cost_is = n.cost_is ∙ m.cost_is;
        few = n.few;
        grows = omega arith;
        stores = go;
      }
    where
      go : (z : Rules) → Stored z p.last ws → StoredMade (bracketed number E F square p.variable z) r.variable r.last ws''
      go (rules f i) h =
          let one = m.stores (rules f i) h in
          let f' = with f (i + 1) (call p.variable F E) in
          put_same f' (i + 1) (call q.variable F E) (call (i + 1) F E) (λ l. ap (λ (v : ℕ). call v F E) (one.1 l).0)
          (n.stores (rules f' (i + 1)) (after_step (i + 1) q.variable q.last ws' (rules f' (i + 1)) one))
