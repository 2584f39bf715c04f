-- Pieces found: items, rows with one item more, choices with one row more. Assumes nothing.
use mathlib.Core.Bool.{true}
use mathlib.Core.List.{List, ◌∷◌}
use mathlib.Core.Option.{Option, none, some}
use mathlib.Core.Path.{◌≡◌, refl, sym, ap, ◌∙◌, subst}
use Prim.Native.Nat.{ℕ, ◌+◌, ◌≤◌, ◌<◌}
use native.Mathlib.Omega.{arith}
use lib.ListN.{length, drop, get_or}
use Rattle.grammar.specs.Rule.{byte, call}
use Rattle.grammar.specs.declared.refusal.Refusal.{Refusal}
use Rattle.grammar.specs.declared.refusal.Refusal.TheVariants.{Text}
use Rattle.notation.specs.Emit.{Rules, Made, made, put, joined, bracketed, item_rules, row_rules, choice_rules}
use Rattle.notation.specs.Scan.{Part, part, with_item, opened, choosing, scan, part_of}
use Rattle.notation.specs.Text.{Bracket, opener, closer, Item, letter, quoted, fails, inside, empty, next, Choice, only, or, capital, item_cost, row_cost, choice_cost}
use Rattle.pieces.specs.Store.{capped, Stored, StoredMade, Few, moved, Makes}
use Rattle.pieces.specs.Piece.{begins_item, Moves, Refuses, items, rows, choices, Finds, EndsItem, EndsChoice}
use Rattle.pieces.specs.declared.Piece.{Piece}
use Rattle.pieces.proofs.Bytes.{some_byte, closer_some}
use Rattle.pieces.proofs.Scanning.{before_end, letter_moves, percent_moves, slash_moves, opens_bracket, closes_bracket, not_closed, quote_moves}
use Rattle.pieces.proofs.Storing.{makes_none}
use Rattle.pieces.proofs.Growing.{both_stored, bracket_stored, joined_same, or_same}

-- The numbers of a piece that is moved stop too.
pub moved_few : (p : Piece) (at v by : ℕ) → Few p → v ≤ 257 → Few (moved p at v by)
moved_few p at v by f l = record { variable_few = l; last_few = f.last_few; cost_few = omega arith }

-- An item begins before the end.
pub item_inside : (s : List ℕ) (at : ℕ) → begins_item (get_or s at 0) ≡ true → at < length s
item_inside s at e = before_end s at (get_or s at 0) (some_byte (get_or s at 0) e) refl

module _ (number : ℕ → ℕ) (E : ℕ) (s : List ℕ) (depth : ℕ) where
  -- ---- Items.

  -- An item was read.
  abbrev pub Item-found : Piece → List ℕ → Piece → List ℕ → Type 0
  Item-found from ws r ws' = Finds (items number E) s depth from ws r ws' × EndsItem from r

  -- What was made behind an item's first bytes is the item.
  made_item : (i : Item) (from start r : Piece) (at : ℕ) (ws ws' : List ℕ) (step : Rules → Made) → from.at < at → at ≤ length s
      → ((x : Part) → Moves s depth from.at x at (with_item x i)) → start.last ≡ from.last → start.cost ≡ capped (from.cost + item_cost i)
      → ((z : Rules) → step z ≡ item_rules number E (E + 1) i z) → Makes step at start ws r ws' → Item-found from ws r ws'
  made_item i from start r at ws ws' step low high moves l c e m =
      let z = m.ends_at in
      let g = m.grows in (
        record {
          piece = i;
          low = omega arith;
          high = omega arith;
          moves = λ x. subst (λ (q : ℕ). Moves s depth from.at x q (with_item x i)) (sym z) (moves x);
          few = m.few;
          cost_is = m.cost_is ∙ c;
          grows = omega arith;
          stores = λ z h. subst (λ (y : Made). StoredMade y r.variable r.last ws') (e z) (m.stores z (subst (λ (k : ℕ). Stored z k ws) (sym l) h));
        },
        omega arith,
      )

  module _ (from : Piece) (few : Few from) where
    -- An item of one byte, without a rule of its own.
    single : (i : Item) (v : ℕ) (ws : List ℕ) → v ≤ 257 → from.at < length s → ((x : Part) → Moves s depth from.at x (from.at + 1) (with_item x i))
        → item_cost i ≡ 3 → ((z : Rules) → made v z ≡ item_rules number E (E + 1) i z) → Item-found from ws (moved from (from.at + 1) v 3) ws
    single i v ws l h moves c e =
        let start = moved from from.at from.variable 3 in
        made_item i from start (moved from (from.at + 1) v 3) (from.at + 1) ws ws (λ z. made v z) (omega arith) (omega arith) moves refl
        (ap (λ (k : ℕ). capped (from.cost + k)) (sym c)) e (makes_none (from.at + 1) v start ws (moved_few from from.at from.variable 3 few few.variable_few) l)

    pub finds_letter : (ws : List ℕ) → number (get_or s from.at 0) ≤ 257 → from.at < length s → capital (get_or s from.at 0) ≡ true
        → Item-found from ws (moved from (from.at + 1) (number (get_or s from.at 0)) 3) ws
    unfolding item_rules item_cost
    finds_letter ws l h c = single (letter (get_or s from.at 0)) (number (get_or s from.at 0)) ws l h (letter_moves s from.at depth c h) refl (λ z. refl)

    pub finds_percent : (ws : List ℕ) → E ≤ 256 → get_or s from.at 0 ≡ 37 → Item-found from ws (moved from (from.at + 1) (E + 1) 3) ws
    unfolding item_rules item_cost
    finds_percent ws l e =
        single fails (E + 1) ws (omega arith) (before_end s from.at 37 (omega arith) e) (percent_moves s from.at depth e) refl (λ z. refl)

    pub finds_quoted : (r : Piece) (ws ws' : List ℕ) → get_or s from.at 0 ≡ 39 → from.at + 2 < length s → get_or s (from.at + 2) 0 ≡ 39
        → Makes (λ z. put z (byte (get_or s (from.at + 1) 0))) (from.at + 3) (moved from from.at from.variable 3) ws r ws'
        → Item-found from ws r ws'
    unfolding item_rules item_cost
    finds_quoted r ws ws' e l f m =
        made_item (quoted (get_or s (from.at + 1) 0)) from (moved from from.at from.variable 3) r (from.at + 3) ws ws' _ (omega arith) (omega arith)
        (λ x. quote_moves s from.at depth e x l f) refl refl (λ z. refl) m

    -- A choice in brackets.
    pub finds_bracket : (k : Bracket) (p r : Piece) (ws ws' ws'' : List ℕ) → get_or s from.at 0 ≡ opener k → (depth ≡ 16 → ⊥)
        → Finds (choices number E) s (depth + 1) (moved from (from.at + 1) from.variable 3) ws p ws' → get_or s p.at 0 ≡ closer k
        → Makes (bracketed number E (E + 1) k p.variable) (p.at + 1) p ws' r ws'' → Item-found from ws r ws''
    unfolding item_rules item_cost
    finds_bracket k p r ws ws' ws'' e d f c m =
        let a = f.low in
        let b = f.grows in
        let g = m.grows in
        let z = m.ends_at in
        let q = f.cost_is in
        let w = m.cost_is in
        let h : p.at < length s = before_end s p.at (closer k) (closer_some k) c in (
          record {
            piece = inside k f.piece;
            low = omega arith;
            high = omega arith;
            moves =
                λ x ls A os l. opens_bracket s from.at depth k e d x ls A os l ∙ f.moves tt ls A (opened k x ∷ os) (omega arith)
                ∙ closes_bracket s p.at k c f.piece x ls A os ∙ ap (λ (q : ℕ). scan (drop q s) (choosing ls A os (with_item x (inside k f.piece)))) (sym z);
            few = m.few;
            cost_is = omega arith;
            grows = omega arith;
            stores = λ z h. bracket_stored number E (E + 1) k (choice_rules number E (E + 1) f.piece z) p.variable r.variable p.last r.last ws' ws'' (f.stores z h) m.stores;
          },
          omega arith,
        )

  -- ---- Rows.

  pub row_begins : (from : Piece) (ws : List ℕ) → from.at ≤ length s → Few from → E ≤ 256
      → Finds (rows number E) s depth from ws (record { at = from.at; variable = E; last = from.last; cost = from.cost }) ws
  unfolding row_rules row_cost
  row_begins from ws h few l =
      let f = few.cost_few in
      record {
        piece = empty;
        low = omega arith;
        high = h;
        moves = λ o ls A os d. refl;
        few = record { variable_few = omega arith; last_few = few.last_few; cost_few = few.cost_few };
        cost_is = omega arith;
        grows = omega arith;
        stores = (makes_none from.at E from ws few (omega arith)).stores;
      }

  pub row_grows : (from row item r : Piece) (ws ws' ws'' ws''' : List ℕ) → Finds (rows number E) s depth from ws row ws' → Finds (items number E) s depth row ws' item ws''
      → Makes (joined number E (E + 1) row.variable item.variable) item.at item ws'' r ws''' → Finds (rows number E) s depth from ws r ws'''
  unfolding row_rules row_cost
  row_grows from row item r ws ws' ws'' ws''' f g m =
      let a = f.low in
      let b = g.low in
      let c = f.grows in
      let d = g.grows in
      let e = m.grows in
      let z = m.ends_at in
      let i = f.cost_is in
      let j = g.cost_is in
      let k = m.cost_is in
      let h = g.high in
      record {
        piece = next f.piece g.piece;
        low = omega arith;
        high = omega arith;
        moves =
            λ o ls A os l. f.moves o ls A os l ∙ subst (λ (q : ℕ). Moves s depth row.at (part o f.piece) q (part o (next f.piece g.piece))) (sym z) (g.moves (part o f.piece)) ls A os l;
        few = m.few;
        cost_is = omega arith;
        grows = omega arith;
        stores =
            λ z h. both_stored (row_rules number E (E + 1) f.piece z) (item_rules number E (E + 1) g.piece) (joined number E (E + 1)) row.variable item.variable
            r.variable row.last item.last r.last ws' ws'' ws''' (joined_same number E (E + 1)) g.grows (f.stores z h) g.stores m.stores;
      }

  -- ---- Choices.

  pub choice_begins : (from row : Piece) (ws ws' : List ℕ) → Finds (rows number E) s depth from ws row ws' → Finds (choices number E) s depth from ws row ws'
  unfolding choice_rules choice_cost
  choice_begins from row ws ws' f =
      record {
        piece = only f.piece;
        low = f.low;
        high = f.high;
        moves = λ u. f.moves none;
        few = f.few;
        cost_is = f.cost_is;
        grows = f.grows;
        stores = f.stores;
      }

  pub choice_grows : (from choice row r : Piece) (ws ws' ws'' ws''' : List ℕ) → Finds (choices number E) s depth from ws choice ws' → get_or s choice.at 0 ≡ 47
      → Finds (rows number E) s depth (moved choice (choice.at + 1) choice.variable 1) ws' row ws''
      → Makes (λ z. put z (call choice.variable E row.variable)) row.at row ws'' r ws''' → Finds (choices number E) s depth from ws r ws'''
  unfolding choice_rules choice_cost
  choice_grows from choice row r ws ws' ws'' ws''' f slash g m =
      let a = f.low in
      let b = g.low in
      let c = f.grows in
      let d = g.grows in
      let e = m.grows in
      let z = m.ends_at in
      let i = f.cost_is in
      let j = g.cost_is in
      let k = m.cost_is in
      let h = g.high in
      record {
        piece = or f.piece g.piece;
        low = omega arith;
        high = omega arith;
        moves =
            λ u ls A os l. f.moves u ls A os l ∙ slash_moves s choice.at depth slash f.piece ls A os l
            ∙ subst (λ (q : ℕ). Moves s depth (choice.at + 1) (part (some f.piece) empty) q (part (some f.piece) g.piece)) (sym z) (g.moves (some f.piece)) ls A os l;
        few = m.few;
        cost_is = omega arith;
        grows = omega arith;
        stores =
            λ z h. both_stored (choice_rules number E (E + 1) f.piece z) (row_rules number E (E + 1) g.piece) (λ x y z. put z (call x E y)) choice.variable row.variable
            r.variable choice.last row.last r.last ws' ws'' ws''' (or_same E) g.grows (f.stores z h) g.stores m.stores;
      }

  -- ---- Refusals.

  module _ (from : Piece) (ws ws' : List ℕ) where
    -- Of a row behind a slash,
    pub choice_refused : (choice : Piece) (k : Refusal) → Finds (choices number E) s depth from ws choice ws' → get_or s choice.at 0 ≡ 47
        → ((o : Option Choice) → Refuses s depth (choice.at + 1) (part o empty) k) → Refuses s depth from.at (part none empty) k
    choice_refused choice k f slash g ls A os l =
        f.moves tt ls A os l ∙ slash_moves s choice.at depth slash f.piece ls A os l ∙ g (some f.piece) ls A os l

    -- of a choice in brackets,
    pub inside_refused : (k : Bracket) (x : Refusal) → get_or s from.at 0 ≡ opener k → (depth ≡ 16 → ⊥) → Refuses s (depth + 1) (from.at + 1) (part none empty) x
        → (y : Part) → Refuses s depth from.at y x
    inside_refused k y e d g x ls A os l = opens_bracket s from.at depth k e d x ls A os l ∙ g ls A (opened k x ∷ os) (omega arith)

    -- and of a bracket that is not closed.
    pub bracket_refused : (k : Bracket) (p : Piece) → get_or s from.at 0 ≡ opener k → (depth ≡ 16 → ⊥)
        → Finds (choices number E) s (depth + 1) (moved from (from.at + 1) from.variable 3) ws p ws' → EndsChoice s p → (get_or s p.at 0 ≡ closer k → ⊥)
        → (x : Part) → Refuses s depth from.at x Text
    bracket_refused k p e d f g c x ls A os l =
        opens_bracket s from.at depth k e d x ls A os l ∙ f.moves tt ls A (opened k x ∷ os) (omega arith)
        ∙ not_closed s p.at k g.0 g.1 c (part_of f.piece) x ls A os
