-- The rules that are stored for a piece make a variable act as it. Assumes nothing.
use mathlib.Core.Bool.{Bool, true, false, cond}
use mathlib.Core.List.{[]}
use mathlib.Core.Path.{◌≡◌, refl, subst}
use Prim.Native.Nat.{ℕ, ◌+◌, ◌≤◌, ◌<◌}
use native.Mathlib.Omega.{arith}
use lib.Dec.{eqb}
use borrow.Author.Tests.{eqb-true}
use Rattle.grammar.specs.Rule.{Rule, byte, call, Fits}
use Rattle.notation.specs.Text.{Bracket, round, square, Item, letter, quoted, fails, inside, Row, empty, next, Choice, only, or, item_letters, row_letters, choice_letters, item_cost, row_cost, choice_cost}
use Rattle.notation.specs.Form.{ItemForm, RowForm, ChoiceForm}
use Rattle.notation.specs.Direct.{item, row, choice}
use Rattle.notation.specs.Emit.{Rules, rules, Made, made, with, put, upon, joined, bracketed, item_rules, row_rules, choice_rules}
use Rattle.notation.proofs.Small.{among_first, AllKnown, known_left, known_right}
use Rattle.notation.proofs.Acts.{Thing, of, Acts, letter_at, quoted_at, fails_at, round_at, not_at, square_at, empty_at, alone_at, next_at, only_at, or_at}
use Rattle.notation.proofs.Taken.{Taken, taken_none, taken_put, taken_then, taken_few, Agree, agree_put, agree_then}

module _ (number : ℕ → ℕ) (E F : ℕ) (Known : ℕ → Type 0) where
  -- The letters have variables of their own, below E; F comes behind it.
  pub record Numbering : Type 0 where
    pub always_some : 1 ≤ E
    pub always_low : E < F
    pub letter_in : (A : ℕ) → Known A → (1 ≤ number A) × (number A < E)
    pub letter_one : (A B : ℕ) → Known A → Known B → number A ≡ number B → A ≡ B

  -- From the rules f of n variables, at most k more were taken, and any rules that agree on these make v act as x.
  pub record Emitted (x : Thing) (k : ℕ) (f : ℕ → Rule) (n v : ℕ) (f' : ℕ → Rule) (n' : ℕ) : Type 0 where
    pub base : F ≤ n
    pub taken : Taken k f n f' n'
    pub some_one : 1 ≤ v
    pub low : v ≤ n'
    pub acts : (g : ℕ → Rule) → Agree g f' n n' → Acts g number E F Known x v

  abbrev pub Emits : Thing → ℕ → Rules → Made → Type 0
  Emits x k (rules f n) (made v (rules f' n')) = Emitted x k f n v f' n'

module _ {number : ℕ → ℕ} {E F : ℕ} {Known : ℕ → Type 0} (o : Numbering number E F Known) where
  abbrev Yields : Thing → ℕ → (ℕ → Rule) → ℕ → ℕ → (ℕ → Rule) → ℕ → Type 0
  Yields x k f n v f' n' = Emitted number E F Known x k f n v f' n'

  abbrev Makes : Thing → ℕ → Rules → Made → Type 0
  Makes x k z m = Emits number E F Known x k z m

  -- ---- One step.

  -- A piece that takes no variable.
  on_none : {x : Thing} (k : ℕ) {f : ℕ → Rule} {n v : ℕ} → F ≤ n → 1 ≤ v → v ≤ n → ((g : ℕ → Rule) → Acts g number E F Known x v) → Yields x k f n v f n
  on_none k {f = f} {n = n} w s l a = record { base = w; taken = taken_none k f n; some_one = s; low = l; acts = λ g h. a g }

  -- What acts as one thing acts as another.
  on_same : {x y : Thing} {k : ℕ} (l : ℕ) {f f' : ℕ → Rule} {n v n' : ℕ} → k ≤ l → ((g : ℕ → Rule) → Acts g number E F Known x v → Acts g number E F Known y v)
      → Yields x k f n v f' n' → Yields y l f n v f' n'
  on_same l w a e = record { base = e.base; taken = taken_few l w e.taken; some_one = e.some_one; low = e.low; acts = λ g h. a g (e.acts g h) }

  -- A rule over one thing.
  on_one : {x y : Thing} {k : ℕ} {f f' : ℕ → Rule} {n v n' : ℕ} (r : Rule) → Fits (n' + 1) r
      → ((g : ℕ → Rule) → Acts g number E F Known x v → g (n' + 1) ≡ r → Acts g number E F Known y (n' + 1))
      → Yields x k f n v f' n' → Yields y (k + 1) f n (n' + 1) (with f' (n' + 1) r) (n' + 1)
  on_one {f' = f'} {n = n} {n' = n'} r fits a e =
      let t = e.taken in
      record {
        base = e.base;
        taken = taken_put r fits t;
        some_one = omega arith;
        low = omega arith;
        acts = λ g h. let w = agree_put g f' n n' r t.more h in a g (e.acts g w.0) w.1;
      }

  -- Two things, one behind the other; the variable of the second acts as both.
  on_both : {x y z : Thing} {k l : ℕ} {f f₁ f₂ : ℕ → Rule} {n n₁ n₂ v w : ℕ}
      → ((g : ℕ → Rule) → Acts g number E F Known x v → Acts g number E F Known y w → Acts g number E F Known z w)
      → Yields x k f n v f₁ n₁ → Yields y l f₁ n₁ w f₂ n₂ → Yields z (k + l) f n w f₂ n₂
  on_both a e d = record {
    base = e.base;
    taken = taken_then e.taken d.taken;
    some_one = d.some_one;
    low = d.low;
    acts = λ g h. let m = agree_then g e.taken d.taken h in a g (e.acts g m.0) (d.acts g m.1);
  }

  -- A rule over two things.
  on_two : {x y z : Thing} {k l : ℕ} {f f₁ f₂ : ℕ → Rule} {n n₁ n₂ v w : ℕ} (r : Rule) → Fits (n₂ + 1) r
      → ((g : ℕ → Rule) → Acts g number E F Known x v → Acts g number E F Known y w → g (n₂ + 1) ≡ r → Acts g number E F Known z (n₂ + 1))
      → Yields x k f n v f₁ n₁ → Yields y l f₁ n₁ w f₂ n₂ → Yields z (k + l + 1) f n (n₂ + 1) (with f₂ (n₂ + 1) r) (n₂ + 1)
  on_two {f₂ = f₂} {n = n} {n₂ = n₂} r fits a e d =
      let t = taken_then e.taken d.taken in
      record {
        base = e.base;
        taken = taken_put r fits t;
        some_one = omega arith;
        low = omega arith;
        acts = λ g h.
            let b = agree_put g f₂ n n₂ r t.more h in
            let m = agree_then g e.taken d.taken b.0 in
            a g (e.acts g m.0) (d.acts g m.1) b.1;
      }

  -- ---- Pieces.

  on_quoted : (b : ℕ) (f : ℕ → Rule) (n : ℕ) → b ≤ 255 → F ≤ n → Yields (of (item (quoted b))) 2 f n (n + 1) (with f (n + 1) (byte b)) (n + 1)
  on_quoted b f n w u = record {
    base = u;
    taken = taken_put (byte b) w (taken_none 1 f n);
    some_one = omega arith;
    low = omega arith;
    acts = λ g h. quoted_at (agree_put g f n n (byte b) (omega arith) h).1;
  }

  on_bracketed : (b : Bracket) (c : Choice) (k : ℕ) (z : Rules) (m : Made) → Makes (of (choice c)) k z m
      → Makes (of (item (inside b c))) (2 + k) z (upon m (bracketed number E F b))
  on_bracketed round c k (rules f n) (made v (rules f' n')) e = on_same (2 + k) (omega arith) (λ g a. round_at a) e
  on_bracketed square c k (rules f n) (made v (rules f' n')) e =
      on_same (2 + k) (omega arith) (λ g a. a)
      (on_one (call (n' + 1) F E) (omega arith) (λ g a q. square_at a q) (on_one (call v F E) (omega arith) (λ g a q. not_at a q) e))

  -- An item behind a row that x acts as, with its link to the row.
  on_joined : (r : Row) (i : Item) (k l j : ℕ) → k + l + 1 ≤ j → (f f₁ : ℕ → Rule) (n n₁ x : ℕ) (m : Made)
      → Yields (of (row r)) k f n x f₁ n₁ → Makes (of (item i)) l (rules f₁ n₁) m
      → Makes (of (row (next r i))) j (rules f n) (upon m (joined number E F x))
  on_joined r i k l j w f f₁ n n₁ x (made y (rules f₂ n₂)) e d = go (eqb x E) refl
    where
      go : (t : Bool) → eqb x E ≡ t → Makes (of (row (next r i))) j (rules f n) (cond t (made y (rules f₂ n₂)) (put (rules f₂ n₂) (call x y F)))
      go true q = on_same j (omega arith) (λ g a. a) (on_both (λ g a b. alone_at (subst (Acts g number E F Known (of (row r))) (eqb-true x E q) a) b) e d)
      go false q = on_same j w (λ g a. a) (on_two (call x y F) (omega arith) (λ g a b p. next_at a b p) e d)

  -- A row behind a choice that x acts as, with the `/` between them.
  on_or : (c : Choice) (r : Row) (k l j : ℕ) → k + l + 1 ≤ j → (f f₁ : ℕ → Rule) (n n₁ x : ℕ) (m : Made)
      → Yields (of (choice c)) k f n x f₁ n₁ → Makes (of (row r)) l (rules f₁ n₁) m
      → Makes (of (choice (or c r))) j (rules f n) (upon m (λ y u. put u (call x E y)))
  on_or c r k l j w f f₁ n n₁ x (made y (rules f₂ n₂)) e d = on_same j w (λ g a. a) (on_two (call x E y) (omega arith) (λ g a b p. or_at a b p) e d)

  on_only : (r : Row) (k : ℕ) (z : Rules) (m : Made) → Makes (of (row r)) k z m → Makes (of (choice (only r))) k z m
  on_only r k (rules f n) (made v (rules f' n')) e = on_same k (omega arith) (λ g a. only_at a) e

  -- What is made for one thing, and then for another, from wherever the first ends.
  on_after : (x y z : Thing) (k l j : ℕ) (f : ℕ → Rule) (n : ℕ) (m : Made) (second : Rules → Made) (join : ℕ → ℕ → Rules → Made) → Makes x k (rules f n) m
      → ((f₁ : ℕ → Rule) (n₁ : ℕ) → F ≤ n₁ → Makes y l (rules f₁ n₁) (second (rules f₁ n₁)))
      → ((f₁ : ℕ → Rule) (n n₁ v : ℕ) (p : Made) → Yields x k f n v f₁ n₁ → Makes y l (rules f₁ n₁) p → Makes z j (rules f n) (upon p (join v)))
      → Makes z j (rules f n) (upon m (λ v w. upon (second w) (join v)))
  on_after x y z k l j f n (made v (rules f₁ n₁)) second join e d a = a f₁ n n₁ v (second (rules f₁ n₁)) e (d f₁ n₁ (omega arith))

  -- ---- Whole pieces of the form whose letters are known.

  -- What an item takes but for its link to the row before it.
  abbrev own : Item → ℕ
  own (letter A) = 2
  own (quoted b) = 2
  own fails = 2
  own (inside k c) = 2 + choice_cost c

  own_cost : (i : Item) → own i + 1 ≡ item_cost i
  unfolding item_cost
  own_cost (letter A) = refl
  own_cost (quoted b) = refl
  own_cost fails = refl
  own_cost (inside k c) = omega arith

  mutual
    unfolding item_rules row_rules choice_rules item_letters row_letters choice_letters item_cost row_cost choice_cost

    item_emits : (i : Item) → ItemForm i → AllKnown Known (item_letters i) → (f : ℕ → Rule) (n : ℕ) → F ≤ n
        → Makes (of (item i)) (own i) (rules f n) (item_rules number E F i (rules f n))
    item_emits (letter A) c k f n h =
        let a = k A (among_first A []) in
        let l = o.letter_in A a in
        on_none 2 h l.0 (omega arith) (λ g. letter_at refl a)
    item_emits (quoted b) c k f n h = on_quoted b f n c h
    item_emits fails c k f n h = on_none 2 h (omega arith) h (λ g. fails_at refl)
    item_emits (inside b d) c k f n h = on_bracketed b d (choice_cost d) (rules f n) (choice_rules number E F d (rules f n)) (choice_emits d c k f n h)

    row_emits : (r : Row) → RowForm r → AllKnown Known (row_letters r) → (f : ℕ → Rule) (n : ℕ) → F ≤ n
        → Makes (of (row r)) (row_cost r) (rules f n) (row_rules number E F r (rules f n))
    row_emits empty c k f n h = on_none 0 h o.always_some (omega arith) (λ g. empty_at refl)
    row_emits (next r i) c k f n h =
        let w = own_cost i in
        on_after (of (row r)) (of (item i)) (of (row (next r i))) (row_cost r) (own i) (row_cost (next r i)) f n
        (row_rules number E F r (rules f n)) (item_rules number E F i) (joined number E F)
        (row_emits r c.0 (known_left Known (row_letters r) (item_letters i) k) f n h)
        (λ f₁ n₁ h₁. item_emits i c.1 (known_right Known (row_letters r) (item_letters i) k) f₁ n₁ h₁)
        (on_joined r i (row_cost r) (own i) (row_cost (next r i)) (omega arith) f)

    pub choice_emits : (c : Choice) → ChoiceForm c → AllKnown Known (choice_letters c) → (f : ℕ → Rule) (n : ℕ) → F ≤ n
        → Makes (of (choice c)) (choice_cost c) (rules f n) (choice_rules number E F c (rules f n))
    choice_emits (only r) c k f n h = on_only r (row_cost r) (rules f n) (row_rules number E F r (rules f n)) (row_emits r c k f n h)
    choice_emits (or d r) c k f n h =
        on_after (of (choice d)) (of (row r)) (of (choice (or d r))) (choice_cost d) (row_cost r) (choice_cost (or d r)) f n
        (choice_rules number E F d (rules f n)) (row_rules number E F r) (λ x y u. put u (call x E y))
        (choice_emits d c.0 (known_left Known (choice_letters d) (row_letters r) k) f n h)
        (λ f₁ n₁ h₁. row_emits r c.1 (known_right Known (choice_letters d) (row_letters r) k) f₁ n₁ h₁)
        (on_or d r (choice_cost d) (row_cost r) (choice_cost (or d r)) (omega arith) f)
