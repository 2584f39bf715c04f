-- What lines store depends on the numbers of their letters alone. Assumes nothing.
use mathlib.Core.List.{List, [], ◌∷◌, ◌++◌}
use mathlib.Core.Path.{◌≡◌, refl, ap, ◌∙◌}
use Prim.Native.Nat.{ℕ}
use Rattle.notation.specs.Emit.{Rules, rules, Made, made, upon, put, joined, bracketed, item_rules, row_rules, choice_rules, ruled, line_rules}
use Rattle.notation.specs.Text.{Item, letter, quoted, fails, inside, Row, empty, next, Choice, only, or, Line, line, item_letters, row_letters, choice_letters, letters_of}
use Rattle.notation.proofs.Small.{AllKnown, known_left, known_right, among_first}

module _ (number other : ℕ → ℕ) (E F : ℕ) where
  abbrev Same : List ℕ → Type 0
  Same As = AllKnown (λ A. number A ≡ other A) As

  upon_same : (m : Made) (k l : ℕ → Rules → Made) → ((v : ℕ) (z : Rules) → k v z ≡ l v z) → upon m k ≡ upon m l
  upon_same (made v z) k l h = h v z

  mutual
    unfolding item_rules row_rules choice_rules item_letters row_letters choice_letters

    item_same : (i : Item) → Same (item_letters i) → (z : Rules) → item_rules number E F i z ≡ item_rules other E F i z
    item_same (letter A) h z = ap (λ v. made v z) (h A (among_first A []))
    item_same (quoted b) h z = refl
    item_same fails h z = refl
    item_same (inside k c) h z = ap (λ m. upon m (bracketed number E F k)) (choice_same c h z)

    row_same : (r : Row) → Same (row_letters r) → (z : Rules) → row_rules number E F r z ≡ row_rules other E F r z
    row_same empty h z = refl
    row_same (next r i) h z =
        ap (λ m. upon m (λ x w. upon (item_rules number E F i w) (λ y u. joined number E F x y u))) (row_same r (known_left _ (row_letters r) (item_letters i) h) z)
        ∙ upon_same (row_rules other E F r z) _ _ (λ x w. ap (λ m. upon m (λ y u. joined number E F x y u)) (item_same i (known_right _ (row_letters r) (item_letters i) h) w))

    choice_same : (c : Choice) → Same (choice_letters c) → (z : Rules) → choice_rules number E F c z ≡ choice_rules other E F c z
    choice_same (only r) h z = row_same r h z
    choice_same (or c r) h z =
        ap (λ m. upon m (λ x w. upon (row_rules number E F r w) (λ y u. put u (Rattle.grammar.specs.Rule.call x E y)))) (choice_same c (known_left _ (choice_letters c) (row_letters r) h) z)
        ∙ upon_same (choice_rules other E F c z) _ _ (λ x w. ap (λ m. upon m (λ y u. put u (Rattle.grammar.specs.Rule.call x E y))) (row_same r (known_right _ (choice_letters c) (row_letters r) h) w))

  ruled_same : (A : ℕ) (m : Made) → number A ≡ other A → ruled number E F A m ≡ ruled other E F A m
  ruled_same A (made y (rules f n)) e = rw e refl

  pub lines_same : (ls : List Line) → Same (letters_of ls) → (z : Rules) → line_rules number E F ls z ≡ line_rules other E F ls z
  unfolding line_rules letters_of
  lines_same [] h z = refl
  lines_same (line A c ∷ ls) h z =
      let first = known_left _ (A ∷ []) (choice_letters c ++ letters_of ls) h A (among_first A []) in
      let rest = known_right _ (A ∷ []) (choice_letters c ++ letters_of ls) h in
      lines_same ls (known_right _ (choice_letters c) (letters_of ls) rest) (ruled number E F A (choice_rules number E F c z))
      ∙ ap (line_rules other E F ls) (ap (ruled number E F A) (choice_same c (known_left _ (choice_letters c) (letters_of ls) rest) z) ∙ ruled_same A (choice_rules other E F c z) first)
