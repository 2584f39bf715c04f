-- The rules that are stored for all lines are a translation of them, within the allowance. Assumes nothing.
use mathlib.Core.Bool.{Bool, true, false, cond, true≢false}
use mathlib.Core.List.{List, [], ◌∷◌, ◌++◌}
use mathlib.Core.Option.{none, some}
use mathlib.Core.Path.{◌≡◌, refl, sym, ◌∙◌, subst}
use Prim.Native.Nat.{ℕ, ◌+◌, ◌≤◌, ◌<◌}
use native.Mathlib.Omega.{arith}
use lib.Dec.{eqb}
use borrow.Author.Tests.{eqb-true, eqb-false}
use Rattle.grammar.specs.Rule.{Rule, absent, always, never, call}
use Rattle.notation.specs.Text.{Choice, Line, line, choice_letters, letters_of, choice_cost, cost, line_of}
use Rattle.notation.specs.Form.{EachForm, Once}
use Rattle.notation.specs.Direct.{choice}
use Rattle.notation.specs.Emit.{Rules, rules, Made, made, with, choice_rules, ruled, line_rules}
use Rattle.notation.proofs.Small.{among_first, AllKnown, known_left, known_right}
use Rattle.notation.proofs.Acts.{of, Acts, Translates}
use Rattle.notation.proofs.Taken.{there, elsewhere, AllFit, fit_with, Agree}
use Rattle.notation.proofs.Emitted.{Numbering, Emitted, Emits, choice_emits}

module _ {number : ℕ → ℕ} {E F : ℕ} {Known : ℕ → Type 0} (o : Numbering number E F Known) where
  -- The letter A has a rule that hands on what a variable does that acts as the choice c, by any rules that agree on the variables taken.
  pub record HasLine (f : ℕ → Rule) (n n' A : ℕ) (c : Choice) : Type 0 where
    pub acting : ℕ
    pub acts : (g : ℕ → Rule) → Agree g f n n' → Acts g number E F Known (of (choice c)) acting
    pub rule_is : f (number A) ≡ call acting E F
    pub letter_in : (1 ≤ number A) × (number A ≤ n')

  -- From the rules f of n variables, at most the cost of the lines was taken; the letters with a line have their rules, all others are as they were.
  pub record LinesEmitted (ls : List Line) (f : ℕ → Rule) (n : ℕ) (f' : ℕ → Rule) (n' : ℕ) : Type 0 where
    pub more : n ≤ n'
    pub few : n' ≤ n + cost ls
    pub fit : AllFit f n → AllFit f' n'
    pub helpers : (A : ℕ) → E ≤ A → A ≤ n → f' A ≡ f A
    pub above : (A : ℕ) → n' < A → f' A ≡ f A
    pub others : (A : ℕ) → Known A → line_of ls A ≡ none → f' (number A) ≡ f (number A)
    pub lines : (A : ℕ) (c : Choice) → line_of ls A ≡ some c → HasLine f' n n' A c

  abbrev pub EmitsLines : List Line → Rules → Rules → Type 0
  EmitsLines ls (rules f n) (rules f' n') = LinesEmitted ls f n f' n'

  -- One line, and those behind it.
  module _ (A : ℕ) (c : Choice) (ls : List Line) (k : Known A) (once : line_of ls A ≡ none) (f f₁ f' : ℕ → Rule) (n n₁ n' y : ℕ)
      (e : Emitted number E F Known (of (choice c)) (choice_cost c) f n y f₁ n₁) (d : LinesEmitted ls (with f₁ (number A) (call y E F)) n₁ f' n') where
    high : (B : ℕ) → E ≤ B → with f₁ (number A) (call y E F) B ≡ f₁ B
    high B b = let l = o.letter_in A k in elsewhere f₁ (number A) B (call y E F) (λ w. omega arith)

    here : HasLine f' n n' A c
    here =
        let l = o.letter_in A k in
        let h : E ≤ n = omega arith in
        record {
          acting = y;
          acts = λ g a. e.acts g (λ C l u. a C l (omega arith) ∙ d.helpers C (omega arith) u ∙ high C (omega arith));
          rule_is = d.others A k once ∙ there f₁ (number A) (call y E F);
          letter_in = (l.0, omega arith);
        }

    later : (B : ℕ) (x : Choice) → HasLine f' n₁ n' B x → HasLine f' n n' B x
    later B x w = record { acting = w.acting; acts = λ g a. w.acts g (λ C l u. a C (omega arith) u); rule_is = w.rule_is; letter_in = w.letter_in }

    here_or_later : (B : ℕ) (x : Choice) (t : Bool) → eqb B A ≡ t → cond t (some c) (line_of ls B) ≡ some x → HasLine f' n n' B x
    here_or_later B x true w q =
        let s : B ≡ A = eqb-true B A w in
        let r : c ≡ x = cc in
        subst (λ (b : ℕ). HasLine f' n n' b x) (sym s) (subst (HasLine f' n n' A) r here)
    here_or_later B x false w q = later B x (d.lines B x q)

    neither : (B : ℕ) → Known B → (t : Bool) → eqb B A ≡ t → cond t (some c) (line_of ls B) ≡ none → f' (number B) ≡ f (number B)
    neither B b true w q = absurd (true≢false (cc))
    neither B b false w q =
        let l = o.letter_in B b in
        d.others B b q ∙ elsewhere f₁ (number A) (number B) (call y E F) (λ s. eqb-false B A w (o.letter_one B A b k s))
        ∙ e.taken.kept (number B) (omega arith)

    on_line : LinesEmitted (line A c ∷ ls) f n f' n'
    unfolding cost line_of
    on_line =
        let t = e.taken in
        record {
          more = omega arith;
          few = omega arith;
          fit = λ h. d.fit (fit_with f₁ n₁ n₁ (number A) (call y E F) (omega arith) (λ B l w. l) (omega arith) (t.fit h));
          helpers = λ B l u. d.helpers B l (omega arith) ∙ high B l ∙ t.kept B u;
          above = λ B l. d.above B l ∙ high B (omega arith) ∙ t.above B (omega arith);
          others = λ B b w. neither B b (eqb B A) refl w;
          lines = λ B x w. here_or_later B x (eqb B A) refl w;
        }

  -- All lines from these on.
  pub lines_emit : (ls : List Line) → EachForm ls → Once ls → AllKnown Known (letters_of ls) → (f : ℕ → Rule) (n : ℕ) → F ≤ n
      → EmitsLines ls (rules f n) (line_rules number E F ls (rules f n))
  unfolding line_rules letters_of cost line_of
  lines_emit [] w u k f n h = record {
    more = omega arith;
    few = omega arith;
    fit = λ g. g;
    helpers = λ A l u. refl;
    above = λ A l. refl;
    others = λ A a w. refl;
    lines = λ A c w. absurd (true≢false (cc));
  }
  lines_emit (line A c ∷ ls) w u k f n h =
      let later = known_right Known (A ∷ []) (choice_letters c ++ letters_of ls) k in
      go (choice_rules number E F c (rules f n)) (choice_emits o c w.1 (known_left Known (choice_letters c) (letters_of ls) later) f n h)
      (λ f₁ n₁ h₁. lines_emit ls w.3 u.1 (known_right Known (choice_letters c) (letters_of ls) later) f₁ n₁ h₁)
    where
      with_rest : (f₁ : ℕ → Rule) (n₁ y : ℕ) (z : Rules) → Emitted number E F Known (of (choice c)) (choice_cost c) f n y f₁ n₁
          → EmitsLines ls (rules (with f₁ (number A) (call y E F)) n₁) z → EmitsLines (line A c ∷ ls) (rules f n) z
      with_rest f₁ n₁ y (rules f' n') e d = on_line A c ls (k A (among_first A (choice_letters c ++ letters_of ls))) u.0 f f₁ f' n n₁ n' y e d

      go : (m : Made) → Emits number E F Known (of (choice c)) (choice_cost c) (rules f n) m
          → ((f₁ : ℕ → Rule) (n₁ : ℕ) → F ≤ n₁ → EmitsLines ls (rules f₁ n₁) (line_rules number E F ls (rules f₁ n₁)))
          → EmitsLines (line A c ∷ ls) (rules f n) (line_rules number E F ls (ruled number E F A m))
      go (made y (rules f₁ n₁)) e d =
          with_rest f₁ n₁ y (line_rules number E F ls (rules (with f₁ (number A) (call y E F)) n₁)) e (d (with f₁ (number A) (call y E F)) n₁ (omega arith))

  -- From no rules but those of E and F: any rules that agree on the variables taken are a translation.
  pub lines_translate : (ls : List Line) (f f' g : ℕ → Rule) (n' : ℕ) → f E ≡ always → f F ≡ never → ((A : ℕ) → A < E → f A ≡ absent)
      → LinesEmitted ls f F f' n' → ((A : ℕ) → 1 ≤ A → A ≤ n' → g A ≡ f' A) → Translates g number E F Known ls
  lines_translate ls f f' g n' a b c d s =
      let p = o.always_some in
      let q = o.always_low in
      record {
        always_at = s E p (omega arith) ∙ d.helpers E (omega arith) (omega arith) ∙ a;
        never_at = s F (omega arith) d.more ∙ d.helpers F (omega arith) (omega arith) ∙ b;
        line_at_law = λ A x w.
            let y = d.lines A x w in
            (y.acting, y.acts g (λ B l u. s B (omega arith) u), s (number A) y.letter_in.0 y.letter_in.1 ∙ y.rule_is);
        absent_at = λ A k w.
            let l = o.letter_in A k in
            s (number A) l.0 (omega arith) ∙ d.others A k w ∙ c (number A) l.1;
      }
