-- The words of the rules, variable by variable. Assumes nothing.
use mathlib.Core.Path.{◌≡◌, refl, ap, sym, ◌∙◌}
use mathlib.Core.List.{List, ◌∷◌}
use Prim.Native.Nat.{ℕ, zero, suc, ◌+◌, ◌-◌, ◌≤◌, ◌<◌}
use native.Mathlib.Omega.{arith}
use native.Mathlib.Nat.{add-zero}
use native.Mathlib.Decide.{ℕ_discrete}
use lib.ListN.{length, get_or, set, length-set, replicate}
use lib.Seq.{ext_get_or, get_or-set_same, get_or-set_other}
use Rattle.grammar.specs.Rule.{Rule, absent}
use Rattle.grammar.specs.Words.{word, words_from, words}

pub words_length : (k A : ℕ) (f : ℕ → Rule) → length (words_from k A f) ≡ k
unfolding words_from
words_length zero A f = refl
words_length (suc k) A f = ap suc (words_length k (suc A) f)

-- The word of the i-th variable from A on.
pub word_at : (k A : ℕ) (f : ℕ → Rule) (i : ℕ) → i < k → get_or (words_from k A f) i 0 ≡ word (f (A + i))
unfolding words_from
word_at zero A f i l = absurd (omega arith)
word_at (suc k) A f zero l = ap (λ (X : ℕ). word (f X)) (sym (add-zero A))
word_at (suc k) A f (suc i) l =
    let e : suc A + i ≡ A + suc i = omega arith in
    word_at k (suc A) f i (omega arith) ∙ ap (λ (X : ℕ). word (f X)) e

-- One rule more.
pub words_set : (f g : ℕ → Rule) (A w : ℕ) → 1 ≤ A → A ≤ 256 → w ≡ word (g A) → ((X : ℕ) → (X ≡ A → ⊥) → g X ≡ f X) → set (words f) (A - 1) w ≡ words g
words_set f g A w low high e others =
    let lf = words_length 256 1 f in
    let lg = words_length 256 1 g in
    let ls = length-set (words f) (A - 1) w in
    ext_get_or 0 (set (words f) (A - 1) w) (words g) (ls ∙ lf ∙ sym lg) (λ i l. go i (omega arith) (ℕ_discrete i (A - 1)))
  where
    go : (i : ℕ) → i < 256 → Dec (i ≡ A - 1) → get_or (set (words f) (A - 1) w) i 0 ≡ get_or (words g) i 0
    go i l (yes p) =
        let n = words_length 256 1 f in
        let q : 1 + i ≡ A = omega arith in
        ap (λ (j : ℕ). get_or (set (words f) (A - 1) w) j 0) p ∙ get_or-set_same (words f) (A - 1) w 0 (omega arith) ∙ e
        ∙ ap (λ (X : ℕ). word (g X)) (sym q) ∙ sym (word_at 256 1 g i l)
    go i l (no d) =
        get_or-set_other (words f) (A - 1) i w 0 d ∙ word_at 256 1 f i l ∙ ap word (sym (others (1 + i) (λ q. d (omega arith)))) ∙ sym (word_at 256 1 g i l)

-- No rules.
pub words_none : (k A : ℕ) → replicate k 0 ≡ words_from k A (λ X. absent)
unfolding words_from
words_none zero A = refl
words_none (suc k) A = ap (λ (ws : List ℕ). 0 ∷ ws) (words_none k (suc A))
