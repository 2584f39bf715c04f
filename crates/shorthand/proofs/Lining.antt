-- One line of a text: its beginning, its end, its letter. Assumes nothing.
use Rattle.std.specs.Prelude.{Some, None}
use Rattle.std.proofs.lemmas.Option.{none-some, cond_some}
use mathlib.Core.Bool.{Bool, true, false, cond, not, ◌&&◌, ◌||◌, true≢false}
use mathlib.Core.List.{List, [], ◌∷◌, ◌++◌}
use mathlib.Core.Option.{none}
use mathlib.Core.Path.{◌≡◌, refl, sym, ap, ◌∙◌, subst}
use Prim.Native.Nat.{ℕ, zero, suc, ◌+◌, ◌-◌, ◌≤◌, ◌<◌}
use native.Mathlib.Decide.{ℕ_discrete, dec_lt}
use native.Mathlib.Omega.{arith}
use lib.Dec.{eqb}
use lib.ListN.{length, get_or, set, drop, length-set}
use lib.Seq.{get_or-set_same, get_or-set_other}
use borrow.Author.Tests.{eqb-true, eqb-false, eq-eqb, ne_eqb}
use Rattle.grammar.specs.Refusal.{refused}
use Rattle.grammar.specs.Rule.{Rule, call}
use Rattle.grammar.specs.Words.{word, words_from, words}
use Rattle.notation.specs.Emit.{rules, Made, made, with, ruled}
use Rattle.notation.specs.Scan.{part, before, named, choosing, defined, step, scan}
use Rattle.notation.specs.Text.{empty, Choice, Line, line, capital}
use Rattle.notation.proofs.Taken.{elsewhere}
use Rattle.letters.proofs.Lettered.{index_in}
use Rattle.pieces.specs.Store.{Stored, StoredMade}
use Rattle.pieces.proofs.Storing.{words_with}
use Rattle.pieces.proofs.Scanning.{one, at_end_law, byte_is}
use Rattle.shorthand.specs.Lines.{Defines, opens_line, opened_letter, Names}

-- ---- The letter and `=`.

-- What a line begins with: a letter that has none.
pub record Opens (s : List ℕ) (at : ℕ) (lines : List Bool) (index : ℕ) : Type 0 where
  pub letter : capital (get_or s at 0) ≡ true
  pub new : get_or lines (get_or s at 0 - 65) false ≡ false
  pub equals : get_or s (at + 1) 0 ≡ 61
  pub index_is : index ≡ get_or s at 0 - 65

pub opens : (s : List ℕ) (at : ℕ) (lines : List Bool) (index : ℕ) → Some index ≡ opened_letter s at lines → Opens s at lines index
unfolding opens_line
opens s at lines index e =
    let p = cond_some (opens_line s at lines) (get_or s at 0 - 65) index (sym e) in
    go (capital (get_or s at 0)) (get_or lines (get_or s at 0 - 65) false) (eqb (get_or s (at + 1) 0) 61) refl refl refl p.0 (sym p.1)
  where
    go : (t u w : Bool) → capital (get_or s at 0) ≡ t → get_or lines (get_or s at 0 - 65) false ≡ u → eqb (get_or s (at + 1) 0) 61 ≡ w → (t && (not u && w)) ≡ true
        → index ≡ get_or s at 0 - 65 → Opens s at lines index
    go true false true p q r h e = record { letter = p; new = q; equals = eqb-true _ 61 r; index_is = e }
    go true false false p q r h e = absurd (true≢false (sym h))
    go true true w p q r h e = absurd (true≢false (sym h))
    go false u w p q r h e = absurd (true≢false (sym h))

module _ (s : List ℕ) (at : ℕ) (lines : List Bool) (ls : List Line) (inside : at < length s) (d : Defines ls lines) where
  -- A letter that has no line yet.
  letter_moves : capital (get_or s at 0) ≡ true → get_or lines (get_or s at 0 - 65) false ≡ false → scan (drop at s) (before ls) ≡ scan (drop (at + 1) s) (named ls (get_or s at 0))
  unfolding step
  letter_moves c n = one s at (before ls) inside ∙ rw (c, d.held (get_or s at 0) c, n)

  -- `=` behind it, or not.
  pub line_opens : (index : ℕ) → Opens s at lines index → scan (drop at s) (before ls) ≡ scan (drop (at + 2) s) (choosing ls (get_or s at 0) [] (part none empty))
  unfolding step
  line_opens index o =
      let k : at + 1 + 1 ≡ at + 2 = omega arith in
      letter_moves o.letter o.new ∙ byte_is s (at + 1) 61 (named ls (get_or s at 0)) (omega arith) o.equals
      ∙ ap (λ i. scan (drop i s) (choosing ls (get_or s at 0) [] (part none empty))) k

  no_equals : (get_or s (at + 1) 0 ≡ 61 → ⊥) → scan (drop (at + 1) s) (named ls (get_or s at 0)) ≡ refused 15 0
  unfolding step
  no_equals n = go (dec_lt (at + 1) (length s))
    where
      go : Dec (at + 1 < length s) → scan (drop (at + 1) s) (named ls (get_or s at 0)) ≡ refused 15 0
      go (yes l) = one s (at + 1) (named ls (get_or s at 0)) l ∙ rw (ne_eqb _ 61 n)
      go (no x) = at_end_law s (at + 1) (named ls (get_or s at 0)) (omega arith)

  -- A line that does not begin so is refused.
  pub not_opened : None ≡ opened_letter s at lines → scan (drop at s) (before ls) ≡ refused 15 0
  unfolding opens_line step
  not_opened e = go (capital (get_or s at 0)) (get_or lines (get_or s at 0 - 65) false) (eqb (get_or s (at + 1) 0) 61) refl refl refl e
    where
      go : (t u w : Bool) → capital (get_or s at 0) ≡ t → get_or lines (get_or s at 0 - 65) false ≡ u → eqb (get_or s (at + 1) 0) 61 ≡ w
          → None ≡ cond (t && (not u && w)) (Some (get_or s at 0 - 65)) None → scan (drop at s) (before ls) ≡ refused 15 0
      go true false true p q r h = absurd (none-some _ h)
      go true false false p q r h = letter_moves p q ∙ no_equals (eqb-false _ 61 r)
      go true true w p q r h = one s at (before ls) inside ∙ rw (p, d.held (get_or s at 0) p, q)
      go false u w p q r h = one s at (before ls) inside ∙ rw p

-- ---- The letters that have a line.

defined_behind : (ls : List Line) (A B : ℕ) (c : Choice) → defined (ls ++ line A c ∷ []) B ≡ (eqb B A || defined ls B)
defined_behind [] A B c = refl
defined_behind (line C e ∷ ls) A B c = rw (defined_behind ls A B c) (go (eqb B C) (eqb B A) (defined ls B))
  where
    go : (t u w : Bool) → (t || (u || w)) ≡ (u || (t || w))
    go true true w = refl
    go true false w = refl
    go false true w = refl
    go false false w = refl

pub defines_more : (ls : List Line) (lines : List Bool) (A : ℕ) (c : Choice) → capital A ≡ true → Defines ls lines → Defines (ls ++ line A c ∷ []) (set lines (A - 65) true)
defines_more ls lines A c known d =
    let i = index_in A known in
    let h = d.size in
    record {
      size = length-set lines (A - 65) true ∙ h;
      held = λ B known-B. elim (ℕ_discrete B A) [
        | yes q ↦ rw (defined_behind ls A B c, q, eq-eqb A A refl, get_or-set_same lines (A - 65) true false (omega arith)) refl
        | no n ↦
            let j = index_in B known-B in
            rw (defined_behind ls A B c, ne_eqb B A n, get_or-set_other lines (A - 65) (B - 65) true false (λ w. n (omega arith))) (d.held B known-B)
      ];
    }

-- ---- Its rule.

-- Variable 0 has no word.
words_above : (k A : ℕ) (f : ℕ → Rule) (r : Rule) → 0 < A → words_from k A f ≡ words_from k A (with f 0 r)
unfolding words_from
words_above zero A f r l = refl
words_above (suc k) A f r l = rw (elsewhere f 0 A r (λ e. omega arith)) (ap (λ ws. word (f A) ∷ ws) (words_above k (suc A) f r (omega arith)))

module _ (number E y : ℕ) (ws : List ℕ) where
  pub names_one : (index code : ℕ) → (1 ≤ number) × (index ≡ number - 1) → number ≤ 256 → code ≡ word (call y E (E + 1)) → Names number E y ws (set ws index code)
  names_one index code low high e f h = rw low.1 (words_with f number (call y E (E + 1)) ws code low.0 high e h)

  pub names_none : number ≡ 0 → Names number E y ws ws
  names_none e f h = h ∙ words_above 256 1 f (call y E (E + 1)) (omega arith) ∙ rw e refl

-- The rules of a line, with that of its letter.
pub stored_line : (number : ℕ → ℕ) (E A : ℕ) (m : Made) (variable last : ℕ) (ws ws' : List ℕ) → StoredMade m variable last ws → Names (number A) E variable ws ws'
    → Stored (ruled number E (E + 1) A m) last ws'
stored_line number E A (made y (rules f n)) variable last ws ws' h names =
    (h.0, λ few. let p = h.1 few in subst (λ v. ws' ≡ words (with f (number A) (call v E (E + 1)))) p.0 (names f p.1))
