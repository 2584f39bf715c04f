-- What the lines of a text store: rules within the allowance that are a sheet of the lines. Assumes nothing.
use mathlib.Core.Bool.{true}
use mathlib.Core.List.{List}
use mathlib.Core.Path.{◌≡◌, refl, ◌∙◌, subst}
use Prim.Native.Nat.{ℕ, ◌+◌, ◌≤◌, ◌<◌}
use native.Mathlib.Omega.{arith}
use lib.ListN.{length}
use Rattle.grammar.specs.Rule.{Rule, absent, always, never, Fits}
use Rattle.grammar.specs.Printing.{printed, listed, listed_grammar, rules_from}
use Rattle.grammar.proofs.Printed.{printed_read}
use Rattle.grammar.proofs.Listed.{rules_rising, rules_listed}
use Rattle.notation.specs.Text.{Line, letters, among, number_of, allowance}
use Rattle.notation.specs.Form.{LinesForm}
use Rattle.notation.specs.Emit.{rules, with, stored}
use Rattle.notation.specs.SheetOf.{SheetOf}
use Rattle.notation.proofs.Outcome.{same_outcome}
use Rattle.notation.proofs.Taken.{there, elsewhere, AllFit, fit_with}
use Rattle.notation.proofs.Emitted.{Numbering}
use Rattle.notation.proofs.EmittedLines.{LinesEmitted, EmitsLines, lines_emit, lines_translate}
use Rattle.notation.proofs.Letters.{lines_known}
use Rattle.notation.proofs.Ranks.{rank_some, rank_low, rank_one}

-- ---- The rules at the start, behind v letters.

first_rules : ℕ → ℕ → Rule
first_rules v = with (with (λ A. absent) (v + 1) always) (v + 2) never

first_always : (v : ℕ) → first_rules v (v + 1) ≡ always
unfolding first_rules
first_always v = elsewhere (with (λ A. absent) (v + 1) always) (v + 2) (v + 1) never (λ e. omega arith) ∙ there (λ A. absent) (v + 1) always

first_never : (v : ℕ) → first_rules v (v + 2) ≡ never
unfolding first_rules
first_never v = there (with (λ A. absent) (v + 1) always) (v + 2) never

first_absent : (v A : ℕ) → (A ≡ v + 1 → ⊥) → (A ≡ v + 2 → ⊥) → first_rules v A ≡ absent
unfolding first_rules
first_absent v A n m = elsewhere (with (λ A. absent) (v + 1) always) (v + 2) A never m ∙ elsewhere (λ A. absent) (v + 1) A always n

first_fit : (v : ℕ) → AllFit (first_rules v) (v + 2)
unfolding first_rules
first_fit v =
    fit_with (with (λ A. absent) (v + 1) always) (v + 2) (v + 2) (v + 2) never (omega arith) (λ A a n. a) tt
    (fit_with (λ A. absent) (v + 2) (v + 2) (v + 1) always (omega arith) (λ A a n. a) tt (λ A a. tt))

-- ---- A sheet of the lines.

module _ (ls : List Line) where
  -- The number of letters.
  abbrev L : ℕ
  L = length (letters ls)

  numbering : Numbering (number_of ls) (L + 1) (L + 2) (λ A. among A (letters ls) ≡ true)
  numbering = record {
    always_some = omega arith;
    always_low = omega arith;
    letter_in = λ A k. let l = rank_low (letters ls) A k in (rank_some (letters ls) A, omega arith);
    letter_one = rank_one (letters ls);
  }

  abbrev Translated : (ℕ → Rule) → ℕ → Type 0
  Translated f n = LinesEmitted numbering ls (first_rules L) (L + 2) f n

  -- The rules f of n variables are those of the lines.
  pub record Assembled (f : ℕ → Rule) (n : ℕ) : Type 0 where
    -- The letters, the two that always succeed and fail, and helpers within the allowance.
    pub many : L + 2 ≤ n
    pub few : n ≤ allowance ls
    pub fit : (A : ℕ) → A ≤ n → Fits n (f A)
    pub none_above : (A : ℕ) → n < A → f A ≡ absent
    pub becomes : allowance ls ≤ 256 → SheetOf ls (printed n 1 46 (rules_from f n 1))

  sheet_of : (f : ℕ → Rule) (n : ℕ) → Translated f n → allowance ls ≤ 256 → SheetOf ls (printed n 1 46 (rules_from f n 1))
  sheet_of f n d few =
      let m = d.more in
      let k = d.few in
      record {
        grammar = listed_grammar n 1 46 (rules_from f n 1);
        read = printed_read (record {
          variables_in = (omega arith, omega arith);
          start_in = (omega arith, omega arith);
          endmarker_in = omega arith;
          rules_in = rules_rising f n (λ X l u. d.fit (first_fit L) X u);
        });
        start_is = refl;
        endmarker_is = refl;
        letters_in = omega arith;
        within = omega arith;
        same = λ A a input p o. same_outcome (lines_translate numbering ls (first_rules L) f (listed (rules_from f n 1)) n (first_always L) (first_never L)
            (λ B l. first_absent L B (λ e. omega arith) (λ e. omega arith)) d (λ B l u. rules_listed f n B l u)) input A a p o;
      }

  assembled_of : (f : ℕ → Rule) (n : ℕ) → Translated f n → Assembled f n
  assembled_of f n d =
      let m = d.more in
      let k = d.few in
      record {
        many = m;
        few = omega arith;
        fit = d.fit (first_fit L);
        none_above = λ A a. d.above A a ∙ first_absent L A (λ e. omega arith) (λ e. omega arith);
        becomes = sheet_of f n d;
      }

  -- What lines of the form store.
  pub assembled : LinesForm ls → (f : ℕ → Rule) (n : ℕ) → stored ls ≡ rules f n → Assembled f n
  unfolding first_rules
  assembled w f n e =
      assembled_of f n
      (subst (EmitsLines numbering ls (rules (first_rules L) (L + 2))) e
      (lines_emit numbering ls w.each_line w.once (lines_known ls) (first_rules L) (L + 2) (omega arith)))
