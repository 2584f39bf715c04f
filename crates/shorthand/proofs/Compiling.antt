-- What was read of a text is compiled. Assumes nothing.
use Rattle.std.specs.Prelude.{Result, Ok, Err}
use mathlib.Core.Bool.{Bool, true, false, cond}
use mathlib.Core.List.{List, []}
use mathlib.Core.Path.{◌≡◌, refl, ap, ◌∙◌, subst}
use Prim.Native.Nat.{ℕ, ◌+◌, ◌-◌, ◌*◌, ◌≤◌, ◌<◌}
use native.Mathlib.Decide.{dec_lt}
use native.Mathlib.Omega.{arith}
use lib.ListN.{length, get_or, set, replicate, get_or-eq_default}
use Rattle.grammar.specs.Printing.{printed, rules_from, rules_of}
use Rattle.grammar.specs.Numbers.{number_of as refusal_number, line_of}
use Rattle.grammar.specs.Refusal.{refused, accepted}
use Rattle.grammar.specs.declared.refusal.Refusal.{Refusal}
use Rattle.grammar.specs.Words.{rule_in}
use Rattle.grammar.proofs.Fitting.{within_both}
use Rattle.grammar.proofs.Listed.{rules_of_words}
use Rattle.grammar.proofs.Words.{words_none}
use Rattle.notation.specs.Capitals.{capitals, number_in}
use Rattle.notation.specs.Emit.{Rules, rules, line_rules, at_first, stored}
use Rattle.notation.specs.Form.{Bytes}
use Rattle.notation.specs.Judged.{judged}
use Rattle.notation.specs.Scan.{lines_of}
use Rattle.notation.specs.Text.{Line, among, rank, firsts, letters, letters_of, number_of, allowance}
use Rattle.notation.proofs.Capitals.{lines_capitals}
use Rattle.notation.proofs.FewLetters.{capitals_all, capital_among, letters_few}
use Rattle.notation.proofs.Found.{number_known}
use Rattle.notation.proofs.Letters.{lines_known}
use Rattle.notation.proofs.Ranks.{rank_low}
use Rattle.notation.proofs.SameNumbers.{lines_same}
use Rattle.notation.proofs.TextRefusals.{judged_refused, judged_over, judged_short, judged_accepted}
use Rattle.notation.proofs.Texts.{accepted_exactly, text_letters, text_assembled}
use Rattle.letters.specs.Numbering.{Numbers}
use Rattle.pieces.specs.Store.{capped, number_held, Stored}
use Rattle.pieces.specs.declared.Piece.{Piece}
use Rattle.pieces.proofs.Beginning.{first_stored}
use Rattle.printing.specs.Listing.{SheetPut}
use Rattle.shorthand.specs.Lines.{LinesReady, LinesFound, LinesRead}
use Rattle.shorthand.specs.Promise.{told, Compiles, CompilePromise, EndReady, Ends}

-- Where the reading begins, behind so many letters and two variables.
abbrev pub beginning : ℕ → Piece
beginning count = record { at = 0; variable = 0; last = count + 2; cost = count + 2 }

-- The words of the two.
abbrev pub first_words : ℕ → List ℕ
first_words count = set (set (replicate 256 0) count 16777216) (count + 1) 33554432

-- A number that an array has of letters is at most their count.
number_most : (xs : List ℕ) (A : ℕ) → number_in xs A ≤ length xs
unfolding number_in
number_most xs A = go (among A xs) refl
  where
    go : (t : Bool) → among A xs ≡ t → cond t (rank xs A) 0 ≤ length xs
    go true e = rank_low xs A e
    go false e = omega arith

module _ (s numbers : List ℕ) (count : ℕ) (n : Numbers (firsts [] (capitals s)) numbers count) where
  pub few : count ≤ 26
  few = let l = letters_few s in let c = n.counted in omega arith

  pub numbers_few : (i : ℕ) → get_or numbers i 0 ≤ 256
  numbers_few i = go (dec_lt i 26)
    where
      go : Dec (i < 26) → get_or numbers i 0 ≤ 256
      go (yes l) =
          let e : i + 65 - 65 ≡ i = omega arith in
          let h = n.held (i + 65) (within_both 65 90 (i + 65) (omega arith) (omega arith)) in
          let m = number_most (firsts [] (capitals s)) (i + 65) in
          let f = letters_few s in
          let g : get_or numbers i 0 ≡ number_in (firsts [] (capitals s)) (i + 65) = rw e at h in
          omega arith
      go (no d) = let z = n.size in let h : length numbers ≤ i = omega arith in omega (arith, get_or-eq_default numbers 0 h)

  pub lines_ready : LinesReady s (beginning count)
  lines_ready = let l = few in record { begins = refl; few = record { variable_few = omega arith; last_few = omega arith; cost_few = omega arith } }

  module _ (u : Bytes s) (ws : List ℕ) (p : Piece) (f : LinesFound (number_held numbers) (count + 1) s (beginning count) (first_words count) p ws) where
    abbrev ls : List Line
    ls = f.lines

    letters_are : firsts [] (capitals s) ≡ letters f.lines
    letters_are = text_letters s f.lines u f.lines_are

    count_is : count ≡ length (letters f.lines)
    count_is = n.counted ∙ ap length letters_are

    -- The letters of the lines have their numbers in the array.
    numbered : (A : ℕ) → among A (letters_of f.lines) ≡ true → number_held numbers A ≡ number_of f.lines A
    numbered A a =
        let form = (accepted_exactly s f.lines u).0 f.lines_are in
        let same : capitals s ≡ letters_of f.lines = ap capitals form.0 ∙ lines_capitals f.lines form.1.each_line in
        let known = capital_among (capitals s) A (capitals_all s 0) (rw same a) in
        n.held A known ∙ ap (λ xs. number_in xs A) letters_are ∙ number_known (letters f.lines) A (lines_known f.lines A a)

    rules_are : line_rules (number_held numbers) (count + 1) (count + 1 + 1) f.lines (at_first count) ≡ stored f.lines
    rules_are =
        let e : count + 1 + 1 ≡ count + 2 = omega arith in
        lines_same (number_held numbers) (number_of f.lines) (count + 1) (count + 1 + 1) f.lines numbered (at_first count)
        ∙ ap (λ F. line_rules (number_of f.lines) (count + 1) F f.lines (at_first count)) e
        ∙ ap (λ v. line_rules (number_of f.lines) (v + 1) (v + 2) f.lines (at_first v)) count_is

    held : Stored (stored f.lines) p.last ws
    held =
        let l = few in
        subst (λ z. Stored z p.last ws) rules_are (f.stores (at_first count) (first_stored count (replicate 256 0) (omega arith) (words_none 256 1)))

    cost_is : p.cost ≡ capped (allowance f.lines)
    cost_is = let c = f.cost_is in let l = count_is in omega arith

    pub end_ready : EndReady p
    end_ready = record { few = f.few; within = λ l. go l (stored f.lines) refl held }
      where
        go : p.cost ≤ 256 → (z : Rules) → stored f.lines ≡ z → Stored z p.last ws → p.last ≤ p.cost
        go l (rules g m) e h =
            let a = (text_assembled s f.lines u f.lines_are g m e).few in
            let c = cost_is in
            let k = h.0 in
            omega arith

    module _ (out out' : List ℕ) (r : Result ℕ Refusal) (ends : Ends p ws out out' r) where
      -- The sheet that is written is a sheet of the lines.
      written : allowance f.lines ≤ 256 → (m : ℕ) → told r ≡ accepted m → SheetPut p.last 1 46 (rule_in ws) out out' m → (z : Rules) → stored f.lines ≡ z
          → Stored z p.last ws → Compiles (accepted f.lines) out out' (told r)
      written l m t put (rules g k) e h =
          let a = text_assembled s f.lines u f.lines_are g k e in
          let w = a.few in
          let c = h.0 in
          let last : p.last ≡ k = omega arith in
          let same : printed p.last 1 46 (rules_of p.last (rule_in ws)) ≡ printed k 1 46 (rules_from g k 1) =
          rw (last, h.1 (omega arith)) (ap (printed k 1 46) (rules_of_words g k (omega arith) (λ X x y. a.fit X y))) in
          let length_is = put.length_is ∙ ap length same in (
            printed k 1 46 (rules_from g k 1),
            a.becomes l,
            t ∙ ap accepted length_is,
            put.bytes_are ∙ rw (same, length_is) refl,
          )

      pub compiled : Compiles (judged s (length out)) out out' (told r)
      compiled = go (dec_lt 256 (allowance f.lines)) (dec_lt (length out) (26 * (allowance f.lines + 1)))
        where
          go : Dec (256 < allowance f.lines) → Dec (length out < 26 * (allowance f.lines + 1)) → Compiles (judged s (length out)) out out' (told r)
          go (yes l) d = let c = cost_is in rw (judged_over s (length out) f.lines f.lines_are l) (ends.over (omega arith))
          go (no x) (yes l) = let c = cost_is in rw (judged_short s (length out) f.lines f.lines_are (omega arith) l) (ends.short (omega arith) (omega arith))
          go (no x) (no y) =
              let c = cost_is in
              let w = ends.writes (omega arith) (omega arith) in
              rw (judged_accepted s (length out) f.lines f.lines_are (omega arith) (omega arith)) (written (omega arith) w.0 w.1 w.2 (stored f.lines) refl held)

-- A text that is refused.
pub compile_refused : (s out : List ℕ) (x : Refusal) → Bytes s → lines_of s ≡ refused (refusal_number x) (line_of x) → CompilePromise s out out (Err x)
compile_refused s out x u e = rw (judged_refused s (length out) _ _ u e) (refl, refl)

-- What is read, where lines are.
module _ (number : ℕ → ℕ) (E : ℕ) (s : List ℕ) (from : Piece) (ws : List ℕ) (r : Result Piece Refusal) (ws' : List ℕ) (g : LinesRead number E s from ws r ws') where
  pub lines_found_law : {p : Piece} → r ≡ Ok p → LinesFound number E s from ws p ws'
  lines_found_law e = subst (λ (o : Result Piece Refusal). LinesRead number E s from ws o ws') e g
