-- Bytes put into an output, one part after another. Assumes nothing.
use mathlib.Core.Bool.{Bool, true, false}
use mathlib.Core.List.{List, [], ◌++◌, append_assoc}
use mathlib.Core.Path.{◌≡◌, refl, sym, ap, ap₂, ◌∙◌, subst}
use Prim.Native.Nat.{ℕ, suc, ◌+◌, ◌-◌, ◌*◌, ◌≤◌, ◌<◌}
use native.Mathlib.Nat.{add-zero}
use native.Mathlib.Omega.{arith}
use lib.ListN.{length, get_or, take, drop, length-append, length-take, length-drop, take-append-drop}
use lib.Seq.{take_at, drop_at, drop-drop}
use Rattle.columns.specs.Column.{row}
use Rattle.columns.proofs.Rows.{row_length}
use Rattle.grammar.specs.Printing.{text, header_numbers, rule_numbers, rule_rows, printed, is_absent, rules_from, rules_of}
use Rattle.grammar.specs.Rule.{Rule, absent, always, never, byte, class, call}
use Rattle.grammar.specs.Words.{rule_for, rule_in}
use borrow.Rule.Slice.PartMut.{put_mid}
use Rattle.rows.proofs.RowWriting.{part_put}
use Rattle.printing.specs.Listing.{line_of, put, Puts, SheetPut}
use Rattle.printing.proofs.Numbers.{rule_there}

-- No bytes.
pub put_none : (at : ℕ) (out : List ℕ) → put at [] out ≡ out
unfolding put
put_none at out = rw (add-zero at) (take-append-drop at out)

module _ (at : ℕ) (a out : List ℕ) (room : at + length a ≤ length out) where
  front : take (at + length a) (put at a out) ≡ take at out ++ a
  unfolding put
  front =
      let n : length (take at out ++ a) ≡ at + length a = length-append (take at out) a ∙ simp length-take (omega arith) in
      ap (take (at + length a)) (sym (append_assoc (take at out) a (drop (at + length a) out))) ∙ take_at (take at out ++ a) (drop (at + length a) out) (at + length a) n

  back : drop (at + length a) (put at a out) ≡ drop (at + length a) out
  unfolding put
  back =
      let n : length (take at out ++ a) ≡ at + length a = length-append (take at out) a ∙ simp length-take (omega arith) in
      ap (drop (at + length a)) (sym (append_assoc (take at out) a (drop (at + length a) out))) ∙ drop_at (take at out ++ a) (drop (at + length a) out) (at + length a) n

  -- The output keeps its length.
  pub put_length : length (put at a out) ≡ length out
  unfolding put
  put_length =
      let x = length-append (take at out) (a ++ drop (at + length a) out) in
      let y = length-append a (drop (at + length a) out) in
      let t : length (take at out) ≡ at = simp length-take (omega arith) in
      let d = length-drop (at + length a) out in
      omega arith

  -- Two parts, one behind the other.
  pub put_both : (b : List ℕ) → put (at + length a) b (put at a out) ≡ put at (a ++ b) out
  unfolding put
  put_both b =
      let k : at + length a + length b ≡ at + length (a ++ b) = omega (arith, length-append a b) in
      let rest : drop (at + length a + length b) (put at a out) ≡ drop (at + length (a ++ b)) out =
      sym (drop-drop (length b) (at + length a) (put at a out)) ∙ ap (drop (length b)) back
      ∙ drop-drop (length b) (at + length a) out ∙ ap (λ (n : ℕ). drop n out) k in
      ap₂ (λ (x y : List ℕ). x ++ (b ++ y)) front rest ∙ append_assoc (take at out) a (b ++ drop (at + length (a ++ b)) out)
      ∙ ap (λ (x : List ℕ). take at out ++ x) (sym (append_assoc a b (drop (at + length (a ++ b)) out)))

-- The lines of k + 1 rules: that of the first, and the others.
pub lines_more : (rule : ℕ → Rule) (k A : ℕ) → text (rule_rows (rules_from rule (suc k) A)) ≡ line_of A (rule A) ++ text (rule_rows (rules_from rule k (suc A)))
unfolding rules_from text
lines_more rule k A = go (is_absent (rule A)) refl
  where
    go : (t : Bool) → is_absent (rule A) ≡ t → text (rule_rows (rules_from rule (suc k) A)) ≡ line_of A (rule A) ++ text (rule_rows (rules_from rule k (suc A)))
    go true e = rw e
    go false e = rw e

-- A line has 26 bytes at most.
pub line_short : (A : ℕ) (r : Rule) → length (line_of A r) ≤ 26
line_short A absent = omega arith
line_short A always = omega (arith, row_length 5 (rule_numbers A always))
line_short A never = omega (arith, row_length 5 (rule_numbers A never))
line_short A (byte b) = omega (arith, row_length 5 (rule_numbers A (byte b)))
line_short A (class c) = omega (arith, row_length 5 (rule_numbers A (class c)))
line_short A (call B C D) = omega (arith, row_length 5 (rule_numbers A (call B C D)))

-- The line of a variable without a rule, and with one.
module _ (at A : ℕ) (out : List ℕ) (r : Rule) where
  pub puts_none : r ≡ absent → Puts at (line_of A r) out out at
  puts_none e = rw e (record { bytes_are = sym (put_none at out); end_is = sym (add-zero at) })

  pub puts_line : is_absent r ≡ false → (line : List ℕ) → line ≡ row 5 (rule_numbers A r) → length line ≡ 26
      → Puts at (line_of A r) out (put_mid at (at + 26 - at) out line) (at + 26)
  unfolding put
  puts_line e line is n =
      let m : length (row 5 (rule_numbers A r)) ≡ 26 = ap length (sym is) ∙ n in
      rw e (record { bytes_are = part_put out at 26 line ∙ rw (m, is); end_is = rw m })

-- Before each variable: what is left, put into the output as it is, gives the whole; so many variables are left, with room for a line each.
pub record Left (rule : ℕ → Rule) (variables : ℕ) (out₀ out : List ℕ) (at variable : ℕ) : Type 0 where
  pub rest : ℕ
  pub rest_is : variable + rest ≡ variables + 1
  pub low : 1 ≤ variable
  pub size : length out ≡ length out₀
  pub room : at + 26 * rest ≤ length out
  pub whole : put at (text (rule_rows (rules_from rule rest variable))) out ≡ put 26 (text (rule_rows (rules_from rule variables 1))) out₀
  pub end : at + length (text (rule_rows (rules_from rule rest variable))) ≡ 26 + length (text (rule_rows (rules_from rule variables 1)))

module _ (rule : ℕ → Rule) (variables : ℕ) where
  pub begins : (out : List ℕ) → 26 * (variables + 1) ≤ length out → Left rule variables out out 26 1
  begins out l = record { rest = variables; rest_is = omega arith; low = omega arith; size = refl; room = omega arith; whole = refl; end = refl }

  -- A variable's line more.
  pub goes_on : (out₀ out out' : List ℕ) (at at' variable : ℕ) → variable ≤ variables → Left rule variables out₀ out at variable
      → Puts at (line_of variable (rule variable)) out out' at' → Left rule variables out₀ out' at' (variable + 1)
  goes_on out₀ out out' at at' variable l h p =
      let k = h.rest - 1 in
      let r = h.rest_is in
      let m = h.room in
      let a = line_of variable (rule variable) in
      let b = text (rule_rows (rules_from rule (h.rest - 1) (variable + 1))) in
      let s = line_short variable (rule variable) in
      let fits : at + length (line_of variable (rule variable)) ≤ length out = omega arith in
      let n : length out' ≡ length out = ap length p.bytes_are ∙ put_length at a out fits in
      let j : h.rest ≡ suc (h.rest - 1) = omega arith in
      let i : suc variable ≡ variable + 1 = omega arith in
      let e = p.end_is in
      let both : text (rule_rows (rules_from rule h.rest variable)) ≡ a ++ b =
      ap (λ (x : ℕ). text (rule_rows (rules_from rule x variable))) j ∙ lines_more rule k variable ∙ ap (λ (x : ℕ). a ++ text (rule_rows (rules_from rule k x))) i in
      record {
        rest = h.rest - 1;
        rest_is = omega arith;
        low = omega arith;
        size = n ∙ h.size;
        room = omega arith;
        whole =
            ap₂ (λ (x : ℕ) (y : List ℕ). put x b y) e p.bytes_are ∙ put_both at a out fits b ∙ ap (λ (x : List ℕ). put at x out) (sym both) ∙ h.whole;
        end = let z = length-append a b in let y = ap length both in let w = h.end in omega arith;
      }

  pub ends : (out₀ out : List ℕ) (at variable : ℕ) → variables < variable → Left rule variables out₀ out at variable
      → Puts 26 (text (rule_rows (rules_from rule variables 1))) out₀ out at
  unfolding rules_from text
  ends out₀ out at variable l h =
      let r = h.rest_is in
      let z : h.rest ≡ 0 = omega arith in
      let w : put at (text (rule_rows (rules_from rule 0 variable))) out ≡ put 26 (text (rule_rows (rules_from rule variables 1))) out₀ = ap (λ (x : ℕ). put at (text (rule_rows (rules_from rule x variable))) out) (sym z) ∙ h.whole in
      let e : at + length (text (rule_rows (rules_from rule 0 variable))) ≡ 26 + length (text (rule_rows (rules_from rule variables 1))) = ap (λ (x : ℕ). at + length (text (rule_rows (rules_from rule x variable)))) (sym z) ∙ h.end in
      record { bytes_are = sym (put_none at out) ∙ w; end_is = sym (add-zero at) ∙ e }

-- The rule stands in its place in the array.
pub goes_on_there : (ws : List ℕ) (variables : ℕ) (out₀ out out' : List ℕ) (at at' variable : ℕ) → variable ≤ variables
    → Left (rule_in ws) variables out₀ out at variable → Puts at (line_of variable (rule_for (get_or ws (variable - 1) 0))) out out' at'
    → Left (rule_in ws) variables out₀ out' at' (variable + 1)
goes_on_there ws variables out₀ out out' at at' variable l h p =
    goes_on (rule_in ws) variables out₀ out out' at at' variable l h
    (subst (λ (r : Rule). Puts at (line_of variable r) out out' at') (rule_there ws variable h.low) p)

-- Line 1 and the lines behind it.
pub sheet_put : (v start endmarker : ℕ) (rule : ℕ → Rule) (out line out' : List ℕ) (r : ℕ) → 26 ≤ length out → line ≡ row 5 (header_numbers v start endmarker)
    → Puts 26 (text (rule_rows (rules_of v rule))) (put_mid 0 26 out line) out' r → SheetPut v start endmarker rule out out' r
unfolding put printed text
sheet_put v start endmarker rule out line out' r l is p =
    let a = row 5 (header_numbers v start endmarker) in
    let b = text (rule_rows (rules_of v rule)) in
    let n : length (row 5 (header_numbers v start endmarker)) ≡ 26 = row_length 5 (header_numbers v start endmarker) in
    let m : 0 + length (row 5 (header_numbers v start endmarker)) ≡ 26 = omega arith in
    let e = p.end_is in
    let z = length-append a b in
    let k : 0 + length (a ++ b) ≡ r = omega arith in
    let one : put_mid 0 26 out line ≡ put 0 a out = rw (m, is) in
    let both : put 26 b (put 0 a out) ≡ put 0 (a ++ b) out = ap (λ (x : ℕ). put x b (put 0 a out)) (sym m) ∙ put_both 0 a out (omega arith) b in
    record {
      bytes_are = p.bytes_are ∙ ap (put 26 b) one ∙ both ∙ ap (λ (x : ℕ). (a ++ b) ++ drop x out) k;
      length_is = omega arith;
    }
