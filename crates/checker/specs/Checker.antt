-- Document 01, "Readings": the checker, with refusals 12 to 14. A certificate is what document 01 calls a reading. Assumes nothing.
use Rattle.std.specs.Prelude.{Bool, true, false, cond, not, ◌&&◌, List, [], ◌∷◌, ◌++◌, ◌≡◌, ℕ, zero, suc, ◌+◌, ◌*◌, ◌/◌, ◌%◌, ltb, leb, eqb, length, get_or}
use Rattle.std.specs.Prelude.{Result as Answer}
use Rattle.std.proofs.Math.Option.{Option, none, some}
use Rattle.columns.specs.Column.{fields}
use Rattle.grammar.specs.Refusal.{Checked, refused, accepted, checked, from}
use Rattle.grammar.specs.Rule.{Rule, within}
use Rattle.grammar.specs.Sheet.{grammar_of, is_none}
use Rattle.schema.specs.Derivation.{Pair, ◌at◌, Result, success, failure, Act, gives, stops, calls, act, second}
use Rattle.schema.specs.Handed.{asked, handed_condition, handed_order}
use Rattle.schema.specs.Line.{Line, line}
use Rattle.checker.specs.declared.Claim.{Claim}
use Rattle.checker.specs.declared.Claim.TheVariants.{Success, Failure}
use Rattle.checker.specs.declared.Rejection.{Rejection}
use Rattle.checker.specs.Rejections.{checked_as}

-- ---- Lines, "counted from 1".

-- "six fields of 8 columns and byte 10 (49 bytes)"
abbrev pub lines : List ℕ → ℕ
lines s = length s / 49

-- The line of six numbers.
abbrev pub line_from : Option (List ℕ) → Option Line
line_from none = none
line_from (some xs) = some (line (get_or xs 0 0) (get_or xs 1 0) (get_or xs 2 0) (get_or xs 3 0) (get_or xs 4 0) (get_or xs 5 0))

-- The line of a number, if its fields and its end are of that form.
unfoldable pub line_at : List ℕ → ℕ → Option Line
line_at s zero = none
line_at s (suc k) = cond (eqb (get_or s (49 * k + 48) 0) 10) (line_from (fields 6 8 s (49 * k))) none

-- The line of a number, if it is before line n.
abbrev pub earlier_line : List ℕ → ℕ → ℕ → Option Line
earlier_line s n i = cond (ltb i n) (line_at s i) none

-- ---- When a line follows: the relation `Follows`, as a test.

-- "0 success or 1 failure, end (the start on failure)": the result in the third and fourth field of a line that starts at p.
abbrev pub result_of : ℕ → ℕ → ℕ → Option Result
result_of p flag e = cond (eqb flag 0) (some (success e)) (cond (eqb flag 1 && eqb e p) (some failure) none)

-- The result that a line gives the pair, if it is the pair's line.
abbrev pub result_for : Pair → Option Line → Option Result
result_for (A at p) none = none
result_for (A at p) (some (line B q flag e i j)) = cond (eqb B A && eqb q p) (result_of p flag e) none

-- The result of a pair at p whose first called pair, of a rule with operands C and D, has the result given.
abbrev pub result_then : (ℕ → Option Line) → ℕ → ℕ → ℕ → ℕ → Option Result → Option Result
result_then earlier C D p j none = none
result_then earlier C D p j (some t) = result_for (second C D p t) (earlier j)

-- "given by a leaf rule, or by kind 4 from earlier lines that are the called pairs"; "both 0 for a leaf": the result of a pair at p, by what
-- its rule does and the lines i and j.
abbrev pub result_by : (ℕ → Option Line) → Act → ℕ → ℕ → ℕ → Option Result
result_by earlier (gives r) p i j = cond (eqb i 0 && eqb j 0) (some r) none
result_by earlier (stops w) p i j = none
result_by earlier (calls B C D) p i j = result_then earlier C D p j (result_for (B at p) (earlier i))

-- Do the third and the fourth field of a line that starts at p say the result?
abbrev pub says : ℕ → ℕ → ℕ → Option Result → Bool
says p flag e none = false
says p flag e (some (success q)) = eqb flag 0 && eqb e q
says p flag e (some failure) = eqb flag 1 && eqb e p

-- "A line follows if its variable and start are a pair and it is given": does it, from the earlier lines?
unfoldable pub follows : (ℕ → Rule) → ℕ → List ℕ → (ℕ → Option Line) → Option Line → Bool
follows rule v input earlier none = false
follows rule v input earlier (some (line A p flag e i j)) =
    within 1 v A && leb p (length input) && says p flag e (result_by earlier (act rule input (A at p)) p i j)

-- ---- "The maker of a reading".

-- "12, length not a multiple of 49 (line 0), or a field or line end not of that form."
abbrev pub malformed : List ℕ → ℕ → Bool
malformed s zero = not (eqb (length s % 49) 0)
malformed s (suc k) = is_none (line_at s (suc k))

-- "14, no lines, or the last is another pair."
abbrev pub other_pair : Pair → Option Line → Bool
other_pair (A at p) none = true
other_pair (A at p) (some (line B q flag e i j)) = not (eqb B A && eqb q p)

-- The condition of 12 and of 13 at a line: "13, a line that doesn't follow, a third field above 1 included."
unfoldable pub line_condition : (ℕ → Rule) → ℕ → List ℕ → List ℕ → ℕ → ℕ → Bool
line_condition rule v input s number n =
    cond (eqb number 12) (malformed s n)
    (cond (eqb number 13) (not (follows rule v input (earlier_line s n) (line_at s n)))
    false)

-- The condition of a certificate's refusal by its number, at a line.
unfoldable pub certificate_condition : (ℕ → Rule) → ℕ → List ℕ → Pair → List ℕ → ℕ → ℕ → Bool
certificate_condition rule v input x s = from 14 (λ number n. eqb number 14 && other_pair x (line_at s (lines s))) (line_condition rule v input s)

-- The condition of each refusal of the checker: 1 to 11 are the question's.
unfoldable pub check_condition : List ℕ → List ℕ → Pair → List ℕ → ℕ → ℕ → Bool
check_condition sheet input x s =
    let g = grammar_of sheet in
    from 12 (certificate_condition g.rule g.variables input x s) (handed_condition sheet (asked input x))

-- "each line for 12, 13"
abbrev pub line_order : ℕ → List (ℕ × ℕ)
line_order n = (12, n) ∷ (13, n) ∷ []

-- The first k lines.
unfoldable pub lines_order : ℕ → List (ℕ × ℕ)
lines_order zero = []
lines_order (suc k) = lines_order k ++ line_order (suc k)

-- "its length, then each line for 12, 13, then 14."
unfoldable pub certificate_order : List ℕ → List (ℕ × ℕ)
certificate_order s = (12, 0) ∷ lines_order (lines s) ++ (14, 0) ∷ []

-- "A reading comes after these": refusals 1 to 6, 8 and 9 come first.
unfoldable pub check_order : List ℕ → List ℕ → List (ℕ × ℕ)
check_order sheet s = handed_order sheet ++ certificate_order s

-- "The checker returns the outcome and end in the last line; these are what a passed reading claims": success or failure, with the end.
pub data Claimed : Type 0 where
  succeeds fails : ℕ → Claimed

-- What the last line claims; where there is none, the certificate is refused before.
abbrev pub claim_of : Option Line → Claimed
claim_of none = fails 0
claim_of (some (line A p flag e i j)) = cond (eqb flag 0) (succeeds e) (fails e)

-- 14, or the claim of the last line.
unfoldable pub last_found : Pair → Option Line → Checked Claimed
last_found x l = cond (other_pair x l) (refused 14 0) (accepted (claim_of l))

-- What the rules make of a certificate for a pair.
unfoldable pub judged : (ℕ → Rule) → ℕ → List ℕ → Pair → List ℕ → Checked Claimed
judged rule v input x s = checked (certificate_condition rule v input x s) (certificate_order s) (claim_of (line_at s (lines s)))

-- The first refusal, or the claim.
unfoldable pub check : List ℕ → List ℕ → Pair → List ℕ → Checked Claimed
check sheet input x s = checked (check_condition sheet input x s) (check_order sheet s) (claim_of (line_at s (lines s)))

-- What each claim says.
abbrev pub claim_says : Claim → Claimed
claim_says (Success e) = succeeds e
claim_says (Failure e) = fails e

-- What the answer says: the claim, or the refusal's number and line.
abbrev pub told : Answer Claim Rejection → Checked Claimed
told = checked_as claim_says

-- The promise of the checker.
abbrev pub Checks : List ℕ → List ℕ → Pair → List ℕ → Answer Claim Rejection → Type 0
Checks sheet input x s r = told r ≡ check sheet input x s
