-- Lines that a visit writes are a certificate: each follows from earlier ones, and its numbers fit their columns. Assumes nothing.
use mathlib.Core.Bool.{true≢false}
use mathlib.Core.List.{List, [], ◌∷◌, ◌++◌}
use mathlib.Core.Option.{some}
use mathlib.Core.Path.{◌≡◌, sym, subst}
use Prim.Native.Nat.{ℕ, zero, suc, ◌+◌, ◌^◌, ◌≤◌, ◌<◌}
use native.Mathlib.Omega.{arith}
use lib.ListN.{length, get_elem?, length-append}
use Rattle.grammar.specs.Sheet.{Grammar}
use Rattle.schema.specs.Closed.{Closed}
use Rattle.schema.specs.Derivation as derivation
use Rattle.schema.specs.Derivation.{Pair, ◌at◌, Result, success, failure, second, result, Has}
use Rattle.schema.specs.Line.{Line, line_of, lines_bytes, numbered, Follows, by_leaf, by_call}
use Rattle.schema.specs.Table.{Within}
use Rattle.schema.proofs.Ends.{EndsWithin, derives_ends}
use Rattle.schema.proofs.Walk.{walk_number, walk_count_le}
use Rattle.cells.proofs.Numbers.{cells_small}
use Rattle.writer.specs.Writer.{Visits}
use Rattle.writer.proofs.WriterLaws.{last_line, each_follows}
use Rattle.writer.proofs.LinesNumber.{lines_count}
use Rattle.checker.specs.Proper.{EachFollows, no_line, one_more, Proper}
use Rattle.checker.proofs.Written.{FitLine, FitLines, written_reads}

-- The end of a result fits 8 columns.
abbrev EndFits : Result → Type 0
EndFits (success q) = q < 10 ^ 8
EndFits failure = Unit {0}

end_fits : (x : Pair) (r : Result) (i j : ℕ) → FitLine (line_of x r i j) → EndFits r
end_fits (A at p) (success q) i j f = f.1.1.1.0
end_fits (A at p) failure i j f = tt

line_fits : (A p : ℕ) (r : Result) (i j : ℕ) → A ≤ 256 → p ≤ 4096 → EndFits r → i < 10 ^ 8 → j < 10 ^ 8 → FitLine (line_of (A at p) r i j)
line_fits A p (success q) i j a b e k l = (omega arith, (omega arith, (omega arith, (e, (k, (l, tt))))))
line_fits A p failure i j a b e k l = (omega arith, (omega arith, (omega arith, (omega arith, (k, (l, tt))))))

-- One of lines that fit.
fits_at : (ls : List Line) (i : ℕ) (l : Line) → FitLines ls → get_elem? ls i ≡ some l → FitLine l
fits_at [] i l f e = absurd (true≢false (cc))
fits_at (k ∷ ls) zero l f e = let q : k ≡ l = cc in subst FitLine q f.0
fits_at (k ∷ ls) (suc i) l f e = fits_at ls i l f.1 e

fits_numbered : (ls : List Line) (i : ℕ) (l : Line) → FitLines ls → numbered ls i ≡ some l → FitLine l
fits_numbered ls zero l f e = absurd (true≢false (cc))
fits_numbered ls (suc i) l f e = fits_at ls i l f e

fits_more : (ls : List Line) (l : Line) → FitLines ls → FitLine l → FitLines (ls ++ l ∷ [])
fits_more [] l f g = (g, tt)
fits_more (k ∷ ls) l f g = (f.0, fits_more ls l f.1 g)

-- The number of a line is at most their count.
at_most : (ls : List Line) (i : ℕ) (l : Line) → get_elem? ls i ≡ some l → suc i ≤ length ls
at_most [] i l e = absurd (true≢false (cc))
at_most (k ∷ ls) zero l e = omega arith
at_most (k ∷ ls) (suc i) l e = let h = at_most ls i l e in omega arith

numbered_most : (ls : List Line) (i : ℕ) (l : Line) → numbered ls i ≡ some l → i ≤ length ls
numbered_most ls zero l e = omega arith
numbered_most ls (suc i) l e = at_most ls i l e

module _ (g : Grammar) (input : List ℕ) (closed : Closed g.variables g.rule) (few : g.variables ≤ 256) (short : length input ≤ 4096) where
  follow_fits : (earlier : List Line) (l : Line) → FitLines earlier → length earlier < 10 ^ 8 → Follows g.rule g.variables input earlier l → FitLine l
  follow_fits earlier l f n (by_leaf {A} {p} {r} w a e) =
      subst FitLine (sym e) (line_fits A p r 0 0 (omega (arith, w.variable.1)) (omega (arith, w.position)) (leaf_end r (derives_ends g.rule input {x = A at p} w.position (derivation.Derives.leaf a))) (omega arith) (omega arith))
    where
      leaf_end : (r : Result) → EndsWithin p (length input) r → EndFits r
      leaf_end (success q) k = omega (arith, k.1)
      leaf_end failure k = tt
  follow_fits earlier l f n (by_call {A} {B} {C} {D} {p} {i} {j} {r} {t} w a m k e) =
      let u = numbered_most earlier i _ m.line in
      let v = numbered_most earlier j _ k.line in
      subst FitLine (sym e) (line_fits A p r i j (omega (arith, w.variable.1)) (omega (arith, w.position))
      (end_fits (second C D p t) r k.first k.second (fits_numbered earlier j _ f k.line)) (omega arith) (omega arith))

  -- Each line follows, and fits if there are not too many.
  abbrev Passing : List Line → Type 0
  Passing ls = EachFollows g input ls × (length ls ≤ 10 ^ 8 → FitLines ls)

  more : (earlier : List Line) (l : Line) → Passing earlier → Follows g.rule g.variables input earlier l → Passing (earlier ++ l ∷ [])
  more earlier l h f =
      let e = length-append earlier (l ∷ []) in (
        one_more h.0 f,
        λ n.
            let a : length earlier + 1 ≤ 10 ^ 8 = omega arith in
            fits_more earlier l (h.1 (omega arith)) (follow_fits earlier l (h.1 (omega arith)) (omega arith) f),
      )

  -- There are no more lines than cells.
  few_lines : {A p : ℕ} (ls : List Line) → Within g.variables (length input) A p → Visits g.rule input [] (A at p) ls → length ls ≤ 10 ^ 8
  few_lines {A} {p} ls w visits =
      let n = lines_count g.rule input visits (walk_number g.rule input g.variables closed (A at p) w) in
      let most = walk_count_le g.rule input g.variables closed (A at p) w in
      let small = cells_small g.variables (length input) few short in
      omega arith

  -- The lines of a pair that has a result are a certificate that it has.
  pub visit_proper : {A p : ℕ} {t : Result} (ls : List Line) → Within g.variables (length input) A p → Has g.rule input (A at p) (result t)
      → Visits g.rule input [] (A at p) ls → Proper g input (lines_bytes ls) (A at p) t
  visit_proper ls w has visits =
      let each = each_follows g.rule input g.variables closed Passing more w visits (no_line, λ m. tt) in
      record { lines = ls; reads = written_reads ls (each.1 (few_lines ls w visits)); each = each.0; last = last_line g.rule input has visits }
