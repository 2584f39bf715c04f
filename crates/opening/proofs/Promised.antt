-- What any result that meets the contract says. Assumes nothing.
use mathlib.Core.Bool.{Bool, true, false, true≢false}
use mathlib.Core.List.{List}
use mathlib.Core.Logic.{◌↔◌}
use mathlib.Core.Option.{Option, none, some}
use mathlib.Core.Path.{◌≡◌, refl, sym, ap, ◌∙◌, subst}
use Prim.Native.Nat.{ℕ, ◌≤◌}
use native.Mathlib.Omega.{arith}
use lib.Dec.{ltb}
use lib.ListN.{length}
use borrow.Author.Tests.{ltb-true, ltb-false}
use Rattle.std.specs.Prelude.{Result, Option as Maybe}
use Rattle.grammar.specs.declared.refusal.Refusal.{Refusal}
use Rattle.grammar.specs.Refusal.{Checked, refused, accepted}
use Rattle.grammar.specs.Rule.{Rule}
use Rattle.grammar.specs.Sheet.{Grammar}
use Rattle.schema.specs.Derivation.{Pair, ◌at◌, Loops}
use Rattle.schema.specs.Handed.{Handed, handed, verdict_of}
use Rattle.schema.specs.Table.{blanked, Table}
use Rattle.schema.proofs.Following.{Follows}
use Rattle.schema.proofs.Small.{refusal_small}
use Rattle.memo.proofs.TableOne.{table_one}
use Rattle.opening.specs.Opening.{Shortest, LoopOpening, told, Finds, OpeningPromise}

-- ---- One least opening.

module _ (rule : ℕ → Rule) (input : List ℕ) (x : Pair) where
  shortest_one : {m k : ℕ} → Shortest rule input x m → Shortest rule input x k → m ≡ k
  shortest_one {m} {k} a b = by_tests (ltb m k) (ltb k m) refl refl
    where
      by_tests : (c d : Bool) → ltb m k ≡ c → ltb k m ≡ d → m ≡ k
      by_tests true d e f = absurd (b.none_shorter m (ltb-true m k e) a.loops)
      by_tests false true e f = absurd (a.none_shorter k (ltb-true k m f) b.loops)
      by_tests false false e f = let l = ltb-false m k e in let h = ltb-false k m f in omega arith

  opening_one : (a b : Option ℕ) → LoopOpening rule input x a → LoopOpening rule input x b → a ≡ b
  opening_one (some m) (some k) p q = ap some (shortest_one p.1 q.1)
  opening_one (some m) none p q = absurd (q p.0)
  opening_one none (some k) p q = absurd (p q.0)
  opening_one none none p q = refl

-- A question leaves one table.
pub left_one : {rule : ℕ → Rule} {input : List ℕ} {v : ℕ} {x : Pair} {T T' T'' : List ℕ} → Table rule input v x blanked T T' → Table rule input v x blanked T T''
    → T' ≡ T''
left_one a b = table_one a b (a.later ∙ sym b.later) (a.size ∙ sym b.size)

-- ---- Any result.

module _ (s input table work : List ℕ) where
  abbrev asked : Handed
  asked = verdict_of input (length table) (length work)

  -- There is one answer, and one table.
  pub one_opening : (table' table'' work' work'' : List ℕ) (r q : Result (Maybe ℕ) Refusal) → OpeningPromise s input table table' work work' r
      → OpeningPromise s input table table'' work work'' q → (told r ≡ told q) × (table' ≡ table'')
  one_opening table' table'' work' work'' r q one other = by_sheet (handed s asked) one other
    where
      by_sheet : (o : Checked Grammar) → Finds o input table table' work work' (told r) → Finds o input table table'' work work'' (told q)
          → (told r ≡ told q) × (table' ≡ table'')
      by_sheet (refused x l) m k = (m.0 ∙ sym k.0, m.1 ∙ sym k.1)
      by_sheet (accepted g) m k =
          let a = m.2 in
          let b = k.2 in (
            m.1 ∙ ap accepted (opening_one g.rule input (g.start at 0) m.0 k.0 a.said b.said) ∙ sym k.1,
            left_one a.leaves b.leaves,
          )

  -- Refused exactly where the verdict is, and then with both slices as they were.
  pub opening_follows : (table' work' : List ℕ) (r : Result (Maybe ℕ) Refusal) → OpeningPromise s input table table' work work' r
      → Follows (Option ℕ) s (verdict_of input (length table) (length work)) (told r) ((table' ≡ table) × (work' ≡ work))
  opening_follows table' work' r promise = record {
    refused_as = λ x l e. let k = given (refused x l) e in (k.0, (k.1, k.2));
    accepted_as = λ g e. let k = given (accepted g) e in (k.0, k.1);
  }
    where
      given : (o : Checked Grammar) → handed s asked ≡ o → Finds o input table table' work work' (told r)
      given o e = subst (λ (o : Checked Grammar). Finds o input table table' work work' (told r)) e promise

  -- Numbers go up to 11.
  pub opening_small : (table' work' : List ℕ) (r : Result (Maybe ℕ) Refusal) → OpeningPromise s input table table' work work' r → (x l : ℕ) → told r ≡ refused x l → x ≤ 11
  opening_small table' work' r promise x l e = by_sheet (handed s asked) refl promise
    where
      by_sheet : (o : Checked Grammar) → handed s asked ≡ o → Finds o input table table' work work' (told r) → x ≤ 11
      by_sheet (refused y m) q k =
          let f = k.0 in
          let number : y ≡ x = cc in
          let a = refusal_small s asked y m q in
          omega arith
      by_sheet (accepted g) q k = let f = k.1 in absurd (true≢false (cc))

  module _ (table' work' : List ℕ) (r : Result (Maybe ℕ) Refusal) (promise : OpeningPromise s input table table' work work' r) (g : Grammar)
      (accepts : handed s (verdict_of input (length table) (length work)) ≡ accepted g) where
    -- An answer is given exactly where it is the opening,
    opening_exactly : (a : Option ℕ) → (told r ≡ accepted a) ↔ LoopOpening g.rule input (g.start at 0) a
    opening_exactly a =
        let k = subst (λ (o : Checked Grammar). Finds o input table table' work work' (told r)) accepts promise in (
          λ e. let q = k.1 in let same : k.0 ≡ a = cc in subst (LoopOpening g.rule input (g.start at 0)) same k.2.said,
          λ l. k.1 ∙ ap accepted (opening_one g.rule input (g.start at 0) k.0 a k.2.said l),
        )

    -- the least number of bytes where the start variable at 0 loops,
    pub least_exactly : (m : ℕ) → (told r ≡ accepted (some m)) ↔ (Loops g.rule input (g.start at 0) × Shortest g.rule input (g.start at 0) m)
    least_exactly m = opening_exactly (some m)

    -- and none where it does not.
    pub none_exactly : (told r ≡ accepted none) ↔ (Loops g.rule input (g.start at 0) → ⊥)
    none_exactly = opening_exactly none
