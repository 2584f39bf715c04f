-- The mark of the walk that a cell's number stands for. Assumes nothing.
use mathlib.Core.Path.{◌≡◌, refl, ap, subst}
use mathlib.Core.Bool.{Bool, true, false, cond}
use mathlib.Core.Logic.{inl, inr, ◌≢◌}
use Prim.Native.Nat.{ℕ, ◌-◌, ◌≤◌}
use native.Mathlib.Omega.{arith}
use lib.Dec.{eqb, ltb}
use borrow.Author.Tests.{eqb-true, eqb-false, eq-eqb, ne_eqb, ltb-true, ltb-false, lt-ltb, le-ltb}
use Rattle.calls.proofs.Table.{Mark, blank, opened, settled}
use Rattle.schema.specs.Derivation.{Result, success, failure}
use Rattle.step.specs.Codes.{Code, open_mark, Unsettled, Settled, Fits}

-- Open, failure, success, or still to be walked.
unfoldable pub mark : ℕ → Mark Result
mark c = cond (eqb c open_mark) opened (cond (eqb c 1) (settled failure) (cond (ltb c 5) blank (settled (success (c - 5)))))

pub mark_open : (c : ℕ) → c ≡ open_mark → mark c ≡ opened
unfolding mark
mark_open c e = rw (eq-eqb c open_mark e)

pub mark_settled : (n c : ℕ) (r : Result) → n ≤ 4096 → Settled n c r → mark c ≡ settled r
unfolding mark
mark_settled n c failure l m = let e = m.code_is in rw (ne_eqb c open_mark (λ z. omega arith), eq-eqb c 1 e)
mark_settled n c (success q) l m =
    let e = m.code_is in
    let f = m.ends in
    let g : c - 5 ≡ q = omega arith in
    rw (ne_eqb c open_mark (λ z. omega arith), ne_eqb c 1 (λ z. omega arith), le-ltb c 5 (omega arith), g)

pub mark_blank : (c : ℕ) → Unsettled c → mark c ≡ blank
unfolding mark
mark_blank c u = let l = u.no_success in rw (ne_eqb c open_mark (λ z. omega arith), ne_eqb c 1 u.no_failure, lt-ltb c 5 l)

-- What a mark says of the cell.
abbrev pub Stands : ℕ → ℕ → Mark Result → Type 0
Stands n c blank = Unsettled c
Stands n c opened = c ≡ open_mark
Stands n c (settled r) = Settled n c r

stands_by : (n c : ℕ) → Fits n c → (a b d : Bool) → eqb c open_mark ≡ a → eqb c 1 ≡ b → ltb c 5 ≡ d
    → Stands n c (cond a opened (cond b (settled failure) (cond d blank (settled (success (c - 5))))))
stands_by n c f true b d p q r = eqb-true c open_mark p
stands_by n c f false true d p q r = record { code_is = eqb-true c 1 q; ends = tt }
stands_by n c f false false true p q r = record { no_failure = eqb-false c 1 q; no_success = ltb-true c 5 r }
stands_by n c (inl l) false false false p q r = let h = ltb-false c 5 r in record { code_is = omega arith; ends = omega arith }
stands_by n c (inr e) false false false p q r = absurd (eqb-false c open_mark p e)

pub stands : (n c : ℕ) (m : Mark Result) → Fits n c → mark c ≡ m → Stands n c m
unfolding mark
stands n c m f e = subst (Stands n c) e (stands_by n c f (eqb c open_mark) (eqb c 1) (ltb c 5) refl refl refl)

-- A cell holds one result.
pub settled_one : (n c : ℕ) (r t : Result) → Settled n c r → Settled n c t → r ≡ t
settled_one n c (success a) (success b) h k = let e = h.code_is in let f = k.code_is in let q : a ≡ b = omega arith in ap success q
settled_one n c (success a) failure h k = let e = h.code_is in let f = k.code_is in absurd (omega arith)
settled_one n c failure (success b) h k = let e = h.code_is in let f = k.code_is in absurd (omega arith)
settled_one n c failure failure h k = refl

-- A cell that is still to be walked holds none.
pub settled_not : (n c : ℕ) (r : Result) → Settled n c r → Unsettled c → ⊥
settled_not n c (success q) h u = let e = h.code_is in let l = u.no_success in omega arith
settled_not n c failure h u = u.no_failure h.code_is

-- The code of a result.
pub code_of : (n c : ℕ) (r : Result) → Settled n c r → Code c
code_of n c failure m = inl m.code_is
code_of n c (success q) m = let e = m.code_is in inr (omega arith)

-- It is no blank, and not open.
pub settled_full : {n c : ℕ} (r : Result) → Settled n c r → c ≢ 0
settled_full (success q) m z = let e = m.code_is in omega arith
settled_full failure m z = let e = m.code_is in omega arith

pub settled_closed : {n c : ℕ} (t : Result) → n ≤ 4096 → Settled n c t → c ≢ open_mark
settled_closed (success q) l m z = let e = m.code_is in let f = m.ends in omega arith
settled_closed failure l m z = let e = m.code_is in omega arith
