-- Every derivation has a reach, a pair has one at most, it lies between the position and n + 1, and a result depends on the bytes before it
-- only. Assumes nothing.
use mathlib.Core.Bool.{Bool, true, false, cond, true≢false}
use mathlib.Core.List.{List}
use mathlib.Core.Path.{◌≡◌, refl, sym, ap, ap₂, ◌∙◌}
use Prim.Native.Nat.{ℕ, ◌+◌, max, ◌≤◌, ◌<◌}
use native.Mathlib.Omega.{arith}
use lib.Dec.{ltb, eqb}
use lib.ListN.{length, get_or}
use Rattle.classes.specs.Class.{class_of}
use Rattle.grammar.specs.Rule.{Rule, absent, always, never, byte, class, call}
use Rattle.schema.specs.Derivation as derivation
use Rattle.schema.specs.Derivation.{Pair, ◌at◌, Result, success, failure, gives, calls, at_end, act_of, act, second, Derives, Outcome, result, stopped, loop}
use Rattle.schema.specs.Examined.{leaf_reach, leaf_reach_of, Examines, leaf, node, Reaches}
use Rattle.schema.proofs.Closed.{calls_call}
use Rattle.schema.proofs.Ends.{position_of, EndsWithin, derives_ends}
use Rattle.schema.proofs.TwoInputs.{act_same}

rule_bounds : (u : Rule) (s : List ℕ) (p : ℕ) → p ≤ length s → (p ≤ leaf_reach u p) × (leaf_reach u p ≤ length s + 1)
rule_bounds absent s p l = (omega arith, omega arith)
rule_bounds always s p l = (omega arith, omega arith)
rule_bounds never s p l = (omega arith, omega arith)
rule_bounds (byte b) s p l = (omega arith, omega arith)
rule_bounds (class k) s p l = (omega arith, omega arith)
rule_bounds (call B C D) s p l = (omega arith, omega arith)

-- A leaf that succeeds looks as far as it ends.
byte_success : (p q : ℕ) (b m : Bool) → cond b (cond m (gives (success (p + 1))) (gives failure)) at_end ≡ gives (success q) → p + 1 ≡ q
byte_success p q true true e = cc
byte_success p q true false e = absurd (true≢false (cc))
byte_success p q false m e = absurd (true≢false (cc))

pub success_reach : (u : Rule) (s : List ℕ) (p q : ℕ) → act_of u s p ≡ gives (success q) → q ≡ leaf_reach u p
unfolding act_of
success_reach absent s p q e = absurd (true≢false (cc))
success_reach always s p q e = cc
success_reach never s p q e = absurd (true≢false (cc))
success_reach (byte b) s p q e = sym (byte_success p q (ltb p (length s)) (eqb (get_or s p 0) b) e)
success_reach (class k) s p q e = sym (byte_success p q (ltb p (length s)) (eqb (class_of (get_or s p 0)) k) e)
success_reach (call B C D) s p q e = absurd (true≢false (cc))

second_place : (n C D p : ℕ) (t : Result) → p ≤ n → EndsWithin p n t → position_of (second C D p t) ≤ n
second_place n C D p (success q) l e = e.1
second_place n C D p failure l e = l

module _ (rule : ℕ → Rule) (s : List ℕ) where
  -- Whatever has a reach is derived,
  pub examines_derives : {x : Pair} {r : Result} {m : ℕ} → Examines rule s x r m → (k : ℕ) × (h : ℕ) × Derives rule s x r k h
  examines_derives (leaf e) = (1, 1, derivation.leaf e)
  examines_derives (node e i j) = let d = examines_derives i in let f = examines_derives j in (_, _, derivation.node e d.2 f.2)

  -- and every derivation has a reach,
  pub derives_examines : {x : Pair} {r : Result} {k h : ℕ} → Derives rule s x r k h → (m : ℕ) × Examines rule s x r m
  derives_examines (derivation.leaf e) = (_, leaf e)
  derives_examines (derivation.node e d f) = let i = derives_examines d in let j = derives_examines f in (max i.0 j.0, node e i.1 j.1)

  -- one only.
  same_examined : {x y : Pair} {r t : Result} {m n : ℕ} → x ≡ y → Examines rule s x r m → Examines rule s y t n → (r ≡ t) × (m ≡ n)
  same_examined q (leaf e) (leaf f) = (cc, cc)
  same_examined q (leaf e) (node f i j) = absurd (true≢false (cc))
  same_examined q (node e i j) (leaf f) = absurd (true≢false (cc))
  same_examined q (node {A} {B} {C} {D} {p} {m} {n} {r} {t} e i j) (node {A = A'} {B = B'} {C = C'} {D = D'} {p = p'} {m = m'} {n = n'} {r = r'} {t = t'} f k l) =
      let z : p ≡ p' = cc in
      let b : B ≡ B' = cc in
      let c : C ≡ C' = cc in
      let d : D ≡ D' = cc in
      let u = same_examined (ap₂ ◌at◌ b z) i k in
      let w : second C D p t ≡ second C' D' p' t' = rw (c, d, z, u.0) in
      let v = same_examined w j l in
      (v.0, ap₂ max u.1 v.1)

  pub examines_one : {x : Pair} {r t : Result} {m n : ℕ} → Examines rule s x r m → Examines rule s x t n → m ≡ n
  examines_one i j = (same_examined refl i j).1

  -- The reach of an outcome.
  pub reaches_one : (x : Pair) (o : Outcome) (m n : ℕ) → Reaches rule s x o m → Reaches rule s x o n → m ≡ n
  reaches_one x (result r) m n i j = examines_one i j
  reaches_one x (stopped w) m n i j = omega arith
  reaches_one x loop m n i j = omega arith

  -- It lies between the position and n + 1, the reach of a byte or class rule at n.
  leaf_bounds : (x : Pair) → position_of x ≤ length s → (position_of x ≤ leaf_reach_of rule x) × (leaf_reach_of rule x ≤ length s + 1)
  leaf_bounds (A at p) l = rule_bounds (rule A) s p l

  pub reach_bounds : {x : Pair} {r : Result} {m : ℕ} → position_of x ≤ length s → Examines rule s x r m → (position_of x ≤ m) × (m ≤ length s + 1)
  reach_bounds l (leaf {x} e) =
      let a = (leaf_bounds x l).0 in
      let b = (leaf_bounds x l).1 in
      (omega arith, omega arith)
  reach_bounds l (node {A} {B} {C} {D} {p} {m} {n} {r} {t} e i j) =
      let a = reach_bounds l i in
      let d = examines_derives i in
      let b = reach_bounds (second_place (length s) C D p t l (derives_ends rule s {x = B at p} {k = d.0} {h = d.1} l d.2)) j in
      let a₁ = a.0 in
      let a₂ = a.1 in
      let b₂ = b.1 in
      (omega arith, omega arith)

-- ---- A result depends on the bytes before its reach only.

-- Two inputs have the same bytes before m, and none of them ends there where the other does not.
abbrev pub SameBefore : ℕ → List ℕ → List ℕ → Type 0
SameBefore m s s' = (p : ℕ) → p < m → (get_or s' p 0 ≡ get_or s p 0) × (ltb p (length s') ≡ ltb p (length s))

-- A rule that calls does so on every input.
pub call_act : (rule : ℕ → Rule) (s s' : List ℕ) (A p B C D : ℕ) → act rule s (A at p) ≡ calls B C D → act rule s' (A at p) ≡ calls B C D
unfolding act_of
call_act rule s s' A p B C D e = ap (λ (u : Rule). act_of u s' p) (calls_call (rule A) s p B C D e)

module _ (rule : ℕ → Rule) (s s' : List ℕ) where
  rule_act : (u : Rule) (p : ℕ) → SameBefore (leaf_reach u p) s s' → act_of u s' p ≡ act_of u s p
  unfolding act_of
  rule_act absent p h = refl
  rule_act always p h = refl
  rule_act never p h = refl
  rule_act (byte b) p h = let k = h p (omega arith) in act_same (byte b) s s' p k.0 k.1
  rule_act (class c) p h = let k = h p (omega arith) in act_same (class c) s s' p k.0 k.1
  rule_act (call B C D) p h = refl

  leaf_act : (x : Pair) → SameBefore (leaf_reach_of rule x) s s' → act rule s' x ≡ act rule s x
  leaf_act (A at p) h = rule_act (rule A) p h

  -- On an input with the same bytes before it a derivation has the same result and the same reach.
  pub examines_same : {x : Pair} {r : Result} {m : ℕ} → SameBefore m s s' → Examines rule s x r m → Examines rule s' x r m
  examines_same h (leaf {x} e) = leaf (leaf_act x h ∙ e)
  examines_same h (node {A} {B} {C} {D} {p} {m} {n} e i j) =
      node (call_act rule s s' A p B C D e) (examines_same (λ q l. h q (omega arith)) i) (examines_same (λ q l. h q (omega arith)) j)
