-- What the work slice says while the writer goes: the links back to the asked pair, the lines laid down, and what is left to do. Assumes nothing.
use mathlib.Core.Bool.{cond, true≢false}
use mathlib.Core.Path.{◌≡◌, refl, sym, ap, ap₂, ◌∙◌, subst}
use mathlib.Core.List.{List, [], ◌∷◌, ◌++◌}
use mathlib.Core.Logic.{◌⊎◌, inl, inr, ◌≢◌}
use Prim.Native.Nat.{ℕ, zero, suc, ◌+◌, ◌*◌, ◌/◌, ◌%◌, ◌≤◌, ◌<◌}
use native.Mathlib.Decide.{ℕ_discrete}
use native.Mathlib.Omega.{arith}
use borrow.Author.Tests.{eq-eqb, ne_eqb}
use lib.Dec.{eqb}
use lib.ListN.{length, get_or, set}
use lib.Seq.{get_or-set_same, get_or-set_other}
use Rattle.calls.proofs.Count.{sum, sum_put}
use Rattle.calls.proofs.Follow.{In}
use Rattle.grammar.specs.Rule.{Rule}
use Rattle.schema.specs.Closed.{Closed}
use Rattle.schema.specs.Derivation.{Pair, ◌at◌, Result, result, Has}
use Rattle.schema.specs.Line.{Line, line_of, Stands}
use Rattle.schema.specs.Table.{cell}
use Rattle.schema.proofs.Answer.{reached_cell}
use Rattle.schema.proofs.Cell.{PairWithin, cell_one}
use Rattle.schema.proofs.Laws.{has_one}
use Rattle.cells.specs.Packed.{packed}
use Rattle.writer.specs.Writer.{Unwritten}
use Rattle.lines.specs.Turning.{number_of, link, no_link}
use Rattle.writer.proofs.Known.{Known, apart}
use Rattle.schema.proofs.Lines.{stands_before, stands_last, stands_cases}
use Rattle.writer.proofs.Visiting.{Alike}

-- ---- What is left to do: two steps for a cell that holds 0, one for a link, none for a line's number.

unfoldable due : ℕ → ℕ
due m = cond (eqb m 0) 2 (m % 2)

due_blank : (m : ℕ) → m ≡ 0 → due m ≡ 2
unfolding due
due_blank m e = rw (eq-eqb m 0 e)

due_other : (m : ℕ) → m ≢ 0 → due m ≡ m % 2
unfolding due
due_other m d = rw (ne_eqb m 0 d)

-- The steps left for the first N cells.
pub to_do : List ℕ → ℕ → ℕ
to_do W N = sum (λ i. due (get_or W i 0)) N

sum_twos : (f : ℕ → ℕ) (N : ℕ) → ((i : ℕ) → i < N → f i ≡ 2) → sum f N ≡ 2 * N
unfolding sum
sum_twos f zero h = refl
sum_twos f (suc N) h = let a = sum_twos f N (λ i l. h i (omega arith)) in let b = h N (omega arith) in omega arith

module _ (W : List ℕ) (N c m : ℕ) (below : c < N) (room : N ≤ length W) where
  stored : to_do (set W c m) N + due (get_or W c 0) ≡ to_do W N + due m
  unfolding to_do
  stored =
      let e = sum_put (λ i. due (get_or W i 0)) (λ i. due (get_or (set W c m) i 0)) c N below (λ i d. ap due (get_or-set_other W c i m 0 d)) in
      let f = ap due (get_or-set_same W c m 0 (omega arith)) in
      omega arith

  -- One less where a link is stored,
  pub linked_less : (k : ℕ) → m ≡ 2 * k + 1 → get_or W c 0 ≡ 0 → to_do (set W c m) N + 1 ≡ to_do W N
  linked_less k e z = let a = stored in let b = due_blank (get_or W c 0) z in let d = due_other m (λ q. omega arith) in omega arith

  -- and where a line's number is, in place of a link.
  pub noted_less : (k j : ℕ) → m ≡ 2 * (k + 1) → get_or W c 0 ≡ 2 * j + 1 → to_do (set W c m) N + 1 ≡ to_do W N
  noted_less k j e z = let a = stored in let b = due_other (get_or W c 0) (λ q. omega arith) in let d = due_other m (λ q. omega arith) in omega arith

-- At first, with one link: all but one of twice the cells.
pub first_due : (W : List ℕ) (N c : ℕ) → c < N → get_or W c 0 ≡ 1 → ((i : ℕ) → i < N → i ≢ c → get_or W i 0 ≡ 0) → to_do W N + 1 ≡ 2 * N
unfolding to_do
first_due W N c l e h =
    let a = sum_put (λ i. cond (eqb i c) 2 (due (get_or W i 0))) (λ i. due (get_or W i 0)) c N l (λ i d. sym (at_other i d)) in
    let b = sum_twos (λ i. cond (eqb i c) 2 (due (get_or W i 0))) N each in
    let x = at_same in
    let y = due_other (get_or W c 0) (λ q. omega arith) in
    omega arith
  where
    at_other : (i : ℕ) → i ≢ c → cond (eqb i c) 2 (due (get_or W i 0)) ≡ due (get_or W i 0)
    at_other i d = rw (ne_eqb i c d)

    at_same : cond (eqb c c) 2 (due (get_or W c 0)) ≡ 2
    at_same = rw (eq-eqb c c refl)

    each : (i : ℕ) → i < N → cond (eqb i c) 2 (due (get_or W i 0)) ≡ 2
    each i k = elim (ℕ_discrete i c) [
      | yes q ↦ rw (eq-eqb i c q)
      | no d ↦ at_other i d ∙ due_blank (get_or W i 0) (h i k d)
    ]

-- ---- The links.

-- What x reaches is within.
pub known_within : {rule : ℕ → Rule} {s : List ℕ} {x y : Pair} {k : ℕ} (v : ℕ) → Closed v rule → PairWithin v (length s) x → Known rule s x y k → PairWithin v (length s) y
known_within {rule} {s} {x} v closed within a = (reached_cell rule s v closed x within a.reached).0

-- The work slice links y, derived in k steps, to its callers, the latest first, back to the asked pair x.
pub data Chain (rule : ℕ → Rule) (s : List ℕ) (x : Pair) (W : List ℕ) : Pair → ℕ → List Pair → Type 0 where
  asked : {y : Pair} {k : ℕ} → Known rule s x y k → number_of (length s) W y ≡ no_link → Chain rule s x W y k []
  called : {y z : Pair} {k j : ℕ} {l : List Pair} → Known rule s x y k → number_of (length s) W y ≡ link z → k < j → Chain rule s x W z j l
      → Chain rule s x W y k (z ∷ l)

unmoved : {rule : ℕ → Rule} {s : List ℕ} {x y z : Pair} {i k : ℕ} (v : ℕ) → Closed v rule → PairWithin v (length s) x → (W : List ℕ) (m : ℕ) → Known rule s x z i → Known rule s x y k → i < k
    → number_of (length s) (set W (cell (length s) z) m) y ≡ number_of (length s) W y
unmoved {s = s} {y = y} {z = z} v closed w W m a b h =
    get_or-set_other W (cell (length s) z) (cell (length s) y) m 0
    (λ e. apart a b h (cell_one v (length s) z y (known_within v closed w a) (known_within v closed w b) (sym e)))

module _ {rule : ℕ → Rule} {s : List ℕ} {x : Pair} {W : List ℕ} where
  pub chain_known : {y : Pair} {k : ℕ} {l : List Pair} → Chain rule s x W y k l → Known rule s x y k
  chain_known (asked a e) = a
  chain_known (called a e h c) = a

  -- What it holds for y is a link.
  pub chain_odd : {y : Pair} {k : ℕ} {l : List Pair} → Chain rule s x W y k l → (j : ℕ) × (number_of (length s) W y ≡ 2 * j + 1)
  chain_odd (asked a e) = (0, e)
  chain_odd (called {z = z} a e h c) = (packed z, e)

  -- A pair that is derived in fewer steps is none of them,
  pub not_in : {y z : Pair} {i k : ℕ} {l : List Pair} → Known rule s x z i → i < k → Chain rule s x W y k l → In z (y ∷ l) → ⊥
  not_in a h (asked b e) (inl q) = apart a b h q
  not_in a h (asked b e) (inr m) = m
  not_in a h (called b e n c) (inl q) = apart a b h q
  not_in a h (called b e n c) (inr m) = not_in a (omega arith) c m

  module _ (v : ℕ) (closed : Closed v rule) (within : PairWithin v (length s) x) where
    -- and a number stored for it changes no link.
    pub chain_set : {y z : Pair} (m : ℕ) {i k : ℕ} {l : List Pair} → Known rule s x z i → i < k → Chain rule s x W y k l
        → Chain rule s x (set W (cell (length s) z) m) y k l
    chain_set m a h (asked b e) = asked b (unmoved v closed within W m a b h ∙ e)
    chain_set m a h (called b e n c) = called b (unmoved v closed within W m a b h ∙ e) n (chain_set m a (omega arith) c)

-- The pair of a link.
pub link_pair : (v n m : ℕ) (z : Pair) → n ≤ 4096 → PairWithin v n z → m ≡ link z → (m / 16384) at (m / 2 % 8192) ≡ z
link_pair v n m (A at p) l w e = let h = w.position in ap₂ ◌at◌ (omega arith) (omega arith)

-- ---- The lines.

-- The number of a pair's line, which the work slice holds twice.
pub record HasLine (n : ℕ) (W : List ℕ) (ls : List Line) (z : Pair) : Type 0 where
  pub number : ℕ
  pub result : Result
  pub held_is : number_of n W z ≡ 2 * number
  pub stands : Stands ls number z result

-- Each cell holds 0, or its pair is on the way, or has a line; and every line is held.
pub record Noted (rule : ℕ → Rule) (s : List ℕ) (v : ℕ) (W : List ℕ) (ls : List Line) (way : List Pair) : Type 0 where
  pub marks : (z : Pair) → PairWithin v (length s) z → (number_of (length s) W z ≡ 0) ⊎ (In z way ⊎ HasLine (length s) W ls z)
  pub only : (z : Pair) (r : Result) (i : ℕ) → Stands ls i z r → PairWithin v (length s) z × (number_of (length s) W z ≡ 2 * i) × Has rule s z (result r)

stands_positive : {ls : List Line} {z : Pair} {r : Result} (i : ℕ) → Stands ls i z r → i ≢ 0
stands_positive zero h e = let k = h.line in true≢false (cc)
stands_positive (suc i) h e = omega arith

module _ {rule : ℕ → Rule} {s : List ℕ} {v : ℕ} {W : List ℕ} {ls : List Line} {y : Pair} {way : List Pair} (g : Noted rule s v W ls (y ∷ way)) where
  -- A pair has one line.
  pub alike : Alike ls
  alike z i j r t h k =
      let a = g.only z r i h in
      let b = g.only z t j k in
      let c = a.1 in
      let d = b.1 in
      let e = has_one rule s z (result r) (result t) a.2 b.2 in
      (omega arith, cc)

  -- A pair with a link has none.
  pub unwritten : (j : ℕ) → number_of (length s) W y ≡ 2 * j + 1 → Unwritten ls y
  unwritten j e i r h = let a = (g.only y r i h).1 in omega arith

  -- A pair that is not on the way, and for which the work slice holds a number, has one.
  pub lined : (z : Pair) → PairWithin v (length s) z → number_of (length s) W z ≢ 0 → ¬ In z (y ∷ way) → HasLine (length s) W ls z
  lined z i d n = elim (g.marks z i) [ inl e ↦ absurd (d e) | inr m ↦ elim m [ inl k ↦ absurd (n k) | inr h ↦ h ] ]

  module _ (z : Pair) (m : ℕ) (i : PairWithin v (length s) z) (below : cell (length s) z < length W) where
    other : (u : Pair) → cell (length s) u ≢ cell (length s) z → number_of (length s) (set W (cell (length s) z) m) u ≡ number_of (length s) W u
    other u d = get_or-set_other W (cell (length s) z) (cell (length s) u) m 0 d

    same : number_of (length s) (set W (cell (length s) z) m) z ≡ m
    same = get_or-set_same W (cell (length s) z) m 0 below

    moved : (more : List Line) (u : Pair) → cell (length s) u ≢ cell (length s) z → HasLine (length s) W ls u
        → HasLine (length s) (set W (cell (length s) z) m) (ls ++ more) u
    moved more u d h = record { number = h.number; result = h.result; held_is = other u d ∙ h.held_is; stands = stands_before more h.stands }

    -- A called pair is linked: it is on the way.
    pub noted_down : number_of (length s) W z ≡ 0 → Noted rule s v (set W (cell (length s) z) m) ls (z ∷ y ∷ way)
    noted_down blank = record {
      marks = λ u j. elim (ℕ_discrete (cell (length s) u) (cell (length s) z)) [
        | yes e ↦ inr (inl (inl (cell_one v (length s) u z j i e)))
        | no d ↦ elim (g.marks u j) [
          | inl e ↦ inl (other u d ∙ e)
          | inr k ↦ elim k [
            | inl o ↦ inr (inl (inr o))
            | inr h ↦ inr (inr (record { number = h.number; result = h.result; held_is = other u d ∙ h.held_is; stands = h.stands }))
          ]
        ]
      ];
      only = λ u r k h.
          let o = g.only u r k h in
          let p = stands_positive k h in
          let q = o.1 in
          (o.0, other u (λ e. let w = ap (λ (c : ℕ). get_or W c 0) e in p (omega arith)) ∙ o.1, o.2);
    }

-- The pair at the end of the way has its line, the last one.
module _ {rule : ℕ → Rule} {s : List ℕ} {v : ℕ} {W : List ℕ} {ls : List Line} {y : Pair} {way : List Pair} (g : Noted rule s v W ls (y ∷ way))
    (j : ℕ) (odd : number_of (length s) W y ≡ 2 * j + 1) (i : PairWithin v (length s) y) (below : cell (length s) y < length W) (r : Result) (has : Has rule s y (result r))
    (a b m : ℕ) (number : m ≡ 2 * (length ls + 1)) where
  pub noted_line : Noted rule s v (set W (cell (length s) y) m) (ls ++ line_of y r a b ∷ []) way
  noted_line = record {
    marks = λ u k. elim (ℕ_discrete (cell (length s) u) (cell (length s) y)) [
      | yes e ↦
          let z = cell_one v (length s) y u i k (sym e) in
          inr (inr (subst (HasLine (length s) (set W (cell (length s) y) m) (ls ++ line_of y r a b ∷ [])) z (record {
            number = length ls + 1;
            result = r;
            held_is = same g y m i below ∙ number;
            stands = stands_last ls y r a b;
          })))
      | no d ↦ elim (g.marks u k) [
        | inl e ↦ inl (other g y m i below u d ∙ e)
        | inr n ↦ elim n [
          | inl o ↦ elim o [ inl e ↦ absurd (d (ap (cell (length s)) e)) | inr w ↦ inr (inl w) ]
          | inr h ↦ inr (inr (moved g y m i below (line_of y r a b ∷ []) u d h))
        ]
      ]
    ];
    only = λ u t k h. elim (stands_cases ls y r a b h) [
      | inl o ↦
          let q = g.only u t k o in
          let w = q.1 in
          (q.0, other g y m i below u (λ e. let z = ap (λ (c : ℕ). get_or W c 0) e in omega arith) ∙ q.1, q.2)
      | inr o ↦
          let n = o.0 in (
            subst (PairWithin v (length s)) o.1 i,
            subst (λ (z : Pair). number_of (length s) (set W (cell (length s) y) m) z ≡ 2 * k) o.1 (same g y m i below ∙ number ∙ omega arith),
            subst (λ (z : Pair). Has rule s z (result t)) o.1 (subst (λ (q : Result). Has rule s y (result q)) o.2 has),
          )
    ];
  }
