-- Closing the open cells one by one, along the trail. Assumes nothing.
use mathlib.Core.Path.{◌≡◌, refl, sym, ap, ◌∙◌, subst}
use mathlib.Core.Bool.{Bool}
use mathlib.Core.List.Memᴰ
use mathlib.Core.List.{List, [], ◌∷◌, reverse, Memᴰ}
use mathlib.Core.Logic.{◌⊎◌, inl, inr, ◌≢◌}
use Prim.Native.Nat.{ℕ, suc, ◌+◌, ◌-◌, ◌*◌, ◌/◌, ◌%◌, ◌≤◌, ◌<◌}
use native.Mathlib.Decide.{ℕ_discrete}
use native.Mathlib.Omega.{arith}
use lib.ListN.{length, get_or, take, drop}
use Rattle.std.proofs.lemmas.Grind.{common_steps}
use Rattle.std.proofs.lemmas.List.{length-take-le, length-reverse, get_or-reverse, get_or-take, get_or_default}
use Rattle.schema.specs.Cells.{held_at, reach_at, stored, HasCell}
use Rattle.schema.proofs.Cells.{stored_there, stored_reach, stored_elsewhere, reach_elsewhere, stored_later, stored_length}
use Rattle.schema.specs.Derivation.{Pair, ◌at◌}
use Rattle.schema.specs.Table.{Within, cell, cells, held}
use Rattle.schema.proofs.Cell.{pair_of, PairWithin, cell_below, cell_one, cell_pair, pair_within}
use Rattle.cells.specs.Packed.{entry}
use Rattle.step.specs.Codes.{open_mark}
use Rattle.finish.specs.Closing.{Trail, only_asked, called_by, CloseReady, Closes}
use Rattle.finish.proofs.Entry.{entry_parts}

-- With no caller in the work slice the asked pair is the only one;
at_asked : {W : List ℕ} {root y : Pair} {ps : List Pair} → Trail W root 0 (y ∷ ps) → ps ≡ []
at_asked only_asked = refl

-- else the latest caller is next.
pub record Next (W : List ℕ) (root y : Pair) (d : ℕ) (ps : List Pair) : Type 0 where
  pub caller : Pair
  pub second : Bool
  pub rest : List Pair
  pub rest_is : ps ≡ caller ∷ rest
  pub name_is : get_or W d 0 ≡ entry second caller
  pub trail : Trail W root d (caller ∷ rest)
  pub fresh : ¬ Memᴰ y ps

next_of : {W : List ℕ} {root y : Pair} {d : ℕ} {ps : List Pair} → Trail W root (suc d) (y ∷ ps) → Next W root y d ps
next_of (called_by {x = x} {ps = ps} k f e t) = record { caller = x; second = k; rest = ps; rest_is = refl; name_is = e; trail = t; fresh = f }

-- Before the cell of a at p is closed, with c and the reach m, from the table T₀; d callers are left.
pub record Closing (n v c m : ℕ) (T₀ T W : List ℕ) (a p d : ℕ) : Type 0 where
  pub root : Pair
  pub rest : List Pair
  pub trail : Trail W root d ((a at p) ∷ rest)
  pub deep : d ≤ cells v n
  pub within_all : (y : Pair) → Memᴰ y ((a at p) ∷ rest) → PairWithin v n y
  pub open_all : (y : Pair) → Memᴰ y ((a at p) ∷ rest) → held n T y ≡ open_mark
  pub kept : (i : ℕ) → held_at T₀ i ≢ open_mark → (held_at T i ≡ held_at T₀ i) × (reach_at T i ≡ reach_at T₀ i)
  pub done : (i : ℕ) → i < cells v n → held_at T₀ i ≡ open_mark → ((held_at T i ≡ c) × (reach_at T i ≡ m)) ⊎ Memᴰ (pair_of n i) ((a at p) ∷ rest)
  pub later : drop (2 * cells v n) T ≡ drop (2 * cells v n) T₀
  pub size : length T ≡ length T₀

-- Once the cell of a at p is closed, which was so before in the table `before`; the cells of `done` callers of `depth` are.
pub record Closed (n v c m depth : ℕ) (T₀ T W : List ℕ) (done : ℕ) : Type 0 where
  pub a : ℕ
  pub p : ℕ
  pub before : List ℕ
  pub left : ℕ
  pub closing : Closing n v c m T₀ before W a p left
  pub left_is : left + done ≡ depth
  pub table_is : T ≡ stored before (cell n (a at p)) c m

-- w is the k-th of the first d numbers from their end.
abbrev pub FromEnd : List ℕ → ℕ → ℕ → ℕ → Type 0
FromEnd W d k w = (k < length (reverse (take d W))) × (w ≡ get_or (reverse (take d W)) k w)

from_end : (W : List ℕ) (d k : ℕ) {w : ℕ} → d ≤ length W → FromEnd W d k w → (k < d) × (w ≡ get_or W (d - (k + 1)) 0)
from_end W d k {w} l h =
    let few : length (take d W) ≡ d = length-take-le d W l in
    let more = h.0 in
    let size = length-reverse (take d W) in
    let turned = get_or-reverse (take d W) k w (omega arith) in
    (omega arith, grind (arith, common_steps, get_or-take, get_or_default))

module _ {n v B q c m depth : ℕ} {T₀ W : List ℕ} (r : CloseReady n v B q depth c m T₀ W) where
  within_pair : (y : Pair) → Memᴰ y ((B at q) ∷ r.rest) → PairWithin v n y
  within_pair (C at D) m = r.within_all C D m

  open_pair : (y : Pair) → Memᴰ y ((B at q) ∷ r.rest) → held n T₀ y ≡ open_mark
  open_pair (C at D) m = r.open_all C D m

  on_pair : (y : Pair) → PairWithin v n y → held n T₀ y ≡ open_mark → Memᴰ y ((B at q) ∷ r.rest)
  on_pair (C at D) w e = r.on_trail C D w e

  pub begins : Closing n v c m T₀ T₀ W B q depth
  begins = record {
    root = r.root;
    rest = r.rest;
    trail = r.trail;
    deep = r.deep;
    within_all = within_pair;
    open_all = open_pair;
    kept = λ i d. (refl, refl);
    done = λ i l e. inr (on_pair (pair_of n i) (pair_within v n i l) (ap (λ (j : ℕ). held_at T₀ j) (cell_pair n i) ∙ e));
    later = refl;
    size = refl;
  }

  module _ {T : List ℕ} {a d left : ℕ} (g : Closing n v c m T₀ T W a d left) where
    pub top_within : Within v n a d
    top_within = g.within_all (a at d) (Memᴰ.head refl)

    top_below : cell n (a at d) < cells v n
    top_below = cell_below v n (a at d) top_within

    pub top_in : HasCell T (cell n (a at d))
    top_in = let l = top_below in let k = r.room in let z = g.size in omega arith

    top_open : held_at T (cell n (a at d)) ≡ open_mark
    top_open = g.open_all (a at d) (Memᴰ.head refl)

    -- What is so of the table once the cell is closed.
    kept_after : (i : ℕ) → held_at T₀ i ≢ open_mark
        → (held_at (stored T (cell n (a at d)) c m) i ≡ held_at T₀ i) × (reach_at (stored T (cell n (a at d)) c m) i ≡ reach_at T₀ i)
    kept_after i f = elim (ℕ_discrete i (cell n (a at d))) [
      | yes e ↦ absurd (f (sym (g.kept i f).0 ∙ ap (λ (j : ℕ). held_at T j) e ∙ top_open))
      | no e ↦ (stored_elsewhere T (cell n (a at d)) i c m e ∙ (g.kept i f).0, reach_elsewhere T (cell n (a at d)) i c m e ∙ (g.kept i f).1)
    ]

    abbrev Done : List ℕ → ℕ → Type 0
    Done U i = (held_at U i ≡ c) × (reach_at U i ≡ m)

    done_after : (i : ℕ) → i < cells v n → held_at T₀ i ≡ open_mark → Done (stored T (cell n (a at d)) c m) i ⊎ Memᴰ (pair_of n i) g.rest
    done_after i l e = elim (ℕ_discrete i (cell n (a at d))) [
      | yes h ↦ inl (subst (Done (stored T (cell n (a at d)) c m)) (sym h)
          (stored_there T (cell n (a at d)) c m top_in, stored_reach T (cell n (a at d)) c m top_in))
      | no h ↦ was h (g.done i l e)
    ]
      where
        was : (i ≡ cell n (a at d) → ⊥) → Done T i ⊎ Memᴰ (pair_of n i) ((a at d) ∷ g.rest)
            → Done (stored T (cell n (a at d)) c m) i ⊎ Memᴰ (pair_of n i) g.rest
        was h (inl k) = inl (stored_elsewhere T (cell n (a at d)) i c m h ∙ k.0, reach_elsewhere T (cell n (a at d)) i c m h ∙ k.1)
        was h (inr j) = elim (Memᴰ.cases_cons j) [
          | inl k ↦ absurd (h (sym (cell_pair n i) ∙ ap (cell n) k))
          | inr k ↦ inr k
        ]

    -- The asked pair was the last.
    closes : left ≡ 0 → Closes (cells v n) c T₀ (stored T (cell n (a at d)) c m)
    closes e =
        let none = at_asked (subst (λ (k : ℕ). Trail W g.root k ((a at d) ∷ g.rest)) e g.trail) in
        record {
          opened = λ i l h. elim (done_after i l h) [
            | inl k ↦ (k.0, k.1 ∙ r.no_reach)
            | inr j ↦ absurd (Memᴰ.not-nil (subst (Memᴰ (pair_of n i)) none j))
          ];
          others = kept_after;
          later = stored_later (cells v n) T (cell n (a at d)) c m top_below ∙ g.later;
          size = stored_length T (cell n (a at d)) c m ∙ g.size;
        }

    -- Its caller is next.
    goes_on : (under : ℕ) → left ≡ suc under
        → Closing n v c m T₀ (stored T (cell n (a at d)) c m) W (get_or W under 0 / 16384) (get_or W under 0 / 2 % 8192) under
    goes_on under down = next (next_of (subst (λ (k : ℕ). Trail W g.root k ((a at d) ∷ g.rest)) down g.trail))
      where
        next : Next W g.root (a at d) under g.rest → Closing n v c m T₀ (stored T (cell n (a at d)) c m) W (get_or W under 0 / 16384) (get_or W under 0 / 2 % 8192) under
        next k = named k.caller refl
          where
            named : (y : Pair) → k.caller ≡ y → Closing n v c m T₀ (stored T (cell n (a at d)) c m) W (get_or W under 0 / 16384) (get_or W under 0 / 2 % 8192) under
            named (C at D) y =
                let on : (z : Pair) → Memᴰ z ((C at D) ∷ k.rest) → Memᴰ z g.rest =
                λ z i. subst (Memᴰ z) (sym (k.rest_is ∙ ap (λ (u : Pair). u ∷ k.rest) y)) i in
                let w : Within v n C D = g.within_all (C at D) (Memᴰ.tail (on (C at D) (Memᴰ.head refl))) in
                let e = entry_parts k.second C D n r.short w.position (k.name_is ∙ ap (entry k.second) y) in
                rw (e.variable, e.position) (record {
                  root = g.root;
                  rest = k.rest;
                  trail = subst (λ (u : Pair). Trail W g.root under (u ∷ k.rest)) y k.trail;
                  deep = let l = g.deep in omega arith;
                  within_all = λ z i. g.within_all z (Memᴰ.tail (on z i));
                  open_all = λ z i.
                      stored_elsewhere T (cell n (a at d)) (cell n z) c m
                      (λ e. k.fresh (subst (λ (u : Pair). Memᴰ u g.rest)
                      (cell_one v n z (a at d) (g.within_all z (Memᴰ.tail (on z i))) top_within e) (on z i)))
                      ∙ g.open_all z (Memᴰ.tail (on z i));
                  kept = kept_after;
                  done = λ i l h. elim (done_after i l h) [
                    | inl j ↦ inl j
                    | inr j ↦ inr (subst (Memᴰ (pair_of n i)) (k.rest_is ∙ ap (λ (u : Pair). u ∷ k.rest) y) j)
                  ];
                  later = stored_later (cells v n) T (cell n (a at d)) c m top_below ∙ g.later;
                  size = stored_length T (cell n (a at d)) c m ∙ g.size;
                })

  -- With no caller left every cell is closed;
  pub closed_all : {T : List ℕ} {done : ℕ} → Closed n v c m depth T₀ T W done → done ≡ depth → Closes (cells v n) c T₀ T
  closed_all k e = let l = k.left_is in subst (Closes (cells v n) c T₀) (sym k.table_is) (closes k.closing (omega arith))

  -- else the next is the caller w.
  module _ {T : List ℕ} {done w : ℕ} (k : Closed n v c m depth T₀ T W done) (h : FromEnd W depth done w) where
    pub next_caller : Closing n v c m T₀ T W (w / 16384) (w / 2 % 8192) (depth - (done + 1))
    next_caller =
        let l = k.left_is in
        let d = r.deep in
        let o = r.work_room in
        let e = from_end W depth done (omega arith) h in
        let f = e.0 in
        rw (k.table_is, e.1) (goes_on k.closing (depth - (done + 1)) (omega arith))

    pub closed_next : {T' : List ℕ} {more : ℕ} → T' ≡ stored T (cell n ((w / 16384) at (w / 2 % 8192))) c m → more ≡ done + 1
        → Closed n v c m depth T₀ T' W more
    closed_next e f =
        let d = r.deep in
        let o = r.work_room in
        let l = (from_end W depth done (omega arith) h).0 in
        record {
          a = w / 16384;
          p = w / 2 % 8192;
          before = T;
          left = depth - (done + 1);
          closing = next_caller;
          left_is = omega arith;
          table_is = e;
        }
