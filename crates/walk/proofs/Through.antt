-- The walk's table while it goes on: what holds of it, and what each step keeps. Assumes nothing.
use mathlib.Core.Path.{◌≡◌, refl, sym, ap, ◌∙◌, subst}
use mathlib.Core.Bool.{Bool, true≢false}
use mathlib.Core.List.{List, [], ◌∷◌}
use mathlib.Core.Logic.{◌⊎◌, inl, inr}
use Prim.Native.Nat.{ℕ, ◌*◌, ◌≤◌, ◌<◌}
use native.Mathlib.Decide.{ℕ_discrete}
use native.Mathlib.Omega.{arith}
use lib.ListN.{length, drop}
use Rattle.calls.proofs.Follow.{In}
use Rattle.calls.proofs.Holding.{any_kept}
use Rattle.calls.proofs.Invariant.{Inv, Bounded, inv_start, open_next, settle_top, link_calls, top_reach}
use Rattle.calls.proofs.Reach.{Reach, itself, reach_on}
use Rattle.calls.proofs.Table.{Mark, blank, opened, settled, Put, cost, weight, weight_falls}
use Rattle.grammar.specs.Rule.{Rule}
use Rattle.schema.specs.Cells.{held_at, reach_at, stored, HasCell}
use Rattle.schema.proofs.Cells.{stored_there, stored_reach, stored_elsewhere, reach_elsewhere, stored_later, stored_length, stored_twice, view, view_stored}
use Rattle.schema.specs.Closed.{Closed}
use Rattle.schema.specs.Derivation.{Pair, ◌at◌, Result, success, failure, gives, act, second}
use Rattle.schema.specs.Examined.{leaf_reach_of, Examines, leaf, node}
use Rattle.schema.specs.Table.{Within, cell, cells, held, reach}
use Rattle.schema.proofs.Answer.{gts_cells}
use Rattle.schema.proofs.Held.{held_cells, held_bounded}
use Rattle.schema.proofs.Cell.{PairWithin, cell_below, cell_one}
use Rattle.step.specs.Codes.{open_mark, Unsettled, Settled, Fits, Called, first_called, second_called, Given, by_leaf, by_calls}
use Rattle.walk.specs.Walk.{before, Reaching, WalkReady}
use Rattle.step.proofs.Within.{called_within}
use Rattle.walk.proofs.Marks.{mark, mark_open, mark_settled, mark_blank, stands, settled_one, settled_closed}
use Rattle.walk.proofs.Bridge.{top_free, called_link, given_fits}

-- What holds all through a question about x, with the open cells l: O is the table before x was opened, T as it is.
pub record Through (rule : ℕ → Rule) (s : List ℕ) (v : ℕ) (x : Pair) (O T l : List ℕ) : Type 0 where
  pub inv : Inv (held_cells rule s (view mark O)) (cells v (length s)) (view mark O) (cell (length s) x) (view mark T) l
  pub fits_before : (i : ℕ) → i < cells v (length s) → Fits (length s) (held_at O i)
  pub fits : (i : ℕ) → i < cells v (length s) → Fits (length s) (held_at T i)
  pub changed : (i : ℕ) → i < cells v (length s) → ((held_at T i ≡ held_at O i) × (reach_at T i ≡ reach_at O i)) ⊎ Reach (held_cells rule s (view mark O)) (cell (length s) x) i
  pub reaching : Reaching rule s v O → Reaching rule s v T
  pub later : drop (2 * cells v (length s)) T ≡ drop (2 * cells v (length s)) O
  pub size : length T ≡ length O

fits_set : (n N : ℕ) (T : List ℕ) (y c m : ℕ) → HasCell T y → Fits n c → ((i : ℕ) → i < N → Fits n (held_at T i)) → (i : ℕ) → i < N → Fits n (held_at (stored T y c m) i)
fits_set n N T y c m l f h i k = elim (ℕ_discrete i y) [
  | yes e ↦ subst (Fits n) (sym (ap (λ (j : ℕ). held_at (stored T y c m) j) e ∙ stored_there T y c m l)) f
  | no d ↦ subst (Fits n) (sym (stored_elsewhere T y i c m d)) (h i k)
]

-- A store of a result with its reach, or of what is no result.
reaching_set : (rule : ℕ → Rule) (s : List ℕ) (v : ℕ) (T : List ℕ) (y c m : ℕ) → HasCell T y
    → ((A p : ℕ) (r : Result) → Within v (length s) A p → cell (length s) (A at p) ≡ y → Settled (length s) c r → Examines rule s (A at p) r m)
    → Reaching rule s v T → Reaching rule s v (stored T y c m)
reaching_set rule s v T y c m l new old A p r w h = elim (ℕ_discrete (cell (length s) (A at p)) y) [
  | yes e ↦
      subst (Examines rule s (A at p) r) (sym (ap (λ (j : ℕ). reach_at (stored T y c m) j) e ∙ stored_reach T y c m l))
      (new A p r w e (subst (λ (k : ℕ). Settled (length s) k r) (ap (λ (j : ℕ). held_at (stored T y c m) j) e ∙ stored_there T y c m l) h))
  | no d ↦
      subst (Examines rule s (A at p) r) (sym (reach_elsewhere T y (cell (length s) (A at p)) c m d))
      (old A p r w (subst (λ (k : ℕ). Settled (length s) k r) (stored_elsewhere T y (cell (length s) (A at p)) c m d) h))
]

pub reaching_pair : (rule : ℕ → Rule) (s : List ℕ) (v : ℕ) (T : List ℕ) → Reaching rule s v T → (x : Pair) (r : Result) → PairWithin v (length s) x
    → Settled (length s) (held (length s) T x) r → Examines rule s x r (reach (length s) T x)
reaching_pair rule s v T k (A at p) r w h = k A p r w h

-- A cell that holds a result fits.
pub code_fits : (n c : ℕ) (r : Result) → Settled n c r → Fits n c
code_fits n c (success q) k = let e = k.code_is in let f = k.ends in inl (omega arith)
code_fits n c failure k = let e = k.code_is in inl (omega arith)

-- Whatever the table before holds, what the walk calls has a cell.
pub start_bounded : (rule : ℕ → Rule) (s : List ℕ) (v : ℕ) (closed : Closed v rule) (O : List ℕ) → ((i : ℕ) → i < cells v (length s) → Fits (length s) (held_at O i))
    → Bounded (held_cells rule s (view mark O)) (cells v (length s))
start_bounded rule s v closed O f =
    held_bounded rule s v closed (view mark O) (λ i r l e. (stands (length s) (held_at O i) (settled r) (f i l) e).ends)

module _ (rule : ℕ → Rule) (s : List ℕ) (v : ℕ) (closed : Closed v rule) (few : v ≤ 256) (short : length s ≤ 4096) where
  module _ (A p : ℕ) (T₀ W₀ : List ℕ) (r : WalkReady rule s v A p T₀ W₀) where
    start_fits : (i : ℕ) → i < cells v (length s) → Fits (length s) (held_at (before (length s) (A at p) T₀) i)
    start_fits =
        let b = cell_below v (length s) (A at p) r.within in
        let m = r.walkable.room in
        fits_set (length s) (cells v (length s)) T₀ (cell (length s) (A at p)) 0 0 (omega arith) (inl (omega arith)) r.walkable.fits

    -- The beginning: the asked pair is open, and no other.
    pub begins_through : Through rule s v (A at p) (before (length s) (A at p) T₀) T₀ (cell (length s) (A at p) ∷ [])
    begins_through =
        let n = length s in
        let x = cell n (A at p) in
        let b = cell_below v n (A at p) r.within in
        let m = r.walkable.room in
        let l : HasCell T₀ x = omega arith in
        let z = mark_blank 0 (record { no_failure = λ e. omega arith; no_success = omega arith }) in
        let o : Put (view mark (before n (A at p) T₀)) x opened (view mark T₀) =
        record { there = mark_open (held_at T₀ x) r.opened; others = λ y d. ap mark (sym (stored_elsewhere T₀ x y 0 0 d)) } in
        record {
          inv =
              inv_start (held_cells rule s (view mark (before n (A at p) T₀))) (cells v n) x
              (any_kept (gts_cells rule s) (view mark (before n (A at p) T₀)) (cells v n)
              (λ i k e. r.no_open i k (stands n (held_at (before n (A at p) T₀) i) opened (start_fits i k) e))) b
              (ap mark (stored_there T₀ x 0 0 l) ∙ z) o;
          fits_before = start_fits;
          fits = r.walkable.fits;
          changed = λ i k. elim (ℕ_discrete i x) [
            | yes e ↦ inr (subst (Reach (held_cells rule s (view mark (before n (A at p) T₀))) x) (sym e) itself)
            | no d ↦ inl (sym (stored_elsewhere T₀ x i 0 0 d), sym (reach_elsewhere T₀ x i 0 0 d))
          ];
          reaching = λ k B q t w h. elim (ℕ_discrete (cell n (B at q)) x) [
            | yes e ↦ absurd (settled_closed t short h (ap (λ (j : ℕ). held_at T₀ j) e ∙ r.opened))
            | no d ↦
                subst (Examines rule s (B at q) t) (reach_elsewhere T₀ x (cell n (B at q)) 0 0 d)
                (k B q t w (subst (λ (u : ℕ). Settled n u t) (sym (stored_elsewhere T₀ x (cell n (B at q)) 0 0 d)) h))
          ];
          later = sym (stored_later (cells v n) T₀ x 0 0 b);
          size = sym (stored_length T₀ x 0 0);
        }

  module _ {x : Pair} {O T : List ℕ} {l : List ℕ} (g : Through rule s v x O T l) where
    changed_set : (y c m : ℕ) → Reach (held_cells rule s (view mark O)) (cell (length s) x) y → (i : ℕ) → i < cells v (length s)
        → ((held_at (stored T y c m) i ≡ held_at O i) × (reach_at (stored T y c m) i ≡ reach_at O i)) ⊎ Reach (held_cells rule s (view mark O)) (cell (length s) x) i
    changed_set y c m r i l = elim (ℕ_discrete i y) [
      | yes e ↦ inr (subst (Reach (held_cells rule s (view mark O)) (cell (length s) x)) (sym e) r)
      | no d ↦ was (g.changed i l) (stored_elsewhere T y i c m d) (reach_elsewhere T y i c m d)
    ]
      where
        was : {j k j' k' : ℕ} → ((held_at T i ≡ j) × (reach_at T i ≡ k)) ⊎ Reach (held_cells rule s (view mark O)) (cell (length s) x) i → j' ≡ held_at T i → k' ≡ reach_at T i
            → ((j' ≡ j) × (k' ≡ k)) ⊎ Reach (held_cells rule s (view mark O)) (cell (length s) x) i
        was (inl h) q u = inl (q ∙ h.0, u ∙ h.1)
        was (inr h) q u = inr h

  -- ---- The latest open pair gets its result.

  module _ {x : Pair} {O T : List ℕ} {a p : ℕ} {stack : List ℕ} (within : Within v (length s) a p)
      (g : Through rule s v x O T (cell (length s) (a at p) ∷ stack)) (room : 2 * cells v (length s) ≤ length O) where
    top_below : cell (length s) (a at p) < cells v (length s)
    top_below = cell_below v (length s) (a at p) within

    top_in : HasCell T (cell (length s) (a at p))
    top_in = let l = top_below in let z = g.size in omega arith

    module _ (c : ℕ) (r : Result) (m : Settled (length s) c r) (far : ℕ) (given : Given rule s T (a at p) r far) where
      pub settle_put : Put (view mark T) (cell (length s) (a at p)) (settled r) (view mark (stored T (cell (length s) (a at p)) c far))
      settle_put =
          subst (λ (k : Mark Result). Put (view mark T) (cell (length s) (a at p)) k (view mark (stored T (cell (length s) (a at p)) c far)))
          (mark_settled (length s) c r short m) (view_stored mark T (cell (length s) (a at p)) c far top_in)

      pub settle_falls : weight (view mark (stored T (cell (length s) (a at p)) c far)) (cells v (length s)) < weight (view mark T) (cells v (length s))
      unfolding cost
      settle_falls =
          let o = ap cost (g.inv.on_open (cell (length s) (a at p)) (inl refl)) in
          weight_falls (cells v (length s)) top_below settle_put (omega arith)

      settle_inv : Inv (held_cells rule s (view mark O)) (cells v (length s)) (view mark O) (cell (length s) x) (view mark (stored T (cell (length s) (a at p)) c far)) stack
      settle_inv =
          let bounded = start_bounded rule s v closed O g.fits_before in
          settle_top (held_cells rule s (view mark O)) (cells v (length s)) bounded g.inv
          (given_fits rule s v closed short O T bounded within g.inv given) settle_put

      -- Its reach is the one that the table gives.
      given_examined : {y : Pair} {t : Result} {k : ℕ} → PairWithin v (length s) y → Reaching rule s v T → Given rule s T y t k → Examines rule s y t k
      given_examined w k (by_leaf e) = leaf e
      given_examined w k (by_calls {A} {B} {C} {D} {p = q} {t} {r = u} e h j) =
          node e (reaching_pair rule s v T k (B at q) t (called_within rule s v closed {T = T} w (first_called e)) h)
          (reaching_pair rule s v T k (second C D q t) u (called_within rule s v closed {T = T} w (second_called e h)) j)

      settle_reaching : Reaching rule s v T → Reaching rule s v (stored T (cell (length s) (a at p)) c far)
      settle_reaching k =
          reaching_set rule s v T (cell (length s) (a at p)) c far top_in
          (λ B q t w e h. subst (λ (u : Result). Examines rule s (B at q) u far) (settled_one (length s) c r t m h)
          (subst (λ (y : Pair). Examines rule s y r far) (sym (cell_one v (length s) (B at q) (a at p) w within e)) (given_examined within k given)))
          k

      -- What holds once it is stored.
      pub settle_through : Through rule s v x O (stored T (cell (length s) (a at p)) c far) stack
      settle_through =
          let n = length s in
          let N = cells v n in
          let top = cell n (a at p) in
          record {
            inv = settle_inv;
            fits_before = g.fits_before;
            fits = fits_set n N T top c far top_in (code_fits n c r m) g.fits;
            changed = changed_set g top c far (top_reach (held_cells rule s (view mark O)) N (start_bounded rule s v closed O g.fits_before) g.inv);
            reaching = λ k. settle_reaching (g.reaching k);
            later = stored_later N T top c far top_below ∙ g.later;
            size = stored_length T top c far ∙ g.size;
          }

      pub settle_there : view mark (stored T (cell (length s) (a at p)) c far) (cell (length s) (a at p)) ≡ settled r
      settle_there = settle_put.there

  -- ---- A called pair that is to be opened.

  module _ {x : Pair} {O T : List ℕ} {a p : ℕ} {stack : List ℕ} (within : Within v (length s) a p)
      (g : Through rule s v x O T (cell (length s) (a at p) ∷ stack)) (room : 2 * cells v (length s) ≤ length O)
      {k : Bool} (b q : ℕ) (called : Called rule s T k (a at p) (b at q)) (new : Unsettled (held (length s) T (b at q))) where
    pub open_within : Within v (length s) b q
    open_within = called_within rule s v closed within called

    open_below : cell (length s) (b at q) < cells v (length s)
    open_below = cell_below v (length s) (b at q) open_within

    open_in : HasCell T (cell (length s) (b at q))
    open_in = let l = open_below in let z = g.size in omega arith

    pub open_put : Put (view mark T) (cell (length s) (b at q)) opened (view mark (stored T (cell (length s) (b at q)) open_mark 0))
    open_put =
        subst (λ (m : Mark Result). Put (view mark T) (cell (length s) (b at q)) m (view mark (stored T (cell (length s) (b at q)) open_mark 0)))
        (mark_open open_mark refl) (view_stored mark T (cell (length s) (b at q)) open_mark 0 open_in)

    pub open_blank : view mark T (cell (length s) (b at q)) ≡ blank
    open_blank = mark_blank (held (length s) T (b at q)) new

    pub open_falls : weight (view mark (stored T (cell (length s) (b at q)) open_mark 0)) (cells v (length s)) < weight (view mark T) (cells v (length s))
    unfolding cost
    open_falls = let c = ap cost open_blank in weight_falls (cells v (length s)) open_below open_put (omega arith)

    -- What holds once it is opened.
    pub open_through : Through rule s v x O (stored T (cell (length s) (b at q)) open_mark 0) (cell (length s) (b at q) ∷ cell (length s) (a at p) ∷ stack)
    open_through =
        let n = length s in
        let N = cells v n in
        let y = cell n (b at q) in
        let bounded = start_bounded rule s v closed O g.fits_before in
        let link = called_link rule s v closed short O T within (top_free O T (cell (length s) (a at p)) g.inv) called in
        let calls = link_calls (held_cells rule s (view mark O)) N bounded g.inv.sound (cell_below v n (a at p) within) link in
        let reach = reach_on (held_cells rule s (view mark O)) (top_reach (held_cells rule s (view mark O)) N (start_bounded rule s v closed O g.fits_before) g.inv) calls.1 in
        record {
          inv = open_next (held_cells rule s (view mark O)) N bounded g.inv link open_blank open_put;
          fits_before = g.fits_before;
          fits = fits_set n N T y open_mark 0 open_in (inr refl) g.fits;
          changed = changed_set g y open_mark 0 reach;
          reaching = λ k. reaching_set rule s v T y open_mark 0 open_in (λ B u t w e h. absurd (settled_closed t short h refl)) (g.reaching k);
          later = stored_later N T y open_mark 0 open_below ∙ g.later;
          size = stored_length T y open_mark 0 ∙ g.size;
        }

    -- It is not open yet.
    pub open_new : ¬ In (cell (length s) (b at q)) (cell (length s) (a at p) ∷ stack)
    open_new i = let o = g.inv.on_open (cell (length s) (b at q)) i in let h = open_blank in true≢false (cc)

    -- ---- A leaf gets its result at once: it is opened and settled.

    module _ (c : ℕ) (r : Result) (m : Settled (length s) c r) (far : ℕ) (e : act rule s (b at q) ≡ gives r) (f : far ≡ leaf_reach_of rule (b at q)) where
      leaf_given : Given rule s (stored T (cell (length s) (b at q)) open_mark 0) (b at q) r far
      leaf_given = subst (Given rule s (stored T (cell (length s) (b at q)) open_mark 0) (b at q) r) (sym f) (by_leaf e)

      pub leaf_through : Through rule s v x O (stored T (cell (length s) (b at q)) c far) (cell (length s) (a at p) ∷ stack)
      leaf_through =
          subst (λ (U : List ℕ). Through rule s v x O U (cell (length s) (a at p) ∷ stack)) (stored_twice T (cell (length s) (b at q)) open_mark 0 c far)
          (settle_through open_within open_through room c r m far leaf_given)

      pub leaf_falls : weight (view mark (stored T (cell (length s) (b at q)) c far)) (cells v (length s)) < weight (view mark T) (cells v (length s))
      leaf_falls =
          let i = open_falls in
          let h = settle_falls open_within open_through room c r m far leaf_given in
          let z = ap (λ (U : List ℕ). weight (view mark U) (cells v (length s))) (stored_twice T (cell (length s) (b at q)) open_mark 0 c far) in
          omega arith
