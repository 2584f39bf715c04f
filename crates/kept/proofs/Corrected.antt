-- Right of the corrected byte every outcome and its reach stays: calls do not lead back to the left. So does a result that looked at bytes before it
-- only. Assumes nothing.
use mathlib.Core.List.{List}
use mathlib.Core.Logic.{◌≢◌}
use mathlib.Core.Path.{◌≡◌, sym, ap, ◌∙◌, subst}
use Prim.Native.Nat.{ℕ, ◌≤◌, ◌<◌}
use native.Mathlib.Omega.{arith}
use lib.Dec.{ltb}
use lib.ListN.{length}
use Rattle.calls.proofs.Chain.{Calls, to_first, to_second}
use Rattle.grammar.specs.Rule.{Rule}
use Rattle.schema.specs.Derivation.{Pair, ◌at◌, Result, success, failure, act, second, Derives, Outcome, result, stopped, loop, Has}
use Rattle.schema.specs.Examined.{Examines, leaf, node, Reaches}
use Rattle.schema.proofs.Ends.{position_of, EndsWithin, derives_ends}
use Rattle.schema.proofs.Examined.{examines_derives, examines_same}
use Rattle.schema.proofs.System.{gts, kind_calls, first_is, second_is, from_done}
use Rattle.schema.proofs.TwoInputs.{act_same, has_same}
use Rattle.kept.specs.Differs.{DiffersAt}

module _ (rule : ℕ → Rule) (s s' : List ℕ) (c : ℕ) (d : DiffersAt c s s') where
  -- At any other position than c a rule does the same.
  pub act_elsewhere : (A p : ℕ) → p ≢ c → act rule s' (A at p) ≡ act rule s (A at p)
  act_elsewhere A p n = act_same (rule A) s s' p (d.same p n) (ap (ltb p) d.size)

  -- The pairs right of c.
  pub record Right (x : Pair) : Type 0 where
    pub above : c < position_of x
    pub inside : position_of x ≤ length s

  right_act : (x : Pair) → Right x → act rule s' x ≡ act rule s x
  right_act (A at p) r = act_elsewhere A p (λ e. omega (arith, r.above))

  -- The second called pair stands where its caller does, or where the first called pair ends: not left of it.
  pub right_second : (C D p : ℕ) (t : Result) → c < p → p ≤ length s → EndsWithin p (length s) t → Right (second C D p t)
  right_second C D p (success q) l m e = record { above = omega (arith, e.0); inside = e.1 }
  right_second C D p failure l m e = record { above = l; inside = m }

  right_called : (x y : Pair) → Right x → Calls (gts rule s) x y → Right y
  unfolding gts
  right_called (A at p) y r (to_first q e) =
      let k = kind_calls (act rule s (A at p)) q in
      subst Right (sym (e ∙ first_is rule s A p k.3)) (record { above = r.above; inside = r.inside })
  right_called (A at p) y r (to_second {a = t} {k = i} {h = h} q f e) =
      let k = kind_calls (act rule s (A at p)) q in
      let b = subst (λ (z : Pair). Derives rule s z t i h) (first_is rule s A p k.3) (from_done rule s f) in
      subst Right (sym (e ∙ second_is rule s A p k.3 t)) (right_second k.1 k.2 p t r.above r.inside (derives_ends rule s r.inside b))

  -- Success, failure, missing and loop.
  pub right_has : (x : Pair) (o : Outcome) → Right x → Has rule s x o → Has rule s' x o
  right_has = has_same rule s s' Right right_act right_called

  -- Their reach too.
  right_examines : {x : Pair} {r : Result} {m : ℕ} → Right x → Examines rule s x r m → Examines rule s' x r m
  right_examines i (leaf {x} e) = leaf (right_act x i ∙ e)
  right_examines i (node {A} {B} {C} {D} {p} {m} {n} {r} {t} e h j) =
      let f = examines_derives rule s h in
      let b : Right (B at p) = record { above = i.above; inside = i.inside } in
      let k = right_second C D p t i.above i.inside (derives_ends rule s {x = B at p} {k = f.0} {h = f.1} i.inside f.2) in
      node (right_act (A at p) i ∙ e) (right_examines b h) (right_examines k j)

  pub right_reaches : (x : Pair) (o : Outcome) (m : ℕ) → Right x → Reaches rule s x o m → Reaches rule s' x o m
  right_reaches x (result r) m i h = right_examines i h
  right_reaches x (stopped w) m i h = h
  right_reaches x loop m i h = h

  -- "success and failure cells .. with reach at most c stay also": a derivation that looked at bytes before c only is one of the corrected entry.
  pub examined_before : {x : Pair} {r : Result} {m : ℕ} → m ≤ c → Examines rule s x r m → Examines rule s' x r m
  examined_before l = examines_same rule s s' (λ p k. (d.same p (λ e. omega arith), ap (ltb p) d.size))
