-- An outcome that the machine names has a derivation. Assumes nothing.
use mathlib.Core.List.{List, [], ◌∷◌}
use mathlib.Core.Logic.{◌⊎◌, inl, inr}
use mathlib.Core.Path.{◌≡◌, refl}
use Prim.Native.Nat.{ℕ, zero, suc, ◌+◌, ◌<◌, ◌≤◌}
use native.Mathlib.Nat.{suc-ne-zero}
use native.Mathlib.Omega.{arith}
use lib.ListN.{length}
use Rattle.grammar.specs.Rule.{Rule}
use Rattle.schema.specs.Derivation.{Pair, ◌at◌, Result, Stop, Act, gives, stops, calls, act, second, Derives, leaf, node, Stops, here, in_first, in_second, Loops, Outcome, stopped, Has}
use Rattle.schema.specs.Machine.{stage1, stage2, Frame, frame, step, says, spent, no_frame, Ran, ran, run, machine}
use Rattle.backtrack.proofs.Part.{Part, goes, short, narrow}
use Rattle.backtrack.proofs.Steps.{asked, machine_run, machine_none, first_asked, second_asked}
use Rattle.backtrack.proofs.Derived.{takes}
use Rattle.backtrack.proofs.Unrolled.{run_outcome}
use Rattle.backtrack.proofs.Answered.{only_result}

-- Why a run that asks the pair x comes to what it comes to: x has a result, or x stops, or the budget or the room ended it.
data Reason (rule : ℕ → Rule) (input : List ℕ) (x : Pair) : Ran → Type 0 where
  derived : {r : Result} {k h : ℕ} {a : Ran} → Derives rule input x r k h → Reason rule input x a
  stuck : {w : Stop} {moves : ℕ} → Stops rule input w x → Reason rule input x (ran (says (stopped w)) moves)
  used : {moves : ℕ} → Reason rule input x (ran spent moves)
  full : {moves : ℕ} → Reason rule input x (ran no_frame moves)

module _ (rule : ℕ → Rule) (input : List ℕ) where
  through : {x : Pair} {l c room n m : ℕ} {a : Ran} {on : ℕ → ℕ → Ran} → Part l c room n m a on
      → ((left : ℕ) → l ≡ c + left → n ≤ room → Reason rule input x (on left (m + c))) → Reason rule input x a
  through (goes left e fits same) why = rw same (why left e fits)
  through (short less same) why = rw same used
  through (narrow less moves same) why = rw same full

  from_second : {A B C D p k h : ℕ} {t : Result} {a : Ran} → act rule input (A at p) ≡ calls B C D → Derives rule input (B at p) t k h
      → Reason rule input (second C D p t) a → Reason rule input (A at p) a
  from_second e d (derived d₂) = derived (node e d d₂)
  from_second e d (stuck w) = stuck (in_second e d w)
  from_second e d used = used
  from_second e d full = full

  -- The stop that a rule gives is said at once.
  pub run_stop : (l room m : ℕ) (stack : List Frame) (x : Pair) (w : Stop) → act rule input x ≡ stops w
      → run rule input l room (asked x m stack) ≡ ran (says (stopped w)) m
  unfolding step
  run_stop l room m stack (A at p) w e = run_outcome rule input l room (asked (A at p) m stack) (stopped w) (rw e)

  abbrev Below : ℕ → Type 0
  Below n =
      (l room m : ℕ) (stack : List Frame) (x : Pair) → l < n → length stack < room
      → Reason rule input x (run rule input l room (asked x m stack))

  after_first : (n l room m : ℕ) (stack : List Frame) (A B C D p : ℕ) → Below n → l < n → act rule input (A at p) ≡ calls B C D
      → suc (length stack) < room → (a : Ran) → a ≡ run rule input l room (asked (B at p) m (frame A p stage1 ∷ stack)) → Reason rule input (B at p) a
      → Reason rule input (A at p) a
  after_first n l room m stack A B C D p below small e fits a same (derived {r = t} d) =
      rw same
      (through (takes rule input d l room m (frame A p stage1 ∷ stack) fits) λ l₂ e₂ k₂.
      through (second_asked rule input l₂ room _ stack A p t e)
      λ l₃ e₃ k₃. from_second e d (below l₃ room _ (frame A p stage2 ∷ stack) (second C D p t) (omega arith) k₃))
  after_first n l room m stack A B C D p below small e fits a same (stuck w) = stuck (in_first e w)
  after_first n l room m stack A B C D p below small e fits a same used = used
  after_first n l room m stack A B C D p below small e fits a same full = full

  by_act : (n l room m : ℕ) (stack : List Frame) (A p : ℕ) → Below n → l ≤ n → length stack < room → (b : Act) → act rule input (A at p) ≡ b
      → Reason rule input (A at p) (run rule input l room (asked (A at p) m stack))
  by_act n l room m stack A p below small fits (gives r) e = derived (leaf e)
  by_act n l room m stack A p below small fits (stops w) e = rw (run_stop l room m stack (A at p) w e) (stuck (here e))
  by_act n l room m stack A p below small fits (calls B C D) e =
      through (first_asked rule input l room m stack A p e)
      λ l₁ e₁ k₁.
      after_first n l₁ room (m + 1) stack A B C D p below (omega arith) e k₁ _ refl
      (below l₁ room (m + 1) (frame A p stage1 ∷ stack) (B at p) (omega arith) k₁)

  below : (n : ℕ) → Below n
  below zero l room m stack x small fits = absurd (omega arith)
  below (suc n) l room m stack (A at p) small fits = by_act n l room m stack A p (below n) (omega arith) fits (act rule input (A at p)) refl

  reason : (x : Pair) (budget room : ℕ) → Reason rule input x (machine rule input x budget room)
  reason x budget zero = rw (machine_none rule input x budget) full
  reason x budget (suc n) = rw (machine_run rule input x budget (suc n) (omega arith)) (below (suc budget) budget (suc n) 0 [] x (omega arith) (omega arith))

  -- Whatever outcome the machine names, the pair has it.
  pub named : (x : Pair) (budget room moves : ℕ) (o : Outcome) → machine rule input x budget room ≡ ran (says o) moves → Has rule input x o
  named x budget room moves o e = go (machine rule input x budget room) e (reason x budget room)
    where
      go : (a : Ran) → a ≡ ran (says o) moves → Reason rule input x a → Has rule input x o
      go a same (derived {r = r} {k = k} {h = h} d) = rw (only_result rule input d budget room moves o e) (k, h, d)
      go a same (stuck {w = w} t) = let q : o ≡ stopped w = cc in rw q t
      go a same used = absurd (suc-ne-zero 0 (cc))
      go a same full = absurd (suc-ne-zero 0 (cc))

  -- On a loop the machine says spent or no frame.
  pub on_loop : (x : Pair) (budget room : ℕ) → Loops rule input x
      → (moves : ℕ) × ((machine rule input x budget room ≡ ran spent moves) ⊎ (machine rule input x budget room ≡ ran no_frame moves))
  on_loop x budget room none = go (machine rule input x budget room) (reason x budget room)
    where
      go : (a : Ran) → Reason rule input x a → (moves : ℕ) × ((a ≡ ran spent moves) ⊎ (a ≡ ran no_frame moves))
      go a (derived {r} {k} {h} d) = absurd (none.no_result r k h d)
      go a (stuck {w = w} t) = absurd (none.no_stop w t)
      go a (used {moves}) = (moves, inl refl)
      go a (full {moves}) = (moves, inr refl)
