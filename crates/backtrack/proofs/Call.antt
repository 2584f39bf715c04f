-- Demand 2 for the machine's call, of any result that meets its promise on a question that is not refused. Assumes nothing.
use mathlib.Core.List.{List, Memᴰ}
use mathlib.Core.Logic.{◌↔◌, ◌⊎◌, inl, inr}
use mathlib.Core.Path.{◌≡◌, refl, ap, ◌∙◌, subst}
use Prim.Native.Nat.{ℕ, ◌*◌, ◌-◌, ◌/◌, ◌≤◌}
use native.Mathlib.Nat.{suc-ne-zero}
use native.Mathlib.Omega.{arith}
use lib.ListN.{length}
use Rattle.std.specs.Prelude.{Result as Answer}
use Rattle.grammar.specs.Refusal.{accepted}
use Rattle.grammar.specs.Sheet.{Grammar}
use Rattle.grammar.specs.Printing.{text}
use Rattle.grammar.specs.declared.refusal.Refusal.{Refusal}
use Rattle.schema.specs.Cases.{Case, cases, first_pair}
use Rattle.schema.specs.Derivation.{Pair, Result, Derives, Stop, Stops, Loops, Outcome, result, stopped, Has}
use Rattle.schema.specs.Handed.{asked, handed, question_of}
use Rattle.schema.specs.Machine.{says, spent, no_frame, Ran, ran, machine}
use Rattle.rules.proofs.Admitted.{question_accepted}
use Rattle.schema.proofs.Cases.{cases_hold}
use Rattle.schema.proofs.Laws.{has_one}
use Rattle.backtrack.specs.Run.{told, Comes, Runs}
use Rattle.backtrack.specs.declared.Ending.{Ending}
use Rattle.backtrack.proofs.Answered.{Answered, answered, out_of_moves, out_of_frames, machine_answers}
use Rattle.backtrack.proofs.Named.{named, on_loop}
use Rattle.backtrack.proofs.Stopped.{stop_named}

-- The ending names the outcome, after any number of moves.
abbrev pub Names : Answer Ending Refusal → Outcome → Type 0
Names r o = (moves : ℕ) × (told r ≡ accepted (ran (says o) moves))

module _ (sheet input : List ℕ) (x : Pair) (frames frames' : List ℕ) (budget : ℕ) (r : Answer Ending Refusal) (runs : Runs sheet input x frames frames' budget r)
    (g : Grammar) (e : handed sheet (asked input x) ≡ accepted g) where
  -- The call says what the machine comes to.
  pub call_says : told r ≡ accepted (machine g.rule input x budget (length frames / 3))
  call_says = (subst (λ o. Comes o input x frames frames' budget r) e runs).answer

  module _ {t : Result} {k h : ℕ} (d : Derives g.rule input x t k h) where
    -- What the call says of a pair that has a result: the result after 2k - 1 moves; or, lent less than that or than h frames, spent with all of the
    -- budget's moves, or no frame.
    pub call_answers : (a : Ran) × (told r ≡ accepted a) × Answered t k h budget (length frames / 3) a
    call_answers =
        (machine g.rule input x budget (length frames / 3), call_says, (machine_answers g.rule input d budget (length frames / 3)).1)

    -- A result comes after exactly 2k - 1 moves.
    pub call_moves : (moves : ℕ) → told r ≡ accepted (ran (says (result t)) moves) → moves ≡ 2 * k - 1
    call_moves moves q = let c = call_answers in go c.0 c.1 c.2
      where
        go : (a : Ran) → told r ≡ accepted a → Answered t k h budget (length frames / 3) a → moves ≡ 2 * k - 1
        go a f (answered enough fits) = cc
        go a f (out_of_moves less) = absurd (suc-ne-zero 0 (cc))
        go a f (out_of_frames less) = absurd (suc-ne-zero 0 (cc))

    -- "exactly when it is lent at least 2k - 1 moves and as many frames as the derivation is high": k is at least 1.
    pub call_exactly : (1 ≤ k) × (Names r (result t) ↔ ((2 * k - 1 ≤ budget) × (h ≤ length frames / 3)))
    call_exactly = let c = call_answers in ((machine_answers g.rule input d budget (length frames / 3)).0, go c.0 c.1 c.2)
      where
        go : (a : Ran) → told r ≡ accepted a → Answered t k h budget (length frames / 3) a
            → Names r (result t) ↔ ((2 * k - 1 ≤ budget) × (h ≤ length frames / 3))
        go a f (answered enough fits) = ((λ n. (enough, fits)), (λ n. (2 * k - 1, f)))
        go a f (out_of_moves less) = ((λ n. let q = n.1 in absurd (suc-ne-zero 0 (cc))), (λ n. absurd (omega arith)))
        go a f (out_of_frames less) = ((λ n. let q = n.1 in absurd (suc-ne-zero 0 (cc))), (λ n. absurd (omega arith)))

  -- Whatever outcome the call names, the pair has it.
  pub call_derived : (o : Outcome) → Names r o → Has g.rule input x o
  call_derived o n = let q = n.1 in let s = call_says in named g.rule input x budget (length frames / 3) n.0 o (cc)

  -- On a loop it says spent or no frame.
  pub call_on_loop : Loops g.rule input x → (moves : ℕ) × ((told r ≡ accepted (ran spent moves)) ⊎ (told r ≡ accepted (ran no_frame moves)))
  call_on_loop l = let n = on_loop g.rule input x budget (length frames / 3) l in (n.0, go n.0 n.1)
    where
      go : (moves : ℕ)
          → (machine g.rule input x budget (length frames / 3) ≡ ran spent moves) ⊎ (machine g.rule input x budget (length frames / 3) ≡ ran no_frame moves)
          → (told r ≡ accepted (ran spent moves)) ⊎ (told r ≡ accepted (ran no_frame moves))
      go moves (inl q) = inl (call_says ∙ ap (λ a. accepted a) q)
      go moves (inr q) = inr (call_says ∙ ap (λ a. accepted a) q)

  -- The outcome that it names is the pair's outcome.
  pub call_agrees : (o q : Outcome) → Names r o → Has g.rule input x q → o ≡ q
  call_agrees o q n h = has_one g.rule input x o q (call_derived o n) h

-- Every missing rule is named, lent enough moves and frames.
pub call_stops : (sheet input : List ℕ) (x : Pair) (g : Grammar) → handed sheet (asked input x) ≡ accepted g → {w : Stop} → Stops g.rule input w x
    → (moves : ℕ) × (room : ℕ) × ((frames frames' : List ℕ) (budget : ℕ) (r : Answer Ending Refusal) → Runs sheet input x frames frames' budget r
    → moves ≤ budget → room ≤ length frames / 3 → told r ≡ accepted (ran (says (stopped w)) moves))
call_stops sheet input x g e {w} t =
    let n = stop_named g.rule input t in (
      n.0,
      n.1,
      λ frames frames' budget r runs m k.
          call_says sheet input x frames frames' budget r runs g e ∙ ap (λ (a : Ran). accepted a) (n.2 budget (length frames / 3) m k),
    )

-- On each of the marked cases, lent its budget and its room, the call says what the case gives.
pub cases_run : (c : Case) → Memᴰ c cases → (frames frames' : List ℕ) (r : Answer Ending Refusal) → length frames / 3 ≡ c.room
    → Runs (text c.lines) c.input first_pair frames frames' c.budget r → told r ≡ accepted c.run
cases_run c m frames frames' r e runs =
    let holds = cases_hold c m in
    let g = holds.grammar in
    call_says (text c.lines) c.input first_pair frames frames' c.budget r runs g
    (question_accepted (text c.lines) (question_of c.input first_pair 2048 1024) g 1 0 holds.reads refl)
    ∙ ap (λ n. accepted (machine g.rule c.input first_pair c.budget n)) e
    ∙ ap (λ a. accepted a) holds.runs
