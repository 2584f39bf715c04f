-- What the last step of a question does: it closes what the walk left open, and answers. Assumes nothing.
use Rattle.std.specs.Prelude.{List, ◌≢◌, ◌≡◌, ℕ, ◌*◌, ◌≤◌, ◌<◌, length}
use Rattle.schema.specs.Cells.{held_at}
use Rattle.schema.specs.Table.{cells, code}
use Rattle.step.specs.Codes.{Code, open_mark}
use Rattle.finish.specs.Reply.{reply, reply_of}
use Rattle.finish.specs.Closing.{outcome_of, named_of, CloseReady, Closes}
use Rattle.finish.specs.declared.Answer.{Answer}
use Rattle.step.specs.declared.Walk.{Walk}
use Rattle.step.specs.declared.Walk.TheVariants as walk

-- After a result no cell is open.
pub record NothingOpen (n v c : ℕ) (T : List ℕ) : Type 0 where
  pub few : v ≤ 256
  pub short : n ≤ 4096
  pub room : 2 * cells v n ≤ length T
  pub code_is : Code c
  pub no_open : (i : ℕ) → i < cells v n → held_at T i ≢ open_mark

-- What the last step asks, by how the walk ended: an open cell is closed with the outcome's code.
abbrev pub FinishReady : ℕ → ℕ → List ℕ → List ℕ → Walk → Type 0
FinishReady n v T W (walk.Settled c) = NothingOpen n v c T
FinishReady n v T W (walk.Loop a e B q d) = CloseReady n v B q d (code (outcome_of (walk.Loop a e B q d))) 0 T W
FinishReady n v T W (walk.Missing B q d) = CloseReady n v B q d (code (outcome_of (walk.Missing B q d))) 0 T W

-- The open cells hold the outcome, and the answer has the count.
pub record Finishes (n v : ℕ) (end : Walk) (count : ℕ) (T T' : List ℕ) (r : Answer) : Type 0 where
  pub closes : Closes (cells v n) (code (outcome_of end)) T T'
  pub says : reply_of r ≡ reply (outcome_of end) (named_of end) count
