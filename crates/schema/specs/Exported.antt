-- What calls for programs in other languages hand over. Assumes nothing.
use Rattle.std.specs.Prelude.{List, ℕ, ◌+◌, ◌≤◌}
use Rattle.grammar.specs.Refusal.{Checked, refused, accepted}

-- "or 100 plus the refusal number"
abbrev pub exported : {A : Type 0} → (A → ℕ) → Checked A → ℕ
exported number_of_lem (refused number line) = 100 + number
exported number_of_lem (accepted a) = number_of_lem a

-- What a call with numbers for an answer returns: 0, or 100 plus the refusal's number.
abbrev pub returned : {A : Type 0} → Checked A → ℕ
returned r = exported (λ a. 0) r

-- What stands in the answer afterwards: the numbers of what is accepted. A refusal leaves what stood there.
abbrev pub reported : {A : Type 0} → (A → List ℕ) → List ℕ → Checked A → List ℕ
reported numbers before (refused number line) = before
reported numbers before (accepted a) = numbers a

-- The numbers fit 32 bits: for a refusal at most 26 is enough, for codes and lengths at most 10,001.
abbrev pub Fits : {A : Type 0} → (A → ℕ) → Checked A → Type 0
Fits code_of_lem (refused number line) = number ≤ 26
Fits code_of_lem (accepted a) = code_of_lem a ≤ 10001
