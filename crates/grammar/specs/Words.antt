-- How the code holds the rules: a number of four bytes for each variable. Assumes nothing.
use Rattle.std.specs.Prelude.{Bool, true, false, cond, List, [], ◌∷◌, ℕ, zero, suc, ◌+◌, ◌-◌, ◌*◌, ◌/◌, ◌%◌, eqb, get_or}
use Rattle.grammar.specs.Rule.{Rule, absent, always, never, byte, class, call}
use Rattle.grammar.specs.declared.rule.Rule.{Rule as Held}
use Rattle.grammar.specs.declared.rule.Rule.TheVariants.{Absent, Always, Never, Byte, Class, Call}

-- The number of four bytes, the highest first.
abbrev pub four_bytes : ℕ → ℕ → ℕ → ℕ → ℕ
four_bytes a b c d = 16777216 * a + 65536 * b + 256 * c + d

-- The word of a rule: its kind and 1, or 0 for no rule; then its operands, the variables less 1.
abbrev pub word : Rule → ℕ
word absent = four_bytes 0 0 0 0
word always = four_bytes 1 0 0 0
word never = four_bytes 2 0 0 0
word (byte b) = four_bytes 3 b 0 0
word (class c) = four_bytes 4 c 0 0
word (call B C D) = four_bytes 5 (B - 1) (C - 1) (D - 1)

-- The words of variables A, A + 1, .., k of them.
unfoldable pub words_from : ℕ → ℕ → (ℕ → Rule) → List ℕ
words_from zero A rule = []
words_from (suc k) A rule = word (rule A) ∷ words_from k (suc A) rule

-- The words of variables 1 to 256.
abbrev pub words : (ℕ → Rule) → List ℕ
words rule = words_from 256 1 rule

-- The rule of a word.
unfoldable pub rule_for : ℕ → Rule
rule_for w =
    let kind = w / 16777216 in
    cond (eqb kind 1) always
    (cond (eqb kind 2) never
    (cond (eqb kind 3) (byte (w / 65536 % 256))
    (cond (eqb kind 4) (class (w / 65536 % 256))
    (cond (eqb kind 5) (call (w / 65536 % 256 + 1) (w / 256 % 256 + 1) (w % 256 + 1))
    absent))))

-- The rule of variable A in a list of words.
abbrev pub rule_in : List ℕ → ℕ → Rule
rule_in ws zero = absent
rule_in ws (suc i) = rule_for (get_or ws i 0)

-- What each case of the code's rule says.
abbrev pub rule_held : Held → Rule
rule_held Absent = absent
rule_held Always = always
rule_held Never = never
rule_held (Byte b) = byte b
rule_held (Class c) = class c
rule_held (Call B C D) = call B C D

-- What a word's last two bytes say of a rule of kind 4: the variable called second after a success, or after a failure. Any word has these bytes.
abbrev pub second_for : Bool → ℕ → ℕ
second_for true w = w / 256 % 256 + 1
second_for false w = w % 256 + 1

-- The same of the word of variable A in a list of words.
abbrev pub second_in : List ℕ → ℕ → Bool → ℕ
second_in ws A flag = second_for flag (get_or ws (A - 1) 0)

-- What a word's second byte says of a rule of kind 4: the variable called first.
abbrev pub first_in : List ℕ → ℕ → ℕ
first_in ws A = get_or ws (A - 1) 0 / 65536 % 256 + 1
