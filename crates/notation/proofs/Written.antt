-- A text is refused with 15 or 16, or it is written of its lines, and they are of the form. Assumes nothing.
use mathlib.Core.Bool.{Bool, true, false, cond, true≢false}
use mathlib.Core.List.{List, [], ◌∷◌, ◌++◌, append_assoc, append-nil}
use mathlib.Core.Logic.{◌⊎◌, inl, inr}
use mathlib.Core.Option.{none, some}
use mathlib.Core.Path.{◌≡◌, refl, sym, ◌∙◌}
use Prim.Native.Nat.{ℕ, suc, ◌+◌, ◌≤◌}
use native.Mathlib.Omega.{arith}
use lib.Dec.{eqb}
use lib.ListN.{length}
use borrow.Author.Tests.{eqb-true, eqb-false}
use Rattle.grammar.specs.Refusal.{Checked, refused, accepted}
use Rattle.notation.specs.Text.{Bracket, round, square, opener, closer, Item, letter, quoted, fails, inside, empty, Line, line, item_text, row_text, choice_text, lines_text, item_depth, row_depth, choice_depth, capital}
use Rattle.notation.specs.Form.{Bytes, ItemForm, LinesForm}
use Rattle.notation.specs.Scan.{Part, part, with_item, whole, Open, opened, State, before, named, choosing, quoting, unquoting, Step, goes, faults, defined, opens, ends, chooses, step, finish, after, scan, lines_of}
use Rattle.notation.proofs.OneMore.{text_more, each_more, once_more}
use Rattle.notation.proofs.States.{with_text, with_form, with_depth, line_text, state_text, NamedForm, LineForm, StateForm}

-- ---- One byte.

-- The state y stands one byte, b, behind the state z.
record Behind (z : State) (b : ℕ) (y : State) : Type 0 where
  text : state_text y ≡ state_text z ++ b ∷ []
  form : StateForm y

-- What the byte b behind the state z brings on: the state behind it, or a fault.
data Brings (z : State) (b : ℕ) : Step → Type 0 where
  on : {y : State} → Behind z b y → Brings z b (goes y)
  fifteen : Brings z b (faults 15)
  sixteen : Brings z b (faults 16)

by_test : {z : State} {b : ℕ} {x y : Step} (t : Bool) → (t ≡ true → Brings z b x) → (t ≡ false → Brings z b y) → Brings z b (cond t x y)
by_test true f g = f refl
by_test false f g = g refl

-- The byte must be c.
by_byte : {z : State} {b : ℕ} {x y : Step} (c : ℕ) → (b ≡ c → Brings z b x) → Brings z b y → Brings z b (cond (eqb b c) x y)
by_byte {b = b} c f g = by_test (eqb b c) (λ t. f (eqb-true b c t)) (λ t. g)

module _ (ls : List Line) (A : ℕ) (os : List Open) (x : Part) (f : LineForm ls A os x) where
  low : length os ≤ 16
  low = let h = f.here.shallow in omega arith

  item_text_law : (i : Item) → line_text ls A os (with_item x i) ≡ line_text ls A os x ++ item_text i
  item_text_law i = rw (with_text x i) (simp append_assoc)

  item_form : (i : Item) → ItemForm i → item_depth i + length os ≤ 16 → LineForm ls A os (with_item x i)
  item_form i g d =
      let h = f.here in
      record { name = f.name; around = f.around; here = record { form = with_form x i h.form g; shallow = with_depth x i (length os) h.shallow d } }

  at_letter : (b : ℕ) → capital b ≡ true → Behind (choosing ls A os x) b (choosing ls A os (with_item x (letter b)))
  unfolding item_text item_depth
  at_letter b t = let l = low in record { text = item_text_law (letter b); form = item_form (letter b) t (omega arith) }

  at_fails : (b : ℕ) → b ≡ 37 → Behind (choosing ls A os x) b (choosing ls A os (with_item x fails))
  unfolding item_text item_depth
  at_fails b t = let l = low in record { text = rw t (item_text_law fails); form = item_form fails tt (omega arith) }

  at_quote : (b : ℕ) → b ≡ 39 → Behind (choosing ls A os x) b (quoting ls A os x)
  at_quote b t = record { text = rw t refl; form = f }

  at_quoted : (b : ℕ) → b ≤ 255 → Behind (quoting ls A os x) b (unquoting ls A os x b)
  at_quoted b u = record { text = sym (append_assoc (line_text ls A os x) (39 ∷ []) (b ∷ [])); form = (f, u) }

  at_unquote : (q b : ℕ) → q ≤ 255 → b ≡ 39 → Behind (unquoting ls A os x q) b (choosing ls A os (with_item x (quoted q)))
  unfolding item_text item_depth
  at_unquote q b u t =
      let l = low in
      record {
        text = rw t (item_text_law (quoted q) ∙ sym (append_assoc (line_text ls A os x) (39 ∷ q ∷ []) (39 ∷ [])));
        form = item_form (quoted q) u (omega arith);
      }

  at_slash : (b : ℕ) → b ≡ 47 → Behind (choosing ls A os x) b (choosing ls A os (part (some (whole x)) empty))
  unfolding choice_text row_text choice_depth row_depth
  at_slash b t =
      let h = f.here in
      let l = h.shallow in
      record {
        text = rw t (simp append_assoc);
        form = record { name = f.name; around = f.around; here = record { form = (h.form, tt); shallow = omega arith } };
      }

  at_opener : (k : Bracket) (b : ℕ) → b ≡ opener k → (length os ≡ 16 → ⊥) → Behind (choosing ls A os x) b (choosing ls A (opened k x ∷ os) (part none empty))
  unfolding choice_text row_text choice_depth row_depth
  at_opener k b t n =
      let l = low in
      record {
        text = rw t (simp (append_assoc, append-nil));
        form = record { name = f.name; around = (f.here, f.around); here = record { form = tt; shallow = omega arith } };
      }

  opens_brings : (k : Bracket) (b : ℕ) → b ≡ opener k → Brings (choosing ls A os x) b (opens ls A os x k)
  opens_brings k b t = by_test (eqb (length os) 16) (λ u. sixteen) (λ u. on (at_opener k b t (eqb-false (length os) 16 u)))

at_closer : (ls : List Line) (A : ℕ) (os : List Open) (x y : Part) (k : Bracket) (b : ℕ) → LineForm ls A (opened k y ∷ os) x → b ≡ closer k
    → Behind (choosing ls A (opened k y ∷ os) x) b (choosing ls A os (with_item y (inside k (whole x))))
unfolding item_text item_depth
at_closer ls A os x y k b f t =
    let h = f.here in
    let l = h.shallow in
    let outer : LineForm ls A os y = record { name = f.name; around = f.around.1; here = f.around.0 } in
    record {
      text = rw t (item_text_law ls A os y outer (inside k (whole x)) ∙ simp append_assoc);
      form = item_form ls A os y outer (inside k (whole x)) h.form (omega arith);
    }

at_end_law : (ls : List Line) (A : ℕ) (x : Part) (b : ℕ) → LineForm ls A [] x → b ≡ 10
    → Behind (choosing ls A [] x) b (before (ls ++ line A (whole x) ∷ []))
at_end_law ls A x b f t =
    let n = f.name in
    let h = f.here in
    let l = h.shallow in
    record {
      text = rw t (text_more ls A (whole x) ∙ simp append_assoc);
      form = (each_more ls A (whole x) n.0 n.2 h.form (omega arith), once_more ls A (whole x) n.1 n.3);
    }

at_name : (ls : List Line) (A b : ℕ) → NamedForm ls A → b ≡ 61 → Behind (named ls A) b (choosing ls A [] (part none empty))
unfolding choice_text row_text choice_depth row_depth
at_name ls A b f t = record { text = rw t (simp append_assoc); form = record { name = f; around = tt; here = record { form = tt; shallow = omega arith } } }

ends_brings : (ls : List Line) (A : ℕ) (os : List Open) (x : Part) (b : ℕ) → LineForm ls A os x → Brings (choosing ls A os x) b (ends ls A os x b)
ends_brings ls A [] x b f = by_byte 10 (λ t. on (at_end_law ls A x b f t)) fifteen
ends_brings ls A (opened k y ∷ os) x b f = by_byte (closer k) (λ t. on (at_closer ls A os x y k b f t)) fifteen

step_brings : (z : State) (b : ℕ) → b ≤ 255 → StateForm z → Brings z b (step z b)
unfolding step chooses
step_brings (before ls) b u f =
    by_test (capital b) (λ t. by_test (defined ls b) (λ w. fifteen) (λ w. on (record { text = refl; form = (f.0, f.1, t, w) }))) (λ t. fifteen)
step_brings (named ls A) b u f = by_byte 61 (λ t. on (at_name ls A b f t)) fifteen
step_brings (choosing ls A os x) b u f =
    by_test (capital b) (λ t. on (at_letter ls A os x f b t)) (λ n.
    by_byte 37 (λ t. on (at_fails ls A os x f b t))
    (by_byte 39 (λ t. on (at_quote ls A os x f b t))
    (by_byte 47 (λ t. on (at_slash ls A os x f b t))
    (by_byte 40 (opens_brings ls A os x f round b)
    (by_byte 91 (opens_brings ls A os x f square b) (ends_brings ls A os x b f))))))
step_brings (quoting ls A os x) b u f = on (at_quoted ls A os x f b u)
step_brings (unquoting ls A os x q) b u f = by_byte 39 (λ t. on (at_unquote ls A os x f.0 q b f.1 t)) fifteen

-- ---- The whole text.

-- What reading the text t gives: a refusal with 15 or 16, at line 0; or lines of the form of which t is written.
abbrev pub Told : List ℕ → Checked (List Line) → Type 0
Told t (refused x l) = ((x ≡ 15) ⊎ (x ≡ 16)) × (l ≡ 0)
Told t (accepted ls) = (t ≡ lines_text ls) × LinesForm ls

finish_told : (z : State) → StateForm z → Told (state_text z) (finish z)
finish_told (before []) f = (inl refl, refl)
finish_told (before (l ∷ ls)) f = (refl, record { some_line = λ e. true≢false (cc); each_line = f.0; once = f.1 })
finish_told (named ls A) f = (inl refl, refl)
finish_told (choosing ls A os x) f = (inl refl, refl)
finish_told (quoting ls A os x) f = (inl refl, refl)
finish_told (unquoting ls A os x q) f = (inl refl, refl)

scan_told : (s : List ℕ) (z : State) → Bytes s → StateForm z → Told (state_text z ++ s) (scan s z)
unfolding scan
scan_told [] z u f = rw append-nil (finish_told z f)
scan_told (b ∷ s) z u f = go (step_brings z b (u 0) f) (λ y. scan_told s y (λ i. u (suc i)))
  where
    go : {t : Step} → Brings z b t → ((y : State) → StateForm y → Told (state_text y ++ s) (scan s y)) → Told (state_text z ++ b ∷ s) (after t (λ y. scan s y))
    go (on {y = y} h) r =
        let e : state_text y ++ s ≡ state_text z ++ b ∷ s = rw h.text (append_assoc (state_text z) (b ∷ []) s) in
        rw e at (r y h.form)
    go fifteen r = (inl refl, refl)
    go sixteen r = (inr refl, refl)

pub lines_told : (s : List ℕ) → Bytes s → Told s (lines_of s)
unfolding lines_text
lines_told s u = scan_told s (before []) u (tt, tt)
