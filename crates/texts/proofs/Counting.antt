-- Laws of lines and columns: at a text's start, behind a byte, along a line, past the text's end; and that they are no more than the bytes.
use Prim.Native.Nat.{ℕ, zero, suc, ◌+◌, ◌-◌, ◌≤◌, ◌<◌}
use native.Mathlib.Nat.{add-zero}
use native.Mathlib.Numerals.{add-one}
use native.Mathlib.Omega.{arith}
use mathlib.Core.Path.{◌≡◌, refl, sym, ap, ◌∙◌}
use mathlib.Core.Bool.{Bool, true, false, cond}
use mathlib.Core.List.{List, [], ◌∷◌, ◌++◌}
use lib.Dec.{eqb, ltb}
use lib.ListN.{length, get_or, take, drop, drop_of_length-le, length-take, length-drop}
use lib.Seq.{take_all, take-length, take-suc}
use borrow.Author.Tests.{ltb-true, ltb-false}
use Rattle.texts.specs.declared.place.Place.{Place}
use Rattle.texts.specs.Prefix.{in_line, prefix_len}
use Rattle.texts.specs.Place.{newlines, since, line_of, column_of, place_from, text_start, Stands, with_len, along, behind, countless, Countable}
use Rattle.texts.proofs.Prefix.{drop_at, prefix_more, prefix_none}
use Rattle.texts.proofs.Every.{prefix_inside}

-- ---- bytes one behind the other

newlines_behind : (bs : List ℕ) (b : ℕ) → newlines (bs ++ (b ∷ [])) ≡ cond (eqb b 10) (suc (newlines bs)) (newlines bs)
unfolding newlines
newlines_behind [] b = refl
newlines_behind (a ∷ bs) b = go (eqb a 10) (eqb b 10) (newlines_behind bs b)
  where
    go : (s t : Bool) → newlines (bs ++ (b ∷ [])) ≡ cond t (suc (newlines bs)) (newlines bs) → cond s (suc (newlines (bs ++ (b ∷ [])))) (newlines (bs ++ (b ∷ []))) ≡ cond t (suc (cond s (suc (newlines bs)) (newlines bs))) (cond s (suc (newlines bs)) (newlines bs))
    go true true ih = ap suc ih
    go true false ih = ap suc ih
    go false true ih = ih
    go false false ih = ih

since_behind : (bs : List ℕ) (n b : ℕ) → since n (bs ++ (b ∷ [])) ≡ cond (eqb b 10) 0 (suc (since n bs))
unfolding since
since_behind [] n b = refl
since_behind (a ∷ bs) n b = since_behind bs (cond (eqb a 10) 0 (suc n)) b

few_newlines : (bs : List ℕ) → newlines bs ≤ length bs
unfolding newlines
few_newlines [] = omega arith
few_newlines (b ∷ bs) = go (eqb b 10) (few_newlines bs)
  where
    go : (t : Bool) → newlines bs ≤ length bs → cond t (suc (newlines bs)) (newlines bs) ≤ suc (length bs)
    go true ih = omega arith
    go false ih = omega arith

few_since : (bs : List ℕ) (n : ℕ) → since n bs ≤ n + length bs
unfolding since
few_since [] n = omega arith
few_since (b ∷ bs) n = go (eqb b 10) (few_since bs)
  where
    go : (t : Bool) → ((m : ℕ) → since m bs ≤ m + length bs) → since (cond t 0 (suc n)) bs ≤ n + suc (length bs)
    go true ih = omega (arith, ih 0)
    go false ih = omega (arith, ih (suc n))

-- ---- of a text

module _ (text : List ℕ) where
  pub first_line : line_of text 0 ≡ 1
  unfolding line_of newlines
  first_line = refl

  pub first_column : column_of text 0 ≡ 1
  unfolding column_of since
  first_column = refl

  pub few_lines : (byte : ℕ) → line_of text byte ≤ byte + 1
  unfolding line_of
  few_lines byte = omega (arith, few_newlines (take byte text), length-take byte text)

  pub few_columns : (byte : ℕ) → column_of text byte ≤ byte + 1
  unfolding column_of
  few_columns byte = omega (arith, few_since (take byte text) 0, length-take byte text)

  -- past the end stands what stands at the end
  pub line_past : (byte : ℕ) → length text ≤ byte → line_of text byte ≡ line_of text (length text)
  unfolding line_of
  line_past byte h = rw (take_all byte text h, take-length text)

  pub column_past : (byte : ℕ) → length text ≤ byte → column_of text byte ≡ column_of text (length text)
  unfolding column_of
  column_past byte h = rw (take_all byte text h, take-length text)

  -- behind a byte
  module _ (byte : ℕ) (h : byte < length text) where
    one_more : take (byte + 1) text ≡ take byte text ++ (get_or text byte 0 ∷ [])
    one_more = rw (add-one byte) (take-suc text byte 0 h)

    line_behind : line_of text (byte + 1) ≡ cond (eqb (get_or text byte 0) 10) (line_of text byte + 1) (line_of text byte)
    unfolding line_of
    line_behind = rw (one_more, newlines_behind (take byte text) (get_or text byte 0)) (go (eqb (get_or text byte 0) 10))
      where
        go : (t : Bool) → suc (cond t (suc (newlines (take byte text))) (newlines (take byte text))) ≡ cond t (suc (newlines (take byte text)) + 1) (suc (newlines (take byte text)))
        go true = sym (add-one _)
        go false = refl

    column_behind : column_of text (byte + 1) ≡ cond (eqb (get_or text byte 0) 10) 1 (column_of text byte + 1)
    unfolding column_of
    column_behind = rw (one_more, since_behind (take byte text) 0 (get_or text byte 0)) (go (eqb (get_or text byte 0) 10))
      where
        go : (t : Bool) → suc (cond t 0 (suc (since 0 (take byte text)))) ≡ cond t 1 (suc (since 0 (take byte text)) + 1)
        go true = refl
        go false = sym (add-one _)

  -- along a line, which has no newline: from its start, n bytes further
  along_line : (n byte : ℕ) → n ≤ prefix_len in_line (drop byte text) → (line_of text (byte + n) ≡ line_of text byte) × (column_of text (byte + n) ≡ column_of text byte + n)
  unfolding in_line prefix_len
  along_line zero byte h = rw (add-zero byte, add-zero (column_of text byte)) (refl, refl)
  along_line (suc n) byte h = go (along_line n (byte + 1)) (ltb byte (length text)) refl
    where
      on : (n ≤ prefix_len in_line (drop (byte + 1) text) → (line_of text (byte + 1 + n) ≡ line_of text (byte + 1)) × (column_of text (byte + 1 + n) ≡ column_of text (byte + 1) + n)) → byte < length text → (t : Bool) → eqb (get_or text byte 0) 10 ≡ t → (line_of text (byte + suc n) ≡ line_of text byte) × (column_of text (byte + suc n) ≡ column_of text byte + suc n)
      on ih l true e = absurd (let z : prefix_len in_line (get_or text byte 0 ∷ drop (byte + 1) text) ≡ 0 = prefix_none in_line (get_or text byte 0) (drop (byte + 1) text) (rw e) in let k : suc n ≤ 0 = rw (drop_at text byte l, z) at h in omega arith)
      on ih l false e =
          let p : prefix_len in_line (get_or text byte 0 ∷ drop (byte + 1) text) ≡ suc (prefix_len in_line (drop (byte + 1) text)) = prefix_more in_line (get_or text byte 0) (drop (byte + 1) text) (rw e) in
          let k : suc n ≤ suc (prefix_len in_line (drop (byte + 1) text)) = rw (drop_at text byte l, p) at h in
          let r = ih (omega arith) in
          let s : byte + suc n ≡ (byte + 1) + n = omega arith in
          let a : line_of text (byte + 1) ≡ line_of text byte = rw e at (line_behind byte l) in
          let c : column_of text (byte + 1) ≡ column_of text byte + 1 = rw e at (column_behind byte l) in
          (rw s (r.0 ∙ a), rw s (r.1 ∙ rw c (omega arith)))

      go : (n ≤ prefix_len in_line (drop (byte + 1) text) → (line_of text (byte + 1 + n) ≡ line_of text (byte + 1)) × (column_of text (byte + 1 + n) ≡ column_of text (byte + 1) + n)) → (t : Bool) → ltb byte (length text) ≡ t → (line_of text (byte + suc n) ≡ line_of text byte) × (column_of text (byte + suc n) ≡ column_of text byte + suc n)
      go ih true e = on ih (ltb-true byte (length text) e) (eqb (get_or text byte 0) 10) refl
      go ih false e = absurd (let k : suc n ≤ 0 = rw (drop_of_length-le text (ltb-false byte (length text) e)) at h in omega arith)

-- ---- of places

-- reading begins at a text's start
pub start_stands : (text : List ℕ) → Stands text text_start
start_stands text = record { inside = omega arith; line = sym (first_line text); column = sym (first_column text) }

pub from_stands : (text : List ℕ) (start len : ℕ) → start ≤ length text → Stands text (place_from text start len)
from_stands text start len h = record { inside = h; line = refl; column = refl }

module _ (text : List ℕ) (p : Place) (s : Stands text p) where
  -- it is the place of its start
  pub as_from : (len : ℕ) → with_len p len ≡ place_from text p.start len
  as_from len = rw (s.line, s.column)

  -- what counting on asks for
  pub countable : (byte : ℕ) → p.start ≤ byte → byte ≤ length text → length text < countless → Countable p byte
  countable byte h i f = record { further = h; few_lines = rw s.line (omega (arith, few_lines text p.start)); few_columns = rw s.column (omega (arith, few_columns text p.start)); fits = omega arith }

  -- a byte further on the same line
  pub along_stands : (byte : ℕ) → p.start ≤ byte → byte - p.start ≤ prefix_len in_line (drop p.start text) → Stands text (along p byte)
  along_stands byte h k =
      let e : p.start + (byte - p.start) ≡ byte = omega arith in
      let a = along_line text (byte - p.start) p.start k in
      let i = length-drop p.start text in
      record { inside = omega (arith, prefix_inside in_line (drop p.start text), s.inside); line = s.line ∙ sym (rw e at a.0); column = rw s.column (sym (rw e at a.1)) }

  -- a part that lies in the text
  pub past_countable : p.start + p.len ≤ length text → length text < countless → Countable p (p.start + p.len)
  past_countable h f = countable (p.start + p.len) (omega arith) h f

  -- behind a byte
  pub behind_stands : p.start < length text → Stands text (behind p (get_or text p.start 0))
  unfolding behind
  behind_stands h = go (eqb (get_or text p.start 0) 10) refl
    where
      one : p.start + 1 - p.start ≡ 1
      one = omega arith

      go : (t : Bool) → eqb (get_or text p.start 0) 10 ≡ t → Stands text (cond t (record { start = p.start + 1; len = 0; line = p.line + 1; column = 1 }) (along p (p.start + 1)))
      go true e = record { inside = omega arith; line = rw s.line (sym (rw e at (line_behind text p.start h))); column = sym (rw e at (column_behind text p.start h)) }
      go false e = record { inside = omega arith; line = rw s.line (sym (rw e at (line_behind text p.start h))); column = rw (one, s.column) (sym (rw e at (column_behind text p.start h))) }

pub behind_start : (p : Place) (b : ℕ) → (behind p b).start ≡ p.start + 1
unfolding behind
behind_start p b = go (eqb b 10)
  where
    go : (t : Bool) → (cond t (record { start = p.start + 1; len = 0; line = p.line + 1; column = 1 }) (along p (p.start + 1))).start ≡ p.start + 1
    go true = refl
    go false = refl
